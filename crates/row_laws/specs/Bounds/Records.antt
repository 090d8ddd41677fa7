-- Each record that answers a request of a call answers one within the bound of its call.
use Rattle.std.specs.Prelude.{ℕ, ◌≡◌, ◌+◌, ◌≤◌, false, [], ◌∷◌, length, Some}
use Rattle.locus_ids.specs.declared.config.Config.{Config}
use Rattle.locus_ids.specs.declared.ids.CallId.{CallId}
use Rattle.trace_book.specs.declared.record.Record.{Record}
use Rattle.trace_book.specs.declared.record.Record.TheVariants.{Look, Grant, Refuse, Act, Release}
use Rattle.tree_model.specs.declared.accepted.Waiting.{Waiting}
use Rattle.tree_model.specs.Calls.{call_named}
use Rattle.tree_model.specs.Folds.{Trace}
use Rattle.lawful_trace.specs.Progress.{answers}
use Rattle.lawful_trace.specs.Tables.{call_of_act, call_of_release}
use Rattle.row_laws.specs.Bounds.Requests.{most_requests, is_mend}

-- the request has a number within the bound, if the call was accepted and isn't a mend
abbrev pub IsWithin : Trace → CallId → ℕ → Type 0
IsWithin before call n = (w : Waiting) → call_named before call ≡ Some w → is_mend w.words ≡ false → n ≤ most_requests w.words

-- an operation or a close is the next request after those that were answered
abbrev pub NextIsWithin : Config → Trace → CallId → Type 0
NextIsWithin c before call = IsWithin before call (length (answers c before call) + 1)

abbrev pub RecordIsWithin : Config → Trace → Record → Type 0
RecordIsWithin c before (Look e call request f w result) = IsWithin before call request
RecordIsWithin c before (Grant e call request i m f stamp ss) = IsWithin before call request
RecordIsWithin c before (Refuse e call request i m f why) = IsWithin before call request
RecordIsWithin c before (Act e i n o result) = (call : CallId) → call_of_act before e i n ≡ Some call → NextIsWithin c before call
RecordIsWithin c before (Release e i f stamp) = (call : CallId) → call_of_release before e i ≡ Some call → NextIsWithin c before call
RecordIsWithin c before _ = Unit {0}

abbrev pub EachIsWithin : Config → Trace → Type 0
EachIsWithin c [] = Unit {0}
EachIsWithin c (r ∷ before) = RecordIsWithin c before r.what × EachIsWithin c before
