-- The accepted calls by the records so far: which of them wait, and what was granted to them.
use Rattle.std.specs.Prelude.{ℕ, ◌==◌, Bool, ◌&&◌, List, [], ◌∷◌, Option, None, Some, cond, filter, not}
use Rattle.std.specs.List.{find}
use Rattle.locus_ids.specs.declared.ids.EpochId.{EpochId}
use Rattle.locus_ids.specs.declared.ids.CallId.{CallId}
use Rattle.locus_ids.specs.declared.ids.FileId.{FileId}
use Rattle.locus_ids.specs.declared.ids.Serial.{Serial}
use Rattle.locus_ids.specs.declared.ids.Stamp.{Stamp}
use Rattle.dir_reconcile.specs.of_trace_book.Same.{same_epoch, same_call, same_serial}
use Rattle.dir_reconcile.specs.of_trace_book.declared.record.Record.{Record}
use Rattle.dir_reconcile.specs.of_trace_book.declared.record.Record.TheVariants.{Stopped, Accept, Grant, Answer}
use Rattle.dir_reconcile.specs.of_trace_book.declared.call.Call.{Call}
use Rattle.dir_reconcile.specs.of_trace_book.declared.descriptor.Descriptor.{Descriptor}
use Rattle.dir_reconcile.specs.of_trace_book.declared.descriptor.OneVersion.{OneVersion}
use Rattle.tree_model.specs.declared.accepted.Waiting.{Waiting}
use Rattle.tree_model.specs.Folds.{Trace, over}
use Rattle.tree_model.specs.Epochs.{epoch_of}

-- how an accepted call stands by the records before it
abbrev pub accepted_as : Trace → ℕ → ℕ → CallId → Call → Waiting
accepted_as before site process call words = record { site = site; process = process; call = call; words = words; epoch = epoch_of before site }

abbrev pub call_after : Record → Trace → CallId → Option Waiting → Option Waiting
call_after (Accept s process call words) before c old = cond (same_call call c) (Some (accepted_as before s process call words)) old
call_after _ before c old = old

-- an accepted call by its name
abbrev pub call_named : Trace → CallId → Option Waiting
call_named trace c = over None (λ r before old. call_after r.what before c old) trace

abbrev pub waiting_after : Record → Trace → List Waiting → List Waiting
waiting_after (Accept s process call words) before old = accepted_as before s process call words ∷ old
waiting_after (Answer s process call reply) before old = filter (λ (w : Waiting). not (same_call w.call call)) old
waiting_after (Stopped s cause) before old = filter (λ (w : Waiting). not (w.site == s)) old
waiting_after _ before old = old

-- the calls that wait: accepted, without a reply, at sites that haven't stopped since; the latest first
abbrev pub waiting : Trace → List Waiting
waiting trace = over [] (λ r before old. waiting_after r.what before old) trace

abbrev pub is_of : ℕ → ℕ → Waiting → Bool
is_of site process w = (w.site == site) && (w.process == process)

-- the call for which a process waits
abbrev pub waiting_of : ℕ → ℕ → List Waiting → Option Waiting
waiting_of site process ws = find (is_of site process) ws

abbrev pub granted_after : Record → EpochId → Serial → Option CallId → Option CallId
granted_after (Grant epoch call request inst mode file stamp ss) e i old = cond (same_epoch epoch e && same_serial inst i) (Some call) old
granted_after _ e i old = old

-- the call that the instance was granted to
abbrev pub granted_to : Trace → EpochId → Serial → Option CallId
granted_to trace e i = over None (λ r before old. granted_after r.what e i old) trace

abbrev pub opening_after : Record → CallId → Option Descriptor → Option Descriptor
opening_after (Grant epoch call request inst mode file stamp ss) c old = cond (same_call call c) (Some (record { mode = mode; epoch = epoch; inst = inst; steady = None })) old
opening_after _ c old = old

-- the last instance that was granted to the call, as a descriptor stands for it
abbrev pub opening_of : Trace → CallId → Option Descriptor
opening_of trace c = over None (λ r before old. opening_after r.what c old) trace

abbrev pub version_at : FileId → Option Stamp → Option OneVersion
version_at file None = None
version_at file (Some stamp) = Some (record { file = file; stamp = stamp })

abbrev pub version_after : Record → CallId → Option OneVersion → Option OneVersion
version_after (Grant epoch call request inst mode file stamp ss) c old = cond (same_call call c) (version_at file stamp) old
version_after _ c old = old

-- the version with which the last instance was granted to the call
abbrev pub version_of : Trace → CallId → Option OneVersion
version_of trace c = over None (λ r before old. version_after r.what c old) trace
