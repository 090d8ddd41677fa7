-- The calls that wait, beside the table of all calls.
use Rattle.std.specs.Prelude.{ℕ, ◌+◌, ◌==◌, Bool, false, ◌&&◌, cond, nat_lt, List, [], ◌∷◌, Option, None, Some}
use Rattle.locus_ids.specs.declared.ids.EpochId.{EpochId}
use Rattle.trace_book.specs.declared.call.Call.{Call}
use Rattle.trace_book.specs.declared.call.Call.TheVariants as call
use Rattle.tree_model.specs.Epochs.{is_in}
use Rattle.lawful_trace.specs.CallRows.{is_mend_in}
use Rattle.promises.specs.Past.{CallSoFar}
use Rattle.audit_calls.specs.declared.waiting.WaitingRow.{WaitingRow}

-- the group of the directory that a call mends
abbrev pub group_mended : Call → Option ℕ
group_mended (call.Mend file) = Some file.group
group_mended _ = None

-- the call whose row stands at this place, as it waits
abbrev pub waiting_row : ℕ → CallSoFar → WaitingRow
waiting_row place k = record { place = place; site = k.id.site; process = k.process; epoch = k.epoch; mends = group_mended k.words }

-- the calls that wait, where the first of all stands at n
abbrev pub waiting_from : ℕ → List CallSoFar → List WaitingRow
waiting_from n [] = []
waiting_from n (k ∷ later) = cond k.waits (waiting_row n k ∷ waiting_from (n + 1) later) (waiting_from (n + 1) later)

-- Which of them.

abbrev pub is_at : ℕ → WaitingRow → Bool
is_at site w = w.site == site

abbrev pub is_of : ℕ → ℕ → WaitingRow → Bool
is_of site process w = (w.site == site) && (w.process == process)

abbrev pub is_group : ℕ → Option ℕ → Bool
is_group group None = false
is_group group (Some g) = g == group

abbrev pub mends_at : ℕ → ℕ → WaitingRow → Bool
mends_at site group w = is_of site 0 w && is_group group w.mends

-- one of the site and the epoch, of a lower process
abbrev pub is_below : ℕ → ℕ → EpochId → WaitingRow → Bool
is_below site process e w = (w.site == site) && (nat_lt w.process process && is_in w.epoch e)

-- Calls.

abbrev pub is_call_at : ℕ → CallSoFar → Bool
is_call_at site k = k.id.site == site

-- a mend of the group waits at the site
abbrev pub is_mend_at : ℕ → ℕ → CallSoFar → Bool
is_mend_at site group k = (k.waits && ((k.id.site == site) && (k.process == 0))) && is_mend_in group k.words

abbrev pub place_in : Option WaitingRow → Option ℕ
place_in None = None
place_in (Some w) = Some w.place

-- a call of a lower process that was accepted in the epoch waits at the site
abbrev pub waits_below : ℕ → ℕ → EpochId → CallSoFar → Bool
waits_below site process e k = k.waits && ((k.id.site == site) && (nat_lt k.process process && is_in k.epoch e))
