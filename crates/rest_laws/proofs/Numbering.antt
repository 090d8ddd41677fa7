-- A call's name has numbers of 32 bits: those of its site's boot and of its calls in that boot, and the text of a run has room for so
-- many records.
use Rattle.std.proofs.Common.{◌≡◌, ◌≤◌, ◌<◌, ℕ, ◌+◌, ◌^◌, ◌==◌, Bool, true, false, cond, List, [], ◌∷◌, ap, arith}
use Rattle.locus_ids.specs.declared.config.Config.{Config}
use Rattle.locus_ids.specs.declared.ids.CallId.{CallId}
use Rattle.schedule_lines.specs.Ranges.{is_site}
use Rattle.schedule_lines.specs.declared.line.Line.TheVariants as line
use Rattle.schedule_lines.specs.declared.line.ScheduleLine.{ScheduleLine}
use Rattle.trace_book.specs.declared.call.Call.{Call}
use Rattle.trace_book.specs.declared.call.Call.TheVariants as call
use Rattle.trace_book.specs.declared.record.Record.{Record}
use Rattle.trace_book.specs.declared.record.Record.TheVariants as says
use Rattle.role_steps.specs.Views.{Told, Shown}
use Rattle.the_run.specs.Worlds.{Line}
use Rattle.tree_model.specs.Epochs.{boot_of, calls_accepted, calls_after}
use Rattle.tree_model.specs.Folds.{Trace}
use Rattle.lawful_trace.specs.CallRows.{CallLine, IsCallAsked, next_call}
use Rattle.tree_laws.specs.Printed.{entries, onto_entries}
use Rattle.store_laws.specs.of_row_laws.CallRows.Accepting.{AcceptedAs}
use Rattle.store_laws.specs.of_site_laws.Packs.CounterNumbers.{calls_in, calls_recorded, calls_told}
use Rattle.store_laws.specs.of_row_laws.Shown.{EachRecord}
use Rattle.store_laws.specs.of_row_laws.Voids.{LinesFit}
use Rattle.store_laws.specs.of_site_laws.Vectors.Written.{past_of}
use Rattle.store_laws.proofs.of_row_laws.Boots.{boot_step}
use Rattle.store_laws.specs.OneTree.Rest.{HasLowName, IsNumberedLow}
use Rattle.rest_laws.proofs.Ranges.{call_fits}
use Rattle.rest_laws.proofs.Shown.{IsRow}

-- ---- calls ----

-- a site has accepted no more calls since its boot than were accepted at all
accepted_few : (t : List Line) (s : ℕ) → calls_accepted (entries t) s ≤ calls_in (past_of t)
accepted_few [] s = omega arith
accepted_few (x ∷ older) s = over x.told (accepted_few older s)
  where
    printed : (r : Record) → calls_accepted (entries older) s ≤ calls_in (past_of older) → calls_after r s (calls_accepted (entries older) s) ≤ calls_recorded r + calls_in (past_of older)
    printed (says.Accept z process new words) k = at (z == s)
      where
        at : (b : Bool) → cond b (calls_accepted (entries older) s + 1) (calls_accepted (entries older) s) ≤ 1 + calls_in (past_of older)
        at true = omega (arith, k)
        at false = omega (arith, k)
    printed (says.Up z boot) k = at (z == s)
      where
        at : (b : Bool) → cond b 0 (calls_accepted (entries older) s) ≤ 0 + calls_in (past_of older)
        at true = omega arith
        at false = omega (arith, k)
    printed _ k = omega (arith, k)

    over : (y : Told) → calls_accepted (entries older) s ≤ calls_in (past_of older) → calls_accepted (onto_entries x.number y (entries older)) s ≤ calls_told y + calls_in (past_of older)
    over (Shown r) k = printed r k
    over _ k = omega (arith, k)

-- ---- boots ----

-- of each site of the cluster
abbrev pub BootsLow : Config → Trace → Type 0
BootsLow c t = (s : ℕ) → is_site c.sites s ≡ true → boot_of t s ≤ 134217729

boot_before : (c : Config) (lines : List ScheduleLine) (n : ℕ) (x : Told) (older : Trace) (s : ℕ) → EachRecord (IsRow c lines) (onto_entries n x older) → boot_of older s ≤ boot_of (onto_entries n x older) s
boot_before c lines n (Shown r) older s h = boot_step c older r s h.0.site
boot_before c lines n _ older s h = omega arith

pub boots_before : (c : Config) (lines : List ScheduleLine) (n : ℕ) (x : Told) (older : Trace) → EachRecord (IsRow c lines) (onto_entries n x older) → BootsLow c (onto_entries n x older) → BootsLow c older
boots_before c lines n x older h low s k =
    let before : boot_of older s ≤ boot_of (onto_entries n x older) s = boot_before c lines n x older s h in
    let now : boot_of (onto_entries n x older) s ≤ 134217729 = low s k in
    omega (arith, before, now)

-- ---- names ----

boot_fits : (a b : ℕ) → a ≡ b → b ≤ 134217729 → a < 2 ^ 32
boot_fits a b e low = omega (arith, e, low)

count_fits : (a b most : ℕ) → a ≡ b + 1 → b ≤ most → most ≤ 134217728 → a < 2 ^ 32
count_fits a b most e few low = omega (arith, e, few, low)

low_name : (c : Config) (lines : List ScheduleLine) (n : ℕ) (older : List Line) (s process : ℕ) (id : CallId) (words : Call) → LinesFit c lines → IsCallAsked lines n s process words → id ≡ next_call (entries older) s → BootsLow c (entries older) → calls_in (past_of older) ≤ 134217728 → HasLowName id
low_name c lines n older s process id words fit h numbered low few = record {
  boot = boot_fits id.boot (boot_of (entries older) s) (ap (λ (d : CallId). d.boot) numbered) (low s (call_fits c.sites s process words (fit n (line.Call s process words) h.asked)).0);
  n = count_fits id.n (calls_accepted (entries older) s) (calls_in (past_of older)) (ap (λ (d : CallId). d.n) numbered) (accepted_few older s) few;
}

pub name_low : (c : Config) (lines : List ScheduleLine) (n : ℕ) (older : List Line) (s process : ℕ) (id : CallId) (words : Call) → LinesFit c lines → CallLine lines n s process words → AcceptedAs c (entries older) s process id words → BootsLow c (entries older) → calls_in (past_of older) ≤ 134217728 → IsNumberedLow id words
name_low c lines n older s process id (call.Mend f) fit h row low few = tt
name_low c lines n older s process id words fit h row low few = low_name c lines n older s process id _ fit h row.numbered low few
