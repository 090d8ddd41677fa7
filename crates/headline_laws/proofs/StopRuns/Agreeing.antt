-- What later records wrote changes nothing of the cuts before them.
use Rattle.std.proofs.Common.{◌≡◌, ◌<◌, ℕ, suc, true, List, [], ◌∷◌, length, refl, sym, ◌∙◌, ap, subst, inl, inr, arith, Bool, false, Option, None, Some}
use Rattle.locus_ids.specs.declared.config.Config.{Config}
use Rattle.trace_book.specs.declared.entry.Entry.{Entry}
use Rattle.trace_book.specs.declared.record.Record.{Record}
use Rattle.trace_book.specs.declared.record.Record.TheVariants as says
use Rattle.trace_book.specs.declared.record.StopCause.TheVariants as cause
use Rattle.schedule_lines.specs.declared.line.ScheduleLine.{ScheduleLine}
use Rattle.tree_model.specs.Epochs.{is_up}
use Rattle.tree_model.specs.Folds.{Trace, last_line}
use Rattle.lawful_trace.specs.Disks.{Armed, is_cut_next}
use Rattle.disk_calls.specs.Boots.{calls_of_boot}
use Rattle.row_laws.specs.Shown.{EachRecord}
use Rattle.headline_laws.specs.WholeRuns.Wrote.{Disk, disk_through, disk_of, disk_at, AgreeBelow}
use Rattle.headline_laws.proofs.WholeRuns.CutDisks.{disk_agrees}
use Rattle.headline_laws.specs.StopRuns.Stops.{IsArmed, IsVersionCut, IsCutAt, IsCutAfter, IsCutBefore, IsCutBooting, Writes, CutWhileUp, CutOf, CutRecord, IsCutRow, HeedsStops, AreExact, is_overrun}

module _ (a b : ℕ → List ℕ) (c : Config) (lines : List ScheduleLine) where
  lower : (n : ℕ) → AgreeBelow (suc n) a b → AgreeBelow n a b
  lower n h k low = h k (over k n low)
    where
      over : (k n : ℕ) → k < n → k < suc n
      over k n low = omega (arith, low)

  last : (n : ℕ) → AgreeBelow (suc n) a b → a n ≡ b n
  last n h = h n (below n)
    where
      below : (n : ℕ) → n < suc n
      below n = omega arith

  at_agrees : (t : Trace) (n s : ℕ) → AgreeBelow (length t) a b → disk_at a c lines t n s ≡ disk_at b c lines t n s
  at_agrees t n s h = ap (disk_through lines s (last_line t) n) (disk_agrees a b c lines t s h)

  armed_agrees : (t : Trace) (n s : ℕ) (fault : Bool) (x : Armed) → AgreeBelow (length t) a b → IsArmed a c lines t n s fault x → IsArmed b c lines t n s fault x
  armed_agrees t n s fault x h k = record { armed = ap (λ (d : Disk). d.rest.armed) (sym (at_agrees t n s h)) ∙ k.armed; fault_is = k.fault_is }

  version_agrees : (t : Trace) (s : ℕ) (r : Record) (x : Armed) (stays : Bool) → AgreeBelow (suc (length t)) a b → IsVersionCut a c t s r x stays → IsVersionCut b c t s r x stays
  version_agrees t s r x stays h k = record { own = k.own; writing = k.writing; writes = subst (λ (ps : List ℕ). Writes ps c t r k.writing) (last (length t) h) k.writes; passed = k.passed; cut = k.cut; left = k.left }

  before_agrees : (t : Trace) (n s : ℕ) (fault : Bool) → AgreeBelow (suc (length t)) a b → IsCutBefore a c lines t n s fault → IsCutBefore b c lines t n s fault
  before_agrees t n s fault h k = record { arming = k.arming; armed = armed_agrees t n s fault k.arming (lower (length t) h) k.armed; version = k.version; underway = k.underway; place = k.place; cut = version_agrees t s k.version k.arming false h k.cut }

  while_agrees : (t : Trace) (n s : ℕ) (fault : Bool) → AgreeBelow (suc (length t)) a b → CutWhileUp a c lines t n s fault → CutWhileUp b c lines t n s fault
  while_agrees [] n s fault h k = before_agrees [] n s fault h k
  while_agrees (r ∷ t) n s fault h (inl k) = inl (record { same_line = k.same_line; arming = k.arming; armed = armed_agrees t n s fault k.arming (lower (length t) (lower (suc (length t)) h)) k.armed; cut = version_agrees t s r.what k.arming true (lower (suc (length t)) h) k.cut })
  while_agrees (r ∷ t) n s fault h (inr k) = inr (before_agrees (r ∷ t) n s fault h k)

  cut_agrees : (t : Trace) (n s : ℕ) (fault up : Bool) → AgreeBelow (suc (length t)) a b → CutOf a c lines t n s fault up → CutOf b c lines t n s fault up
  cut_agrees t n s fault true h k = while_agrees t n s fault h k
  cut_agrees t n s fault false h k = record {
    asked = k.asked;
    arming = k.arming;
    armed = armed_agrees t n s fault k.arming (lower (length t) h) k.armed;
    passed = k.passed;
    cut = subst (λ (d : Disk). IsCutAt k.arming (calls_of_boot d.rest.halves d.slots) k.passed) (at_agrees t n s (lower (length t) h)) k.cut;
  }

  record_agrees : (t : Trace) (n : ℕ) (r : Record) → AgreeBelow (suc (length t)) a b → CutRecord a c lines n t r → CutRecord b c lines n t r
  record_agrees t n (says.Stopped site cause.Fuse) h k = cut_agrees t n site false (is_up c t site) h k
  record_agrees t n (says.Stopped site cause.Fault) h k = cut_agrees t n site true (is_up c t site) h k
  record_agrees t n (says.Stopped site cause.Asked) h k = tt
  record_agrees t n _ h k = tt

  rows_agree : (t : Trace) → AgreeBelow (length t) a b → EachRecord (IsCutRow a c lines) t → EachRecord (IsCutRow b c lines) t
  rows_agree [] h k = tt
  rows_agree (r ∷ t) h k = (record_agrees t r.line r.what h k.0, rows_agree t (lower (length t) h) k.1)

  heeds_agree : (next : Option Record) (t : Trace) → AgreeBelow (length t) a b → HeedsStops a c lines next t → HeedsStops b c lines next t
  heeds_agree next [] h k = tt
  heeds_agree next (r ∷ t) h k = ((λ s e. k.0 s (ap (λ (d : Disk). is_overrun d.rest.armed) (disk_agrees a b c lines (r ∷ t) s h) ∙ e)), heeds_agree (Some r.what) t (lower (length t) h) k.1)

  pub are_exact_still : (t : Trace) → AgreeBelow (length t) a b → AreExact a c lines t → AreExact b c lines t
  are_exact_still t h k = record { cuts = rows_agree t h k.cuts; heeds = heeds_agree None t h k.heeds }
