-- The disks of the lawful trace and the rows of cut calls, record by record.
use Rattle.std.proofs.Common.{◌≡◌, ◌≢◌, ℕ, Bool, true, cond, ◌||◌, List, [], ◌∷◌, Option, Some, refl, sym, ◌∙◌, ap, subst}
use Rattle.std.specs.Option.{is_some}
use Rattle.role_steps.proofs.of_plain_facts.Tests.{false_true, or_second}
use Rattle.locus_ids.specs.declared.config.Config.{Config}
use Rattle.schedule_lines.specs.declared.line.Line.{Line as LineWords}
use Rattle.schedule_lines.specs.declared.line.Line.TheVariants as line
use Rattle.schedule_lines.specs.declared.line.ScheduleLine.{ScheduleLine}
use Rattle.schedule_lines.specs.declared.line.ScheduleLine.TheVariants.{Event as EventLine}
use Rattle.trace_book.specs.declared.record.Record.{Record}
use Rattle.trace_book.specs.declared.record.Record.TheVariants as says
use Rattle.role_steps.specs.Own.{Every}
use Rattle.role_steps.specs.Views.{Told, Shown, Event}
use Rattle.tree_model.specs.Folds.{Trace}
use Rattle.tree_model.specs.Epochs.{is_up}
use Rattle.the_run.specs.Disks.{Cut, Stops as Stopping, Fails as Failing}
use Rattle.the_run.specs.Worlds.{World, Line, told_onto, cause_of}
use Rattle.lawful_trace.specs.Disks.{Disk, armed_by, armed_at, writer_of, without_version, has_left, may_cut}
use Rattle.row_laws.specs.ByLine.{begins_quietly, IsVoidIn, Gives}
use Rattle.row_laws.specs.Shown.{with_told, shown, EachRecord}
use Rattle.row_laws.specs.Arms.{NoDiskRecord, NoDisk}
use Rattle.row_laws.proofs.Versions.{VersionOf}
use Rattle.rest_laws.specs.MendStepCounting.{CountedRecord, IsCountedRow}

-- ---- sites ----

-- a version leaves its site running
pub version_up : (c : Config) (s t line : ℕ) (r : Record) (before : Trace) → VersionOf s r → is_up c (record { line = line; what = r } ∷ before) t ≡ is_up c before t
version_up c s t line (says.Commit f u stamp parents content) before h = refl
version_up c s t line (says.Adopt f u stamp) before h = refl
version_up c s t line _ before h = absurd h

-- ---- rows ----

quiet_counted : (c : Config) (lines : List ScheduleLine) (n : ℕ) (r : Record) (before : Trace) → NoDiskRecord r → CountedRecord c lines n before r
quiet_counted c lines n (says.Stopped t why) before h = absurd h
quiet_counted c lines n _ before h = tt

told_counted : (c : Config) (lines : List ScheduleLine) (n : ℕ) (x : Told) (now : Trace) → NoDisk x → EachRecord (IsCountedRow c lines) now → EachRecord (IsCountedRow c lines) (with_told n x now)
told_counted c lines n (Shown r) now h g = (quiet_counted c lines n r now h, g)
told_counted c lines n _ now h g = g

pub onto_counted : (c : Config) (lines : List ScheduleLine) (n : ℕ) (told : List Told) (trace : List Line) → Every NoDisk told → EachRecord (IsCountedRow c lines) (shown trace) → EachRecord (IsCountedRow c lines) (shown (told_onto n told trace))
onto_counted c lines n [] trace h g = g
onto_counted c lines n (x ∷ xs) trace h g = onto_counted c lines n xs (record { number = n; told = x } ∷ trace) h.1 (told_counted c lines n x (shown trace) h.0 g)

pub version_counted : (c : Config) (lines : List ScheduleLine) (n s : ℕ) (r : Record) (before : Trace) → VersionOf s r → CountedRecord c lines n before r
version_counted c lines n s (says.Stopped t why) before h = absurd h
version_counted c lines n s _ before h = tt

pub cut_counted : (c : Config) (lines : List ScheduleLine) (n s : ℕ) (how : Cut) (before : Trace) → may_cut c lines before n s ≡ true → CountedRecord c lines n before (says.Stopped s (cause_of how))
cut_counted c lines n s (Stopping left) before h = h
cut_counted c lines n s Failing before h = h

-- no more calls were made so far than pass
pub may_now : (c : Config) (lines : List ScheduleLine) (n s : ℕ) (before : Trace) → has_left (armed_at c lines before n s) ≡ true → may_cut c lines before n s ≡ true
may_now c lines n s before h = ap (λ (b : Bool). b || has_left (armed_at c lines (without_version before) n s)) h

-- or up to the version that was cut off
pub may_then : (c : Config) (lines : List ScheduleLine) (n s m t : ℕ) (r : Record) (before : Trace) → writer_of r ≡ Some t → has_left (armed_at c lines before n s) ≡ true → may_cut c lines (record { line = m; what = r } ∷ before) n s ≡ true
may_then c lines n s m t r before e h = or_second (has_left (armed_at c lines (record { line = m; what = r } ∷ before) n s)) (has_left (armed_at c lines (without_version (record { line = m; what = r } ∷ before)) n s)) (subst (λ (now : Trace). has_left (armed_at c lines now n s) ≡ true) (sym without) h)
  where
    without : without_version (record { line = m; what = r } ∷ before) ≡ before
    without = ap (λ (o : Option ℕ). cond (is_some o) before (record { line = m; what = r } ∷ before)) e

-- ---- lines that arm no disk ----

abbrev pub LeavesDisks : ScheduleLine → Type 0
LeavesDisks l = (s : ℕ) (d : Disk) → armed_by s l d ≡ d

pub quiet_leaves : (l : ScheduleLine) → begins_quietly l ≡ true → LeavesDisks l
quiet_leaves (EventLine (line.ArmStop site calls left)) e = absurd (false_true e)
quiet_leaves (EventLine (line.ArmFail site calls)) e = absurd (false_true e)
quiet_leaves _ e = λ s d. refl

pub void_leaves : (w : World) (l : LineWords) → IsVoidIn w l → LeavesDisks (EventLine l)
void_leaves w (line.ArmStop site calls left) v = absurd v
void_leaves w (line.ArmFail site calls) v = absurd v
void_leaves w _ v = λ s d. refl

pub gives_leaves : (w : World) (l : LineWords) (s : ℕ) (e : Event) → Gives w l s e → LeavesDisks (EventLine l)
gives_leaves w (line.ArmStop site calls left) s e g = absurd g
gives_leaves w (line.ArmFail site calls) s e g = absurd g
gives_leaves w _ s e g = λ t d. refl
