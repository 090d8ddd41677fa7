-- The cuts of a trace, record by record.
use Rattle.std.proofs.Common.{◌≡◌, ◌≤◌, ℕ, ◌+◌, Bool, true, false, List, [], ◌∷◌, Option, Some, None, refl, sym, ◌∙◌, ap, subst, arith, inr}
use Rattle.std.proofs.lemmas.Bool.{le-ltb}
use Rattle.role_steps.proofs.of_plain_facts.Numbers.{equal_self}
use Rattle.role_steps.proofs.of_plain_facts.Tests.{false_true, true_false}
use Rattle.locus_ids.specs.declared.config.Config.{Config}
use Rattle.schedule_lines.specs.declared.line.ScheduleLine.{ScheduleLine}
use Rattle.trace_book.specs.declared.record.Record.{Record}
use Rattle.trace_book.specs.declared.record.Record.TheVariants as says
use Rattle.role_steps.specs.Own.{Every}
use Rattle.role_steps.specs.Views.{Told, Shown}
use Rattle.tree_model.specs.Folds.{Trace}
use Rattle.tree_model.specs.Epochs.{is_up}
use Rattle.the_run.specs.Disks.{Armed as Script, Cut, Stops as Stopping, Fails as Failing}
use Rattle.the_run.specs.Worlds.{World, Line, cause_of, script_of, told_onto}
use Rattle.lawful_trace.specs.Disks.{Armed, Arming, Stops, Fails, calls_of, is_fault, is_cut_next}
use Rattle.headline_laws.specs.WholeRuns.Wrote.{Disk, armed_at}
use Rattle.row_laws.specs.Shown.{with_told, shown, trace_of, EachRecord}
use Rattle.row_laws.specs.Arms.{NoDiskRecord, NoDisk}
use Rattle.headline_laws.proofs.WholeRuns.CutDisks.{disk_more, quiet_onto}
use Rattle.row_laws.proofs.Versions.{VersionOf}
use Rattle.headline_laws.specs.WholeRuns.CutCounts.{SameArming, CountsAs, CountsAreTheRuns}
use Rattle.headline_laws.specs.StopRuns.Stops.{IsCutBefore, CutWhileUp, CutOf, CutRecord, IsCutRow, is_overrun, HeedsStops, AreExact}

-- ---- disks that no more calls used than pass ----

abbrev pub AllPass : (ℕ → List ℕ) → Config → List ScheduleLine → ℕ → Trace → Type 0
AllPass wrote c lines m trace = (s : ℕ) → is_overrun (armed_at wrote c lines trace m s) ≡ false

counted_pass : (o : Option Armed) (x : Option Script) → CountsAs o x → is_overrun o ≡ false
counted_pass None x h = refl
counted_pass (Some a) None h = absurd h
counted_pass (Some a) (Some x) h = le-ltb (calls_of a.arming) a.used (below a.used x.left (calls_of a.arming) h.1)
  where
    below : (used left calls : ℕ) → used + left ≡ calls → used ≤ calls
    below used left calls e = omega (arith, e)

pub counts_pass : (wrote : ℕ → List ℕ) (c : Config) (lines : List ScheduleLine) (m : ℕ) (w : World) → CountsAreTheRuns wrote c lines m w → AllPass wrote c lines m (trace_of w)
counts_pass wrote c lines m w f s = counted_pass (armed_at wrote c lines (trace_of w) m s) (script_of w s) (f.sites s).calls

-- ---- one record more ----

-- whatever record comes next
pub heeds_any : (wrote : ℕ → List ℕ) (c : Config) (lines : List ScheduleLine) (next : Option Record) (t : Trace) → HeedsStops wrote c lines None t → HeedsStops wrote c lines next t
heeds_any wrote c lines next [] h = tt
heeds_any wrote c lines next (r ∷ before) h = ((λ s over. absurd (false_true (h.0 s over))), h.1)

pub more_exact : (wrote : ℕ → List ℕ) (c : Config) (lines : List ScheduleLine) (m : ℕ) (r : Record) (before : Trace) → CutRecord wrote c lines m before r → HeedsStops wrote c lines (Some r) before → EachRecord (IsCutRow wrote c lines) before → AllPass wrote c lines m (record { line = m; what = r } ∷ before) → AreExact wrote c lines (record { line = m; what = r } ∷ before)
more_exact wrote c lines m r before row heeds cuts pass = record {
  cuts = (row, cuts);
  heeds = ((λ s over. absurd (true_false (sym over ∙ (ap (λ (d : Disk). is_overrun d.rest.armed) (sym (disk_more wrote c lines m s r before)) ∙ pass s)))), heeds);
}

pub next_exact : (wrote : ℕ → List ℕ) (c : Config) (lines : List ScheduleLine) (m : ℕ) (r : Record) (before : Trace) → CutRecord wrote c lines m before r → AreExact wrote c lines before → AllPass wrote c lines m (record { line = m; what = r } ∷ before) → AreExact wrote c lines (record { line = m; what = r } ∷ before)
next_exact wrote c lines m r before row h pass = more_exact wrote c lines m r before row (heeds_any wrote c lines (Some r) before h.heeds) h.cuts pass

-- ---- records of no disk ----

quiet_cut : (wrote : ℕ → List ℕ) (c : Config) (lines : List ScheduleLine) (m : ℕ) (r : Record) (before : Trace) → NoDiskRecord r → CutRecord wrote c lines m before r
quiet_cut wrote c lines m (says.Stopped s why) before h = absurd h
quiet_cut wrote c lines m _ before h = tt

pass_quiet : (wrote : ℕ → List ℕ) (c : Config) (lines : List ScheduleLine) (m : ℕ) (told : List Told) (trace : List Line) → Every NoDisk told → AllPass wrote c lines m (shown trace) → AllPass wrote c lines m (shown (told_onto m told trace))
pass_quiet wrote c lines m told trace quiet pass s = ap (λ (d : Disk). is_overrun d.rest.armed) (quiet_onto wrote c lines m s told trace quiet) ∙ pass s

told_exact : (wrote : ℕ → List ℕ) (c : Config) (lines : List ScheduleLine) (m : ℕ) (x : Told) (before : Trace) → NoDisk x → AllPass wrote c lines m (with_told m x before) → AreExact wrote c lines before → AreExact wrote c lines (with_told m x before)
told_exact wrote c lines m (Shown r) before quiet pass h = next_exact wrote c lines m r before (quiet_cut wrote c lines m r before quiet) h pass
told_exact wrote c lines m _ before quiet pass h = h

pub quiet_exact : (wrote : ℕ → List ℕ) (c : Config) (lines : List ScheduleLine) (m : ℕ) (told : List Told) (trace : List Line) → Every NoDisk told → AllPass wrote c lines m (shown trace) → AreExact wrote c lines (shown trace) → AreExact wrote c lines (shown (told_onto m told trace))
quiet_exact wrote c lines m [] trace quiet pass h = h
quiet_exact wrote c lines m (x ∷ xs) trace quiet pass h =
    let one : AllPass wrote c lines m (with_told m x (shown trace)) = pass_quiet wrote c lines m (x ∷ []) trace (quiet.0, tt) pass in
    quiet_exact wrote c lines m xs (record { number = m; told = x } ∷ trace) quiet.1 one (told_exact wrote c lines m x (shown trace) quiet.0 one h)

-- where all pass at the end of records of no disk, all passed before them
pub pass_before : (wrote : ℕ → List ℕ) (c : Config) (lines : List ScheduleLine) (m : ℕ) (told : List Told) (trace : List Line) → Every NoDisk told → AllPass wrote c lines m (shown (told_onto m told trace)) → AllPass wrote c lines m (shown trace)
pass_before wrote c lines m told trace quiet pass s = ap (λ (d : Disk). is_overrun d.rest.armed) (sym (quiet_onto wrote c lines m s told trace quiet)) ∙ pass s

-- ---- versions and stops ----

pub version_cut : (wrote : ℕ → List ℕ) (c : Config) (lines : List ScheduleLine) (m s : ℕ) (r : Record) (before : Trace) → VersionOf s r → CutRecord wrote c lines m before r
version_cut wrote c lines m s (says.Stopped t why) before h = absurd h
version_cut wrote c lines m s _ before h = tt

-- whether a call fails
abbrev pub fails : Cut → Bool
fails (Stopping left) = false
fails Failing = true

pub fails_as : (a : Arming) (how : Cut) → SameArming a how → is_fault a ≡ fails how
fails_as (Stops calls l) (Stopping left) h = refl
fails_as (Stops calls l) Failing h = absurd h
fails_as (Fails calls) (Stopping left) h = absurd h
fails_as (Fails calls) Failing h = refl

pub stop_cut : (wrote : ℕ → List ℕ) (c : Config) (lines : List ScheduleLine) (m s : ℕ) (how : Cut) (up : Bool) (before : Trace) → is_up c before s ≡ up → CutOf wrote c lines before m s (fails how) up → CutRecord wrote c lines m before (says.Stopped s (cause_of how))
stop_cut wrote c lines m s (Stopping left) up before e h = subst (CutOf wrote c lines before m s false) (sym e) h
stop_cut wrote c lines m s Failing up before e h = subst (CutOf wrote c lines before m s true) (sym e) h

pub cut_before : (wrote : ℕ → List ℕ) (c : Config) (lines : List ScheduleLine) (n s : ℕ) (fault : Bool) (before : Trace) → IsCutBefore wrote c lines before n s fault → CutWhileUp wrote c lines before n s fault
cut_before wrote c lines n s fault [] h = h
cut_before wrote c lines n s fault (r ∷ before) h = inr h

pub stops_next : (s : ℕ) (how : Cut) → is_cut_next (Some (says.Stopped s (cause_of how))) s ≡ true
stops_next s (Stopping left) = equal_self s
stops_next s Failing = equal_self s
