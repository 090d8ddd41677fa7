-- In every run the cut calls are counted: what each line and each event keeps.
use Rattle.std.proofs.Common.{◌≡◌, ◌<◌, ℕ, ◌+◌, true, List, [], ◌∷◌, length, map, Option, Some, refl, sym, ◌∙◌, ap, subst}
use Rattle.locus_ids.specs.declared.config.Config.{Config}
use Rattle.schedule_lines.specs.declared.line.Line.{Line as LineWords}
use Rattle.schedule_lines.specs.declared.line.Line.TheVariants as line
use Rattle.schedule_lines.specs.declared.line.ScheduleLine.{ScheduleLine}
use Rattle.schedule_lines.specs.declared.line.ScheduleLine.TheVariants.{Event as EventLine}
use Rattle.trace_book.specs.declared.record.Record.TheVariants as says
use Rattle.role_steps.specs.Own.{Every}
use Rattle.role_steps.specs.Views.{SiteView, DiskWrite, Told, Shown, Event, Receives, Ticks}
use Rattle.role_steps.proofs.Sending.{every_map}
use Rattle.tree_model.specs.Epochs.{is_up}
use Rattle.the_run.specs.Steps.{step}
use Rattle.the_run.specs.Worlds.{World, Running, Stopped, Numbered, CutCircuit, place_at, links_of, happened, acts, passed, first_world}
use Rattle.the_run.specs.Runs.{cuts_circuit, mends_circuit, packet_record, run_in}
use Rattle.run_laws.specs.Naming.{DeedsOf}
use Rattle.lawful_trace.specs.Places.{line_at}
use Rattle.row_laws.specs.Shown.{trace_of, EachRecord}
use Rattle.row_laws.specs.Events.{SiteTold, causes_of}
use Rattle.row_laws.specs.ByLine.{IsLine, KeptIn}
use Rattle.row_laws.specs.Arms.{NoDisk}
use Rattle.row_laws.specs.Voids.{LinesFit}
use Rattle.row_laws.proofs.StepForms.{step_forms}
use Rattle.row_laws.proofs.AskedRun.{own_given, Courses, courses_kept, first_courses, last_within}
use Rattle.row_laws.proofs.Causes.{comes_own, sent_polls}
use Rattle.row_laws.proofs.ByLine.{every_line}
use Rattle.rest_laws.specs.of_store_laws.OneTree.Rest.{IsRest, Past}
use Rattle.rest_laws.specs.of_store_laws.OneTree.Roles.{EventFact, RolesDo}
use Rattle.rest_laws.proofs.of_store_laws.OneTree.Staying.{stays}
use Rattle.rest_laws.proofs.of_store_laws.OneTree.Cuts.{step_writes}
use Rattle.rest_laws.proofs.of_store_laws.OneTree.Worlds.{Holds}
use Rattle.rest_laws.proofs.of_store_laws.OneTree.Run.{kept, first_holds, event_fact, arrives_fact}
use Rattle.rest_laws.specs.MendStepCounting.{IsCountedRow}
use Rattle.headline_laws.specs.WholeRuns.CutCounts.{CountsAreTheRuns}
use Rattle.headline_laws.proofs.WholeRuns.CutShaped.{step_writes_first}
use Rattle.headline_laws.proofs.WholeRuns.CutTraced.{LeavesDisks, quiet_leaves, void_leaves, gives_leaves}
use Rattle.headline_laws.specs.WholeRuns.Wrote.{wrote_next}
use Rattle.headline_laws.proofs.WholeRuns.CutDisks.{next_agrees, next_told}
use Rattle.headline_laws.proofs.WholeRuns.CutEvents.{Counts, still_counts, asked_counts, boot_counts_as, acts_counts, counts_agree}
use Rattle.headline_laws.proofs.WholeRuns.CutLines.{next_counts, arm_counts, first_counts}

-- how its disks were written, and that they are counted
pub record Counted (c : Config) (lines : List ScheduleLine) (n : ℕ) (w : World) : Type 0 where
  pub wrote : ℕ → List ℕ
  pub courses : Courses c lines n w
  pub holds : Holds c w
  pub counts : Counts wrote c lines n w

-- ---- a line begins ----

pub begun : (c : Config) (lines : List ScheduleLine) (n : ℕ) (l : LineWords) (w : World) → n < length lines → IsLine lines (n + 1) l → LeavesDisks (EventLine l) → (p : Counted c lines n w) → Counts p.wrote c lines (n + 1) w
begun c lines n l w there is none p = next_counts p.wrote c lines n w (last_within n w.trace p.courses.course.ascends) there (subst LeavesDisks (sym is) none) p.counts

-- ---- what the world itself tells ----

pub says_counts : (wrote : ℕ → List ℕ) (c : Config) (lines : List ScheduleLine) (m : ℕ) (told : List Told) (w : World) → Every NoDisk told → Counts wrote c lines m w → Counts wrote c lines m (happened m [] told (λ now. now) w)
says_counts wrote c lines m told w quiet g = still_counts wrote c lines m [] told (λ now. now) w refl (λ t least d x h. h) quiet g

-- ---- a running site does something ----

-- what the disks were written with after it
abbrev pub wrote_then : Config → ℕ → Event → SiteView → World → (ℕ → List ℕ) → ℕ → List ℕ
wrote_then c s e v w wrote = wrote_next (length (trace_of w)) (step c s (links_of w s) v e).written wrote

pub wrote_it : (n : ℕ) (o : Option DiskWrite) (wrote : ℕ → List ℕ) (d : DiskWrite) → o ≡ Some d → wrote_next n o wrote n ≡ d.pages
wrote_it n o wrote d e = ap (λ (x : Option DiskWrite). wrote_next n x wrote n) e ∙ next_told n d wrote

pub does_counts : (wrote : ℕ → List ℕ) (c : Config) → RolesDo c → (lines : List ScheduleLine) (m s : ℕ) (e : Event) (v : SiteView) (w : World) → place_at w s ≡ Some (Running v) → is_up c (trace_of w) s ≡ true → Every (SiteTold s (causes_of s (links_of w s) v e)) (step c s (links_of w s) v e).told →
    (Past c w.trace → EventFact c w.trace s v e) → Holds c w → Counts wrote c lines m w → Counts (wrote_then c s e v w wrote) c lines m (acts m s v (step c s (links_of w s) v e) w)
does_counts wrote c roles lines m s e v w here up told fact holds g = acts_counts (wrote_then c s e v w wrote) c lines m s (causes_of s (links_of w s) v e) v (step c s (links_of w s) v e) w here up told (step_writes_first c s (links_of w s) v e)
    (λ past f. step_writes c roles m s (links_of w s) w.trace v e past (f.places s (Running v) here) (fact past)) (wrote_it (length (trace_of w)) (step c s (links_of w s) v e).written wrote) holds
    (counts_agree wrote (wrote_then c s e v w wrote) c lines m w (next_agrees (length (trace_of w)) (step c s (links_of w s) v e).written wrote) g)

-- ---- every event and change ----

pub same_counts : (wrote : ℕ → List ℕ) (c : Config) (lines : List ScheduleLine) (n : ℕ) (w : World) (under : List Numbered) (lost : List ℕ) (circuits : List CutCircuit) → Counts wrote c lines n w → Counts wrote c lines n (record w { underway = under; lost = lost; circuits = circuits })
same_counts wrote c lines n w under lost circuits g r = (let f : CountsAreTheRuns wrote c lines n w = g r in record { rises = f.rises; sites = f.sites; least = f.least; rows = f.rows })

unfoldable pub counts_kept : (c : Config) (lines : List ScheduleLine) → LinesFit c lines → RolesDo c → KeptIn c lines (Counted c lines)
counts_kept c lines fit roles = record {
  begins = λ n w there quiet p. record { wrote = p.wrote; courses = on.begins n w there quiet p.courses; holds = p.holds; counts = next_counts p.wrote c lines n w (last_within n w.trace p.courses.course.ascends) there (quiet_leaves (line_at lines (n + 1)) quiet) p.counts };
  ticks = λ n most s v w is here p. record {
    wrote = wrote_then c s Ticks v w p.wrote;
    courses = on.ticks n most s v w is here p.courses;
    holds = held.ticks n most s v w is here p.holds;
    counts = does_counts p.wrote c roles lines n s Ticks v w here (p.courses.course.places s (Running v) here).0 (step_forms (DeedsOf w.trace s) s c (links_of w s) v Ticks (p.courses.good.views s v here) (p.courses.course.places s (Running v) here).2 tt).told (λ past. tt) p.holds p.counts;
  };
  receives = λ n l x v w is d here sent p. record {
    wrote = wrote_then c x.packet.to (Receives x.packet) v (passed x.number w) p.wrote;
    courses = on.receives n l x v w is d here sent p.courses;
    holds = held.receives n l x v w is d here sent p.holds;
    counts = does_counts p.wrote c roles lines n x.packet.to (Receives x.packet) v (passed x.number w) here (p.courses.course.places x.packet.to (Running v) here).0
        (step_forms (DeedsOf w.trace x.packet.to) x.packet.to c (links_of (passed x.number w) x.packet.to) v (Receives x.packet) (p.courses.good.views x.packet.to v here) (p.courses.course.places x.packet.to (Running v) here).2 (sent_polls c lines n w x sent p.courses.course)).told
        (λ past. (refl, arrives_fact c w x v (p.holds past.rest) sent here)) (held.passes n x.number w p.holds) (same_counts p.wrote c lines n w (passed x.number w).underway w.lost w.circuits p.counts);
  };
  passes = λ n k w p. record { wrote = p.wrote; courses = on.passes n k w p.courses; holds = held.passes n k w p.holds; counts = same_counts p.wrote c lines n w (passed k w).underway w.lost w.circuits p.counts };
  drops = λ n k w p. record { wrote = p.wrote; courses = on.drops n k w p.courses; holds = held.drops n k w p.holds; counts = same_counts p.wrote c lines n w (passed k w).underway (k ∷ w.lost) w.circuits p.counts };
  budgets = λ n most w is p. record { wrote = p.wrote; courses = on.budgets n most w is p.courses; holds = held.budgets n most w is p.holds; counts = says_counts p.wrote c lines n (Shown says.Budget ∷ []) w (tt, tt) p.counts };
  voiding = λ n l w there is void p. record { wrote = p.wrote; courses = on.voiding n l w there is void p.courses; holds = held.voiding n l w there is void p.holds; counts = says_counts p.wrote c lines (n + 1) (Shown says.Void ∷ []) w (tt, tt) (begun c lines n l w there is (void_leaves w l void) p) };
  steps = λ n s l e v w there is g here p. record {
    wrote = wrote_then c s e v w p.wrote;
    courses = on.steps n s l e v w there is g here p.courses;
    holds = held.steps n s l e v w there is g here p.holds;
    counts = does_counts p.wrote c roles lines (n + 1) s e v w here (p.courses.course.places s (Running v) here).0 (step_forms (DeedsOf w.trace s) s c (links_of w s) v e (p.courses.good.views s v here) (p.courses.course.places s (Running v) here).2 (comes_own e (own_given w l s e g))).told
        (λ past. event_fact c lines (n + 1) s l e v w fit is g here) p.holds (begun c lines n l w there is (gives_leaves w l s e g) p);
  };
  cutting = λ n one other w there is cut p. record { wrote = p.wrote; courses = on.cutting n one other w there is cut p.courses; holds = held.cutting n one other w there is cut p.holds; counts = same_counts p.wrote c lines (n + 1) w w.underway w.lost (cuts_circuit one other w).circuits (begun c lines n (line.Down one other) w there is (λ s d. refl) p) };
  mending = λ n one other w there is cut p. record { wrote = p.wrote; courses = on.mending n one other w there is cut p.courses; holds = held.mending n one other w there is cut p.holds; counts = same_counts p.wrote c lines (n + 1) w w.underway w.lost (mends_circuit one other w).circuits (begun c lines n (line.Up one other) w there is (λ s d. refl) p) };
  arming = λ n l a w there is so p. record { wrote = p.wrote; courses = on.arming n l a w there is so p.courses; holds = held.arming n l a w there is so p.holds; counts = arm_counts p.wrote c lines n l a w (last_within n w.trace p.courses.course.ascends) there is so p.counts };
  pending = λ n w there is p. record { wrote = p.wrote; courses = on.pending n w there is p.courses; holds = held.pending n w there is p.holds; counts = says_counts p.wrote c lines (n + 1) (map packet_record w.underway) w (every_map NoDisk packet_record w.underway (λ (x : Numbered). tt)) (begun c lines n line.Pending w there is (λ s d. refl) p) };
  stopping = λ n s v w there is here p. record { wrote = p.wrote; courses = on.stopping n s v w there is here p.courses; holds = held.stopping n s v w there is here p.holds; counts = asked_counts p.wrote c lines (n + 1) s v w here (p.courses.course.places s (Running v) here).0 (begun c lines n (line.Stop s) w there is (λ t d. refl) p) };
  booting = λ n s d w there is here p. record { wrote = p.wrote; courses = on.booting n s d w there is here p.courses; holds = held.booting n s d w there is here p.holds; counts = boot_counts_as p.wrote c lines (n + 1) s d w here (p.courses.course.places s (Stopped d) here).0 (begun c lines n (line.Boot s) w there is (λ t x. refl) p) };
}
  where
    on : KeptIn c lines (Courses c lines)
    on = courses_kept c lines

    held : KeptIn c lines (λ n w. Holds c w)
    held = kept c lines fit roles (stays c)

-- ---- the first world ----

-- nothing was written
pub first_counted : (c : Config) (lines : List ScheduleLine) → RolesDo c → Counted c lines 0 (first_world c)
first_counted c lines roles = record { wrote = λ k. []; courses = first_courses c lines; holds = first_holds c roles; counts = first_counts (λ k. []) c lines }

-- ---- every run ----

pub run_counted : (c : Config) (lines : List ScheduleLine) → LinesFit c lines → RolesDo c → IsRest c (run_in c lines).trace → EachRecord (IsCountedRow c lines) (trace_of (run_in c lines))
run_counted c lines fit roles r = let p : Counted c lines (length lines) (run_in c lines) = every_line c lines (Counted c lines) (counts_kept c lines fit roles) (first_counted c lines roles) in (p.counts r).rows
