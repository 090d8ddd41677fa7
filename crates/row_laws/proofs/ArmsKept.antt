-- Armed disks in every run.
use Rattle.std.proofs.Common.{◌≡◌, ◌≢◌, ◌≤◌, ◌<◌, ℕ, ◌+◌, ◌*◌, Bool, true, false, cond, List, [], ◌∷◌, length, map, Some, refl, sym, ◌∙◌, ap, subst, arith}
use Rattle.role_steps.proofs.of_plain_facts.Numbers.{apart_test, equal_self}
use Rattle.role_steps.proofs.of_plain_facts.Tests.{false_true}
use Rattle.locus_ids.specs.declared.config.Config.{Config}
use Rattle.schedule_lines.specs.declared.line.Line.{Line as LineWords}
use Rattle.schedule_lines.specs.declared.line.Line.TheVariants as line
use Rattle.schedule_lines.specs.declared.line.Leave.{Leave}
use Rattle.schedule_lines.specs.declared.line.ScheduleLine.{ScheduleLine}
use Rattle.schedule_lines.specs.declared.line.ScheduleLine.TheVariants.{Event as EventLine}
use Rattle.trace_book.specs.declared.record.Record.TheVariants as says
use Rattle.trace_book.specs.declared.record.StopCause.TheVariants as cause
use Rattle.role_steps.specs.Tables.{row}
use Rattle.role_steps.specs.Views.{Shown, Event, Receives, Ticks}
use Rattle.role_steps.proofs.Sending.{every_map}
use Rattle.site_laws.specs.of_the_run.Disks.{Armed as Script, Stops as Stopping, Fails as Failing}
use Rattle.site_laws.specs.of_the_run.Steps.{step}
use Rattle.site_laws.specs.of_the_run.Worlds.{World, Running, Numbered, Line, armed_site, script_of, links_of, passed, arms, disk_of, first_world}
use Rattle.site_laws.specs.of_the_run.Runs.{packet_record, run_in}
use Rattle.site_laws.specs.of_run_laws.Naming.{DeedsOf}
use Rattle.site_laws.proofs.Vectors.SiteDisks.{step_disk}
use Rattle.lawful_trace.specs.Places.{line_at}
use Rattle.lawful_trace.specs.Disks.{Stops, Fails, Disk, armed_by, newly_armed, armed_at, keeps_calls}
use Rattle.row_laws.specs.Shown.{shown, trace_of, EachRecord}
use Rattle.row_laws.specs.Events.{causes_of}
use Rattle.row_laws.specs.ByLine.{IsLine, begins_quietly, IsVoidIn, Gives, ArmsAs, KeptIn}
use Rattle.row_laws.specs.Rows.{IsArmedFor}
use Rattle.row_laws.specs.Arms.{NoDisk, ArmedAs, Rises, ArmsInCourse}
use Rattle.row_laws.proofs.StepForms.{step_forms}
use Rattle.row_laws.proofs.AskedRun.{own_given, Courses, courses_kept, first_courses, last_within}
use Rattle.row_laws.proofs.Causes.{comes_own, sent_polls}
use Rattle.row_laws.proofs.Versions.{still_arms}
use Rattle.row_laws.proofs.ArmsRun.{stop_arms, acts_arms, boot_arms, ArmsNone, next_arms, line_arms}
use Rattle.row_laws.proofs.ByLine.{every_line}

pub record Armed (c : Config) (lines : List ScheduleLine) (n : ℕ) (w : World) : Type 0 where
  pub courses : Courses c lines n w
  pub arms : ArmsInCourse c lines n w

-- ---- lines that arm no disk ----

quiet_none : (l : ScheduleLine) → begins_quietly l ≡ true → ArmsNone l
quiet_none (EventLine (line.ArmStop site calls left)) e = absurd (false_true e)
quiet_none (EventLine (line.ArmFail site calls)) e = absurd (false_true e)
quiet_none _ e = tt

void_none : (w : World) (l : LineWords) → IsVoidIn w l → ArmsNone (EventLine l)
void_none w (line.ArmStop site calls left) v = absurd v
void_none w (line.ArmFail site calls) v = absurd v
void_none w _ v = tt

gives_none : (w : World) (l : LineWords) (s : ℕ) (e : Event) → Gives w l s e → ArmsNone (EventLine l)
gives_none w (line.ArmStop site calls left) s e g = absurd g
gives_none w (line.ArmFail site calls) s e g = absurd g
gives_none w _ s e g = tt

here_none : (lines : List ScheduleLine) (n : ℕ) (l : LineWords) → IsLine lines n l → ArmsNone (EventLine l) → ArmsNone (line_at lines n)
here_none lines n l is h = subst ArmsNone (sym is) h

-- the world after lines that arm none
begun_arms : (c : Config) (lines : List ScheduleLine) (n : ℕ) (l : LineWords) (w : World) → n < length lines → IsLine lines (n + 1) l → ArmsNone (EventLine l) → Armed c lines n w → ArmsInCourse c lines (n + 1) w
begun_arms c lines n l w there is none p = next_arms c lines n w (last_within n w.trace p.courses.course.ascends) there (here_none lines (n + 1) l is none) p.arms

same_arms : (c : Config) (lines : List ScheduleLine) (n : ℕ) (w u : World) → u.armed ≡ w.armed → u.trace ≡ w.trace → ArmsInCourse c lines n w → ArmsInCourse c lines n u
same_arms c lines n w u e f h = record {
  rises = subst Rises (sym e) h.rises;
  armed = λ s. subst (λ (xs : List Script). ArmedAs (armed_at c lines (trace_of u) n s) (row armed_site s xs)) (sym e) (subst (λ (t : List Line). ArmedAs (armed_at c lines (shown t) n s) (script_of w s)) (sym f) (h.armed s));
  rows = subst (λ (t : List Line). EachRecord (IsArmedFor c lines) (shown t)) (sym f) h.rows;
  calls = subst (λ (t : List Line). keeps_calls c lines (shown t) ≡ true) (sym f) h.calls;
}

-- ---- a line that arms a disk ----

all_left : (calls : ℕ) → 4 * 0 + calls ≤ calls
all_left calls = omega arith

stop_mine : (site calls : ℕ) (left : Leave) (d : Disk) → ArmedAs (armed_by site (EventLine (line.ArmStop site calls left)) d).armed (Some (record { site = site; left = calls; how = Stopping left }))
stop_mine site calls left d = subst (λ (b : Bool). ArmedAs (cond b (record d { armed = newly_armed (Stops calls left) }) d).armed (Some (record { site = site; left = calls; how = Stopping left }))) (sym (equal_self site)) (tt, all_left calls)

fail_mine : (site calls : ℕ) (d : Disk) → ArmedAs (armed_by site (EventLine (line.ArmFail site calls)) d).armed (Some (record { site = site; left = calls; how = Failing }))
fail_mine site calls d = subst (λ (b : Bool). ArmedAs (cond b (record d { armed = newly_armed (Fails calls) }) d).armed (Some (record { site = site; left = calls; how = Failing }))) (sym (equal_self site)) (tt, all_left calls)

stop_others : (site calls : ℕ) (left : Leave) (t : ℕ) (d : Disk) → site ≢ t → armed_by t (EventLine (line.ArmStop site calls left)) d ≡ d
stop_others site calls left t d ne = ap (λ (b : Bool). cond b (record d { armed = newly_armed (Stops calls left) }) d) (apart_test site t ne)

fail_others : (site calls t : ℕ) (d : Disk) → site ≢ t → armed_by t (EventLine (line.ArmFail site calls)) d ≡ d
fail_others site calls t d ne = ap (λ (b : Bool). cond b (record d { armed = newly_armed (Fails calls) }) d) (apart_test site t ne)

arming_line : (c : Config) (lines : List ScheduleLine) (n : ℕ) (l : LineWords) (a : Script) (w : World) → n < length lines → IsLine lines (n + 1) l → ArmsAs l a → Armed c lines n w → ArmsInCourse c lines (n + 1) (arms a w)
arming_line c lines n (line.ArmStop site calls left) a w there is so p =
    line_arms c lines n a w (last_within n w.trace p.courses.course.ascends) there
    (λ d. subst (λ (x : Script). ArmedAs (armed_by (armed_site x) (line_at lines (n + 1)) d).armed (Some x)) (sym so) (subst (λ (l : ScheduleLine). ArmedAs (armed_by site l d).armed (Some (record { site = site; left = calls; how = Stopping left }))) (sym is) (stop_mine site calls left d)))
    (λ t d ne. ap (λ (l : ScheduleLine). armed_by t l d) is ∙ stop_others site calls left t d (subst (λ (x : Script). armed_site x ≢ t) so ne)) p.arms
arming_line c lines n (line.ArmFail site calls) a w there is so p =
    line_arms c lines n a w (last_within n w.trace p.courses.course.ascends) there
    (λ d. subst (λ (x : Script). ArmedAs (armed_by (armed_site x) (line_at lines (n + 1)) d).armed (Some x)) (sym so) (subst (λ (l : ScheduleLine). ArmedAs (armed_by site l d).armed (Some (record { site = site; left = calls; how = Failing }))) (sym is) (fail_mine site calls d)))
    (λ t d ne. ap (λ (l : ScheduleLine). armed_by t l d) is ∙ fail_others site calls t d (subst (λ (x : Script). armed_site x ≢ t) so ne)) p.arms
arming_line c lines n (line.Call site process words) a w there is so p = absurd so
arming_line c lines n (line.Deliver packet) a w there is so p = absurd so
arming_line c lines n (line.Lose packet) a w there is so p = absurd so
arming_line c lines n (line.Tick site) a w there is so p = absurd so
arming_line c lines n (line.Down one other) a w there is so p = absurd so
arming_line c lines n (line.Up one other) a w there is so p = absurd so
arming_line c lines n (line.Part site) a w there is so p = absurd so
arming_line c lines n (line.Merge site) a w there is so p = absurd so
arming_line c lines n (line.GiveUp site) a w there is so p = absurd so
arming_line c lines n (line.Stop site) a w there is so p = absurd so
arming_line c lines n (line.Boot site) a w there is so p = absurd so
arming_line c lines n (line.Settle most) a w there is so p = absurd so
arming_line c lines n line.Pending a w there is so p = absurd so

-- ---- every event and change ----

arms_kept : (c : Config) (lines : List ScheduleLine) → KeptIn c lines (Armed c lines)
arms_kept c lines = record {
  begins = λ n w there quiet p. record { courses = kept.begins n w there quiet p.courses; arms = next_arms c lines n w (last_within n w.trace p.courses.course.ascends) there (quiet_none (line_at lines (n + 1)) quiet) p.arms };
  ticks = λ n most s v w is here p. record {
    courses = kept.ticks n most s v w is here p.courses;
    arms = acts_arms c lines n s (causes_of s (links_of w s) v Ticks) v (step c s (links_of w s) v Ticks) w (step_forms (DeedsOf w.trace s) s c (links_of w s) v Ticks (p.courses.good.views s v here) (p.courses.course.places s (Running v) here).2 tt).told (step_disk c s (links_of w s) v Ticks) p.arms;
  };
  receives = λ n l x v w is d here sent p. record {
    courses = kept.receives n l x v w is d here sent p.courses;
    arms = acts_arms c lines n x.packet.to (causes_of x.packet.to (links_of w x.packet.to) v (Receives x.packet)) v (step c x.packet.to (links_of (passed x.number w) x.packet.to) v (Receives x.packet)) (passed x.number w)
        (step_forms (DeedsOf w.trace x.packet.to) x.packet.to c (links_of (passed x.number w) x.packet.to) v (Receives x.packet) (p.courses.good.views x.packet.to v here) (p.courses.course.places x.packet.to (Running v) here).2 (sent_polls c lines n w x sent p.courses.course)).told
        (step_disk c x.packet.to (links_of (passed x.number w) x.packet.to) v (Receives x.packet)) (same_arms c lines n w (passed x.number w) refl refl p.arms);
  };
  passes = λ n k w p. record { courses = kept.passes n k w p.courses; arms = same_arms c lines n w _ refl refl p.arms };
  drops = λ n k w p. record { courses = kept.drops n k w p.courses; arms = same_arms c lines n w _ refl refl p.arms };
  budgets = λ n most w is p. record { courses = kept.budgets n most w is p.courses; arms = still_arms c lines n [] (Shown says.Budget ∷ []) (λ now. now) w refl (tt, tt) p.arms };
  voiding = λ n l w there is void p. record { courses = kept.voiding n l w there is void p.courses; arms = still_arms c lines (n + 1) [] (Shown says.Void ∷ []) (λ now. now) w refl (tt, tt) (begun_arms c lines n l w there is (void_none w l void) p) };
  steps = λ n s l e v w there is g here p. record {
    courses = kept.steps n s l e v w there is g here p.courses;
    arms = acts_arms c lines (n + 1) s (causes_of s (links_of w s) v e) v (step c s (links_of w s) v e) w (step_forms (DeedsOf w.trace s) s c (links_of w s) v e (p.courses.good.views s v here) (p.courses.course.places s (Running v) here).2 (comes_own e (own_given w l s e g))).told (step_disk c s (links_of w s) v e) (begun_arms c lines n l w there is (gives_none w l s e g) p);
  };
  cutting = λ n one other w there is cut p. record { courses = kept.cutting n one other w there is cut p.courses; arms = same_arms c lines (n + 1) w _ refl refl (begun_arms c lines n (line.Down one other) w there is tt p) };
  mending = λ n one other w there is cut p. record { courses = kept.mending n one other w there is cut p.courses; arms = same_arms c lines (n + 1) w _ refl refl (begun_arms c lines n (line.Up one other) w there is tt p) };
  arming = λ n l a w there is so p. record { courses = kept.arming n l a w there is so p.courses; arms = arming_line c lines n l a w there is so p };
  pending = λ n w there is p. record { courses = kept.pending n w there is p.courses; arms = still_arms c lines (n + 1) [] (map packet_record w.underway) (λ now. now) w refl (every_map NoDisk packet_record w.underway (λ (x : Numbered). tt)) (begun_arms c lines n line.Pending w there is tt p) };
  stopping = λ n s v w there is here p. record { courses = kept.stopping n s v w there is here p.courses; arms = stop_arms c lines (n + 1) s cause.Asked (disk_of v) w tt (begun_arms c lines n (line.Stop s) w there is tt p) };
  booting = λ n s d w there is here p. record { courses = kept.booting n s d w there is here p.courses; arms = boot_arms c lines (n + 1) s d w (begun_arms c lines n (line.Boot s) w there is tt p) };
}
  where
    kept : KeptIn c lines (Courses c lines)
    kept = courses_kept c lines

first_arms : (c : Config) (lines : List ScheduleLine) → Armed c lines 0 (first_world c)
first_arms c lines = record { courses = first_courses c lines; arms = record { rises = tt; armed = λ s. tt; rows = tt; calls = refl } }

run_arms : (c : Config) (lines : List ScheduleLine) → Armed c lines (length lines) (run_in c lines)
run_arms c lines = every_line c lines (Armed c lines) (arms_kept c lines) (first_arms c lines)

pub run_armed_for : (c : Config) (lines : List ScheduleLine) → EachRecord (IsArmedFor c lines) (trace_of (run_in c lines))
run_armed_for c lines = let p : Armed c lines (length lines) (run_in c lines) = run_arms c lines in p.arms.rows

pub run_keeps_calls : (c : Config) (lines : List ScheduleLine) → keeps_calls c lines (trace_of (run_in c lines)) ≡ true
run_keeps_calls c lines = let p : Armed c lines (length lines) (run_in c lines) = run_arms c lines in p.arms.calls
