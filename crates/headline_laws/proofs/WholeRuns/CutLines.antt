-- The counts of disks where a line begins, where it arms a disk, and in the first world.
use Rattle.std.proofs.Common.{◌≡◌, ◌≢◌, ◌≤◌, ◌<◌, ℕ, ◌+◌, Bool, false, cond, List, length, Option, None, Some, refl, sym, ◌∙◌, ap, subst, arith}
use Rattle.role_steps.proofs.of_plain_facts.Numbers.{apart_test, equal_self}
use Rattle.locus_ids.specs.declared.config.Config.{Config}
use Rattle.schedule_lines.specs.declared.line.Line.{Line as LineWords}
use Rattle.schedule_lines.specs.declared.line.Line.TheVariants as line
use Rattle.schedule_lines.specs.declared.line.ScheduleLine.{ScheduleLine}
use Rattle.schedule_lines.specs.declared.line.ScheduleLine.TheVariants.{Event as EventLine}
use Rattle.tree_model.specs.Folds.{last_line}
use Rattle.the_run.specs.Disks.{Armed as Script}
use Rattle.the_run.specs.Worlds.{World, Place, Running, Stopped, place_at, script_of, arms, first_world}
use Rattle.the_run.proofs.Boots.{at_each}
use Rattle.lawful_trace.specs.Places.{line_at}
use Rattle.lawful_trace.specs.Disks.{Arming, Armed, Stops, Fails, calls_of, first_disk, armed_by, newly_armed}
use Rattle.lawful_trace.specs.Disks as lawful
use Rattle.row_laws.specs.Shown.{trace_of}
use Rattle.row_laws.specs.ByLine.{IsLine, ArmsAs}
use Rattle.row_laws.proofs.Scripts.{rises_with, armed_here, armed_other}
use Rattle.row_laws.proofs.ArmsRun.{disk_next as lawful_next}
use Rattle.run_laws.proofs.Walks.FirstWorld.{first_places}
use Rattle.headline_laws.specs.WholeRuns.Wrote.{Disk, disk_at}
use Rattle.headline_laws.specs.WholeRuns.CutCounts.{SameArming, GatesAs, CountsAt, CountsAreTheRuns, IsLeast, is_stopped}
use Rattle.headline_laws.proofs.WholeRuns.CutDisks.{disk_next, line_least}
use Rattle.headline_laws.proofs.WholeRuns.CutTraced.{LeavesDisks}
use Rattle.headline_laws.proofs.WholeRuns.CutEvents.{Counts}

record ArmedBy (l : LineWords) (a : Script) : Type 0 where
  arming : Arming
  same : SameArming arming a.how
  calls : calls_of arming ≡ a.left
  here : (d : lawful.Disk) → armed_by a.site (EventLine l) d ≡ record d { armed = newly_armed arming }
  there : (t : ℕ) (d : lawful.Disk) → a.site ≢ t → armed_by t (EventLine l) d ≡ d

arms_by : (l : LineWords) (a : Script) → ArmsAs l a → ArmedBy l a
arms_by (line.ArmStop site calls left) a so = subst (ArmedBy (line.ArmStop site calls left)) (sym so) (record {
  arming = Stops calls left;
  same = refl;
  calls = refl;
  here = λ d. ap (λ (b : Bool). cond b (record d { armed = newly_armed (Stops calls left) }) d) (equal_self site);
  there = λ t d ne. ap (λ (b : Bool). cond b (record d { armed = newly_armed (Stops calls left) }) d) (apart_test site t ne);
})
arms_by (line.ArmFail site calls) a so = subst (ArmedBy (line.ArmFail site calls)) (sym so) (record {
  arming = Fails calls;
  same = tt;
  calls = refl;
  here = λ d. ap (λ (b : Bool). cond b (record d { armed = newly_armed (Fails calls) }) d) (equal_self site);
  there = λ t d ne. ap (λ (b : Bool). cond b (record d { armed = newly_armed (Fails calls) }) d) (apart_test site t ne);
})
arms_by _ a so = absurd so

-- how a disk is armed changes no gate
gates_of : (d : Disk) (o : Option Armed) (p : Option Place) → GatesAs d p → GatesAs (record d { rest = record d.rest { armed = o } }) p
gates_of d o None h = h
gates_of d o (Some (Running v)) h = h
gates_of d o (Some (Stopped x)) h = h

all_pass : (left calls : ℕ) → calls ≡ left → 0 + left ≡ calls
all_pass left calls e = omega (arith, e)

-- no gate is open, and nothing armed
first_gates : (c : Config) (s : ℕ) (o : Option Place) → place_at (first_world c) s ≡ o → GatesAs (record { rest = first_disk; slots = false }) o
first_gates c s None e = tt
first_gates c s (Some p) e = first_places c (λ t q. GatesAs (record { rest = first_disk; slots = false }) (Some q)) (λ t own. (refl, refl)) s p e

module _ (wrote : ℕ → List ℕ) (c : Config) (lines : List ScheduleLine) where
  -- ---- a line begins ----

  -- both disks are as the line leaves them
  begun_least : (n : ℕ) (w : World) → last_line (trace_of w) ≤ n → n < length lines → CountsAreTheRuns wrote c lines n w → (s : ℕ) → IsLeast (is_stopped (place_at w s)) (lawful.disk_at c lines (trace_of w) (n + 1) s) (disk_at wrote c lines (trace_of w) (n + 1) s)
  begun_least n w last there f s =
      subst (λ (x : lawful.Disk). IsLeast (is_stopped (place_at w s)) x (disk_at wrote c lines (trace_of w) (n + 1) s)) (sym (lawful_next c lines n s (trace_of w) last there))
      (subst (IsLeast (is_stopped (place_at w s)) (armed_by s (line_at lines (n + 1)) (lawful.disk_at c lines (trace_of w) n s))) (sym (disk_next wrote c lines n s (trace_of w) last there))
      (line_least (is_stopped (place_at w s)) s (line_at lines (n + 1)) (lawful.disk_at c lines (trace_of w) n s) (disk_at wrote c lines (trace_of w) n s) (f.least s)))

  pub next_counts : (n : ℕ) (w : World) → last_line (trace_of w) ≤ n → n < length lines → LeavesDisks (line_at lines (n + 1)) → Counts wrote c lines n w → Counts wrote c lines (n + 1) w
  next_counts n w last there none g r =
      let f : CountsAreTheRuns wrote c lines n w = g r in
      record {
        rises = f.rises;
        sites = λ s. subst (λ (d : Disk). CountsAt d (script_of w s) (place_at w s)) (sym (disk_next wrote c lines n s (trace_of w) last there ∙ ap (λ (x : lawful.Disk). record (disk_at wrote c lines (trace_of w) n s) { rest = x }) (none s (disk_at wrote c lines (trace_of w) n s).rest))) (f.sites s);
        least = begun_least n w last there f;
        rows = f.rows;
      }

  -- ---- it arms a disk ----

  pub arm_counts : (n : ℕ) (l : LineWords) (a : Script) (w : World) → last_line (trace_of w) ≤ n → n < length lines → IsLine lines (n + 1) l → ArmsAs l a → Counts wrote c lines n w → Counts wrote c lines (n + 1) (arms a w)
  arm_counts n l a w last there is so g r = record {
    rises = rises_with a w.armed f.rises;
    sites = λ t. at_each a.site t (CountsAt (disk_at wrote c lines (trace_of w) (n + 1) t) (script_of (arms a w) t) (place_at w t))
        (λ e. subst (λ (u : ℕ). CountsAt (disk_at wrote c lines (trace_of w) (n + 1) u) (script_of (arms a w) u) (place_at w u)) e (subst (λ (d : Disk). CountsAt d (script_of (arms a w) a.site) (place_at w a.site)) (sym (next a.site ∙ ap (λ (x : lawful.Disk). record old { rest = x }) (by.here old.rest)))
        (subst (λ (x : Option Script). CountsAt (record old { rest = record old.rest { armed = newly_armed by.arming } }) x (place_at w a.site)) (sym (armed_here a w)) (record { calls = (by.same, all_pass a.left (calls_of by.arming) by.calls); gates = gates a.site }))))
        (λ ne. subst (λ (d : Disk). CountsAt d (script_of (arms a w) t) (place_at w t)) (sym (next t ∙ ap (λ (x : lawful.Disk). record (disk_at wrote c lines (trace_of w) n t) { rest = x }) (by.there t (disk_at wrote c lines (trace_of w) n t).rest ne)))
        (subst (λ (x : Option Script). CountsAt (disk_at wrote c lines (trace_of w) n t) x (place_at w t)) (sym (armed_other a t w ne)) (f.sites t)));
    least = begun_least n w last there f;
    rows = f.rows;
  }
    where
      f : CountsAreTheRuns wrote c lines n w
      f = g r

      by : ArmedBy l a
      by = arms_by l a so

      old : Disk
      old = disk_at wrote c lines (trace_of w) n a.site

      gates : (s : ℕ) → GatesAs (record (disk_at wrote c lines (trace_of w) n s) { rest = record (disk_at wrote c lines (trace_of w) n s).rest { armed = newly_armed by.arming } }) (place_at w s)
      gates s = gates_of (disk_at wrote c lines (trace_of w) n s) (newly_armed by.arming) (place_at w s) (f.sites s).gates

      next : (s : ℕ) → disk_at wrote c lines (trace_of w) (n + 1) s ≡ record (disk_at wrote c lines (trace_of w) n s) { rest = armed_by s (EventLine l) (disk_at wrote c lines (trace_of w) n s).rest }
      next s = disk_next wrote c lines n s (trace_of w) last there ∙ ap (λ (x : ScheduleLine). record (disk_at wrote c lines (trace_of w) n s) { rest = armed_by s x (disk_at wrote c lines (trace_of w) n s).rest }) is

  -- ---- the first world ----

  pub first_counts : Counts wrote c lines 0 (first_world c)
  first_counts r = record {
    rises = tt;
    sites = λ s. record { calls = tt; gates = first_gates c s (place_at (first_world c) s) refl };
    least = λ s. record { armed = tt; halves = refl };
    rows = tt;
  }
