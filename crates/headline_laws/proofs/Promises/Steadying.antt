-- A round that starts calm is a calm round by its records.
use Rattle.std.proofs.Common.{◌≡◌, ℕ, zero, suc, ◌-◌, ◌==◌, not, ◌&&◌, ◌||◌, Bool, true, false, List, [], ◌∷◌, ◌++◌, length, take, Some, refl, sym, ◌∙◌, ap, subst, append_assoc, arith}
use Rattle.role_steps.proofs.of_plain_facts.Numbers.{apart as apart_numbers}
use Rattle.role_steps.proofs.of_plain_facts.Tests.{and_true}
use Rattle.locus_ids.specs.declared.config.Config.{Config}
use Rattle.locus_ids.specs.declared.ids.EpochId.{EpochId}
use Rattle.locus_ids.specs.declared.sites.Members.{Members}
use Rattle.schedule_lines.specs.Cluster.{config_of}
use Rattle.schedule_lines.specs.Schedule.{AreInOrder}
use Rattle.schedule_lines.specs.declared.line.Line.TheVariants as line
use Rattle.schedule_lines.specs.declared.line.ScheduleLine.{ScheduleLine}
use Rattle.schedule_lines.specs.declared.line.ScheduleLine.TheVariants.{Event as EventLine}
use Rattle.role_steps.specs.Epochs.{frame_in}
use Rattle.role_steps.specs.Own.{Every}
use Rattle.role_steps.specs.Views.{SiteView, all_sites}
use Rattle.role_steps.specs.Views as views
use Rattle.role_steps.specs.declared.rounds.InEpoch.{InEpoch}
use Rattle.the_run.specs.Runs.{acts_line, ticks_to, run, run_in}
use Rattle.the_run.specs.Worlds.{World, Running}
use Rattle.the_run.proofs.Runs.{every_run}
use Rattle.tree_model.specs.Epochs.{boot_of, epoch_of, has_joined, is_up, members_of}
use Rattle.tree_model.specs.Folds.{Trace, before_line}
use Rattle.tree_model.specs.Packs.{boot_in, is_member}
use Rattle.lawful_trace.specs.Calm as told
use Rattle.lawful_trace.specs.Places.{line_at, lines_before, reaches, through_line}
use Rattle.lawful_trace.specs.Places as lawful
use Rattle.row_laws.specs.Shown.{trace_of}
use Rattle.row_laws.specs.Voids.{LinesFit}
use Rattle.row_laws.proofs.Fitting.{schedule_fits}
use Rattle.row_laws.specs.Orderly.Calm.{IsInside, AreTogether, delivered}
use Rattle.row_laws.proofs.Orderly.CalmRounds.{rounds_stay_calm}
use Rattle.tree_laws.specs.Following.{RowsAreLawful}
use Rattle.tree_laws.specs.Printed.{entries}
use Rattle.tree_laws.proofs.Rows.{followed_rows}
use Rattle.calm_laws.specs.of_store_laws.OneTree.Places.{InsideFact, SiteIn, WorldFact}
use Rattle.calm_laws.specs.of_store_laws.OneTree.Rest.{IsRest}
use Rattle.calm_laws.proofs.of_store_laws.OneTree.Run.{run_holds}
use Rattle.calm_laws.proofs.of_store_laws.OneTree.Staying.{stays}
use Rattle.rest_laws.proofs.Packs.{schedule_packs}
use Rattle.rest_laws.proofs.Resting.{run_low, run_rests}
use Rattle.rest_laws.proofs.Roles.{roles_do}
use Rattle.rest_laws.proofs.Shown.{shown_entries}
use Rattle.rest_laws.proofs.StoreStepResting.{op_rests}
use Rattle.calm_laws.specs.Carrying.{IsMember}
use Rattle.calm_laws.specs.of_row_laws.OrderlyRows.Fits.{FitsCluster}
use Rattle.calm_laws.proofs.Limits.{take_fit}
use Rattle.calm_laws.proofs.Placed.{Stands, stands_kept, first_stands}
use Rattle.calm_laws.proofs.Together.{together_in}
use Rattle.calm_laws.proofs.Twins.{first_twin}
use Rattle.calm_laws.proofs.of_row_laws.OrderlyRows.Circuits.{cut_is, take_fits}
use Rattle.calm_laws.proofs.of_row_laws.OrderlyRows.Forms.{order_fits}
use Rattle.calm_laws.proofs.of_row_laws.OrderlyRows.Spans.{world, next_world, one_more, before_at}
use Rattle.calm_laws.proofs.Convergence.TracePlayed.{member_of_list}
use Rattle.headline_laws.proofs.WholeRuns.Rounds.{large_rounds}
use Rattle.headline_laws.specs.Promises.Steady.{SteadyRoundsAreCalm, TogetherIsTold}
use Rattle.headline_laws.proofs.Promises.RunsHold.{few_groups}
use Rattle.headline_laws.proofs.Promises.Staying.{IsSteady, joined_later, still_inside, steady_now}

-- ---- one world ----

boots_same : (members : Members) (s : ℕ) → views.boot_in members.boot s ≡ boot_in members s
boots_same members zero = refl
boots_same members (suc p) = refl

-- what the records tell of a member
pub record MemberTold (c : Config) (t : Trace) (e : EpochId) (members : Members) (s : ℕ) : Type 0 where
  pub up : is_up c t s ≡ true
  pub boot : boot_of t s ≡ boot_in members s
  pub inside : epoch_of t s ≡ Some e
  pub listed : members_of t e ≡ Some members
  pub joined : has_joined t s e ≡ true

-- the run of lines that fit the cluster
pub record Fitting (c : Config) (lines : List ScheduleLine) : Type 0 where
  pub fact : WorldFact c (run_in c lines)
  pub rest : IsRest c (run_in c lines).trace
  pub fits : Every (FitsCluster c.sites) lines

pub fitting : (lines : List ScheduleLine) → AreInOrder lines → (k : ℕ) → Fitting (config_of lines) (take k lines)
fitting lines order k = record {
  fact = run_holds c (take k lines) fit (roles_do c (few_groups lines)) (stays c) rest;
  rest = rest;
  fits = take_fits c.sites lines k (order_fits lines order);
}
  where
    c : Config
    c = config_of lines

    fit : LinesFit c (take k lines)
    fit = take_fit c lines k (schedule_fits lines order)

    rest : IsRest c (run_in c (take k lines)).trace
    rest = run_rests c (take k lines) fit (schedule_packs lines order) (run_low c (take k lines))

module _ (c : Config) (lines : List ScheduleLine) (f : Fitting c lines) (e : EpochId) (members : Members) where
  abbrev epoch : InEpoch
  epoch = record { id = e; members = members }

  member_told : (s : ℕ) → IsInside (run_in c lines) (record { id = e; members = members }) s → MemberTold c (trace_of (run_in c lines)) e members s
  member_told s i = subst (λ (t : Trace). MemberTold c t e members s) (sym (shown_entries (run_in c lines).trace)) (by_frame (subst (λ o. SiteIn c s (run_in c lines).trace i.view o) i.epoch (f.fact.places s (Running i.view) i.here)))
    where
      by_frame : InsideFact c (frame_in c s i.view.boot (record { id = e; members = members })) (run_in c lines).trace i.view → MemberTold c (entries (run_in c lines).trace) e members s
      by_frame g = record {
        up = g.frame.up;
        boot = sym g.frame.boot_is ∙ (i.boot ∙ boots_same members s);
        inside = g.frame.inside;
        listed = g.frame.members_are;
        joined = (op_rests c (run_in c lines).trace (record { followed = f.fact.followed; rest = f.rest })).joined e s g.frame.inside;
      }

  member : (s : ℕ) → is_member members s ≡ true → IsMember (record { id = e; members = members }) s
  member s m = member_of_list e members s m

  -- members reach each other by the lines so far, while they are up
  pub reach_told : AreTogether (run_in c lines) (record { id = e; members = members }) → (now : Trace) (s t : ℕ) → is_member members s ≡ true → is_member members t ≡ true → is_up c now s ≡ true → is_up c now t ≡ true → reaches c lines now s t ≡ true
  reach_told h now s t m k up there = and_true (is_up c now s && is_up c now t) ((s == t) || not (lawful.is_cut lines s t)) (and_true (is_up c now s) (is_up c now t) up there) (by_same (s == t) refl)
    where
      by_same : (b : Bool) → (s == t) ≡ b → (b || not (lawful.is_cut lines s t)) ≡ true
      by_same true q = refl
      by_same false q = ap not (sym (cut_is c lines f.fits s t) ∙ h.connected s t (member s m) (member t k) (λ z. apart_numbers s t q z))

  pub all_told : AreTogether (run_in c lines) (record { id = e; members = members }) → (s : ℕ) → is_member members s ≡ true → MemberTold c (trace_of (run_in c lines)) e members s
  all_told h s m = member_told s (h.inside s (member s m))

  pub together_told : AreTogether (run_in c lines) (record { id = e; members = members }) → told.AreTogether c lines (trace_of (run_in c lines)) e members
  together_told h = record {
    up = λ s m. (all_told h s m).up;
    boots = λ s m. (all_told h s m).boot;
    inside = λ s m. (all_told h s m).inside;
    reach = λ s t m k. reach_told h (trace_of (run_in c lines)) s t m k (all_told h s m).up (all_told h t k).up;
  }

  pub together_meant : members_of (trace_of (run_in c lines)) e ≡ Some members → told.AreTogether c lines (trace_of (run_in c lines)) e members → AreTogether (run_in c lines) (record { id = e; members = members })
  together_meant listed h = together_in c lines [] (run_in c lines) e members f.fits (first_twin c lines) (every_run c Stands (stands_kept c) (first_stands c) lines) refl listed h

take_all : (lines : List ScheduleLine) → take (length lines) lines ≡ lines
take_all [] = refl
take_all (x ∷ xs) = ap (λ (ls : List ScheduleLine). x ∷ ls) (take_all xs)

pub together_is_told : (lines : List ScheduleLine) → AreInOrder lines → TogetherIsTold lines
together_is_told lines order = record {
  told = λ s e members m h. ((all_told c lines f e members h s m).listed, together_told c lines f e members h);
  meant = λ e members listed h. together_meant c lines f e members listed h;
}
  where
    c : Config
    c = config_of lines

    f : Fitting c lines
    f = subst (Fitting c) (take_all lines) (fitting lines order (length lines))

-- ---- a round ----

module _ (c : Config) (e : EpochId) (members : Members) (first : List ScheduleLine) (f : Fitting c first) (start : AreTogether (run_in c first) (record { id = e; members = members })) (last : List ScheduleLine) (l : Fitting c last) (end : AreTogether (run_in c last) (record { id = e; members = members })) where
  rows : RowsAreLawful c (trace_of (run_in c last))
  rows = subst (RowsAreLawful c) (sym (shown_entries (run_in c last).trace)) (followed_rows c (run_in c last).trace l.fact.followed)

  -- at a moment between two worlds in which the members are together they are so
  pub between : (so_far later : Trace) → trace_of (run_in c last) ≡ later ++ (so_far ++ trace_of (run_in c first)) → told.AreTogether c first (so_far ++ trace_of (run_in c first)) e members
  between so_far later ends = record {
    up = λ s m. (steady s m).up;
    boots = λ s m. (steady s m).boot ∙ (all_told c first f e members start s m).boot;
    inside = λ s m. inside s m [] so_far refl;
    reach = λ s t m k. reach_told c first f e members start (so_far ++ trace_of (run_in c first)) s t m k (steady s m).up (steady t k).up;
  }
    where
      split : (old new : Trace) → so_far ≡ old ++ new → trace_of (run_in c last) ≡ (later ++ old) ++ (new ++ trace_of (run_in c first))
      split old new is = ends ∙ (ap (λ (t : Trace). later ++ (t ++ trace_of (run_in c first))) is ∙ (ap (λ (t : Trace). later ++ t) (append_assoc old new (trace_of (run_in c first))) ∙ sym (append_assoc later old (new ++ trace_of (run_in c first)))))

      inside : (s : ℕ) → is_member members s ≡ true → (old new : Trace) → so_far ≡ old ++ new → epoch_of (new ++ trace_of (run_in c first)) s ≡ Some e
      inside s m old new is = still_inside c e s (later ++ old) (new ++ trace_of (run_in c first)) (subst (RowsAreLawful c) (split old new is) rows)
          (joined_later c e s new (trace_of (run_in c first)) (all_told c first f e members start s m).joined)
          (ap (λ (t : Trace). epoch_of t s) (sym (split old new is)) ∙ (all_told c last l e members end s m).inside)

      steady : (s : ℕ) → is_member members s ≡ true → IsSteady c e s (trace_of (run_in c first)) (so_far ++ trace_of (run_in c first))
      steady s m = steady_now c e s (trace_of (run_in c first)) so_far (all_told c first f e members start s m).up (λ old new is. inside s m old new is)

pub steady_rounds : (lines : List ScheduleLine) → AreInOrder lines → SteadyRoundsAreCalm lines
steady_rounds lines order zero most s e members is le m start = absurd (let q : _ ≡ _ = is in cc)
steady_rounds lines order (suc k) most s e members is le m start = record {
  most = most;
  settles = is;
  ended = large_rounds c lines (suc k) most is le;
  listed = ap (λ (t : Trace). members_of t e) begins ∙ (all_told c first before e members start.together s m).listed;
  together = λ now moment. subst (λ (t : Trace). told.AreTogether c first t e members) (sym (moment.begun ∙ ap (λ (t : Trace). moment.so_far ++ t) begins))
      (between c e members first before start.together (take (suc k) lines) (fitting lines order (suc k)) end moment.so_far moment.later
      (sym ends ∙ (moment.ends ∙ ap (λ (t : Trace). moment.later ++ t) (moment.begun ∙ ap (λ (t : Trace). moment.so_far ++ t) begins))));
}
  where
    c : Config
    c = config_of lines

    first : List ScheduleLine
    first = lines_before lines (suc k)

    before : Fitting c first
    before = fitting lines order (suc k - 1)

    first_is : run_in c first ≡ world c lines k
    first_is = ap (λ (j : ℕ). run_in c (take j lines)) {x = suc k - 1} {y = k} (omega arith)

    begins : before_line (trace_of (run lines)) (suc k) ≡ trace_of (run_in c first)
    begins = before_at c lines k ∙ ap trace_of (sym first_is)

    ends : through_line (trace_of (run lines)) (suc k) ≡ trace_of (run_in c (take (suc k) lines))
    ends = ap (before_line (trace_of (run lines))) (one_more (suc k)) ∙ before_at c lines (suc k)

    last_is : run_in c (take (suc k) lines) ≡ delivered c (suc k) most (ticks_to c (suc k) all_sites (run_in c first))
    last_is = next_world c lines k ∙ (ap (λ (x : ScheduleLine). acts_line c (suc k) x (world c lines k)) is ∙ (ap (λ (w : World). acts_line c (suc k) (EventLine (line.Settle most)) w) (sym first_is) ∙ (rounds_stay_calm c first (record { id = e; members = members }) (suc k) most start le).2))

    end : AreTogether (run_in c (take (suc k) lines)) (record { id = e; members = members })
    end = subst (λ (w : World). AreTogether w (record { id = e; members = members })) (sym last_is) ((rounds_stay_calm c first (record { id = e; members = members }) (suc k) most start le).1 most)
