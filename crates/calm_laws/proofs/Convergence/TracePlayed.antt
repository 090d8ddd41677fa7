-- A round that the records of a run show as calm is so in the run, and its moments are moments of its line.
use Rattle.std.proofs.Common.{◌≡◌, ◌≢◌, ℕ, zero, suc, ◌+◌, ◌-◌, ◌≤◌, nat_lt, true, List, [], ◌∷◌, length, take, Some, None, refl, sym, ◌∙◌, ap, subst, arith, drop}
use Rattle.std.proofs.lemmas.Bool.Decides.{nat_tests}
use Rattle.std.specs.List.{list_any}
use Rattle.locus_ids.specs.declared.config.Config.{Config}
use Rattle.locus_ids.specs.declared.ids.EpochId.{EpochId}
use Rattle.locus_ids.specs.declared.sites.Members.{Members}
use Rattle.locus_ids.specs.Sizes.{sites_max}
use Rattle.schedule_lines.specs.Cluster.{config_of}
use Rattle.schedule_lines.specs.Schedule.{AreInOrder}
use Rattle.schedule_lines.specs.declared.line.Line.{Line as LineWords}
use Rattle.schedule_lines.specs.declared.line.Line.TheVariants as line
use Rattle.schedule_lines.specs.declared.line.ScheduleLine.{ScheduleLine}
use Rattle.schedule_lines.specs.declared.line.ScheduleLine.TheVariants.{Passed, Event as EventLine}
use Rattle.store_laws.proofs.OneTree.Worlds.{Holds}
use Rattle.std.proofs.lemmas.List.{take-append-drop}
use Rattle.role_steps.proofs.of_plain_facts.Tests.{true_false}
use Rattle.role_steps.specs.Own.{Every}
use Rattle.role_steps.specs.Views.{all_sites}
use Rattle.role_steps.specs.declared.rounds.InEpoch.{InEpoch}
use Rattle.tree_model.specs.Folds.{Trace, before_line}
use Rattle.tree_model.specs.Epochs.{members_of}
use Rattle.tree_model.specs.Packs.{boot_in, is_member}
use Rattle.lawful_trace.specs.Calm.{IsCalmRound, IsMoment, tells_budget}
use Rattle.lawful_trace.specs.Places.{lines_before, through_line}
use Rattle.the_run.specs.Kept.{Among}
use Rattle.the_run.specs.Runs.{next_packet, delivers, ticks_to, acts_line, run_in, run}
use Rattle.the_run.proofs.Runs.{every_run}
use Rattle.the_run.specs.Worlds.{World, Running, CutCircuit, is_between, Line}
use Rattle.row_laws.specs.Shown.{trace_of}
use Rattle.row_laws.specs.Voids.{LinesFit}
use Rattle.row_laws.proofs.Fitting.{schedule_fits, schedule_few}
use Rattle.row_laws.specs.Orderly.Calm.{IsInside, AreTogether, delivered, ticked}
use Rattle.row_laws.proofs.Orderly.Choosing.{among_sites}
use Rattle.row_laws.proofs.Orderly.Rounds.{ticks_kept}
use Rattle.row_laws.specs.OrderlyRows.Agreeing.{IsWithin}
use Rattle.row_laws.specs.OrderlyRows.Fits.{FitsCluster}
use Rattle.row_laws.proofs.OrderlyRows.Circuits.{take_fits, self_uncut}
use Rattle.row_laws.proofs.OrderlyRows.Forms.{order_fits}
use Rattle.row_laws.proofs.OrderlyRows.Placed.{place_within}
use Rattle.row_laws.proofs.OrderlyRows.Spans.{world, next_world, one_more, before_at}
use Rattle.store_laws.specs.OneTree.Places.{WorldFact}
use Rattle.store_laws.specs.OneTree.Rest.{IsRest, EachRest}
use Rattle.store_laws.specs.OneTree.Roles.{RolesDo}
use Rattle.store_laws.proofs.OneTree.Run.{run_holds}
use Rattle.store_laws.proofs.OneTree.Staying.{stays}
use Rattle.rest_laws.proofs.StoreStepFirst.{four_groups}
use Rattle.rest_laws.proofs.Packs.{schedule_packs}
use Rattle.rest_laws.proofs.Roles.{roles_do}
use Rattle.calm_laws.specs.Carrying.{IsMember}
use Rattle.calm_laws.specs.Rounds.{after, IsInRound, IsCalm}
use Rattle.calm_laws.proofs.Limits.{world_within, line_there, take_length, take_fit, before_any}
use Rattle.calm_laws.proofs.Moments.{GoesOn, goes_itself, goes_round_kept, moment_of, TellsNoBudget, no_budget, RunsOut, runs_out}
use Rattle.calm_laws.proofs.Placed.{Stands, stands_kept, first_stands}
use Rattle.calm_laws.proofs.Facts.{round_facts, holds_round}
use Rattle.calm_laws.proofs.Convergence.TraceTicked.{ticks_then, rest_earlier, together_by}
use Rattle.calm_laws.proofs.Rounds.{round_kept, in_round, delivered_kept, delivered_then}
use Rattle.calm_laws.proofs.Together.{together_in}
use Rattle.calm_laws.proofs.Twins.{twin, first_twin}

passed_event : (l : LineWords) → Passed ≡ EventLine l → ⊥
passed_event l e = cc

low_member : (e : InEpoch) (s : ℕ) → IsMember e s → 1 ≤ s
low_member e zero m = absurd (m refl)
low_member e (suc s) m = omega arith

pub member_of_list : (id : EpochId) (members : Members) (s : ℕ) → is_member members s ≡ true → IsMember (record { id = id; members = members }) s
member_of_list id members zero h = absurd (true_false (sym h))
member_of_list id members (suc s) h = some (boot_in members (suc s)) h
  where
    some : (n : ℕ) → nat_lt 0 n ≡ true → n ≢ 0
    some n k z = grind (arith, nat_tests)

-- ---- the round ----

pub record IsPlayed (lines : List ScheduleLine) (n : ℕ) (e : InEpoch) : Type 0 where
  pub deliveries : ℕ
  pub calm : IsCalm (config_of lines) lines n e deliveries
  pub ends : through_line (trace_of (run lines)) n ≡ trace_of (after (config_of lines) lines n deliveries)
  -- the worlds that its ticks leave, one after another
  pub ticked_moment : (i : ℕ) → IsMoment (trace_of (run lines)) n (trace_of (ticked (config_of lines) n i (run_in (config_of lines) (lines_before lines n))))
  pub ticked_rest : (i : ℕ) → IsRest (config_of lines) (ticked (config_of lines) n i (run_in (config_of lines) (lines_before lines n))).trace
  pub ticked_fact : (i : ℕ) → WorldFact (config_of lines) (ticked (config_of lines) n i (run_in (config_of lines) (lines_before lines n)))
  pub ticked_together : (i : ℕ) → AreTogether (ticked (config_of lines) n i (run_in (config_of lines) (lines_before lines n))) e
  -- and each after its ticks and some deliveries
  pub moment : (j : ℕ) → j ≤ deliveries → IsMoment (trace_of (run lines)) n (trace_of (after (config_of lines) lines n j))

pub played : (lines : List ScheduleLine) → AreInOrder lines → IsWithin lines → (n : ℕ) (id : EpochId) (members : Members) → IsCalmRound lines (trace_of (run lines)) n id members → IsPlayed lines n (record { id = id; members = members })
played lines order within zero id members h = absurd (passed_event (line.Settle h.most) h.settles)
played lines order within (suc k) id members h = record {
  deliveries = out.deliveries;
  calm = calm;
  ends = ends ∙ ap trace_of out.is_world;
  ticked_moment = tick_moment;
  ticked_rest = tick_rest;
  ticked_fact = tick_fact;
  ticked_together = λ i. together_by c first_lines id members first (tick i) (tick_fact i) (tick_stands i) (tick_since i) start listed (h.together (trace_of (tick i)) (tick_moment i));
  moment = λ j le. moment_of (trace_of (run lines)) (suc k) first (at j) last begins ends (since j) (until j le);
}
  where
    c : Config
    c = config_of lines

    e : InEpoch
    e = record { id = id; members = members }

    first_lines : List ScheduleLine
    first_lines = lines_before lines (suc k)

    first : World
    first = run_in c first_lines

    last : World
    last = delivers c (suc k) h.most (ticks_to c (suc k) all_sites first)

    first_is : first ≡ world c lines k
    first_is = ap (λ (m : ℕ). run_in c (take m lines)) {x = suc k - 1} {y = k} (omega arith)

    last_is : last ≡ world c lines (suc k)
    last_is = sym (next_world c lines k ∙ (ap (λ (x : ScheduleLine). acts_line c (suc k) x (world c lines k)) h.settles ∙ ap (λ (w : World). acts_line c (suc k) (EventLine (line.Settle h.most)) w) (sym first_is)))

    begins : before_line (trace_of (run lines)) (suc k) ≡ trace_of first
    begins = before_at c lines k ∙ ap trace_of (sym first_is)

    ends : through_line (trace_of (run lines)) (suc k) ≡ trace_of last
    ends = ap (before_line (trace_of (run lines))) (one_more (suc k)) ∙ (before_at c lines (suc k) ∙ ap trace_of (sym last_is))

    last_within : last.over ≡ None
    last_within = ap (λ (w : World). w.over) last_is ∙ world_within c lines (suc k) within

    no_end : Every (TellsNoBudget (suc k)) last.trace
    no_end = no_budget (suc k) last.trace (ap (list_any (tells_budget (suc k))) (sym ends) ∙ before_any (tells_budget (suc k)) (trace_of (run lines)) (suc k + 1) h.ended)

    out : RunsOut c (suc k) h.most (ticks_to c (suc k) all_sites first) last
    out = runs_out c (suc k) h.most (ticks_to c (suc k) all_sites first) last_within no_end

    size : 1 + length first_lines ≡ suc k
    size = (let there : suc k ≤ length lines = line_there lines k (line.Settle h.most) h.settles in
        let l : length (take (suc k - 1) lines) ≡ suc k - 1 = take_length (suc k - 1) lines (omega (arith, there)) in omega (arith, l))

    listed : members_of (trace_of first) id ≡ Some members
    listed = ap (λ (t : Trace). members_of t id) (sym begins) ∙ h.listed

    fits : Every (FitsCluster c.sites) first_lines
    fits = take_fits c.sites lines (suc k - 1) (order_fits lines order)

    low : (j i m : ℕ) → j ≤ i → i ≤ m → j ≤ m
    low j i m a b = omega (arith, a, b)

    -- the world after so many deliveries
    at : ℕ → World
    at j = after c lines (suc k) j

    groups : length c.packs ≤ 4
    groups = omega (arith, four_groups lines)

    in_it : (j : ℕ) → j ≤ out.deliveries → IsInRound c lines (suc k) (at j)
    in_it j le = record { fit = schedule_fits lines order; packs = schedule_packs lines order; groups = groups; few = low j out.deliveries h.most le out.few; most = h.most; settles = h.settles; deliveries = j; is_world = refl }

    stands : (j : ℕ) → j ≤ out.deliveries → Stands (at j)
    stands j le = in_round c Stands (stands_kept c) (first_stands c) lines (suc k) (at j) (in_it j le)

    since : (j : ℕ) → GoesOn first (at j)
    since j = delivered_kept c (suc k) (GoesOn first) (goes_round_kept c (suc k) first) j (ticks_to c (suc k) all_sites first) (ticks_kept c (suc k) (GoesOn first) (goes_round_kept c (suc k) first) all_sites first (goes_itself first))

    until : (j : ℕ) → j ≤ out.deliveries → GoesOn (at j) last
    until j le = subst (λ (w : World). GoesOn (at j) w) (sym (out.is_world ∙ (ap (λ (i : ℕ). delivered c (suc k) i (ticks_to c (suc k) all_sites first)) {x = out.deliveries} {y = j + (out.deliveries - j)} (omega (arith, le)) ∙ delivered_then c (suc k) j (out.deliveries - j) (ticks_to c (suc k) all_sites first))))
        (delivered_kept c (suc k) (GoesOn (at j)) (goes_round_kept c (suc k) (at j)) (out.deliveries - j) (at j) (goes_itself (at j)))

    each : (j : ℕ) → j ≤ out.deliveries → AreTogether (at j) e
    each j le = together_in c first_lines (EventLine (line.Settle j) ∷ []) (at j) id members fits (twin c first_lines (suc k) j size) (stands j le) (since j).circuits listed
        (h.together (trace_of (at j)) (moment_of (trace_of (run lines)) (suc k) first (at j) last begins ends (since j) (until j le)))

    whole : GoesOn first last
    whole = subst (λ (w : World). GoesOn first w) (sym out.is_world) (since out.deliveries)

    start : AreTogether first e
    start = together_in c first_lines [] first id members fits (first_twin c first_lines) first_stood refl listed
        (h.together (trace_of first) (moment_of (trace_of (run lines)) (suc k) first first last begins ends (goes_itself first) whole))
      where
        first_stood : Stands first
        first_stood = every_run c Stands (stands_kept c) (first_stands c) first_lines

    sited : (s : ℕ) → IsMember e s → Among s all_sites
    sited s m = (let i : IsInside first e s = start.inside s m in
        let low : s ≤ c.sites = place_within c first_lines s (Running i.view) i.here in
        let few : c.sites ≤ sites_max = schedule_few lines order in among_sites s (low_member e s m) (omega (arith, low, few)))

    calm : IsCalm c lines (suc k) e out.deliveries
    calm = record {
      fit = schedule_fits lines order;
      packs = schedule_packs lines order;
      groups = groups;
      few = out.few;
      most = h.most;
      settles = h.settles;
      first = start;
      each = each;
      sites = sited;
      reach = λ s m. ap (λ (xs : List CutCircuit). list_any (is_between s s) xs) (since out.deliveries).circuits ∙ self_uncut c first_lines fits s;
      within = ap (λ (w : World). w.over) (sym out.is_world) ∙ last_within;
      ended = ap next_packet (sym out.is_world) ∙ out.ended;
    }

    roles : RolesDo c
    roles = roles_do c groups

    fit : LinesFit c first_lines
    fit = take_fit c lines (suc k - 1) (schedule_fits lines order)

    tick : ℕ → World
    tick i = ticked c (suc k) i first

    tick_since : (i : ℕ) → GoesOn first (ticked c (suc k) i first)
    tick_since i = ticks_kept c (suc k) (GoesOn first) (goes_round_kept c (suc k) first) (take i all_sites) first (goes_itself first)

    tick_start : (i : ℕ) → GoesOn (ticked c (suc k) i first) (at 0)
    tick_start i = subst (λ (w : World). GoesOn (ticked c (suc k) i first) w) (sym (ticks_then c (suc k) (take i all_sites) (drop i all_sites) first) ∙ ap (λ (ss : List ℕ). ticks_to c (suc k) ss first) (take-append-drop i all_sites))
        (ticks_kept c (suc k) (GoesOn (ticked c (suc k) i first)) (goes_round_kept c (suc k) (ticked c (suc k) i first)) (drop i all_sites) (ticked c (suc k) i first) (goes_itself (ticked c (suc k) i first)))

    tick_until : (i : ℕ) → GoesOn (ticked c (suc k) i first) last
    tick_until i = subst (λ (w : World). GoesOn (ticked c (suc k) i first) w) (sym out.is_world) (delivered_kept c (suc k) (GoesOn (ticked c (suc k) i first)) (goes_round_kept c (suc k) (ticked c (suc k) i first)) out.deliveries (at 0) (tick_start i))

    tick_moment : (i : ℕ) → IsMoment (trace_of (run lines)) (suc k) (trace_of (ticked c (suc k) i first))
    tick_moment i = moment_of (trace_of (run lines)) (suc k) first (ticked c (suc k) i first) last begins ends (tick_since i) (tick_until i)

    tick_rest : (i : ℕ) → IsRest c (ticked c (suc k) i first).trace
    tick_rest i =
        let g : GoesOn (ticked c (suc k) i first) (at 0) = tick_start i in
        let r : IsRest c (at 0).trace = (round_facts c lines (suc k) (at 0) (in_it 0 (omega arith))).rest in
        record { each = rest_earlier c g.lines (ticked c (suc k) i first).trace (subst (λ (t : List Line). EachRest c t) g.trace r.each); packs = r.packs }

    tick_fact : (i : ℕ) → WorldFact c (ticked c (suc k) i first)
    tick_fact i = ticks_kept c (suc k) (Holds c) (holds_round c (suc k) roles) (take i all_sites) first (λ r. run_holds c first_lines fit roles (stays c) r) (tick_rest i)

    tick_stands : (i : ℕ) → Stands (ticked c (suc k) i first)
    tick_stands i = ticks_kept c (suc k) Stands (round_kept c (suc k) Stands (stands_kept c)) (take i all_sites) first (every_run c Stands (stands_kept c) (first_stands c) first_lines)
