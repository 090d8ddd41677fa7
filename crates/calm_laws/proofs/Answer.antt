-- Calm rounds answer: as the records of a run tell it.
use Rattle.std.proofs.Common.{◌≡◌, ◌≢◌, ℕ, zero, suc, ◌+◌, ◌-◌, ◌≤◌, nat_lt, Bool, true, false, List, [], ◌∷◌, length, take, Option, Some, None, refl, sym, ◌∙◌, ap, subst, inl, inr, arith}
use Rattle.std.proofs.lemmas.Bool.Decides.{nat_tests}
use Rattle.std.specs.List.{list_any, AllByRecursion}
use Rattle.role_steps.proofs.of_plain_facts.Tests.{false_unless, true_false}
use Rattle.locus_ids.specs.declared.config.Config.{Config}
use Rattle.locus_ids.specs.declared.ids.EpochId.{EpochId}
use Rattle.locus_ids.specs.declared.sites.Members.{Members}
use Rattle.locus_ids.specs.Sizes.{sites_max}
use Rattle.schedule_lines.specs.Cluster.{config_of}
use Rattle.schedule_lines.specs.Schedule.{AreInOrder}
use Rattle.schedule_lines.specs.declared.line.Line.{Line as LineWords}
use Rattle.schedule_lines.specs.declared.line.Line.TheVariants as line
use Rattle.schedule_lines.specs.declared.line.ScheduleLine.{ScheduleLine}
use Rattle.schedule_lines.specs.declared.line.ScheduleLine.TheVariants.{Passed, Event as EventLine}
use Rattle.role_steps.specs.Own.{Every}
use Rattle.role_steps.specs.Epochs.{frame_in}
use Rattle.role_steps.specs.Views.{SiteView, all_sites}
use Rattle.role_steps.specs.declared.rounds.InEpoch.{InEpoch}
use Rattle.role_steps.specs.declared.users.WaitingCall.{WaitingCall}
use Rattle.tree_model.specs.Folds.{Trace, before_line}
use Rattle.tree_model.specs.Epochs.{members_of}
use Rattle.tree_model.specs.Packs.{boot_in, is_member}
use Rattle.tree_model.specs.Calls.{waiting}
use Rattle.tree_model.specs.declared.accepted.Waiting.{Waiting}
use Rattle.lawful_trace.specs.Calm.{CalmRoundsAnswer, tells_budget}
use Rattle.lawful_trace.specs.Places.{lines_before, through_line}
use Rattle.the_run.specs.Kept.{Among}
use Rattle.the_run.specs.Runs.{next_packet, delivers, ticks_to, acts_line, run_in, run}
use Rattle.the_run.proofs.Runs.{every_run}
use Rattle.the_run.specs.Worlds.{World, Running, CutCircuit, place_at, is_between}
use Rattle.row_laws.specs.Shown.{trace_of}
use Rattle.row_laws.proofs.Fitting.{schedule_fits, schedule_few}
use Rattle.row_laws.specs.Orderly.Calm.{IsInside, AreTogether, delivered}
use Rattle.row_laws.proofs.Orderly.Choosing.{among_sites}
use Rattle.row_laws.proofs.Orderly.Rounds.{ticks_kept}
use Rattle.row_laws.specs.OrderlyRows.Agreeing.{IsWithin}
use Rattle.row_laws.specs.OrderlyRows.Fits.{FitsCluster}
use Rattle.row_laws.proofs.OrderlyRows.Circuits.{take_fits, self_uncut}
use Rattle.row_laws.proofs.OrderlyRows.Forms.{order_fits}
use Rattle.row_laws.proofs.OrderlyRows.Placed.{place_within}
use Rattle.row_laws.proofs.OrderlyRows.Spans.{world, next_world, one_more, before_at}
use Rattle.rest_laws.proofs.MendStepRows.{HasRow, has_row}
use Rattle.store_laws.specs.OneTree.Places.{InsideFact, SiteFact, SiteIn, WorldFact}
use Rattle.store_laws.specs.OneTree.Roles.{RolesDo}
use Rattle.store_laws.proofs.OneTree.Run.{run_holds}
use Rattle.store_laws.proofs.OneTree.Staying.{stays}
use Rattle.rest_laws.proofs.StoreStepFirst.{four_groups}
use Rattle.rest_laws.proofs.Packs.{schedule_packs}
use Rattle.rest_laws.proofs.Resting.{run_low, run_rests}
use Rattle.rest_laws.proofs.Roles.{roles_do}
use Rattle.rest_laws.proofs.Shown.{shown_entries}
use Rattle.calm_laws.specs.Carrying.{IsMember}
use Rattle.calm_laws.specs.Calming.{NobodyWaits}
use Rattle.calm_laws.specs.Rounds.{after, IsInRound, IsCalm, CalmLeft}
use Rattle.calm_laws.proofs.Calm.{calm_round}
use Rattle.calm_laws.proofs.Limits.{world_within, line_there, take_length, take_fit, before_any}
use Rattle.calm_laws.proofs.Moments.{GoesOn, goes_itself, goes_round_kept, moment_of, TellsNoBudget, no_budget, RunsOut, runs_out}
use Rattle.calm_laws.proofs.Placed.{Stands, stands_kept, first_stands}
use Rattle.calm_laws.proofs.Rounds.{in_round, delivered_kept, delivered_then}
use Rattle.calm_laws.proofs.Together.{together_in}
use Rattle.calm_laws.proofs.Twins.{twin, first_twin}

-- ---- who waits ----

-- each element that is there has the property
all_recursive : {A : Type 0} (P : A → Type 0) (xs : List A) → ((x : A) → Among x xs → P x) → AllByRecursion P xs
all_recursive P [] h = tt
all_recursive P (x ∷ xs) h = (h x (inl refl), all_recursive P xs (λ y a. h y (inr a)))

passed_event : (l : LineWords) → Passed ≡ EventLine l → ⊥
passed_event l e = cc

low_member : (e : InEpoch) (s : ℕ) → IsMember e s → 1 ≤ s
low_member e zero m = absurd (m refl)
low_member e (suc s) m = omega arith

member_of_list : (id : EpochId) (members : Members) (s : ℕ) → is_member members s ≡ true → IsMember (record { id = id; members = members }) s
member_of_list id members zero h = absurd (true_false (sym h))
member_of_list id members (suc s) h = some (boot_in members (suc s)) h
  where
    some : (n : ℕ) → nat_lt 0 n ≡ true → n ≢ 0
    some n k z = grind (arith, nat_tests)

-- ---- the law ----

pub calm_rounds_answer : (lines : List ScheduleLine) → AreInOrder lines → IsWithin lines → CalmLeft (config_of lines) → CalmRoundsAnswer lines (trace_of (run lines))
calm_rounds_answer lines order within left zero id members h = absurd (passed_event (line.Settle h.most) h.settles)
calm_rounds_answer lines order within left (suc k) id members h = subst (λ (t : Trace). AllByRecursion (λ (w : Waiting). is_member members w.site ≡ false) (waiting t)) (sym ends) (all_recursive (λ (w : Waiting). is_member members w.site ≡ false) (waiting (trace_of last)) (λ x a. false_unless (is_member members x.site) (λ m. nobody x a m)))
  where
    c : Config
    c = config_of lines

    e : InEpoch
    e = record { id = id; members = members }

    first_lines : List ScheduleLine
    first_lines = lines_before lines (suc k)

    first : World
    first = run_in c first_lines

    last : World
    last = delivers c (suc k) h.most (ticks_to c (suc k) all_sites first)

    first_is : first ≡ world c lines k
    first_is = ap (λ (m : ℕ). run_in c (take m lines)) {x = suc k - 1} {y = k} (omega arith)

    last_is : last ≡ world c lines (suc k)
    last_is = sym (next_world c lines k ∙ (ap (λ (x : ScheduleLine). acts_line c (suc k) x (world c lines k)) h.settles ∙ ap (λ (w : World). acts_line c (suc k) (EventLine (line.Settle h.most)) w) (sym first_is)))

    begins : before_line (trace_of (run lines)) (suc k) ≡ trace_of first
    begins = before_at c lines k ∙ ap trace_of (sym first_is)

    ends : through_line (trace_of (run lines)) (suc k) ≡ trace_of last
    ends = ap (before_line (trace_of (run lines))) (one_more (suc k)) ∙ (before_at c lines (suc k) ∙ ap trace_of (sym last_is))

    last_within : last.over ≡ None
    last_within = ap (λ (w : World). w.over) last_is ∙ world_within c lines (suc k) within

    no_end : Every (TellsNoBudget (suc k)) last.trace
    no_end = no_budget (suc k) last.trace (ap (list_any (tells_budget (suc k))) (sym ends) ∙ before_any (tells_budget (suc k)) (trace_of (run lines)) (suc k + 1) h.ended)

    out : RunsOut c (suc k) h.most (ticks_to c (suc k) all_sites first) last
    out = runs_out c (suc k) h.most (ticks_to c (suc k) all_sites first) last_within no_end

    size : 1 + length first_lines ≡ suc k
    size = (let there : suc k ≤ length lines = line_there lines k (line.Settle h.most) h.settles in
        let l : length (take (suc k - 1) lines) ≡ suc k - 1 = take_length (suc k - 1) lines (omega (arith, there)) in omega (arith, l))

    listed : members_of (trace_of first) id ≡ Some members
    listed = ap (λ (t : Trace). members_of t id) (sym begins) ∙ h.listed

    fits : Every (FitsCluster c.sites) first_lines
    fits = take_fits c.sites lines (suc k - 1) (order_fits lines order)

    low : (j i m : ℕ) → j ≤ i → i ≤ m → j ≤ m
    low j i m a b = omega (arith, a, b)

    -- the world after so many deliveries
    at : ℕ → World
    at j = after c lines (suc k) j

    groups : length c.packs ≤ 4
    groups = omega (arith, four_groups lines)

    in_it : (j : ℕ) → j ≤ out.deliveries → IsInRound c lines (suc k) (at j)
    in_it j le = record { fit = schedule_fits lines order; packs = schedule_packs lines order; groups = groups; few = low j out.deliveries h.most le out.few; most = h.most; settles = h.settles; deliveries = j; is_world = refl }

    stands : (j : ℕ) → j ≤ out.deliveries → Stands (at j)
    stands j le = in_round c Stands (stands_kept c) (first_stands c) lines (suc k) (at j) (in_it j le)

    since : (j : ℕ) → GoesOn first (at j)
    since j = delivered_kept c (suc k) (GoesOn first) (goes_round_kept c (suc k) first) j (ticks_to c (suc k) all_sites first) (ticks_kept c (suc k) (GoesOn first) (goes_round_kept c (suc k) first) all_sites first (goes_itself first))

    until : (j : ℕ) → j ≤ out.deliveries → GoesOn (at j) last
    until j le = subst (λ (w : World). GoesOn (at j) w) (sym (out.is_world ∙ (ap (λ (i : ℕ). delivered c (suc k) i (ticks_to c (suc k) all_sites first)) {x = out.deliveries} {y = j + (out.deliveries - j)} (omega (arith, le)) ∙ delivered_then c (suc k) j (out.deliveries - j) (ticks_to c (suc k) all_sites first))))
        (delivered_kept c (suc k) (GoesOn (at j)) (goes_round_kept c (suc k) (at j)) (out.deliveries - j) (at j) (goes_itself (at j)))

    each : (j : ℕ) → j ≤ out.deliveries → AreTogether (at j) e
    each j le = together_in c first_lines (EventLine (line.Settle j) ∷ []) (at j) id members fits (twin c first_lines (suc k) j size) (stands j le) (since j).circuits listed
        (h.together (trace_of (at j)) (moment_of (trace_of (run lines)) (suc k) first (at j) last begins ends (since j) (until j le)))

    whole : GoesOn first last
    whole = subst (λ (w : World). GoesOn first w) (sym out.is_world) (since out.deliveries)

    start : AreTogether first e
    start = together_in c first_lines [] first id members fits (first_twin c first_lines) first_stood refl listed
        (h.together (trace_of first) (moment_of (trace_of (run lines)) (suc k) first first last begins ends (goes_itself first) whole))
      where
        first_stood : Stands first
        first_stood = every_run c Stands (stands_kept c) (first_stands c) first_lines

    sited : (s : ℕ) → IsMember e s → Among s all_sites
    sited s m = (let i : IsInside first e s = start.inside s m in
        let low : s ≤ c.sites = place_within c first_lines s (Running i.view) i.here in
        let few : c.sites ≤ sites_max = schedule_few lines order in among_sites s (low_member e s m) (omega (arith, low, few)))

    calm : IsCalm c lines (suc k) e out.deliveries
    calm = record {
      fit = schedule_fits lines order;
      packs = schedule_packs lines order;
      groups = groups;
      few = out.few;
      most = h.most;
      settles = h.settles;
      first = start;
      each = each;
      sites = sited;
      reach = λ s m. ap (λ (xs : List CutCircuit). list_any (is_between s s) xs) (since out.deliveries).circuits ∙ self_uncut c first_lines fits s;
      within = ap (λ (w : World). w.over) (sym out.is_world) ∙ last_within;
      ended = ap next_packet (sym out.is_world) ∙ out.ended;
    }

    none : NobodyWaits e last
    none = subst (λ (w : World). NobodyWaits e w) (sym out.is_world) (calm_round c left lines (suc k) e out.deliveries calm)

    roles : RolesDo c
    roles = roles_do c groups

    fact : WorldFact c last
    fact = subst (λ (w : World). WorldFact c w) (sym last_is)
        (run_holds c (take (suc k) lines) (take_fit c lines (suc k) (schedule_fits lines order)) roles (stays c)
        (run_rests c (take (suc k) lines) (take_fit c lines (suc k) (schedule_fits lines order)) (schedule_packs lines order) (run_low c (take (suc k) lines))))

    nobody : (x : Waiting) → Among x (waiting (trace_of last)) → is_member members x.site ≡ true → ⊥
    nobody x a m = over i.view i.here i.epoch (fact.places x.site (Running i.view) i.here)
      where
        member : IsMember e x.site
        member = member_of_list id members x.site m

        i : IsInside last e x.site
        i = (subst (λ (w : World). AreTogether w e) (sym out.is_world) (each out.deliveries (omega arith))).inside x.site member

        over : (v : SiteView) → place_at last x.site ≡ Some (Running v) → v.epoch ≡ Some e → SiteFact c x.site last.trace v → ⊥
        over v here inside f = waits (subst (λ (o : Option InEpoch). SiteIn c x.site last.trace v o) inside f)
          where
            empty : (xs : List WaitingCall) (y : WaitingCall) → xs ≡ [] → Among y xs → ⊥
            empty [] y q b = b
            empty (z ∷ zs) y q b = cons_not q
              where
                cons_not : z ∷ zs ≡ [] → ⊥
                cons_not k = cc

            waits : InsideFact c (frame_in c x.site v.boot e) last.trace v → ⊥
            waits g =
                let r : HasRow (frame_in c x.site v.boot e) v.users x = has_row c last.trace (frame_in c x.site v.boot e) v.users fact.followed g.users.inside.inside x (subst (λ (t : Trace). Among x (waiting t)) (shown_entries last.trace) a) refl in
                empty v.users.waiting r.row (none x.site v member here) r.among
