-- At the end of a calm round no packet can come any more, and between members each one could.
use Rattle.std.proofs.Common.{◌≡◌, ◌≢◌, ℕ, zero, suc, ◌-◌, ◌≤◌, ◌==◌, not, Bool, true, false, List, [], ◌∷◌, take, Option, Some, None, refl, sym, ◌∙◌, ap, subst, arith}
use Rattle.role_steps.proofs.of_plain_facts.Numbers.{apart as apart_numbers, equal, not_zero_test}
use Rattle.role_steps.proofs.of_plain_facts.Options.{some_none}
use Rattle.role_steps.proofs.of_plain_facts.Tests.{and_true, true_false}
use Rattle.locus_ids.specs.declared.config.Config.{Config}
use Rattle.schedule_lines.specs.Cluster.{config_of}
use Rattle.schedule_lines.specs.Schedule.{AreInOrder}
use Rattle.schedule_lines.specs.declared.line.ScheduleLine.{ScheduleLine}
use Rattle.role_steps.specs.Own.{Every}
use Rattle.role_steps.specs.Tables.{first_that}
use Rattle.role_steps.specs.Views.{all_sites}
use Rattle.role_steps.specs.declared.rounds.InEpoch.{InEpoch}
use Rattle.the_run.specs.Runs.{can_come, next_packet, next_packet_of, goes_round, ends_round, delivers, ticks_to, acts_line, run, run_in}
use Rattle.the_run.specs.Worlds.{World, Numbered, boot_of, is_cut, is_running}
use Rattle.row_laws.specs.Orderly.Calm.{IsInside, AreTogether, delivers_next, delivered}
use Rattle.calm_laws.specs.Carrying.{IsMember}
use Rattle.calm_laws.specs.Rounds.{after}
use Rattle.calm_laws.proofs.Twins.{nothing_more}
use Rattle.calm_laws.proofs.of_row_laws.OrderlyRows.Spans.{world, next_world}
use Rattle.lawful_trace.specs.Places.{lines_before}
use Rattle.calm_laws.proofs.Convergence.TracePlayed.{IsPlayed, played, member_of_list}
use Rattle.headline_laws.specs.Promises.Delivering.{CalmRoundsDeliverAll, IsBetween}

-- ---- the last world of the round ----

-- a round comes to its end where nothing can come
delivers_ended : (c : Config) (n budget k : ℕ) (w : World) → k ≤ budget → next_packet (delivered c n k w) ≡ None → delivers c n budget w ≡ delivered c n k w
delivers_ended c n zero zero w le e = ap (ends_round n w) e
delivers_ended c n (suc budget) zero w le e = ap (goes_round c n (delivers c n budget) w) e
delivers_ended c n zero (suc k) w le e = absurd (omega (arith, le))
delivers_ended c n (suc budget) (suc k) w le e = by_next (λ u f. delivers_ended c n budget k u (omega (arith, le)) f) (next_packet w) refl e
  where
    by_next : ((u : World) → next_packet (delivered c n k u) ≡ None → delivers c n budget u ≡ delivered c n k u) → (o : Option Numbered) → next_packet w ≡ o → next_packet (delivered c n k (delivers_next c n w o)) ≡ None → goes_round c n (delivers c n budget) w o ≡ delivered c n k (delivers_next c n w o)
    by_next f None q h = sym (nothing_more c n k w q)
    by_next f (Some x) q h = f _ h

-- ---- what can come ----

none_first : {A : Type 0} (test : A → Bool) (xs : List A) → first_that test xs ≡ None → Every (λ (x : A). test x ≡ false) xs
none_first test [] e = tt
none_first {A} test (y ∷ ys) e = by_test (none_first test ys) (test y) refl e
  where
    by_test : (first_that test ys ≡ None → Every (λ (x : A). test x ≡ false) ys) → (b : Bool) → test y ≡ b → elim b as (λ t. Option A) [ true ↦ Some y | false ↦ first_that test ys ] ≡ None → (test y ≡ false) × Every (λ (x : A). test x ≡ false) ys
    by_test later true t k = absurd (some_none y k)
    by_test later false t k = (t, later k)

running : (w : World) (e : InEpoch) (s : ℕ) → IsMember e s → IsInside w e s → is_running w s ≡ true
running w e s m i = ap (λ o. not (boot_of o == 0)) i.here ∙ not_zero_test i.view.boot (λ z. m (sym i.boot ∙ z))

-- a packet between members can come while they are together
comes_between : (w : World) (e : InEpoch) (x : Numbered) → AreTogether w e → ((s : ℕ) → IsMember e s → is_cut w s s ≡ false) → IsMember e x.packet.from → IsMember e x.packet.to → can_come w x ≡ true
comes_between w e x t own from to =
    and_true (is_running w x.packet.from) _ (running w e x.packet.from from (t.inside x.packet.from from)) (and_true (is_running w x.packet.to) (not (is_cut w x.packet.from x.packet.to)) (running w e x.packet.to to (t.inside x.packet.to to)) (ap not uncut))
  where
    by_same : (b : Bool) → (x.packet.from == x.packet.to) ≡ b → is_cut w x.packet.from x.packet.to ≡ false
    by_same true q = ap (is_cut w x.packet.from) (sym (equal x.packet.from x.packet.to q)) ∙ own x.packet.from from
    by_same false q = t.connected x.packet.from x.packet.to from to (apart q)
      where
        apart : (x.packet.from == x.packet.to) ≡ false → x.packet.from ≢ x.packet.to
        apart q e = absurd (apart_numbers x.packet.from x.packet.to q e)

    uncut : is_cut w x.packet.from x.packet.to ≡ false
    uncut = by_same (x.packet.from == x.packet.to) refl

every_then : {A : Type 0} (P Q : A → Type 0) (xs : List A) → ((x : A) → P x → Q x) → Every P xs → Every Q xs
every_then P Q [] f h = tt
every_then P Q (x ∷ xs) f h = (f x h.0, every_then P Q xs f h.1)

-- ---- the law ----

pub calm_rounds_deliver : (lines : List ScheduleLine) → AreInOrder lines → (run lines).over ≡ None → CalmRoundsDeliverAll (config_of lines) lines
calm_rounds_deliver lines order within n id members h = subst (λ (w : World). Every (λ (x : Numbered). IsBetween members x → ⊥) w.underway) (sym is_last) none
  where
    c : Config
    c = config_of lines

    e : InEpoch
    e = record { id = id; members = members }

    p : IsPlayed lines n (record { id = id; members = members })
    p = played lines order within n id members h

    last : World
    last = after c lines n p.deliveries

    is_last : run_in c (take n lines) ≡ last
    is_last = by_number n p
      where
        by_number : (n : ℕ) (p : IsPlayed lines n (record { id = id; members = members })) → run_in (config_of lines) (take n lines) ≡ after (config_of lines) lines n p.deliveries
        by_number zero p = absurd (let q : _ ≡ _ = p.calm.settles in cc)
        by_number (suc k) p = next_world (config_of lines) lines k
            ∙ (ap (λ (x : ScheduleLine). acts_line (config_of lines) (suc k) x (world (config_of lines) lines k)) p.calm.settles
            ∙ (ap (λ (m : ℕ). delivers (config_of lines) (suc k) p.calm.most (ticks_to (config_of lines) (suc k) all_sites (run_in (config_of lines) (take m lines)))) {x = k} {y = suc k - 1} (omega arith)
            ∙ delivers_ended (config_of lines) (suc k) p.calm.most p.deliveries (ticks_to (config_of lines) (suc k) all_sites (run_in (config_of lines) (lines_before lines (suc k)))) p.calm.few p.calm.ended))

    stay : Every (λ (x : Numbered). can_come last x ≡ false) last.underway
    stay = none_first (can_come last) last.underway (ap (next_packet_of last) (sym p.calm.within) ∙ p.calm.ended)

    none : Every (λ (x : Numbered). IsBetween members x → ⊥) last.underway
    none = every_then (λ (x : Numbered). can_come last x ≡ false) (λ (x : Numbered). IsBetween members x → ⊥) last.underway
        (λ x stays b. true_false (sym (comes_between last e x (p.calm.each p.deliveries (omega arith)) (λ s m. p.calm.reach s m) (member_of_list id members x.packet.from b.sender) (member_of_list id members x.packet.to b.receiver)) ∙ stays)) stay
