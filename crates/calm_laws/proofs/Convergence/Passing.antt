-- A packet comes in a round: a member takes it, or it is gone, members stay as they are, and it was for none of them.
use Rattle.std.proofs.Common.{◌≡◌, ℕ, zero, suc, ◌==◌, ◌⊎◌, Bool, true, false, List, [], ◌∷◌, ◌++◌, Some, None, refl, sym, ◌∙◌, ap, subst, inl, inr, arith}
use Rattle.std.proofs.lemmas.Bool.Decides.{nat_tests}
use Rattle.role_steps.proofs.of_plain_facts.Tests.{both_true, true_false}
use Rattle.locus_ids.specs.declared.config.Config.{Config}
use Rattle.schedule_lines.specs.declared.line.ScheduleLine.{ScheduleLine}
use Rattle.role_steps.specs.Tables.{without_row}
use Rattle.role_steps.specs.Views.{SiteView, Receives, boot_in}
use Rattle.role_steps.specs.declared.rounds.InEpoch.{InEpoch}
use Rattle.the_run.specs.Runs.{arrives, next_packet}
use Rattle.the_run.specs.Steps.{is_dropped, step}
use Rattle.the_run.specs.Worlds.{World, Running, Numbered, number_of, place_at, links_of, passed, acts}
use Rattle.row_laws.specs.Orderly.Calm.{IsInside, AreTogether}
use Rattle.row_laws.proofs.Orderly.Places.{view_eq}
use Rattle.calm_laws.specs.Carrying.{IsMember}
use Rattle.calm_laws.specs.Rounds.{IsInRound, Delivery}
use Rattle.calm_laws.proofs.Events.{arrives_cases}
use Rattle.calm_laws.specs.Convergence.Offers.{is_for}
use Rattle.calm_laws.proofs.Convergence.Coming.{for_taken}
use Rattle.calm_laws.proofs.Convergence.Events.{Moved, acts_moved}

-- ---- a packet that no member takes ----

-- members stay as they are
pub record PassesBy (c : Config) (n : ℕ) (e : InEpoch) (x : Numbered) (w : World) : Type 0 where
  pub same : (t : ℕ) → IsMember e t → place_at (arrives c n x w) t ≡ place_at w t
  pub more : List Numbered
  pub underway : (arrives c n x w).underway ≡ without_row number_of x.number w.underway ++ more

append_none : {A : Type 0} (xs : List A) → xs ≡ xs ++ []
append_none [] = refl
append_none (x ∷ xs) = ap (λ (l : List _). x ∷ l) (append_none xs)

passes : (c : Config) (n : ℕ) (e : InEpoch) (x : Numbered) (w : World) → (IsMember e x.packet.to → (v : SiteView) → place_at w x.packet.to ≡ Some (Running v) → is_dropped x.packet v ≡ true) → (arrives c n x w).over ≡ None → PassesBy c n e x w
passes c n e x w drops within = arrives_cases (λ u. u ≡ arrives c n x w → PassesBy c n e x w) c n x w takes gone refl
  where
    gone : ((v : SiteView) → place_at w x.packet.to ≡ Some (Running v) → is_dropped x.packet v ≡ true) → passed x.number w ≡ arrives c n x w → PassesBy c n e x w
    gone h eq = record { same = λ t m. ap (λ (u : World). place_at u t) (sym eq); more = []; underway = ap (λ (u : World). u.underway) (sym eq) ∙ append_none (without_row number_of x.number w.underway) }

    takes : (v : SiteView) → place_at w x.packet.to ≡ Some (Running v) → is_dropped x.packet v ≡ false → acts n x.packet.to v (step c x.packet.to (links_of (passed x.number w) x.packet.to) v (Receives x.packet)) (passed x.number w) ≡ arrives c n x w → PassesBy c n e x w
    takes v here taken eq =
        let moved : Moved x.packet.to (step c x.packet.to (links_of (passed x.number w) x.packet.to) v (Receives x.packet)) (passed x.number w) _ = acts_moved n x.packet.to v (step c x.packet.to (links_of (passed x.number w) x.packet.to) v (Receives x.packet)) (passed x.number w) (ap (λ (y : World). y.over) eq ∙ within) in
        record {
          same = λ t m. ap (λ (u : World). place_at u t) (sym eq) ∙ moved.others t (λ is. true_false (sym (drops (λ z. m (ap (boot_in e.members.boot) (sym is) ∙ z)) v here) ∙ taken));
          more = moved.more;
          underway = ap (λ (u : World). u.underway) (sym eq) ∙ moved.underway;
        }

-- it was for no member
pub record IsPassed (c : Config) (n : ℕ) (e : InEpoch) (x : Numbered) (w : World) : Type 0 where
  pub passes : PassesBy c n e x w
  pub not_for : (s : ℕ) → IsMember e s → is_for e s x.packet ≡ true → ⊥

pub taken_or_passed : (c : Config) (lines : List ScheduleLine) (n : ℕ) (e : InEpoch) (x : Numbered) (w : World) → IsInRound c lines n w → next_packet w ≡ Some x → IsInRound c lines n (arrives c n x w) → AreTogether w e → AreTogether (arrives c n x w) e → (arrives c n x w).over ≡ None →
    Delivery c lines n e x w ⊎ IsPassed c n e x w
taken_or_passed c lines n e x w round next follows before later within = by_member (boot_in e.members.boot x.packet.to) refl
  where
    to_equal : (t : ℕ) → is_for e t x.packet ≡ true → x.packet.to ≡ t
    to_equal t h = equal x.packet.to t (both_true (x.packet.to == t) _ h).0
      where
        equal : (i j : ℕ) → (i == j) ≡ true → i ≡ j
        equal i j e = grind (arith, nat_tests)

    by_taken : (k : IsMember e x.packet.to) (i : IsInside w e x.packet.to) (b : Bool) → is_dropped x.packet i.view ≡ b → Delivery c lines n e x w ⊎ IsPassed c n e x w
    by_taken k i false taken = inl (record { round = round; next = next; follows = follows; member = k; view = i.view; here = i.here; taken = taken; before = before; after = later; within = within })
    by_taken k i true dropped = inr (record {
      passes = passes c n e x w (λ z y here. subst (λ (q : SiteView). is_dropped x.packet q ≡ true) (view_eq (place_at w x.packet.to) i.view y i.here here) dropped) within;
      not_for = λ s m h. true_false (sym dropped ∙ for_taken e s x.packet i.view i.epoch (i.boot ∙ ap (boot_in e.members.boot) (to_equal s h)) h);
    })

    by_member : (k : ℕ) → boot_in e.members.boot x.packet.to ≡ k → Delivery c lines n e x w ⊎ IsPassed c n e x w
    by_member zero is = inr (record { passes = passes c n e x w (λ z. absurd (z is)) within; not_for = λ s m h. m (ap (boot_in e.members.boot) (sym (to_equal s h)) ∙ is) })
    by_member (suc k) is = (let z : IsMember e x.packet.to = λ q. not_zero k (sym is ∙ q) in by_taken z (before.inside x.packet.to z) (is_dropped x.packet (before.inside x.packet.to z).view) refl)
      where
        not_zero : (k : ℕ) → suc k ≡ 0 → ⊥
        not_zero k z = omega (arith, z)
