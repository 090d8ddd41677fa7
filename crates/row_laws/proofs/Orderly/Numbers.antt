-- In every run the packets under way have numbers of their own.
use Rattle.std.proofs.Common.{◌≡◌, ℕ, ◌+◌, ◌≤◌, ◌==◌, true, false, List, [], ◌∷◌, ◌++◌, length, refl, sym, ◌∙◌, subst, inl, inr, arith}
use Rattle.std.proofs.lemmas.Bool.Decides.{nat_tests}
use Rattle.locus_ids.specs.declared.config.Config.{Config}
use Rattle.wire_messages.specs.declared.packet.Packet.{Packet}
use Rattle.role_steps.specs.Own.{Every}
use Rattle.role_steps.specs.Tables.{without_row}
use Rattle.role_steps.specs.Views.{SiteView, Told, Outcome}
use Rattle.role_steps.proofs.Sending.{every_append}
use Rattle.std.proofs.Common.{Some, None}
use Rattle.the_run.specs.Disks.{Booted, Whole, CutOff, boots}
use Rattle.the_run.specs.Kept.{Among, Kept}
use Rattle.the_run.specs.Worlds.{World, Numbered, number_of, happened, numbered_from, script_of, puts, arms, passed, stops_with, acts, first_world}
use Rattle.the_run.specs.Runs.{boots_as}
use Rattle.the_run.proofs.Boots.{every_weaker}
use Rattle.the_run.proofs.Events.{happened_keeps, acts_keeps}
use Rattle.the_run.proofs.InsideSync.{every_without}
use Rattle.row_laws.proofs.Orderly.Formed.{among_next}
use Rattle.row_laws.specs.Orderly.Numbers.{IsAbove, IsUpTo, Ascend, NumbersAscend}

-- ---- lists ----

up_to : (j k : ℕ) → j ≤ k → (xs : List Numbered) → Every (IsUpTo j) xs → Every (IsUpTo k) xs
up_to j k le xs h = every_weaker (IsUpTo j) (IsUpTo k) xs (λ x b. omega (arith, b, le)) h

above_from : (j k : ℕ) (ps : List Packet) → j + 1 ≤ k → Every (IsAbove j) (numbered_from k ps)
above_from j k [] le = tt
above_from j k (p ∷ ps) le = (le, above_from j (k + 1) ps (omega (arith, le)))

from_ascends : (k : ℕ) (ps : List Packet) → Ascend (numbered_from k ps)
from_ascends k [] = tt
from_ascends k (p ∷ ps) = (above_from k (k + 1) ps (omega arith), from_ascends (k + 1) ps)

from_up_to : (k : ℕ) (ps : List Packet) → Every (IsUpTo (k + length ps)) (numbered_from (k + 1) ps)
from_up_to k [] = tt
from_up_to k (p ∷ ps) = (omega arith, up_to ((k + 1) + length ps) (k + length (p ∷ ps)) (omega arith) (numbered_from ((k + 1) + 1) ps) (from_up_to (k + 1) ps))

append_ascends : (k : ℕ) (xs : List Numbered) (ps : List Packet) → Every (IsUpTo k) xs → Ascend xs → Ascend (xs ++ numbered_from (k + 1) ps)
append_ascends k [] ps b h = from_ascends (k + 1) ps
append_ascends k (x ∷ xs) ps b h = (every_append (IsAbove x.number) xs (numbered_from (k + 1) ps) h.0 (above_from x.number (k + 1) ps (let le : x.number ≤ k = b.0 in omega (arith, le))), append_ascends k xs ps b.1 h.1)

without_ascends : (k : ℕ) (xs : List Numbered) → Ascend xs → Ascend (without_row number_of k xs)
without_ascends k [] h = tt
without_ascends k (x ∷ xs) h = elim (number_of x == k) as (λ b. Ascend (elim b [ true ↦ xs | false ↦ x ∷ without_row number_of k xs ])) [ true ↦ h.1 | false ↦ (every_without (IsAbove x.number) number_of k xs h.0, without_ascends k xs h.1) ]

among_every : (P : Numbered → Type 0) (xs : List Numbered) → Every P xs → (y : Numbered) → Among y xs → P y
among_every P [] h y a = absurd a
among_every P (x ∷ xs) h y (inl e) = subst P (sym e) h.0
among_every P (x ∷ xs) h y (inr a) = among_every P xs h.1 y a

number_equal : (y z : Numbered) → y ≡ z → y.number ≡ z.number
number_equal y z e = cc

-- two of one number are one
pub one_of_number : (xs : List Numbered) → Ascend xs → (y z : Numbered) → Among y xs → Among z xs → y.number ≡ z.number → y ≡ z
one_of_number [] h y z a b e = absurd a
one_of_number (x ∷ xs) h y z (inl a) (inl b) e = a ∙ sym b
one_of_number (x ∷ xs) h y z (inl a) (inr b) e = absurd (let k : x.number + 1 ≤ z.number = among_every (IsAbove x.number) xs h.0 z b in let q : y.number ≡ x.number = number_equal y x a in omega (arith, k, q, e))
one_of_number (x ∷ xs) h y z (inr a) (inl b) e = absurd (let k : x.number + 1 ≤ y.number = among_every (IsAbove x.number) xs h.0 y a in let q : z.number ≡ x.number = number_equal z x b in omega (arith, k, q, e))
one_of_number (x ∷ xs) h y z (inr a) (inr b) e = one_of_number xs h.1 y z a b e

-- one of another number stays
pub stays_without : (k : ℕ) (xs : List Numbered) (y : Numbered) → Among y xs → (y.number ≡ k → ⊥) → Among y (without_row number_of k xs)
stays_without k [] y a ne = absurd a
stays_without k (x ∷ xs) y a ne =
    (elim (number_of x == k) as (λ b. (number_of x == k) ≡ b → Among y (elim b [ true ↦ xs | false ↦ x ∷ without_row number_of k xs ])) [
      | true ↦ λ e. gone a (equal x.number k e)
      | false ↦ λ e. among_next y x xs (without_row number_of k xs) (λ h. stays_without k xs y h ne) a
    ]) refl
  where
    equal : (i j : ℕ) → (i == j) ≡ true → i ≡ j
    equal i j e = grind (arith, nat_tests)

    gone : Among y (x ∷ xs) → x.number ≡ k → Among y xs
    gone (inl h) e = absurd (ne (number_equal y x h ∙ e))
    gone (inr h) e = h

-- what is left was there
pub left_without : {A : Type 0} (key : A → ℕ) (k : ℕ) (xs : List A) (y : A) → Among y (without_row key k xs) → Among y xs
left_without key k [] y h = h
left_without key k (x ∷ xs) y h =
    (elim (key x == k) as (λ b. Among y (elim b [ true ↦ xs | false ↦ x ∷ without_row key k xs ]) → Among y (x ∷ xs)) [
      | true ↦ λ g. inr g
      | false ↦ λ g. among_next y x (without_row key k xs) xs (left_without key k xs y) g
    ]) h

-- ---- the run ----

happened_ascends : (n : ℕ) (ps : List Packet) (told : List Told) (change : World → World) (w : World) → (change w).underway ≡ w.underway → NumbersAscend w → NumbersAscend (happened n ps told change w)
happened_ascends n ps told change w same g =
    happened_keeps NumbersAscend n ps told change w g
    (λ l. record { bounded = g.bounded; ascend = g.ascend })
    (λ k b t. record {
      bounded = every_append (IsUpTo (w.packets + length ps)) (change w).underway (numbered_from (w.packets + 1) ps) (subst (λ (xs : List Numbered). Every (IsUpTo (w.packets + length ps)) xs) (sym same) (up_to w.packets (w.packets + length ps) (omega arith) w.underway g.bounded)) (from_up_to w.packets ps);
      ascend = subst (λ (xs : List Numbered). Ascend (xs ++ numbered_from (w.packets + 1) ps)) (sym same) (append_ascends w.packets w.underway ps g.bounded g.ascend);
    })

acts_ascends : (n s : ℕ) (v : SiteView) (o : Outcome SiteView) (w : World) → NumbersAscend w → NumbersAscend (acts n s v o w)
acts_ascends n s v o w g =
    acts_keeps NumbersAscend n s v o w
    (λ ps told place. happened_ascends n ps told (λ now. puts s place now) w refl g)
    (λ ps told place a. happened_ascends n ps told (λ now. puts s place (arms a now)) w refl g)
    (λ ps told d. happened_ascends n ps told (stops_with s d) w refl g)

passed_ascends : (k : ℕ) (w : World) → NumbersAscend w → NumbersAscend (passed k w)
passed_ascends k w g = record { bounded = every_without (IsUpTo w.packets) number_of k w.underway g.bounded; ascend = without_ascends k w.underway g.ascend }

as_ascends : (n s : ℕ) (b : Booted) (w : World) → NumbersAscend w → NumbersAscend (boots_as n s b w)
as_ascends n s (Whole x None) w g = happened_ascends n [] _ _ w refl g
as_ascends n s (Whole x (Some a)) w g = happened_ascends n [] _ _ w refl g
as_ascends n s (CutOff x how) w g = happened_ascends n [] _ _ w refl g

pub ascend_kept : (c : Config) → Kept c NumbersAscend
ascend_kept c = record {
  steps = λ n s e v w here own g. acts_ascends n s v _ w g;
  receives = λ n x v w here sent g. acts_ascends n x.packet.to v _ (passed x.number w) (passed_ascends x.number w g);
  passes = λ k w g. passed_ascends k w g;
  drops = λ k w g. (let p : NumbersAscend (passed k w) = passed_ascends k w g in record { bounded = p.bounded; ascend = p.ascend });
  recuts = λ xs w g. record { bounded = g.bounded; ascend = g.ascend };
  arming = λ a w g. record { bounded = g.bounded; ascend = g.ascend };
  voiding = λ n w g. happened_ascends n [] _ (λ now. now) w refl g;
  budgets = λ n w g. happened_ascends n [] _ (λ now. now) w refl g;
  pending = λ n w g. happened_ascends n [] _ (λ now. now) w refl g;
  stopping = λ n s v w here g. happened_ascends n [] _ _ w refl g;
  booting = λ n s d w here g. as_ascends n s (boots (script_of w s) d) w g;
}

pub first_ascends : (c : Config) → NumbersAscend (first_world c)
first_ascends c = record { bounded = tt; ascend = tt }
