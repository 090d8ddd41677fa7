-- Of the replies that are due, the one to the least call comes first.
use Rattle.std.proofs.Common.{◌≡◌, Bool, true, false, cond, List, [], ◌∷◌, Option, None, Some, refl, sym, ◌∙◌, ap, subst, ◌⊎◌, inl, inr}
use Rattle.role_steps.proofs.of_plain_facts.Options.{some_same}
use Rattle.role_steps.proofs.of_plain_facts.Tests.{true_false}
use Rattle.locus_ids.specs.declared.config.Config.{Config}
use Rattle.role_steps.specs.Own.{Every}
use Rattle.the_run.specs.Kept.{Among}
use Rattle.tree_model.specs.Folds.{Trace}
use Rattle.tree_model.specs.declared.accepted.Waiting.{Waiting}
use Rattle.lawful_trace.specs.Prompt.{comes_first, due_among, is_due, lesser}

-- ---- which of them is due first ----

first_true : (b : Bool) {A : Type 0} (x y : A) → b ≡ true → cond b x y ≡ x
first_true true x y e = refl
first_true false x y e = absurd (true_false (sym e))

first_false : (b : Bool) {A : Type 0} (x y : A) → b ≡ false → cond b x y ≡ y
first_false true x y e = absurd (true_false e)
first_false false x y e = refl

-- it stands before all others that are due
abbrev pub IsLeast : Config → Trace → Waiting → Waiting → Type 0
IsLeast c b w u = is_due c b u ≡ true → (u ≡ w) ⊎ ((comes_first w u ≡ true) × (comes_first u w ≡ false))

module _ (c : Config) (b : Trace) (w : Waiting) (own : is_due c b w ≡ true) where
  -- what is found is one of them, and due
  found_due : (us : List Waiting) (v : Waiting) → due_among c b us ≡ Some v → Every (IsLeast c b w) us → (v ≡ w) ⊎ ((comes_first w v ≡ true) × (comes_first v w ≡ false))
  found_due [] v e least = absurd (cc)
  found_due (u ∷ us) v e least = over (is_due c b u) refl (due_among c b us) refl e (found_due us)
    where
      pick : (o : Waiting) → (t : Bool) → cond t o u ≡ v → ((o ≡ w) ⊎ ((comes_first w o ≡ true) × (comes_first o w ≡ false))) → ((u ≡ w) ⊎ ((comes_first w u ≡ true) × (comes_first u w ≡ false))) → (v ≡ w) ⊎ ((comes_first w v ≡ true) × (comes_first v w ≡ false))
      pick o true q k l = subst (λ (x : Waiting). (x ≡ w) ⊎ ((comes_first w x ≡ true) × (comes_first x w ≡ false))) q k
      pick o false q k l = subst (λ (x : Waiting). (x ≡ w) ⊎ ((comes_first w x ≡ true) × (comes_first x w ≡ false))) q l

      over : (t : Bool) → is_due c b u ≡ t → (o : Option Waiting) → due_among c b us ≡ o → cond t (Some (lesser u o)) o ≡ Some v → ((x : Waiting) → due_among c b us ≡ Some x → Every (IsLeast c b w) us → (x ≡ w) ⊎ ((comes_first w x ≡ true) × (comes_first x w ≡ false))) → (v ≡ w) ⊎ ((comes_first w v ≡ true) × (comes_first v w ≡ false))
      over true q None f g ih = subst (λ (x : Waiting). (x ≡ w) ⊎ ((comes_first w x ≡ true) × (comes_first x w ≡ false))) (some_same u v g) (least.0 q)
      over true q (Some o) f g ih = pick o (comes_first o u) (some_same (cond (comes_first o u) o u) v g) (ih o f least.1) (least.0 q)
      over false q o f g ih = ih v (f ∙ g) least.1

  -- and where it is among them it is found
  pub least_due : (us : List Waiting) → Among w us → Every (IsLeast c b w) us → due_among c b us ≡ Some w
  least_due [] m least = absurd m
  least_due (u ∷ us) (inl e) least = head e (due_among c b us) refl
    where
      head : w ≡ u → (o : Option Waiting) → due_among c b us ≡ o → cond (is_due c b u) (Some (lesser u (due_among c b us))) (due_among c b us) ≡ Some w
      head e o f = first_true (is_due c b u) (Some (lesser u (due_among c b us))) (due_among c b us) (subst (λ (x : Waiting). is_due c b x ≡ true) e own) ∙ (ap (λ (y : Option Waiting). Some (lesser u y)) f ∙ at o f)
        where
          at : (y : Option Waiting) → due_among c b us ≡ y → Some (lesser u y) ≡ Some w
          at None g = ap Some (sym e)
          at (Some v) g = ap Some (by (found_due us v g least.1))
            where
              by : ((v ≡ w) ⊎ ((comes_first w v ≡ true) × (comes_first v w ≡ false))) → cond (comes_first v u) v u ≡ w
              by (inl q) = same (comes_first v u)
                where
                  same : (t : Bool) → cond t v u ≡ w
                  same true = q
                  same false = sym e
              by (inr k) = first_false (comes_first v u) v u (subst (λ (x : Waiting). comes_first v x ≡ false) e k.1) ∙ sym e
  least_due (u ∷ us) (inr m) least = tail (is_due c b u) refl (least_due us m least.1)
    where
      tail : (t : Bool) → is_due c b u ≡ t → due_among c b us ≡ Some w → cond t (Some (lesser u (due_among c b us))) (due_among c b us) ≡ Some w
      tail true q ih = ap (λ (o : Option Waiting). Some (lesser u o)) ih ∙ ap Some (by (least.0 q))
        where
          by : ((u ≡ w) ⊎ ((comes_first w u ≡ true) × (comes_first u w ≡ false))) → cond (comes_first w u) w u ≡ w
          by (inl e) = same (comes_first w u)
            where
              same : (t : Bool) → cond t w u ≡ w
              same true = refl
              same false = e
          by (inr k) = first_true (comes_first w u) w u k.0
      tail false q ih = ih
