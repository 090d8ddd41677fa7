-- Lists in which each passes a test of its own at most once.
use Rattle.std.proofs.Common.{◌≡◌, ◌≤◌, ◌||◌, Bool, true, false, List, [], ◌∷◌, length, filter, Some, refl, sym, ap, ◌∙◌, inl, inr}
use Rattle.std.specs.List.{find, list_any, list_all}
use Rattle.the_run.specs.Kept.{Among}
use Rattle.past_laws.proofs.Names.{both, false_true}
use Rattle.past_laws.proofs.Changing.{none_after}

pub all_among : {X : Type 0} (q : X → Bool) (xs : List X) → ((x : X) → Among x xs → q x ≡ true) → list_all q xs ≡ true
all_among q [] f = refl
all_among q (x ∷ xs) f = both (q x) (list_all q xs) (f x (inl refl)) (all_among q xs (λ y k. f y (inr k)))

among_any : {X : Type 0} (q : X → Bool) (xs : List X) (x : X) → Among x xs → q x ≡ true → list_any q xs ≡ true
among_any q [] x k h = absurd k
among_any q (y ∷ ys) x (inl e) h = rw (ap q (sym e) ∙ h) refl
among_any q (y ∷ ys) x (inr k) h = over (q y) (among_any q ys x k h)
  where
    over : (b : Bool) → list_any q ys ≡ true → (b || list_any q ys) ≡ true
    over true later = refl
    over false later = later

-- where at most one passes a test that it passes, it is the one that is found
pub among_found : {X : Type 0} (q : X → Bool) (xs : List X) (x : X) → Among x xs → q x ≡ true → length (filter q xs) ≤ 1 → find q xs ≡ Some x
among_found q [] x k h once = absurd k
among_found q (y ∷ ys) x (inl e) h once = rw (ap q (sym e) ∙ h) (ap (λ z. Some z) (sym e))
among_found {X} q (y ∷ ys) x (inr k) h once = over (among_found q ys x k h) (q y) refl
  where
    over : (length (filter q ys) ≤ 1 → find q ys ≡ Some x) → (b : Bool) → q y ≡ b → find q (y ∷ ys) ≡ Some x
    over later true e = false_true (sym (none_after q y ys (rw e at once)) ∙ among_any q ys x k h)
    over later false e = rw e (later (rw e at once))
