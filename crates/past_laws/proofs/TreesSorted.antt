-- Lists in order, in which each stands once: what is put in is there, and two that have the same are the same.
use Rattle.std.proofs.Common.{◌≡◌, ℕ, ◌==◌, ◌≤◌, ◌<◌, ◌⊎◌, inl, inr, Bool, true, false, not, cond, ◌&&◌, ◌||◌, List, [], ◌∷◌, refl, sym, ap, ◌∙◌, arith}
use Rattle.std.specs.Prelude.{nat_lt}
use Rattle.std.specs.List.{list_any, list_all}
use Rattle.std.proofs.lemmas.Bool.Decides.{nat_tests}
use Rattle.locus_ids.specs.declared.ids.Stamp.{Stamp}
use Rattle.locus_ids.specs.declared.ids.Brought.{Brought}
use Rattle.commit_graph.specs.Versions.{is_stamp_below}
use Rattle.tree_model.specs.Same.{same_brought}
use Rattle.tree_model.specs.State.{is_brought_below, with_brought}
use Rattle.promises.specs.Past.{Copy}
use Rattle.promises.specs.After.{is_copy_below, with_known}
use Rattle.past_laws.proofs.Names.{number_eq, number_own, false_true, both, both_parts, stamp_eq, stamp_own}
use Rattle.past_laws.specs.Agreement.{ascends}
use Rattle.past_laws.proofs.TreesLists.{number_test}
use Rattle.std.proofs.lemmas.Bool.{ltb-true, ltb-false, lt-ltb, le-ltb}
use Rattle.commit_graph.specs.Versions.{same_stamp}
use Rattle.past_laws.proofs.TreesLists.{all_more}

-- An order.
pub record Orders {X : Type 0} (below : X → X → Bool) : Type 0 where
  pub never : (a : X) → below a a ≡ false
  pub through : (a b d : X) → below a b ≡ true → below b d ≡ true → below a d ≡ true
  pub apart : (a b : X) → below a b ≡ false → below b a ≡ false → a ≡ b

-- numbers, and what they order in turn

abbrev by_first : ℕ → ℕ → Bool → Bool
by_first a b rest = nat_lt a b || ((a == b) && rest)

first_never : (a : ℕ) (rest : Bool) → rest ≡ false → by_first a a rest ≡ false
first_never a rest h = grind (arith, nat_tests)

-- what it says
pub record Then (a b : ℕ) (rest : Bool) : Type 0 where
  pub same : a ≡ b
  pub next : rest ≡ true

decode : (a b : ℕ) (rest : Bool) → by_first a b rest ≡ true → (a < b) ⊎ Then a b rest
decode a b rest h = at (nat_lt a b) refl h
  where
    at : (x : Bool) → nat_lt a b ≡ x → (x || ((a == b) && rest)) ≡ true → (a < b) ⊎ Then a b rest
    at true e k = inl (ltb-true a b e)
    at false e k = (let parts : ((a == b) ≡ true) × (rest ≡ true) = both_parts (a == b) rest k in inr (record { same = number_eq a b parts.0; next = parts.1 }))

by_less : (a b : ℕ) (rest : Bool) → a < b → by_first a b rest ≡ true
by_less a b rest h = ap (λ x. x || ((a == b) && rest)) (lt-ltb a b h)

by_then : (a b : ℕ) (rest : Bool) → a ≡ b → rest ≡ true → by_first a b rest ≡ true
by_then a b rest e h = at (nat_lt a b)
  where
    at : (x : Bool) → (x || ((a == b) && rest)) ≡ true
    at true = refl
    at false = both (a == b) rest (number_test a b e) h

first_through : (a b d : ℕ) (r s t : Bool) → (r ≡ true → s ≡ true → t ≡ true) → by_first a b r ≡ true → by_first b d s ≡ true → by_first a d t ≡ true
first_through a b d r s t step h k = at (decode a b r h) (decode b d s k)
  where
    at : (a < b) ⊎ Then a b r → (b < d) ⊎ Then b d s → by_first a d t ≡ true
    at (inl x) (inl y) = by_less a d t (omega arith)
    at (inl x) (inr y) = by_less a d t (omega arith)
    at (inr x) (inl y) = by_less a d t (omega arith)
    at (inr x) (inr y) = by_then a d t (x.same ∙ y.same) (step x.next y.next)

first_apart : (a b : ℕ) (r s : Bool) → by_first a b r ≡ false → by_first b a s ≡ false → (a ≡ b) × ((r ≡ false) × (s ≡ false))
first_apart a b r s h k = (same, (left h, right k))
  where
    not_less : (x y : ℕ) (rest : Bool) → by_first x y rest ≡ false → y ≤ x
    not_less x y rest e = at (nat_lt x y) refl e
      where
        at : (b : Bool) → nat_lt x y ≡ b → (b || ((x == y) && rest)) ≡ false → y ≤ x
        at true f g = false_true (sym g)
        at false f g = ltb-false x y f

    same : a ≡ b
    same = omega (arith, not_less a b r h, not_less b a s k)

    off : (x y : ℕ) (rest : Bool) → x ≡ y → by_first x y rest ≡ false → rest ≡ false
    off x y false e f = refl
    off x y true e f = false_true (sym f ∙ by_then x y true e refl)

    left : by_first a b r ≡ false → r ≡ false
    left e = off a b r same e

    right : by_first b a s ≡ false → s ≡ false
    right e = off b a s (sym same) e

-- Stamps, brought versions and versions of sites are ordered so.

pub stamps : Orders is_stamp_below
stamps = record {
  never = λ a. first_never a.site (nat_lt a.n a.n) (le-ltb a.n a.n (omega arith));
  through = λ a b d h k. first_through a.site b.site d.site (nat_lt a.n b.n) (nat_lt b.n d.n) (nat_lt a.n d.n) (λ x y. lt-ltb a.n d.n (between a.n b.n d.n (ltb-true a.n b.n x) (ltb-true b.n d.n y))) h k;
  apart = λ a b h k. (let p : (a.site ≡ b.site) × ((nat_lt a.n b.n ≡ false) × (nat_lt b.n a.n ≡ false)) = first_apart a.site b.site (nat_lt a.n b.n) (nat_lt b.n a.n) h k
      in stamp_is a b p.0 (level a.n b.n (ltb-false a.n b.n p.1.0) (ltb-false b.n a.n p.1.1)));
}
  where
    between : (x y z : ℕ) → x < y → y < z → x < z
    between x y z e f = omega arith

    level : (x y : ℕ) → y ≤ x → x ≤ y → x ≡ y
    level x y e f = omega arith

    stamp_is : (a b : Stamp) → a.site ≡ b.site → a.n ≡ b.n → a ≡ b
    stamp_is a b e f = λ i. record { site = e i; n = f i }

pub broughts : Orders is_brought_below
broughts = record {
  never = λ a. first_never a.ino (is_stamp_below a.stamp a.stamp) (stamps.never a.stamp);
  through = λ a b d h k. first_through a.ino b.ino d.ino (is_stamp_below a.stamp b.stamp) (is_stamp_below b.stamp d.stamp) (is_stamp_below a.stamp d.stamp) (λ x y. stamps.through a.stamp b.stamp d.stamp x y) h k;
  apart = λ a b h k. (let p : (a.ino ≡ b.ino) × ((is_stamp_below a.stamp b.stamp ≡ false) × (is_stamp_below b.stamp a.stamp ≡ false)) = first_apart a.ino b.ino (is_stamp_below a.stamp b.stamp) (is_stamp_below b.stamp a.stamp) h k
      in brought_is a b p.0 (stamps.apart a.stamp b.stamp p.1.0 p.1.1));
}
  where
    brought_is : (a b : Brought) → a.ino ≡ b.ino → a.stamp ≡ b.stamp → a ≡ b
    brought_is a b e f = λ i. record { ino = e i; stamp = f i }

abbrev rest_below : Copy → Copy → Bool
rest_below a b = by_first a.file.ino b.file.ino (is_stamp_below a.stamp b.stamp)

pub copies : Orders is_copy_below
copies = record {
  never = λ a. first_never a.file.group (rest_below a a) (first_never a.file.ino (is_stamp_below a.stamp a.stamp) (stamps.never a.stamp));
  through = λ a b d h k. first_through a.file.group b.file.group d.file.group (rest_below a b) (rest_below b d) (rest_below a d)
      (λ x y. first_through a.file.ino b.file.ino d.file.ino (is_stamp_below a.stamp b.stamp) (is_stamp_below b.stamp d.stamp) (is_stamp_below a.stamp d.stamp) (λ x y. stamps.through a.stamp b.stamp d.stamp x y) x y) h k;
  apart = λ a b h k. (let p : (a.file.group ≡ b.file.group) × ((rest_below a b ≡ false) × (rest_below b a ≡ false)) = first_apart a.file.group b.file.group (rest_below a b) (rest_below b a) h k
      in let q : (a.file.ino ≡ b.file.ino) × ((is_stamp_below a.stamp b.stamp ≡ false) × (is_stamp_below b.stamp a.stamp ≡ false)) = first_apart a.file.ino b.file.ino (is_stamp_below a.stamp b.stamp) (is_stamp_below b.stamp a.stamp) p.1.0 p.1.1
      in copy_is a b p.0 q.0 (stamps.apart a.stamp b.stamp q.1.0 q.1.1));
}
  where
    copy_is : (a b : Copy) → a.file.group ≡ b.file.group → a.file.ino ≡ b.file.ino → a.stamp ≡ b.stamp → a ≡ b
    copy_is a b e f g = λ i. record { file = record { group = e i; ino = f i }; stamp = g i }

-- Putting in.

-- what is put in is there, beside what was
pub any_brought : (q : Brought → Bool) (new : Brought) (bs : List Brought) → list_any q (with_brought new bs) ≡ (q new || list_any q bs)
any_brought q new [] = refl
any_brought q new (b ∷ bs) = at (any_brought q new bs) (is_brought_below new b) (same_brought new b) refl
  where
    turn : (x y z : Bool) → (y || (x || z)) ≡ (x || (y || z))
    turn true true z = refl
    turn true false z = refl
    turn false y z = refl

    twice : (x z : Bool) → (x || z) ≡ (x || (x || z))
    twice true z = refl
    twice false z = refl

    is_it : same_brought new b ≡ true → new ≡ b
    is_it h = (let parts : ((new.ino == b.ino) ≡ true) × (same_stamp new.stamp b.stamp ≡ true) = both_parts (new.ino == b.ino) (same_stamp new.stamp b.stamp) h
        in λ i. record { ino = number_eq new.ino b.ino parts.0 i; stamp = stamp_eq new.stamp b.stamp parts.1 i })

    at : list_any q (with_brought new bs) ≡ (q new || list_any q bs) → (x y : Bool) → same_brought new b ≡ y → list_any q (cond x (new ∷ b ∷ bs) (cond y (b ∷ bs) (b ∷ with_brought new bs))) ≡ (q new || (q b || list_any q bs))
    at later true y e = refl
    at later false true e = twice (q b) (list_any q bs) ∙ ap (λ z. q z || (q b || list_any q bs)) (sym (is_it e))
    at later false false e = ap (λ z. q b || z) later ∙ turn (q new) (q b) (list_any q bs)

pub any_known : (q : Copy → Bool) (new : Copy) (vs : List Copy) → list_any q (with_known new vs) ≡ (q new || list_any q vs)
any_known q new [] = refl
any_known q new (v ∷ vs) = at (any_known q new vs) (is_copy_below new v) (is_copy_below v new) refl refl
  where
    turn : (x y z : Bool) → (y || (x || z)) ≡ (x || (y || z))
    turn true true z = refl
    turn true false z = refl
    turn false y z = refl

    twice : (x z : Bool) → (x || z) ≡ (x || (x || z))
    twice true z = refl
    twice false z = refl

    at : list_any q (with_known new vs) ≡ (q new || list_any q vs) → (x y : Bool) → is_copy_below new v ≡ x → is_copy_below v new ≡ y → list_any q (cond x (new ∷ v ∷ vs) (cond y (v ∷ with_known new vs) (v ∷ vs))) ≡ (q new || (q v || list_any q vs))
    at later true y e f = refl
    at later false true e f = ap (λ z. q v || z) later ∙ turn (q new) (q v) (list_any q vs)
    at later false false e f = twice (q v) (list_any q vs) ∙ ap (λ z. q z || (q v || list_any q vs)) (sym (copies.apart new v e f))

-- all of a list, by what doesn't pass
all_any : {X : Type 0} (q : X → Bool) (xs : List X) → list_all q xs ≡ not (list_any (λ x. not (q x)) xs)
all_any q [] = refl
all_any {X} q (x ∷ xs) = at (q x) (all_any q xs)
  where
    at : (b : Bool) → list_all q xs ≡ not (list_any (λ x. not (q x)) xs) → (b && list_all q xs) ≡ not (not b || list_any (λ x. not (q x)) xs)
    at true h = h
    at false h = refl

all_with : {X : Type 0} (q : X → Bool) (new : X) (xs ys : List X) → list_any (λ x. not (q x)) ys ≡ (not (q new) || list_any (λ x. not (q x)) xs) → q new ≡ true → list_all q xs ≡ true → list_all q ys ≡ true
all_with q new xs ys same h k = all_any q ys ∙ (ap not (same ∙ ap (λ b. not b || list_any (λ x. not (q x)) xs) h) ∙ (sym (all_any q xs) ∙ k))

pub brought_ascends : (new : Brought) (bs : List Brought) → ascends is_brought_below bs ≡ true → ascends is_brought_below (with_brought new bs) ≡ true
brought_ascends new [] h = refl
brought_ascends new (b ∷ bs) h = at (brought_ascends new bs parts.1) (is_brought_below new b) (same_brought new b) refl refl
  where
    parts : (list_all (is_brought_below b) bs ≡ true) × (ascends is_brought_below bs ≡ true)
    parts = both_parts (list_all (is_brought_below b) bs) (ascends is_brought_below bs) h

    above : (x : Bool) → is_brought_below new b ≡ false → same_brought new b ≡ false → is_brought_below b new ≡ x → is_brought_below b new ≡ true
    above true e f g = g
    above false e f g = false_true (sym f ∙ (ap (same_brought new) (sym (broughts.apart new b e g)) ∙ both (new.ino == new.ino) (same_stamp new.stamp new.stamp) (number_own new.ino) (stamp_own new.stamp)))

    at : ascends is_brought_below (with_brought new bs) ≡ true → (x y : Bool) → is_brought_below new b ≡ x → same_brought new b ≡ y → ascends is_brought_below (cond x (new ∷ b ∷ bs) (cond y (b ∷ bs) (b ∷ with_brought new bs))) ≡ true
    at later true y e f = both (list_all (is_brought_below new) (b ∷ bs)) (ascends is_brought_below (b ∷ bs)) (both (is_brought_below new b) (list_all (is_brought_below new) bs) e (all_more (is_brought_below b) (is_brought_below new) (λ x k. broughts.through new b x e k) bs parts.0)) h
    at later false true e f = h
    at later false false e f = both (list_all (is_brought_below b) (with_brought new bs)) (ascends is_brought_below (with_brought new bs)) (all_with (is_brought_below b) new bs (with_brought new bs) (any_brought (λ x. not (is_brought_below b x)) new bs) (above (is_brought_below b new) e f refl) parts.0) later

pub known_ascends : (new : Copy) (vs : List Copy) → ascends is_copy_below vs ≡ true → ascends is_copy_below (with_known new vs) ≡ true
known_ascends new [] h = refl
known_ascends new (v ∷ vs) h = at (known_ascends new vs parts.1) (is_copy_below new v) (is_copy_below v new) refl refl
  where
    parts : (list_all (is_copy_below v) vs ≡ true) × (ascends is_copy_below vs ≡ true)
    parts = both_parts (list_all (is_copy_below v) vs) (ascends is_copy_below vs) h

    at : ascends is_copy_below (with_known new vs) ≡ true → (x y : Bool) → is_copy_below new v ≡ x → is_copy_below v new ≡ y → ascends is_copy_below (cond x (new ∷ v ∷ vs) (cond y (v ∷ with_known new vs) (v ∷ vs))) ≡ true
    at later true y e f = both (list_all (is_copy_below new) (v ∷ vs)) (ascends is_copy_below (v ∷ vs)) (both (is_copy_below new v) (list_all (is_copy_below new) vs) e (all_more (is_copy_below v) (is_copy_below new) (λ x k. copies.through new v x e k) vs parts.0)) h
    at later false true e f = both (list_all (is_copy_below v) (with_known new vs)) (ascends is_copy_below (with_known new vs)) (all_with (is_copy_below v) new vs (with_known new vs) (any_known (λ x. not (is_copy_below v x)) new vs) f parts.0) later
    at later false false e f = h

-- Two that have the same.

abbrev pub has_brought : List Brought → Brought → Bool
has_brought bs x = list_any (λ b. same_brought b x) bs

brought_own : (b : Brought) → same_brought b b ≡ true
brought_own b = both (b.ino == b.ino) (same_stamp b.stamp b.stamp) (number_own b.ino) (stamp_own b.stamp)

brought_eq : (a b : Brought) → same_brought a b ≡ true → a ≡ b
brought_eq a b h = (let parts : ((a.ino == b.ino) ≡ true) × (same_stamp a.stamp b.stamp ≡ true) = both_parts (a.ino == b.ino) (same_stamp a.stamp b.stamp) h
    in λ i. record { ino = number_eq a.ino b.ino parts.0 i; stamp = stamp_eq a.stamp b.stamp parts.1 i })

-- one that is there passes what all pass
has_all : (q : Brought → Bool) (bs : List Brought) (x : Brought) → list_all q bs ≡ true → has_brought bs x ≡ true → q x ≡ true
has_all q [] x h k = false_true k
has_all q (b ∷ bs) x h k = at (has_all q bs x (both_parts (q b) (list_all q bs) h).1) (same_brought b x) refl k
  where
    at : (has_brought bs x ≡ true → q x ≡ true) → (y : Bool) → same_brought b x ≡ y → (y || has_brought bs x) ≡ true → q x ≡ true
    at later true e j = ap q (sym (brought_eq b x e)) ∙ (both_parts (q b) (list_all q bs) h).0
    at later false e j = later j

not_in : (b : Brought) (bs : List Brought) → list_all (is_brought_below b) bs ≡ true → has_brought bs b ≡ false
not_in b bs h = at (has_brought bs b) refl
  where
    at : (x : Bool) → has_brought bs b ≡ x → has_brought bs b ≡ false
    at false e = e
    at true e = false_true (sym (broughts.never b) ∙ has_all (is_brought_below b) bs b h e)

pub same_broughts : (xs ys : List Brought) → ascends is_brought_below xs ≡ true → ascends is_brought_below ys ≡ true → ((z : Brought) → has_brought xs z ≡ has_brought ys z) → xs ≡ ys
same_broughts [] [] h k same = refl
same_broughts [] (y ∷ ys) h k same = false_true (same y ∙ ap (λ b. b || has_brought ys y) (brought_own y))
same_broughts (x ∷ xs) [] h k same = false_true (sym (same x) ∙ ap (λ b. b || has_brought xs x) (brought_own x))
same_broughts (x ∷ xs) (y ∷ ys) h k same = ap (λ z. z ∷ xs) first ∙ ap (λ zs. y ∷ zs) (same_broughts xs ys of_x.1 of_y.1 rest)
  where
    of_x : (list_all (is_brought_below x) xs ≡ true) × (ascends is_brought_below xs ≡ true)
    of_x = both_parts (list_all (is_brought_below x) xs) (ascends is_brought_below xs) h

    of_y : (list_all (is_brought_below y) ys ≡ true) × (ascends is_brought_below ys ≡ true)
    of_y = both_parts (list_all (is_brought_below y) ys) (ascends is_brought_below ys) k

    x_there : (same_brought y x || has_brought ys x) ≡ true
    x_there = sym (same x) ∙ ap (λ b. b || has_brought xs x) (brought_own x)

    y_there : (same_brought x y || has_brought xs y) ≡ true
    y_there = same y ∙ ap (λ b. b || has_brought ys y) (brought_own y)

    first : x ≡ y
    first = at (same_brought y x) (same_brought x y) refl refl x_there y_there
      where
        at : (a b : Bool) → same_brought y x ≡ a → same_brought x y ≡ b → (a || has_brought ys x) ≡ true → (b || has_brought xs y) ≡ true → x ≡ y
        at true b e f i j = sym (brought_eq y x e)
        at false true e f i j = brought_eq x y f
        at false false e f i j = false_true (sym (broughts.never x) ∙ broughts.through x y x (has_all (is_brought_below x) xs y of_x.0 j) (has_all (is_brought_below y) ys x of_y.0 i))

    rest : (z : Brought) → has_brought xs z ≡ has_brought ys z
    rest z = at (same_brought x z) refl
      where
        at : (a : Bool) → same_brought x z ≡ a → has_brought xs z ≡ has_brought ys z
        at true e = ap (has_brought xs) (sym (brought_eq x z e)) ∙ (not_in x xs of_x.0 ∙ (sym (not_in y ys of_y.0) ∙ ap (has_brought ys) (sym first ∙ brought_eq x z e)))
        at false e = sym (ap (λ b. b || has_brought xs z) e) ∙ (same z ∙ ap (λ b. b || has_brought ys z) (ap (λ w. same_brought w z) (sym first) ∙ e))
