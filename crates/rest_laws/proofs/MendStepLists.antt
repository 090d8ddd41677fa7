-- Lists of versions that ascend by their inodes are put together of those of each inode.
use Rattle.std.proofs.Common.{◌≡◌, ℕ, ◌==◌, ◌<◌, ◌≤◌, Bool, true, false, not, cond, ◌||◌, List, [], ◌∷◌, ◌++◌, map, filter, refl, sym, ◌∙◌, ap, arith, inl, inr}
use Rattle.std.proofs.lemmas.Bool.Decides.{nat_tests}
use Rattle.role_steps.proofs.of_plain_facts.Numbers.{above_apart, equal}
use Rattle.role_steps.proofs.of_plain_facts.Tests.{or_true, true_false}
use Rattle.locus_ids.specs.declared.ids.Brought.{Brought}
use Rattle.locus_ids.specs.declared.ids.Stamp.{Stamp}
use Rattle.commit_graph.specs.Versions.{same_stamp}
use Rattle.role_steps.specs.Own.{Every}
use Rattle.the_run.specs.Kept.{Among}
use Rattle.tree_model.specs.State.{has_stamp, stamps_of}
use Rattle.store_laws.proofs.of_tree_laws.Orders.Standing.{same_stamp_eq}

abbrev pub is_at : ℕ → Brought → Bool
is_at k b = b.ino == k

abbrev not_at : ℕ → Brought → Bool
not_at k b = not (b.ino == k)

abbrev pub one_at : ℕ → Stamp → Brought
one_at k s = record { ino = k; stamp = s }

-- no inode comes after a greater one
abbrev pub Climbs : List Brought → Type 0
Climbs [] = Unit {0}
Climbs (b ∷ bs) = Every (λ (y : Brought). b.ino ≤ y.ino) bs × Climbs bs

-- ---- tests on numbers ----

apart_above : (k n : ℕ) → k ≤ n → (n == k) ≡ false → k < n
apart_above k n le e = grind (arith, nat_tests)

through : (a b d : ℕ) → a < b → b ≤ d → a < d
through a b d p q = omega (arith, p, q)

-- ---- of one inode, and of the others ----

every_then : {A : Type 0} (P Q : A → Type 0) → ((x : A) → P x → Q x) → (xs : List A) → Every P xs → Every Q xs
every_then P Q then [] h = tt
every_then P Q then (x ∷ xs) h = (then x h.0, every_then P Q then xs h.1)

every_filter : {A : Type 0} (P : A → Type 0) (q : A → Bool) (xs : List A) → Every P xs → Every P (filter q xs)
every_filter P q [] h = tt
every_filter P q (x ∷ xs) h = at (q x) (every_filter P q xs h.1)
  where
    at : (b : Bool) → Every P (filter q xs) → Every P (cond b (x ∷ filter q xs) (filter q xs))
    at true later = (h.0, later)
    at false later = later

pub climbs_filter : (q : Brought → Bool) (bs : List Brought) → Climbs bs → Climbs (filter q bs)
climbs_filter q [] h = tt
climbs_filter q (b ∷ bs) h = at (q b) (climbs_filter q bs h.1)
  where
    at : (x : Bool) → Climbs (filter q bs) → Climbs (cond x (b ∷ filter q bs) (filter q bs))
    at true later = (every_filter (λ (y : Brought). b.ino ≤ y.ino) q bs h.0, later)
    at false later = later

none_there : (k : ℕ) (bs : List Brought) → Every (λ (y : Brought). k < y.ino) bs → filter (is_at k) bs ≡ []
none_there k [] h = refl
none_there k (b ∷ bs) h = ap (λ (x : Bool). cond x (b ∷ filter (is_at k) bs) (filter (is_at k) bs)) (above_apart k b.ino h.0) ∙ none_there k bs h.1

all_others : (k : ℕ) (bs : List Brought) → Every (λ (y : Brought). k < y.ino) bs → filter (not_at k) bs ≡ bs
all_others k [] h = refl
all_others k (b ∷ bs) h = ap (λ (x : Bool). cond (not x) (b ∷ filter (not_at k) bs) (filter (not_at k) bs)) (above_apart k b.ino h.0) ∙ ap (λ (ys : List Brought). b ∷ ys) (all_others k bs h.1)

-- those of the lowest inode stand before the others
pub parted : (k : ℕ) (bs : List Brought) → Climbs bs → Every (λ (y : Brought). k ≤ y.ino) bs → filter (is_at k) bs ++ filter (not_at k) bs ≡ bs
parted k [] up low = refl
parted k (b ∷ bs) up low = at (parted k bs up.1 low.1) (b.ino == k) refl
  where
    at : filter (is_at k) bs ++ filter (not_at k) bs ≡ bs → (x : Bool) → (b.ino == k) ≡ x → cond x (b ∷ filter (is_at k) bs) (filter (is_at k) bs) ++ cond (not x) (b ∷ filter (not_at k) bs) (filter (not_at k) bs) ≡ b ∷ bs
    at later true e = ap (λ (ys : List Brought). b ∷ ys) later
    at later false e = ap (λ (ys : List Brought). ys ++ b ∷ filter (not_at k) bs) (none_there k bs above) ∙ ap (λ (ys : List Brought). b ∷ ys) (all_others k bs above)
      where
        above : Every (λ (y : Brought). k < y.ino) bs
        above = every_then (λ (y : Brought). b.ino ≤ y.ino) (λ (y : Brought). k < y.ino) (λ y le. through k b.ino y.ino (apart_above k b.ino low.0 e) le) bs up.0

-- ---- the stamps of one inode ----

abbrev stamps : List Brought → List Stamp
stamps bs = map (λ (y : Brought). y.stamp) bs

pub stamps_back : (k : ℕ) (bs : List Brought) → map (one_at k) (stamps_of bs k) ≡ filter (is_at k) bs
stamps_back k [] = refl
stamps_back k (b ∷ bs) = at (stamps_back k bs) (b.ino == k) refl
  where
    at : map (one_at k) (stamps_of bs k) ≡ filter (is_at k) bs → (x : Bool) → (b.ino == k) ≡ x → map (one_at k) (map (λ (y : Brought). y.stamp) (cond x (b ∷ filter (is_at k) bs) (filter (is_at k) bs))) ≡ cond x (b ∷ filter (is_at k) bs) (filter (is_at k) bs)
    at later true e = ap (λ (n : ℕ). one_at n b.stamp ∷ map (one_at k) (stamps_of bs k)) (sym (equal b.ino k e)) ∙ ap (λ (ys : List Brought). b ∷ ys) later
    at later false e = later

pub stamps_none : (k : ℕ) (bs : List Brought) → stamps_of (filter (not_at k) bs) k ≡ []
stamps_none k [] = refl
stamps_none k (b ∷ bs) = at (stamps_none k bs) (b.ino == k) refl
  where
    at : stamps_of (filter (not_at k) bs) k ≡ [] → (x : Bool) → (b.ino == k) ≡ x → stamps_of (cond (not x) (b ∷ filter (not_at k) bs) (filter (not_at k) bs)) k ≡ []
    at later true e = later
    at later false e = ap (λ (x : Bool). map (λ (y : Brought). y.stamp) (cond x (b ∷ filter (is_at k) (filter (not_at k) bs)) (filter (is_at k) (filter (not_at k) bs)))) e ∙ later

pub stamps_others : (k n : ℕ) (bs : List Brought) → (k == n) ≡ false → stamps_of (filter (not_at k) bs) n ≡ stamps_of bs n
stamps_others k n [] apart = refl
stamps_others k n (b ∷ bs) apart = at (stamps_others k n bs apart) (b.ino == k) refl
  where
    differs : (b.ino == k) ≡ true → (b.ino == n) ≡ false
    differs e = ap (λ (m : ℕ). m == n) (equal b.ino k e) ∙ apart

    inner : stamps_of (filter (not_at k) bs) n ≡ stamps_of bs n → (x : Bool) → stamps (cond x (b ∷ filter (is_at n) (filter (not_at k) bs)) (filter (is_at n) (filter (not_at k) bs))) ≡ stamps (cond x (b ∷ filter (is_at n) bs) (filter (is_at n) bs))
    inner later true = ap (λ (ss : List Stamp). b.stamp ∷ ss) later
    inner later false = later

    at : stamps_of (filter (not_at k) bs) n ≡ stamps_of bs n → (x : Bool) → (b.ino == k) ≡ x → stamps_of (cond (not x) (b ∷ filter (not_at k) bs) (filter (not_at k) bs)) n ≡ stamps_of (b ∷ bs) n
    at later true e = later ∙ sym (ap (λ (x : Bool). stamps (cond x (b ∷ filter (is_at n) bs) (filter (is_at n) bs))) (differs e))
    at later false e = inner later (b.ino == n)

-- of those that pass a test, which for this inode is one on stamps
pub stamps_filter : (q : Brought → Bool) (p : Stamp → Bool) (k : ℕ) → ((b : Brought) → b.ino ≡ k → q b ≡ p b.stamp) → (bs : List Brought) → stamps_of (filter q bs) k ≡ filter p (stamps_of bs k)
stamps_filter q p k same [] = refl
stamps_filter q p k same (b ∷ bs) = at (stamps_filter q p k same bs) (b.ino == k) refl (q b) refl
  where
    at : stamps_of (filter q bs) k ≡ filter p (stamps_of bs k) → (x : Bool) → (b.ino == k) ≡ x → (y : Bool) → q b ≡ y → stamps_of (cond y (b ∷ filter q bs) (filter q bs)) k ≡ filter p (stamps (cond x (b ∷ filter (is_at k) bs) (filter (is_at k) bs)))
    at later true e true f = ap (λ (x : Bool). stamps (cond x (b ∷ filter (is_at k) (filter q bs)) (filter (is_at k) (filter q bs)))) e
        ∙ (ap (λ (ss : List Stamp). b.stamp ∷ ss) later
        ∙ sym (ap (λ (x : Bool). cond x (b.stamp ∷ filter p (stamps_of bs k)) (filter p (stamps_of bs k))) (sym (same b (equal b.ino k e)) ∙ f)))
    at later true e false f = later ∙ sym (ap (λ (x : Bool). cond x (b.stamp ∷ filter p (stamps_of bs k)) (filter p (stamps_of bs k))) (sym (same b (equal b.ino k e)) ∙ f))
    at later false e true f = ap (λ (x : Bool). stamps (cond x (b ∷ filter (is_at k) (filter q bs)) (filter (is_at k) (filter q bs)))) e ∙ later
    at later false e false f = later

-- ---- stamps that are among those that pass ----

among_passes : (g : Stamp → Bool) (ss : List Stamp) (s : Stamp) → has_stamp (filter g ss) s ≡ true → g s ≡ true
among_passes g [] s h = absurd (true_false (sym h))
among_passes g (t ∷ ts) s h = at (among_passes g ts s) (g t) refl h
  where
    here : (has_stamp (filter g ts) s ≡ true → g s ≡ true) → g t ≡ true → (x : Bool) → same_stamp t s ≡ x → (x || has_stamp (filter g ts) s) ≡ true → g s ≡ true
    here later p true e k = ap g (sym (same_stamp_eq t s e)) ∙ p
    here later p false e k = later k

    at : (has_stamp (filter g ts) s ≡ true → g s ≡ true) → (x : Bool) → g t ≡ x → has_stamp (cond x (t ∷ filter g ts) (filter g ts)) s ≡ true → g s ≡ true
    at later true p k = here later p (same_stamp t s) refl k
    at later false p k = later k

pub own_stamp : (s : Stamp) → same_stamp s s ≡ true
own_stamp s = grind (arith, nat_tests)

passes_among : (g : Stamp → Bool) (ss : List Stamp) (s : Stamp) → Among s ss → g s ≡ true → has_stamp (filter g ss) s ≡ true
passes_among g [] s m p = absurd m
passes_among g (t ∷ ts) s (inl e) p = ap (λ (x : Bool). has_stamp (cond x (t ∷ filter g ts) (filter g ts)) s) (ap g (sym e) ∙ p) ∙ (ap (λ (y : Stamp). same_stamp y s || has_stamp (filter g ts) s) (sym e) ∙ ap (λ (x : Bool). x || has_stamp (filter g ts) s) (own_stamp s))
passes_among g (t ∷ ts) s (inr m) p = at (passes_among g ts s m p) (g t)
  where
    at : has_stamp (filter g ts) s ≡ true → (x : Bool) → has_stamp (cond x (t ∷ filter g ts) (filter g ts)) s ≡ true
    at later true = ap (λ (x : Bool). same_stamp t s || x) later ∙ or_true (same_stamp t s)
    at later false = later

passes_same : (g : Stamp → Bool) (ss : List Stamp) (s : Stamp) → Among s ss → has_stamp (filter g ss) s ≡ g s
passes_same g ss s m = at (g s) refl (has_stamp (filter g ss) s) refl
  where
    at : (x : Bool) → g s ≡ x → (y : Bool) → has_stamp (filter g ss) s ≡ y → y ≡ x
    at true p y e = sym e ∙ passes_among g ss s m p
    at false p true e = sym (among_passes g ss s e) ∙ p
    at false p false e = refl

filter_like : (p g : Stamp → Bool) (ss : List Stamp) → ((s : Stamp) → Among s ss → p s ≡ g s) → filter p ss ≡ filter g ss
filter_like p g [] same = refl
filter_like p g (s ∷ ss) same = at (g s) (same s (inl refl)) (filter_like p g ss (λ t m. same t (inr m)))
  where
    at : (x : Bool) → p s ≡ x → filter p ss ≡ filter g ss → cond (p s) (s ∷ filter p ss) (filter p ss) ≡ cond x (s ∷ filter g ss) (filter g ss)
    at true e later = ap (λ (x : Bool). cond x (s ∷ filter p ss) (filter p ss)) e ∙ ap (λ (ys : List Stamp). s ∷ ys) later
    at false e later = ap (λ (x : Bool). cond x (s ∷ filter p ss) (filter p ss)) e ∙ later

-- the stamps that are among those that pass are those that pass
pub filter_again : (g : Stamp → Bool) (ss : List Stamp) → filter (has_stamp (filter g ss)) ss ≡ filter g ss
filter_again g ss = filter_like (has_stamp (filter g ss)) g ss (passes_same g ss)

-- and all of them are among all
pub has_filtered : (p : Stamp → Bool) (ss : List Stamp) (s : Stamp) → has_stamp (filter p ss) s ≡ true → has_stamp ss s ≡ true
has_filtered p [] s h = h
has_filtered p (t ∷ ts) s h = at (has_filtered p ts s) (p t) h
  where
    first : (has_stamp (filter p ts) s ≡ true → has_stamp ts s ≡ true) → (x : Bool) → (x || has_stamp (filter p ts) s) ≡ true → (x || has_stamp ts s) ≡ true
    first more true k = refl
    first more false k = more k

    later : (x : Bool) → has_stamp ts s ≡ true → (x || has_stamp ts s) ≡ true
    later true k = refl
    later false k = k

    at : (has_stamp (filter p ts) s ≡ true → has_stamp ts s ≡ true) → (x : Bool) → has_stamp (cond x (t ∷ filter p ts) (filter p ts)) s ≡ true → has_stamp (t ∷ ts) s ≡ true
    at more true k = first more (same_stamp t s) k
    at more false k = later (same_stamp t s) (more k)
