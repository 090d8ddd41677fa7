-- Two lists that have the same version of each inode have as many pages.
use Rattle.std.proofs.Common.{◌≡◌, ℕ, ◌+◌, ◌==◌, ◌≤◌, Bool, true, false, not, cond, ◌&&◌, List, [], ◌∷◌, length, filter, Option, Some, None, refl, sym, ap, subst, ◌∙◌, arith}
use Rattle.std.specs.Prelude.{sum_by, fold}
use Rattle.std.specs.List.{find}
use Rattle.std.proofs.lemmas.List.Filters.{sum_by-filter_both}
use Rattle.locus_ids.specs.declared.ids.Stamp.{Stamp}
use Rattle.tree_model.specs.Working.{list_of}
use Rattle.past_laws.proofs.Names.{number_eq, number_own, false_true}
use Rattle.past_laws.proofs.TreesLists.{filter_one, filter_less, find_both, find_same, found_passes, missed, none_of, number_test}

-- a version of an inode, if there is one
pub record Version : Type 0 where
  pub ino : ℕ
  pub stamp : Option Stamp

abbrev pub is_of : ℕ → Version → Bool
is_of n v = v.ino == n

abbrev pub stamp_of : Option Version → Option Stamp
stamp_of None = None
stamp_of (Some v) = v.stamp

-- what a list has of an inode
abbrev pub look : List Version → ℕ → Option Stamp
look vs n = stamp_of (find (is_of n) vs)

abbrev but : ℕ → Version → Bool
but n v = not (v.ino == n)

look_own : (n : ℕ) (vs : List Version) → look (filter (but n) vs) n ≡ None
look_own n vs = ap stamp_of (find_both (is_of n) (but n) vs ∙ (find_same (λ v. is_of n v && but n v) (λ v. false) (λ v. never (is_of n v)) vs ∙ nothing vs))
  where
    never : (b : Bool) → (b && not b) ≡ false
    never true = refl
    never false = refl

    nothing : (ws : List Version) → find (λ v. false) ws ≡ None
    nothing [] = refl
    nothing (w ∷ ws) = nothing ws

look_other : (n m : ℕ) (vs : List Version) → (m == n) ≡ false → look (filter (but n) vs) m ≡ look vs m
look_other n m vs ne = ap stamp_of (find_both (is_of m) (but n) vs ∙ find_same (λ v. is_of m v && but n v) (is_of m) (λ v. same v (is_of m v) (is_of n v) refl refl) vs)
  where
    same : (v : Version) (a b : Bool) → is_of m v ≡ a → is_of n v ≡ b → (is_of m v && but n v) ≡ is_of m v
    same v true true e f = false_true (sym ne ∙ number_test m n (sym (number_eq v.ino m e) ∙ number_eq v.ino n f))
    same v true false e f = rw e (rw f refl)
    same v false b e f = rw e refl

split : (f : Version → ℕ) → ((n : ℕ) → f (record { ino = n; stamp = None }) ≡ 0) → (n : ℕ) (vs : List Version) → length (filter (is_of n) vs) ≤ 1 → sum_by f vs ≡ f (record { ino = n; stamp = look vs n }) + sum_by f (filter (but n) vs)
split f none n vs one = sym (sum_by-filter_both (is_of n) (but n) (λ v. refl) f vs) ∙ ap (λ k. k + sum_by f (filter (but n) vs)) (ap (sum_by f) (filter_one (is_of n) vs one) ∙ at (find (is_of n) vs) refl)
  where
    at : (o : Option Version) → find (is_of n) vs ≡ o → sum_by f (list_of o) ≡ f (record { ino = n; stamp = stamp_of o })
    at None e = sym (none n)
    at (Some v) e = (let own : 0 + f v ≡ f v = omega arith in own ∙ ap (λ k. f (record { ino = k; stamp = v.stamp })) (number_eq v.ino n (found_passes (is_of n) vs v e)))

cons_sum : (f : Version → ℕ) (a : ℕ) (vs : List Version) → fold (λ k v. k + f v) a vs ≡ a + sum_by f vs
cons_sum f a [] = omega arith
cons_sum f a (v ∷ vs) = cons_sum f (a + f v) vs ∙ (at (sum_by f vs) ∙ ap (λ k. a + k) (sym (cons_sum f (0 + f v) vs)))
  where
    at : (k : ℕ) → (a + f v) + k ≡ a + ((0 + f v) + k)
    at k = omega arith

pub same_sums : (f : Version → ℕ) → ((n : ℕ) → f (record { ino = n; stamp = None }) ≡ 0) → (xs ys : List Version) → ((n : ℕ) → length (filter (is_of n) xs) ≤ 1) → ((n : ℕ) → length (filter (is_of n) ys) ≤ 1) → ((n : ℕ) → look xs n ≡ look ys n) → sum_by f xs ≡ sum_by f ys
same_sums f none [] [] one other same = refl
same_sums f none [] (y ∷ ys) one other same = same_sums f none [] ys one (λ n. rest n) (λ n. absent n) ∙ sym (cons_sum f (0 + f y) ys ∙ at (f y) (sum_by f ys) nothing)
  where
    fewer : (n : ℕ) (b : Bool) → length (cond b (y ∷ filter (is_of n) ys) (filter (is_of n) ys)) ≤ 1 → length (filter (is_of n) ys) ≤ 1
    fewer n true h = omega arith
    fewer n false h = h

    rest : (n : ℕ) → length (filter (is_of n) ys) ≤ 1
    rest n = fewer n (is_of n y) (other n)

    nothing : f y ≡ 0
    nothing = ap (λ s. f (record { ino = y.ino; stamp = s })) (sym (ap (λ b. stamp_of (cond b (Some y) (find (is_of y.ino) ys))) (number_own y.ino)) ∙ sym (same y.ino)) ∙ none y.ino

    away : length (y ∷ filter (is_of y.ino) ys) ≤ 1 → length (filter (is_of y.ino) ys) ≡ 0
    away h = omega arith

    gone : find (is_of y.ino) ys ≡ None
    gone = missed (is_of y.ino) ys (none_of (is_of y.ino) ys (away (subst (λ b. length (cond b (y ∷ filter (is_of y.ino) ys) (filter (is_of y.ino) ys)) ≤ 1) (number_own y.ino) (other y.ino))))

    absent : (n : ℕ) → look [] n ≡ look ys n
    absent n = by (is_of n y) refl
      where
        by : (b : Bool) → is_of n y ≡ b → None ≡ look ys n
        by true e = sym (ap (look ys) (sym (number_eq y.ino n e)) ∙ ap stamp_of gone)
        by false e = same n ∙ ap (λ b. stamp_of (cond b (Some y) (find (is_of n) ys))) e

    at : (a b : ℕ) → a ≡ 0 → (0 + a) + b ≡ b
    at a b e = omega arith
same_sums f none (x ∷ xs) ys one other same = cons_sum f (0 + f x) xs ∙ (at (f x) (sum_by f xs) ∙ (ap (λ k. f x + k) (same_sums f none xs (filter (but x.ino) ys) (λ n. fewer n (is_of n x) (one n)) (λ n. less n) (λ n. rest n)) ∙ (ap (λ s. f (record { ino = x.ino; stamp = s }) + sum_by f (filter (but x.ino) ys)) own ∙ sym (split f none x.ino ys (other x.ino)))))
  where
    at : (a b : ℕ) → (0 + a) + b ≡ a + b
    at a b = omega arith

    fewer : (n : ℕ) (b : Bool) → length (cond b (x ∷ filter (is_of n) xs) (filter (is_of n) xs)) ≤ 1 → length (filter (is_of n) xs) ≤ 1
    fewer n true h = omega arith
    fewer n false h = h

    less : (n : ℕ) → length (filter (is_of n) (filter (but x.ino) ys)) ≤ 1
    less n = omega (arith, filter_less (is_of n) (but x.ino) ys, other n)

    own : x.stamp ≡ look ys x.ino
    own = sym (ap (λ b. stamp_of (cond b (Some x) (find (is_of x.ino) xs))) (number_own x.ino)) ∙ same x.ino

    away : length (x ∷ filter (is_of x.ino) xs) ≤ 1 → length (filter (is_of x.ino) xs) ≡ 0
    away h = omega arith

    gone : find (is_of x.ino) xs ≡ None
    gone = missed (is_of x.ino) xs (none_of (is_of x.ino) xs (away (subst (λ b. length (cond b (x ∷ filter (is_of x.ino) xs) (filter (is_of x.ino) xs)) ≤ 1) (number_own x.ino) (one x.ino))))

    rest : (n : ℕ) → look xs n ≡ look (filter (but x.ino) ys) n
    rest n = by (n == x.ino) refl
      where
        by : (b : Bool) → (n == x.ino) ≡ b → look xs n ≡ look (filter (but x.ino) ys) n
        by true e = ap (look xs) (number_eq n x.ino e) ∙ (ap stamp_of gone ∙ (sym (look_own x.ino ys) ∙ ap (look (filter (but x.ino) ys)) (sym (number_eq n x.ino e))))
        by false e = sym (ap (λ b. stamp_of (cond b (Some x) (find (is_of n) xs))) (apart (x.ino == n) refl)) ∙ (same n ∙ sym (look_other x.ino n ys e))
          where
            apart : (b : Bool) → (x.ino == n) ≡ b → (x.ino == n) ≡ false
            apart false h = h
            apart true h = false_true (sym e ∙ number_test n x.ino (sym (number_eq x.ino n h)))
