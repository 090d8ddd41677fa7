-- What some of a list pass once one is changed or taken out; and what a site brings when it joins.
use Rattle.std.proofs.Common.{◌≡◌, ℕ, ◌==◌, Bool, true, false, not, ◌&&◌, ◌||◌, cond, List, [], ◌∷◌, filter, map, Some, refl, sym, ap, ◌∙◌, subst, ◌⊎◌, inl, inr}
use Rattle.std.specs.List.{find, list_any}
use Rattle.tree_laws.proofs.of_plain_facts.Numbers.{equal, equal_self}
use Rattle.tree_laws.proofs.of_plain_facts.Options.{none_some, some_same}
use Rattle.tree_laws.proofs.of_plain_facts.Tests.{and_first, and_second, or_either, or_first, or_second, true_false}
use Rattle.locus_ids.specs.declared.ids.Brought.{Brought}
use Rattle.locus_ids.specs.declared.ids.FileId.{FileId}
use Rattle.locus_ids.specs.declared.ids.Stamp.{Stamp}
use Rattle.commit_graph.specs.Grants.{is_read}
use Rattle.commit_graph.specs.Versions.{same_file, same_stamp}
use Rattle.commit_graph.proofs.Names.{same_stamp_refl}
use Rattle.tree_model.specs.declared.copy.HeldCopy.{HeldCopy}
use Rattle.tree_model.specs.declared.instance.Instance.{Instance}
use Rattle.tree_model.specs.Lists.{change_first, without_first}
use Rattle.tree_model.specs.Same.{same_brought}
use Rattle.tree_model.specs.State.{copy_of, has_stamp, is_brought_below, is_writer, stamps_of, with_all, with_brought}
use Rattle.tree_laws.specs.of_lawful_trace.TreeRows.{is_writing}
use Rattle.tree_laws.proofs.Knowing.{Knows, knows_all}
use Rattle.tree_laws.proofs.Orders.Standing.{same_stamp_eq}

-- ---- some of a list ----

pub any_changed : {X : Type 0} (p q : X → Bool) (change : X → X) → ((x : X) → p x ≡ true → p (change x) ≡ true) → (xs : List X) → list_any p xs ≡ true → list_any p (change_first q change xs) ≡ true
any_changed p q change then [] h = absurd (true_false (sym h))
any_changed p q change then (x ∷ xs) h = at (q x) (or_either (p x) (list_any p xs) h) (any_changed p q change then xs)
  where
    at : (b : Bool) → (p x ≡ true) ⊎ (list_any p xs ≡ true) → (list_any p xs ≡ true → list_any p (change_first q change xs) ≡ true) → list_any p (cond b (change x ∷ xs) (x ∷ change_first q change xs)) ≡ true
    at true (inl k) later = or_first (p (change x)) (list_any p xs) (then x k)
    at true (inr k) later = or_second (p (change x)) (list_any p xs) k
    at false (inl k) later = or_first (p x) (list_any p (change_first q change xs)) k
    at false (inr k) later = or_second (p x) (list_any p (change_first q change xs)) (later k)

-- one that passes is changed so that it passes the other test
pub any_turned : {X : Type 0} (p q : X → Bool) (change : X → X) → ((x : X) → q x ≡ true → p (change x) ≡ true) → (xs : List X) → list_any q xs ≡ true → list_any p (change_first q change xs) ≡ true
any_turned p q change then [] h = absurd (true_false (sym h))
any_turned p q change then (x ∷ xs) h = at (q x) refl (or_either (q x) (list_any q xs) h) (any_turned p q change then xs)
  where
    at : (b : Bool) → q x ≡ b → (q x ≡ true) ⊎ (list_any q xs ≡ true) → (list_any q xs ≡ true → list_any p (change_first q change xs) ≡ true) → list_any p (cond b (change x ∷ xs) (x ∷ change_first q change xs)) ≡ true
    at true e k later = or_first (p (change x)) (list_any p xs) (then x e)
    at false e (inl k) later = absurd (true_false (sym k ∙ e))
    at false e (inr k) later = or_second (p x) (list_any p (change_first q change xs)) (later k)

-- the one that is taken out passed, or another one does
pub record Taken {X : Type 0} (p q : X → Bool) (xs : List X) : Type 0 where
  pub one : X
  pub found : find q xs ≡ Some one
  pub passes : p one ≡ true

pub any_without : {X : Type 0} (p q : X → Bool) (xs : List X) → list_any p xs ≡ true → (list_any p (without_first q xs) ≡ true) ⊎ Taken p q xs
any_without p q [] h = absurd (true_false (sym h))
any_without p q (x ∷ xs) h = at (q x) refl (or_either (p x) (list_any p xs) h) (any_without p q xs)
  where
    more : q x ≡ false → Taken p q xs → Taken p q (x ∷ xs)
    more e k = record { one = k.one; found = rw e k.found; passes = k.passes }

    over : q x ≡ false → (list_any p (without_first q xs) ≡ true) ⊎ Taken p q xs → (p x || list_any p (without_first q xs) ≡ true) ⊎ Taken p q (x ∷ xs)
    over e (inl k) = inl (or_second (p x) (list_any p (without_first q xs)) k)
    over e (inr k) = inr (more e k)

    at : (b : Bool) → q x ≡ b → (p x ≡ true) ⊎ (list_any p xs ≡ true) → (list_any p xs ≡ true → (list_any p (without_first q xs) ≡ true) ⊎ Taken p q xs) → (list_any p (cond b xs (x ∷ without_first q xs)) ≡ true) ⊎ Taken p q (x ∷ xs)
    at true e (inl k) later = inr (record { one = x; found = rw e refl; passes = k })
    at true e (inr k) later = inl k
    at false e (inl k) later = inl (or_first (p x) (list_any p (without_first q xs)) k)
    at false e (inr k) later = over e (later k)

-- the one that writes a file at the site is among the writers there
pub one_writes : (g : FileId) (z : ℕ) (y : Instance) → y.grant.ss ≡ z → (xs : List Instance) → filter (is_writing g) xs ≡ y ∷ [] → list_any (is_writer g z) xs ≡ true
one_writes g z y at_site [] q = absurd (empty q)
  where
    empty : ◌≡◌ {A = List Instance} [] (y ∷ []) → ⊥
    empty q = cc
one_writes g z y at_site (x ∷ xs) q = at (is_writing g x) refl q (one_writes g z y at_site xs)
  where
    both : (a b d : Bool) → a && d ≡ true → b ≡ true → a && (b && d) ≡ true
    both true true d k l = k
    both true false d k l = absurd (true_false (sym l))
    both false b d k l = absurd (true_false (sym k))

    writes : is_writing g x ≡ true → x ≡ y → is_writer g z x ≡ true
    writes k is = both (same_file x.grant.file g) (x.grant.ss == z) (not (is_read x.grant.mode)) k (subst (λ (m : ℕ). (x.grant.ss == m) ≡ true) (ap (λ (w : Instance). w.grant.ss) is ∙ at_site) (equal_self x.grant.ss))

    head : ◌≡◌ {A = List Instance} (x ∷ filter (is_writing g) xs) (y ∷ []) → x ≡ y
    head q = cc

    at : (b : Bool) → is_writing g x ≡ b → cond b (x ∷ filter (is_writing g) xs) (filter (is_writing g) xs) ≡ y ∷ [] → (filter (is_writing g) xs ≡ y ∷ [] → list_any (is_writer g z) xs ≡ true) → list_any (is_writer g z) (x ∷ xs) ≡ true
    at true l q later = or_first (is_writer g z x) (list_any (is_writer g z) xs) (writes l (head q))
    at false l q later = or_second (is_writer g z x) (list_any (is_writer g z) xs) (later q)

-- ---- what a site brings is known ----

pub knows_new : (ino : ℕ) (s : Stamp) (bs : List Brought) → Knows ino s (with_brought (record { ino = ino; stamp = s }) bs)
knows_new ino s [] = first ino s []
  where
    first : (ino : ℕ) (s : Stamp) (bs : List Brought) → Knows ino s (record { ino = ino; stamp = s } ∷ bs)
    first ino s bs = rw (equal_self ino) (or_first (same_stamp s s) (has_stamp (stamps_of bs ino) s) (own s))
      where
        own : (s : Stamp) → same_stamp s s ≡ true
        own s = same_stamp_refl s
knows_new ino s (b ∷ bs) = at (is_brought_below (record { ino = ino; stamp = s }) b) (same_brought (record { ino = ino; stamp = s }) b) refl (knows_new ino s bs)
  where
    first : (cs : List Brought) → Knows ino s (record { ino = ino; stamp = s } ∷ cs)
    first cs = rw (equal_self ino) (or_first (same_stamp s s) (has_stamp (stamps_of cs ino) s) (same_stamp_refl s))

    same : same_brought (record { ino = ino; stamp = s }) b ≡ true → Knows ino s (b ∷ bs)
    same e = subst (λ (y : Brought). Knows ino s (y ∷ bs)) (brought_eq (record { ino = ino; stamp = s }) b (equal ino b.ino (and_first (ino == b.ino) _ e)) (same_stamp_eq s b.stamp (and_second (ino == b.ino) _ e))) (first bs)
      where
        brought_eq : (x y : Brought) → x.ino ≡ y.ino → x.stamp ≡ y.stamp → x ≡ y
        brought_eq x y e f = λ i. record { ino = e i; stamp = f i }

    after : (cs : List Brought) → Knows ino s cs → Knows ino s (b ∷ cs)
    after cs k = over (b.ino == ino)
      where
        over : (x : Bool) → has_stamp (map (λ (y : Brought). y.stamp) (cond x (b ∷ filter (λ (y : Brought). y.ino == ino) cs) (filter (λ (y : Brought). y.ino == ino) cs))) s ≡ true
        over true = or_second (same_stamp b.stamp s) (has_stamp (stamps_of cs ino) s) k
        over false = k

    at : (x y : Bool) → same_brought (record { ino = ino; stamp = s }) b ≡ y → Knows ino s (with_brought (record { ino = ino; stamp = s }) bs) → Knows ino s (cond x (record { ino = ino; stamp = s } ∷ b ∷ bs) (cond y (b ∷ bs) (b ∷ with_brought (record { ino = ino; stamp = s }) bs)))
    at true y e later = first (b ∷ bs)
    at false true e later = same e
    at false false e later = after (with_brought (record { ino = ino; stamp = s }) bs) later

-- the copy of a site is among what it brings
pub copy_known : (cs : List HeldCopy) (z i : ℕ) (x : HeldCopy) (known : List Brought) → copy_of cs z i ≡ Some x → Knows i x.now (with_all (filter (λ (y : HeldCopy). y.site == z) cs) known)
copy_known [] z i x known e = absurd (none_some x e)
copy_known (y ∷ ys) z i x known e = at (y.site == z) refl (y.ino == i) refl e (copy_known ys z i x)
  where
    mine : (y.ino == i) ≡ true → y ≡ x → Knows i x.now (with_all (filter (λ (w : HeldCopy). w.site == z) ys) (with_brought (record { ino = y.ino; stamp = y.now }) known))
    mine k is = knows_all i x.now (filter (λ (w : HeldCopy). w.site == z) ys) (with_brought (record { ino = y.ino; stamp = y.now }) known)
        (subst (λ (n : ℕ). Knows i x.now (with_brought (record { ino = n; stamp = y.now }) known)) (sym (equal y.ino i k)) (subst (λ (w : HeldCopy). Knows i x.now (with_brought (record { ino = i; stamp = w.now }) known)) (sym is) (knows_new i x.now known)))

    at : (a : Bool) → (y.site == z) ≡ a → (b : Bool) → (y.ino == i) ≡ b → cond (a && b) (Some y) (copy_of ys z i) ≡ Some x → ((bs : List Brought) → copy_of ys z i ≡ Some x → Knows i x.now (with_all (filter (λ (w : HeldCopy). w.site == z) ys) bs))
        → Knows i x.now (with_all (cond a (y ∷ filter (λ (w : HeldCopy). w.site == z) ys) (filter (λ (w : HeldCopy). w.site == z) ys)) known)
    at true p true q e later = mine q (some_same y x e)
    at true p false q e later = later (with_brought (record { ino = y.ino; stamp = y.now }) known) e
    at false p b q e later = later known e
