-- Who has a file open once an instance is released: the one of its name is taken out, at the table and in the tree.
use Rattle.std.proofs.Common.{◌≡◌, ℕ, ◌==◌, Bool, true, false, cond, List, [], ◌∷◌, filter, map, Option, Some, refl, sym, ◌∙◌, ap, subst}
use Rattle.std.specs.List.{find}
use Rattle.role_steps.proofs.of_plain_facts.Numbers.{equal_self}
use Rattle.role_steps.proofs.of_plain_facts.Options.{none_some, some_same}
use Rattle.role_steps.proofs.of_plain_facts.Tests.{true_false}
use Rattle.locus_ids.specs.declared.ids.Serial.{Serial}
use Rattle.commit_graph.specs.Grants.{Opener}
use Rattle.trace_book.specs.Same.{same_serial}
use Rattle.role_steps.specs.Opens.{open_key}
use Rattle.role_steps.specs.Tables.{row, with_latest}
use Rattle.role_steps.specs.Views.{serial_key}
use Rattle.role_steps.specs.declared.synchronizing.OpenRow.{OpenRow}
use Rattle.tree_model.specs.declared.instance.Instance.{Instance}
use Rattle.tree_model.specs.Lists.{without_first}
use Rattle.tree_model.specs.State.{is_named}
use Rattle.tree_laws.specs.Tables.{named_instance, named_row}
use Rattle.tree_laws.proofs.Names.{same_serial_eq, same_serial_own}

-- it is of this name
abbrev pub is_of : Serial → Serial × Opener → Bool
is_of i p = same_serial p.0 i

-- ---- in the tree ----

pub tree_taken : (i : Serial) (p : Instance → Bool) (xs : List Instance) (x : Instance) → find (is_named i) xs ≡ Some x → p x ≡ true → map named_instance (filter p (without_first (is_named i) xs)) ≡ without_first (is_of i) (map named_instance (filter p xs))
tree_taken i p [] x e passes = absurd (none_some x e)
tree_taken i p (y ∷ ys) x e passes = at (is_named i y) refl (p y) refl e (λ m. tree_taken i p ys x m passes)
  where
    at : (a : Bool) → is_named i y ≡ a → (b : Bool) → p y ≡ b → cond a (Some y) (find (is_named i) ys) ≡ Some x → (find (is_named i) ys ≡ Some x → map named_instance (filter p (without_first (is_named i) ys)) ≡ without_first (is_of i) (map named_instance (filter p ys)))
        → map named_instance (filter p (cond a ys (y ∷ without_first (is_named i) ys))) ≡ without_first (is_of i) (map named_instance (cond b (y ∷ filter p ys) (filter p ys)))
    at true q true s e later = sym (ap (λ (b : Bool). cond b (map named_instance (filter p ys)) (named_instance y ∷ without_first (is_of i) (map named_instance (filter p ys)))) q)
    at true q false s e later = absurd (true_false (sym (ap p (some_same y x e) ∙ passes) ∙ s))
    at false q true s e later = ap (λ (b : Bool). map named_instance (cond b (y ∷ filter p (without_first (is_named i) ys)) (filter p (without_first (is_named i) ys)))) s
        ∙ (ap (λ (os : List (Serial × Opener)). named_instance y ∷ os) (later e)
        ∙ sym (ap (λ (b : Bool). cond b (map named_instance (filter p ys)) (named_instance y ∷ without_first (is_of i) (map named_instance (filter p ys)))) q))
    at false q false s e later = ap (λ (b : Bool). map named_instance (cond b (y ∷ filter p (without_first (is_named i) ys)) (filter p (without_first (is_named i) ys)))) s ∙ later e

-- one that doesn't pass is taken out
pub filter_taken : {X : Type 0} (q p : X → Bool) (xs : List X) (x : X) → find q xs ≡ Some x → p x ≡ false → filter p (without_first q xs) ≡ filter p xs
filter_taken q p [] x e stops = refl
filter_taken {X} q p (y ∷ ys) x e stops = at (q y) refl e (λ m. filter_taken q p ys x m stops)
  where
    at : (a : Bool) → q y ≡ a → cond a (Some y) (find q ys) ≡ Some x → (find q ys ≡ Some x → filter p (without_first q ys) ≡ filter p ys) → filter p (cond a ys (y ∷ without_first q ys)) ≡ cond (p y) (y ∷ filter p ys) (filter p ys)
    at true k e later = sym (ap (λ (b : Bool). cond b (y ∷ filter p ys) (filter p ys)) (ap p (some_same y x e) ∙ stops))
    at false k e later = ap (λ (zs : List X). cond (p y) (y ∷ zs) zs) (later e)

-- ---- at the table ----

pub table_taken : (i : Serial) (p : OpenRow → Bool) (new r : OpenRow) (xs : List OpenRow) → row open_key (open_key new) xs ≡ Some r → r.inst ≡ i → new.inst ≡ i → p r ≡ true → p new ≡ false → map named_row (filter p (with_latest open_key new xs)) ≡ without_first (is_of i) (map named_row (filter p xs))
table_taken i p new r [] e its now passes stops = absurd (none_some r e)
table_taken i p new r (y ∷ ys) e its now passes stops = at (open_key y == open_key new) refl (p y) refl e (λ m. table_taken i p new r ys m its now passes stops)
  where
    apart : (open_key y == open_key new) ≡ false → (b : Bool) → same_serial y.inst i ≡ b → same_serial y.inst i ≡ false
    apart k false s = s
    apart k true s = absurd (true_false (sym (subst (λ (n : ℕ). (n == open_key new) ≡ true) (ap serial_key (now ∙ sym (same_serial_eq y.inst i s))) (equal_self (open_key new))) ∙ k))

    at : (a : Bool) → (open_key y == open_key new) ≡ a → (b : Bool) → p y ≡ b → (elim a as (λ (z : Bool). Option OpenRow) [ true ↦ Some y | false ↦ row open_key (open_key new) ys ]) ≡ Some r
        → (row open_key (open_key new) ys ≡ Some r → map named_row (filter p (with_latest open_key new ys)) ≡ without_first (is_of i) (map named_row (filter p ys)))
        → map named_row (filter p (elim a as (λ (z : Bool). List OpenRow) [ true ↦ new ∷ ys | false ↦ y ∷ with_latest open_key new ys ])) ≡ without_first (is_of i) (map named_row (cond b (y ∷ filter p ys) (filter p ys)))
    at true k true s e later = ap (λ (b : Bool). map named_row (cond b (new ∷ filter p ys) (filter p ys))) stops
        ∙ sym (ap (λ (b : Bool). cond b (map named_row (filter p ys)) (named_row y ∷ without_first (is_of i) (map named_row (filter p ys)))) (subst (λ (j : Serial). same_serial j i ≡ true) (sym (ap (λ (z : OpenRow). z.inst) (some_same y r e) ∙ its)) (same_serial_own i)))
    at true k false s e later = absurd (true_false (sym (ap p (some_same y r e) ∙ passes) ∙ s))
    at false k true s e later = ap (λ (b : Bool). map named_row (cond b (y ∷ filter p (with_latest open_key new ys)) (filter p (with_latest open_key new ys)))) s
        ∙ (ap (λ (os : List (Serial × Opener)). named_row y ∷ os) (later e)
        ∙ sym (ap (λ (b : Bool). cond b (map named_row (filter p ys)) (named_row y ∷ without_first (is_of i) (map named_row (filter p ys)))) (apart k (same_serial y.inst i) refl)))
    at false k false s e later = ap (λ (b : Bool). map named_row (cond b (y ∷ filter p (with_latest open_key new ys)) (filter p (with_latest open_key new ys)))) s ∙ later e

-- a row in the place of one, of which none passes
pub latest_apart : {X : Type 0} (key : X → ℕ) (p : X → Bool) (new r : X) (xs : List X) → row key (key new) xs ≡ Some r → p r ≡ false → p new ≡ false → filter p (with_latest key new xs) ≡ filter p xs
latest_apart key p new r [] e stops out = absurd (none_some r e)
latest_apart {X} key p new r (y ∷ ys) e stops out = at (key y == key new) refl e (λ m. latest_apart key p new r ys m stops out)
  where
    at : (a : Bool) → (key y == key new) ≡ a → (elim a as (λ (z : Bool). Option X) [ true ↦ Some y | false ↦ row key (key new) ys ]) ≡ Some r → (row key (key new) ys ≡ Some r → filter p (with_latest key new ys) ≡ filter p ys)
        → filter p (elim a as (λ (z : Bool). List X) [ true ↦ new ∷ ys | false ↦ y ∷ with_latest key new ys ]) ≡ cond (p y) (y ∷ filter p ys) (filter p ys)
    at true k e later = ap (λ (b : Bool). cond b (new ∷ filter p ys) (filter p ys)) out ∙ sym (ap (λ (b : Bool). cond b (y ∷ filter p ys) (filter p ys)) (ap p (some_same y r e) ∙ stops))
    at false k e later = ap (λ (zs : List X). cond (p y) (y ∷ zs) zs) (later e)
