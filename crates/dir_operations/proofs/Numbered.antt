-- When a component is a name with `@` and an inode.
use Rattle.std.proofs.Common.{◌≡◌, ℕ, true, false, eqb, List, [], ◌∷◌, ◌++◌, length, take, drop, refl, sym, ◌∙◌, ap}
use Rattle.std.specs.Str.{bytes_eq}
use Rattle.std.proofs.lemmas.Bool.{false≢true}
use Rattle.std.proofs.lemmas.List.{take_at, take-append-drop, append_cancel_left}
use Rattle.std.proofs.lemmas.Slice.Eq.{bytes_eq-Decides}
use Rattle.dir_operations.proofs.Digits.{decided, differ, false_eqb}

joined : (name digits : List ℕ) → name ++ 64 ∷ [] ++ digits ≡ name ++ 64 ∷ digits
joined [] digits = refl
joined (c ∷ cs) digits = ap (λ s. c ∷ s) (joined cs digits)

same_tail : (a b : ℕ) (xs ys : List ℕ) → a ∷ xs ≡ b ∷ ys → (a ≡ b) × (xs ≡ ys)
same_tail a b xs ys e = (cc, cc)

pub not_front : (name component digits : List ℕ) → bytes_eq (take (length name) component) name ≡ false → false ≡ bytes_eq (name ++ 64 ∷ [] ++ digits) component
not_front name component digits other = differ (name ++ 64 ∷ [] ++ digits) component (λ e.
    let front : take (length name) component ≡ name = ap (take (length name)) (sym e ∙ joined name digits) ∙ take_at name (64 ∷ digits) (length name) refl in
    false≢true (sym other ∙ (bytes_eq-Decides (take (length name) component) name).1 front))

-- a component that begins with the name
pub after_front : (name component rest : List ℕ) → bytes_eq (take (length name) component) name ≡ true → rest ≡ drop (length name) component → component ≡ name ++ rest
after_front name component rest same at =
    sym (take-append-drop (length name) component)
    ∙ ap (λ f. f ++ drop (length name) component) ((bytes_eq-Decides (take (length name) component) name).0 same)
    ∙ ap (λ r. name ++ r) (sym at)

pub marked : (name component after digits : List ℕ) (mark : ℕ) → component ≡ name ++ mark ∷ after → mark ≡ 64 → bytes_eq digits after ≡ bytes_eq (name ++ 64 ∷ [] ++ digits) component
marked name component after digits mark parts is =
    let whole : component ≡ name ++ 64 ∷ after = parts ∙ ap (λ m. name ++ m ∷ after) is in
    decided (bytes_eq digits after) (name ++ 64 ∷ [] ++ digits) component
    (λ t. joined name digits ∙ ap (λ d. name ++ 64 ∷ d) ((bytes_eq-Decides digits after).0 t) ∙ sym whole)
    (λ e. (bytes_eq-Decides digits after).1 (same_tail 64 64 digits after (append_cancel_left name (64 ∷ digits) (64 ∷ after) (sym (joined name digits) ∙ e ∙ whole))).1)

pub unmarked : (name component after digits : List ℕ) (mark : ℕ) → component ≡ name ++ mark ∷ after → (mark ≡ 64 → ⊥) → eqb mark 64 ≡ bytes_eq (name ++ 64 ∷ [] ++ digits) component
unmarked name component after digits mark parts apart = false_eqb mark 64 apart ∙ differ (name ++ 64 ∷ [] ++ digits) component (λ e.
    apart (sym (same_tail 64 mark digits after (append_cancel_left name (64 ∷ digits) (mark ∷ after) (sym (joined name digits) ∙ e ∙ parts))).0))
