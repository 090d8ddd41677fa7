-- Bytes that are split at the first of some byte, and at each.
use Rattle.std.proofs.Common.{◌≡◌, ℕ, suc, ◌==◌, Bool, true, false, ◌⊎◌, inl, inr, ⊎_elim, List, [], ◌∷◌, ◌++◌, Option, Some, None, refl, sym, ap, arith, eq-eqb}
use Rattle.std.specs.Prelude.{IfNone, IfSome}
use Rattle.std.specs.List.{onto_first}
use Rattle.std.proofs.lemmas.Bool.{eqb-true}
use Rattle.std.proofs.lemmas.Option.{none-some, same_Some}
use Rattle.line_text.specs.Words.{Lacks, pieces, split_at, with_front}

pub true_or_false : (b : Bool) → (b ≡ true) ⊎ (b ≡ false)
true_or_false true = inl refl
true_or_false false = inr refl

-- the first byte differs, and the others do
pub lacks_head : (b c : ℕ) (cs : List ℕ) → Lacks b (c ∷ cs) → (c == b) ≡ false
lacks_head b c cs h = ⊎_elim (λ (e : (c == b) ≡ true). absurd (h 0 (omega arith) (eqb-true c b e))) (λ (e : (c == b) ≡ false). e) (true_or_false (c == b))

pub lacks_tail : (b c : ℕ) (cs : List ℕ) → Lacks b (c ∷ cs) → Lacks b cs
lacks_tail b c cs h k lt = h (suc k) (omega arith)

pub same_byte : (b : ℕ) → (b == b) ≡ true
same_byte b = eq-eqb b b refl

-- bytes are split at the first such byte
pub split_found : (b : ℕ) (a r : List ℕ) → Lacks b a → split_at b (a ++ (b ∷ r)) ≡ Some (a, r)
split_found b [] r h = rw (same_byte b) refl
split_found b (c ∷ cs) r h = rw (lacks_head b c cs h, split_found b cs r (lacks_tail b c cs h)) refl

pub split_none : (b : ℕ) (bytes : List ℕ) → Lacks b bytes → split_at b bytes ≡ None
split_none b [] h = refl
split_none b (c ∷ cs) h = rw (lacks_head b c cs h, split_none b cs (lacks_tail b c cs h)) refl

-- what a split tells
pub front_some : (c : ℕ) (o : Option (List ℕ × List ℕ)) (p : List ℕ × List ℕ) → with_front c o ≡ Some p → (q : List ℕ) × (o ≡ Some (q, p.1)) × (p.0 ≡ c ∷ q)
front_some c None p h = absurd (none-some p h)
front_some c (Some q) p h =
    let e : (c ∷ q.0, q.1) ≡ p = same_Some (c ∷ q.0, q.1) p h in
    (q.0, ap (λ l. Some (q.0, l)) (ap (λ (r : List ℕ × List ℕ). r.1) e), ap (λ (r : List ℕ × List ℕ). r.0) (sym e))

pub split_sound : (b : ℕ) (bytes : List ℕ) (p : List ℕ × List ℕ) → split_at b bytes ≡ Some p → bytes ≡ p.0 ++ (b ∷ p.1)
split_sound b [] p h = absurd (none-some p h)
split_sound b (c ∷ cs) p h =
    ⊎_elim
    (λ (e : (c == b) ≡ true). here e (rw e at h))
    (λ (e : (c == b) ≡ false). later (λ q s. split_sound b cs q s) (rw e at h))
    (true_or_false (c == b))
  where
    here : (c == b) ≡ true → Some ([], cs) ≡ Some p → c ∷ cs ≡ p.0 ++ (b ∷ p.1)
    here e s =
        let same : ([], cs) ≡ p = same_Some ([], cs) p s in
        let byte : c ≡ b = eqb-true c b e in
        rw (← same) (ap (λ x. x ∷ cs) byte)

    later : ((q : List ℕ × List ℕ) → split_at b cs ≡ Some q → cs ≡ q.0 ++ (b ∷ q.1)) → with_front c (split_at b cs) ≡ Some p → c ∷ cs ≡ p.0 ++ (b ∷ p.1)
    later again s =
        let q = front_some c (split_at b cs) p s in
        rw q.2 (ap (λ l. c ∷ l) (again (q.0, p.1) q.1))

-- the pieces of bytes: the first, and those of what follows it
abbrev pub pieces_of : ℕ → List ℕ → Option (List ℕ × List ℕ) → List (List ℕ)
pieces_of b bytes None = bytes ∷ []
pieces_of b bytes (Some p) = p.0 ∷ pieces b p.1

pub pieces_split : (b : ℕ) (bytes : List ℕ) → pieces b bytes ≡ pieces_of b bytes (split_at b bytes)
pieces_split b [] = refl
pieces_split b (c ∷ cs) =
    ⊎_elim
    (λ (e : (c == b) ≡ true). rw e refl)
    (λ (e : (c == b) ≡ false). rw e (more (split_at b cs) (pieces_split b cs)))
    (true_or_false (c == b))
  where
    more : (o : Option (List ℕ × List ℕ)) → pieces b cs ≡ pieces_of b cs o → onto_first c (pieces b cs) ≡ pieces_of b (c ∷ cs) (with_front c o)
    more None h = rw h refl
    more (Some p) h = rw h refl

-- what follows from two clauses on what was found
pub some_both : {X : Type 0} {P Q R : X → Type 0} (o : Option X) → IfSome o P → IfSome o Q → ((x : X) → P x → Q x → R x) → IfSome o R
some_both None p q f = tt
some_both (Some x) p q f = f x p q

pub none_map : {X : Type 0} (o : Option X) {P Q : Type 0} → IfNone o P → (P → Q) → IfNone o Q
none_map None h f = f h
none_map (Some x) h f = tt
