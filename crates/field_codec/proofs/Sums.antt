-- The laws of a sum with a tag byte, from those of its kinds.
use Rattle.std.proofs.Common.{◌≡◌, ℕ, ◌+◌, ◌^◌, ◌<◌, Bool, true, false, IsTrue, cond, eqb, List, [], ◌∷◌, ◌++◌, length, Ok, Err, refl, sym, ap, subst, ◌∙◌, arith}
use Rattle.std.proofs.lemmas.Bool.{eqb-true}
use Rattle.field_codec.specs.declared.faults.FieldFault.{FieldFault}
use Rattle.field_codec.specs.declared.faults.FieldFault.TheVariants.{Range}
use Rattle.field_codec.specs.Codec.{Unread, Read, Codec, AreBytes, u8}
use Rattle.field_codec.specs.Sums.{variant, nothing, choose, Kinds, no_kind, kind, tagged}
use Rattle.field_codec.proofs.Laws.{Lawful, Takes, Takes-then, rest_at, bind_ok, ok_is, u8_laws}

module _ {A B : Type 0} {c : Codec A} (to : A → B) (from : B → A) where
  pub variant_laws : ((a : A) → from (to a) ≡ a) → Lawful c → Lawful (variant to from c)
  variant_laws back laws = record { takes = takes; again = again } where
    takes : (u : Unread) (x : B) (after : Unread) → AreBytes u.bytes → (variant to from c).read u ≡ Ok (x, after) → Takes u (c.spell (from x)) after × ((to (from x) ≡ x) × c.Fits (from x))
    takes u x after h e =
        let a = bind_ok (c.read u) (λ r. Ok (to r.0, r.1)) (x, after) e in
        let k = laws.takes u a.0.0 a.0.1 h a.1 in
        subst (λ (y : B × Unread). Takes u (c.spell (from y.0)) y.1 × ((to (from y.0) ≡ y.0) × c.Fits (from y.0))) (ok_is (to a.0.0, a.0.1) (x, after) a.2)
        (subst (λ (v : A). Takes u (c.spell v) a.0.1) (sym (back a.0.0)) k.0, (ap to (back a.0.0), subst (λ (v : A). c.Fits v) (sym (back a.0.0)) k.1))

    again : (x : B) (at : ℕ) (rest : List ℕ) → (to (from x) ≡ x) × c.Fits (from x) → (variant to from c).read (rest_at at (c.spell (from x) ++ rest)) ≡ Ok (x, rest_at (at + length (c.spell (from x))) rest)
    again x at rest h = rw (laws.again (from x) at rest h.1, h.0) refl

-- the each of the kinds: each is a codec, of values with its tag
pub record LawfulKinds {A : Type 0} (tag_of : A → ℕ) (kinds : Kinds A) : Type 0 where
  pub laws : (tag : ℕ) → Lawful (kinds.body tag)
  pub own : (tag : ℕ) (x : A) → (kinds.body tag).Fits x → tag_of x ≡ tag

nothing_laws : {A : Type 0} → Lawful (nothing {A = A})
nothing_laws = record { takes = λ u x after h e. absurd cc; again = λ x at rest h. absurd h }

pub no_kind_laws : {A : Type 0} (tag_of : A → ℕ) → LawfulKinds tag_of no_kind
no_kind_laws tag_of = record { laws = λ _. nothing_laws; own = λ tag x h. absurd h }

module _ {A B : Type 0} {c : Codec A} {others : Kinds B} {tag_of : B → ℕ} (n : ℕ) (to : A → B) (from : B → A) where
  -- one kind more
  pub kind_laws : ((a : A) → from (to a) ≡ a) → ((a : A) → tag_of (to a) ≡ n) → Lawful c → LawfulKinds tag_of others → LawfulKinds tag_of (kind n (variant to from c) others)
  kind_laws back tags laws more = record { laws = λ tag. chosen tag (eqb tag n); own = λ tag x h. owned tag x (eqb tag n) refl h } where
    chosen : (tag : ℕ) (b : Bool) → Lawful (choose b (variant to from c) (others.body tag))
    chosen tag true = variant_laws to from back laws
    chosen tag false = more.laws tag

    owned : (tag : ℕ) (x : B) (b : Bool) → eqb tag n ≡ b → (choose b (variant to from c) (others.body tag)).Fits x → tag_of x ≡ tag
    owned tag x true e h = ap tag_of (sym h.0) ∙ tags (from x) ∙ sym (eqb-true _ _ e)
    owned tag x false e h = more.own tag x h

module _ {A : Type 0} {tag_of : A → ℕ} {kinds : Kinds A} where
  pub tagged_laws : LawfulKinds tag_of kinds → Lawful (tagged tag_of kinds)
  tagged_laws each = record { takes = takes; again = again } where
    takes : (u : Unread) (x : A) (after : Unread) → AreBytes u.bytes → (tagged tag_of kinds).read u ≡ Ok (x, after) → Takes u ((tagged tag_of kinds).spell x) after × (tagged tag_of kinds).Fits x
    takes u x after h e =
        let a = bind_ok (u8.read u) (λ r. cond (kinds.has r.0) ((kinds.body r.0).read r.1) (Err (Range u.at))) (x, after) e in
        let g = guard (kinds.has a.0.0) ((kinds.body a.0.0).read a.0.1) (Range u.at) (x, after) a.2 in
        let first = u8_laws.takes u a.0.0 a.0.1 h a.1 in
        let second = (each.laws a.0.0).takes a.0.1 x after first.0.rest_fits g.1 in
        let tag : a.0.0 ≡ tag_of x = sym (each.own a.0.0 x second.1) in
        subst (λ (t : ℕ). Takes u (t ∷ (kinds.body t).spell x) after × ((t < 2 ^ 8) × IsTrue (kinds.has t) × (kinds.body t).Fits x)) tag
        (Takes-then u (a.0.0 ∷ []) a.0.1 ((kinds.body a.0.0).spell x) after first.0 second.0, (first.1, g.0, second.1)) where
          guard : (b : Bool) (r : Read A) (d : FieldFault) (y : A × Unread) → cond b r (Err d) ≡ Ok y → (b ≡ true) × (r ≡ Ok y)
          guard true r d y e = (refl, e)
          guard false r d y e = absurd cc

    again : (x : A) (at : ℕ) (rest : List ℕ) → (tagged tag_of kinds).Fits x → (tagged tag_of kinds).read (rest_at at ((tagged tag_of kinds).spell x ++ rest)) ≡ Ok (x, rest_at (at + length ((tagged tag_of kinds).spell x)) rest)
    again x at rest h =
        let text : List ℕ = (kinds.body (tag_of x)).spell x in
        let place : (at + 1) + length text ≡ at + length (tag_of x ∷ text) = omega arith in
        rw (u8_laws.again (tag_of x) at (text ++ rest) h.0, h.1, (each.laws (tag_of x)).again x (at + 1) rest h.2) (ap (λ (n : ℕ). Ok (x, rest_at n rest)) place)
