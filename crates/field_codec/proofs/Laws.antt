-- The two laws of a codec, from those of its parts.
use Rattle.std.proofs.Common.{◌≡◌, ℕ, zero, suc, ◌+◌, ◌^◌, ◌<◌, ◌≤◌, Bool, true, false, IsTrue, cond, ltb, List, [], ◌∷◌, ◌++◌, length, get_or, take, drop, replicate, Result, Ok, Err, refl, sym, ap, subst, ◌∙◌, append_assoc, add-zero, arith, inl, inr}
use Rattle.std.specs.Int.{w16, w32, from_be_bytes, to_be_bytes}
use Rattle.std.specs.Str.{bytes_eq}
use Rattle.std.proofs.lemmas.Slice.Eq.{bytes_eq-Decides}
use Rattle.std.proofs.lemmas.Bool.{cases_lt, ltb-false, le-ltb}
use Rattle.std.proofs.lemmas.List.{take_at, drop_at, take-append-drop, length-append, length-take, get_or-drop, get_or-take, get_or_past, append-nil, nil_from_length}
use Rattle.std.proofs.lemmas.Nat.{be_bytes_2, be_bytes_4, from_be_bytes-to_be_bytes_2, from_be_bytes-to_be_bytes_4}
use Rattle.field_codec.specs.declared.faults.FieldFault.{FieldFault}
use Rattle.field_codec.specs.declared.faults.FieldFault.TheVariants.{Short, Range}
use Rattle.field_codec.specs.Codec.{Unread, past, ◌>>=◌, Codec, AreBytes, read_fixed, fixed, u8, u16, u32, slice, within, followed_by, pair, made, exactly, read_exactly, empty, zeros, whole}

-- the rest of the whole, past a text
abbrev pub rest_at : ℕ → List ℕ → Unread
rest_at at bytes = record { at = at; bytes = bytes }

-- what a reader took from the front
pub record Takes (u : Unread) (text : List ℕ) (after : Unread) : Type 0 where
  pub parts : u.bytes ≡ text ++ after.bytes
  pub place : after.at ≡ u.at + length text
  pub rest_fits : AreBytes after.bytes

-- What is read is spelled so, and what is spelled so is read, whatever follows.
pub record Lawful {A : Type 0} (c : Codec A) : Type 0 where
  pub takes : (u : Unread) (x : A) (after : Unread) → AreBytes u.bytes → c.read u ≡ Ok (x, after) → Takes u (c.spell x) after × c.Fits x
  pub again : (x : A) (at : ℕ) (rest : List ℕ) → c.Fits x → c.read (rest_at at (c.spell x ++ rest)) ≡ Ok (x, rest_at (at + length (c.spell x)) rest)

pub AreBytes-drop : (n : ℕ) (bytes : List ℕ) → AreBytes bytes → AreBytes (drop n bytes)
AreBytes-drop n bytes h i = rw get_or-drop (h (n + i))

pub AreBytes-take : (n : ℕ) (bytes : List ℕ) → AreBytes bytes → AreBytes (take n bytes)
AreBytes-take n bytes h i =
    elim (cases_lt i n) [
      | inl lt ↦ rw (get_or-take n bytes i 0 lt) (h i)
      | inr le ↦ rw (get_or_past (take n bytes) i 0 (omega (arith, length-take n bytes))) (omega arith)
    ]

pub bind_ok : {A B : Type 0} (r : Result A FieldFault) (f : A → Result B FieldFault) (y : B) → (r >>= f) ≡ Ok y → (x : A) × (r ≡ Ok x) × (f x ≡ Ok y)
bind_ok (Ok x) f y e = (x, refl, e)
bind_ok (Err d) f y e = absurd cc

pub guard_ok : {A : Type 0} (b : Bool) (d : FieldFault) (x y : A) → cond b (Err d) (Ok x) ≡ Ok y → (b ≡ false) × (x ≡ y)
guard_ok true d x y e = absurd cc
guard_ok false d x y e = (refl, cc)

pub guard_passed : {A : Type 0} (b : Bool) (d : FieldFault) (x y : A) → cond b (Ok x) (Err d) ≡ Ok y → (b ≡ true) × (x ≡ y)
guard_passed true d x y e = (refl, cc)
guard_passed false d x y e = absurd cc

pub Takes-then : (a : Unread) (x : List ℕ) (b : Unread) (y : List ℕ) (c : Unread) → Takes a x b → Takes b y c → Takes a (x ++ y) c
Takes-then a x b y c p q = record {
  parts = p.parts ∙ ap (λ (t : List ℕ). x ++ t) q.parts ∙ sym (append_assoc x y c.bytes);
  place = omega (arith, p.place, q.place, length-append x y);
  rest_fits = q.rest_fits;
}

abbrev pub done : {A : Type 0} → A → Result A FieldFault
done x = Ok x

pub ok_is : {A : Type 0} (x y : A) → done x ≡ done y → x ≡ y
ok_is x y e = cc

module _ {A : Type 0} (n : ℕ) (value : List ℕ → A) (bytes : A → List ℕ) (fits : A → Type 0) where
  -- a fixed field, of the two laws on its bytes alone
  pub fixed_laws : ((bs : List ℕ) → length bs ≡ n → AreBytes bs → (bytes (value bs) ≡ bs) × fits (value bs)) → ((x : A) → fits x → (length (bytes x) ≡ n) × (value (bytes x) ≡ x)) → Lawful (fixed n value bytes fits)
  unfolding read_fixed
  fixed_laws back forth = record { takes = takes; again = again } where
    takes : (u : Unread) (x : A) (after : Unread) → AreBytes u.bytes → (fixed n value bytes fits).read u ≡ Ok (x, after) → Takes u (bytes x) after × fits x
    takes u x after h e =
        let g = guard_ok (ltb (length u.bytes) n) (Short u.at) (value (take n u.bytes), past n u) (x, after) e in
        let long : n ≤ length u.bytes = ltb-false _ _ g.0 in
        let len : length (take n u.bytes) ≡ n = omega (arith, length-take n u.bytes) in
        let b = back (take n u.bytes) len (AreBytes-take n u.bytes h) in
        subst (λ (y : A × Unread). Takes u (bytes y.0) y.1 × fits y.0) g.1 (
          record {
            parts = sym (take-append-drop n u.bytes) ∙ ap (λ (t : List ℕ). t ++ drop n u.bytes) (sym b.0);
            place = omega (arith, len, ap length b.0);
            rest_fits = AreBytes-drop n u.bytes h;
          },
          b.1,
        )

    again_at : (text rest : List ℕ) (at : ℕ) (x : A) → length text ≡ n → value text ≡ x → (fixed n value bytes fits).read (rest_at at (text ++ rest)) ≡ Ok (x, rest_at (at + length text) rest)
    again_at text rest at x len is =
        let long : ltb (length (text ++ rest)) n ≡ false = le-ltb _ _ (omega (arith, length-append text rest)) in
        rw (long, take_at text rest n len, drop_at text rest n len, is, len) refl

    again : (x : A) (at : ℕ) (rest : List ℕ) → fits x → (fixed n value bytes fits).read (rest_at at (bytes x ++ rest)) ≡ Ok (x, rest_at (at + length (bytes x)) rest)
    again x at rest h = let f = forth x h in again_at (bytes x) rest at x f.0 f.1

one_byte : (bs : List ℕ) → length bs ≡ 1 → get_or bs 0 0 ∷ [] ≡ bs
one_byte [] e = absurd (omega arith)
one_byte (b ∷ bs) e = ap (λ (t : List ℕ). b ∷ t) (sym (nil_from_length bs (omega arith)))

pub u8_laws : Lawful u8
u8_laws = fixed_laws 1 (λ bs. get_or bs 0 0) (λ b. b ∷ []) (λ b. b < 2 ^ 8) (λ bs len h. (one_byte bs len, h 0)) (λ b h. (refl, refl))

pub u16_laws : Lawful u16
u16_laws = fixed_laws 2 (from_be_bytes w16) (to_be_bytes w16) (λ n. n < 2 ^ 16)
    (λ bs len h. (be_bytes_2 bs _ len h refl, two bs h)) (λ n h. (refl, from_be_bytes-to_be_bytes_2 n h)) where
      two : (bs : List ℕ) → AreBytes bs → from_be_bytes w16 bs < 2 ^ 16
      two bs h = omega (arith, h 0, h 1)

pub u32_laws : Lawful u32
u32_laws = fixed_laws 4 (from_be_bytes w32) (to_be_bytes w32) (λ n. n < 2 ^ 32)
    (λ bs len h. (be_bytes_4 bs _ len h refl, four bs h)) (λ n h. (refl, from_be_bytes-to_be_bytes_4 n h)) where
      four : (bs : List ℕ) → AreBytes bs → from_be_bytes w32 bs < 2 ^ 32
      four bs h = omega (arith, h 0, h 1, h 2, h 3)

pub slice_laws : (n : ℕ) → Lawful (slice n)
slice_laws n = fixed_laws n (λ bs. bs) (λ bs. bs) (λ bs. (length bs ≡ n) × AreBytes bs) (λ bs len h. (refl, (len, h))) (λ bs h. (h.0, refl))

module _ {A : Type 0} (test : A → Bool) (c : Codec A) (laws : Lawful c) where
  pub within_laws : Lawful (within test c)
  within_laws = record { takes = takes; again = again } where
    takes : (u : Unread) (x : A) (after : Unread) → AreBytes u.bytes → (within test c).read u ≡ Ok (x, after) → Takes u (c.spell x) after × (IsTrue (test x) × c.Fits x)
    takes u x after h e =
        let a = bind_ok (c.read u) (λ r. cond (test r.0) (Ok r) (Err (Range u.at))) (x, after) e in
        let g = guard_passed (test a.0.0) (Range u.at) a.0 (x, after) a.2 in
        let k = laws.takes u a.0.0 a.0.1 h a.1 in
        subst (λ (y : A × Unread). Takes u (c.spell y.0) y.1 × (IsTrue (test y.0) × c.Fits y.0)) g.1 (k.0, (g.0, k.1))

    again : (x : A) (at : ℕ) (rest : List ℕ) → IsTrue (test x) × c.Fits x → (within test c).read (rest_at at (c.spell x ++ rest)) ≡ Ok (x, rest_at (at + length (c.spell x)) rest)
    again x at rest h = rw (laws.again x at rest h.1, h.0) refl

-- one after the other
module _ {A B : Type 0} (c : Codec A) (d : A → Codec B) where
  pub followed_by_laws : Lawful c → ((x : A) → Lawful (d x)) → Lawful (followed_by c d)
  followed_by_laws first_laws second_laws = record { takes = takes; again = again } where
    takes : (u : Unread) (x : A × B) (after : Unread) → AreBytes u.bytes → (followed_by c d).read u ≡ Ok (x, after) → Takes u ((followed_by c d).spell x) after × (followed_by c d).Fits x
    takes u x after h e =
        let a = bind_ok (c.read u) (λ r. (d r.0).read r.1 >>= λ s. Ok ((r.0, s.0), s.1)) (x, after) e in
        let b = bind_ok ((d a.0.0).read a.0.1) (λ s. Ok ((a.0.0, s.0), s.1)) (x, after) a.2 in
        let first = first_laws.takes u a.0.0 a.0.1 h a.1 in
        let second = (second_laws a.0.0).takes a.0.1 b.0.0 b.0.1 first.0.rest_fits b.1 in
        let whole_one : (A × B) × Unread = ((a.0.0, b.0.0), b.0.1) in
        subst (λ (y : (A × B) × Unread). Takes u ((followed_by c d).spell y.0) y.1 × (followed_by c d).Fits y.0) (ok_is whole_one (x, after) b.2)
        (Takes-then u (c.spell a.0.0) a.0.1 ((d a.0.0).spell b.0.0) b.0.1 first.0 second.0, (first.1, second.1))

    again : (x : A × B) (at : ℕ) (rest : List ℕ) → (followed_by c d).Fits x → (followed_by c d).read (rest_at at ((followed_by c d).spell x ++ rest)) ≡ Ok (x, rest_at (at + length ((followed_by c d).spell x)) rest)
    again x at rest h =
        let place : (at + length (c.spell x.0)) + length ((d x.0).spell x.1) ≡ at + length (c.spell x.0 ++ (d x.0).spell x.1) = omega (arith, length-append (c.spell x.0) ((d x.0).spell x.1)) in
        ap (λ (t : List ℕ). (followed_by c d).read (rest_at at t)) (append_assoc (c.spell x.0) ((d x.0).spell x.1) rest)
        ∙ rw (first_laws.again x.0 at ((d x.0).spell x.1 ++ rest) h.0, (second_laws x.0).again x.1 (at + length (c.spell x.0)) rest h.1) (ap (λ (n : ℕ). Ok (x, rest_at n rest)) place)

pub pair_laws : {A B : Type 0} {c : Codec A} {d : Codec B} → Lawful c → Lawful d → Lawful (pair c d)
pair_laws {A} {B} {c} {d} first second = followed_by_laws c (λ _. d) first (λ _. second)

-- a value that is made of another, and gives it back
module _ {A B : Type 0} {c : Codec A} (to : A → B) (from : B → A) where
  pub made_laws : ((a : A) → from (to a) ≡ a) → ((b : B) → to (from b) ≡ b) → Lawful c → Lawful (made to from c)
  made_laws back forth laws = record { takes = takes; again = again } where
    takes : (u : Unread) (x : B) (after : Unread) → AreBytes u.bytes → (made to from c).read u ≡ Ok (x, after) → Takes u (c.spell (from x)) after × c.Fits (from x)
    takes u x after h e =
        let a = bind_ok (c.read u) (λ r. Ok (to r.0, r.1)) (x, after) e in
        subst (λ (y : B × Unread). Takes u (c.spell (from y.0)) y.1 × c.Fits (from y.0)) (ok_is (to a.0.0, a.0.1) (x, after) a.2)
        (subst (λ (v : A). Takes u (c.spell v) a.0.1 × c.Fits v) (sym (back a.0.0)) (laws.takes u a.0.0 a.0.1 h a.1))

    again : (x : B) (at : ℕ) (rest : List ℕ) → c.Fits (from x) → (made to from c).read (rest_at at (c.spell (from x) ++ rest)) ≡ Ok (x, rest_at (at + length (c.spell (from x))) rest)
    again x at rest h = rw (laws.again (from x) at rest h, forth x) refl

pub exactly_laws : (text : List ℕ) → AreBytes text → Lawful (exactly text)
unfolding read_exactly
exactly_laws text bytes = record { takes = takes; again = again } where
  takes : (u : Unread) (x : Unit {0}) (after : Unread) → AreBytes u.bytes → (exactly text).read u ≡ Ok (x, after) → Takes u text after × Unit {0}
  takes u x after h e =
      let a = bind_ok ((slice (length text)).read u) (λ r. cond (bytes_eq r.0 text) (Ok (tt, r.1)) (Err (Range u.at))) (x, after) e in
      let g = guard_passed (bytes_eq a.0.0 text) (Range u.at) (tt, a.0.1) (x, after) a.2 in
      let k = (slice_laws (length text)).takes u a.0.0 a.0.1 h a.1 in
      let same : a.0.0 ≡ text = (bytes_eq-Decides a.0.0 text).0 g.0 in
      (subst (λ (t : List ℕ). Takes u t after) same (subst (λ (y : Unread). Takes u a.0.0 y) (ap (λ (p : Unit {0} × Unread). p.1) g.1) k.0), tt)

  again : (x : Unit {0}) (at : ℕ) (rest : List ℕ) → Unit {0} → (exactly text).read (rest_at at (text ++ rest)) ≡ Ok (x, rest_at (at + length text) rest)
  again x at rest h = rw ((slice_laws (length text)).again text at rest (refl, bytes), (bytes_eq-Decides text text).1 refl) refl

pub zeros_laws : (n : ℕ) → Lawful (zeros n)
zeros_laws n = exactly_laws (replicate n 0) (all_zero n) where
  all_zero : (n : ℕ) → AreBytes (replicate n 0)
  all_zero zero i = omega arith
  all_zero (suc n) zero = omega arith
  all_zero (suc n) (suc i) = all_zero n i

pub empty_laws : Lawful empty
empty_laws = record { takes = λ u x after h e. (none u x after h e, tt); again = λ x at rest h. ap (λ (n : ℕ). Ok (x, rest_at n rest)) (sym (add-zero at)) } where
  none : (u : Unread) (x : Unit {0}) (after : Unread) → AreBytes u.bytes → empty.read u ≡ Ok (x, after) → Takes u [] after
  none u x after h e =
      let before : Unit {0} × Unread = (tt, u) in
      subst (λ (v : Unread). Takes u [] v) (ap (λ (p : Unit {0} × Unread). p.1) (ok_is before (x, after) e)) (record { parts = refl; place = omega arith; rest_fits = h })

module _ {A : Type 0} {c : Codec A} (laws : Lawful c) where
  -- what all of the bytes are read as is spelled so
  pub whole_takes : (bytes : List ℕ) (x : A) → AreBytes bytes → whole c bytes ≡ Ok x → c.Fits x × (bytes ≡ c.spell x)
  whole_takes bytes x h e =
      let a = bind_ok (c.read (rest_at 0 bytes)) (λ r. cond (ltb 0 (length r.1.bytes)) (Err (Range r.1.at)) (Ok r.0)) x e in
      let g = guard_ok (ltb 0 (length a.0.1.bytes)) (Range a.0.1.at) a.0.0 x a.2 in
      let k = laws.takes (rest_at 0 bytes) a.0.0 a.0.1 h a.1 in
      let over : length a.0.1.bytes ≤ 0 = ltb-false _ _ g.0 in
      let ended : a.0.1.bytes ≡ [] = nil_from_length a.0.1.bytes (omega arith) in
      subst (λ (y : A). c.Fits y × (bytes ≡ c.spell y)) g.1 (k.1, k.0.parts ∙ ap (λ (r : List ℕ). c.spell a.0.0 ++ r) ended ∙ append-nil (c.spell a.0.0))

  -- what is spelled is read from just those bytes
  pub whole_again : (x : A) → c.Fits x → whole c (c.spell x) ≡ Ok x
  whole_again x h = ap (whole c) (sym (append-nil (c.spell x))) ∙ rw (laws.again x 0 [] h) refl
