-- The laws of modes and openings.
use Rattle.std.proofs.Common.{◌≡◌, ℕ, zero, suc, ◌+◌, ◌≤◌, Bool, true, false, IsTrue, cond, List, ◌++◌, ◌==◌, length, Ok, refl, sym, ap, subst, ◌∙◌, arith, ◌-◌}
use Rattle.wire_fields.specs.of_locus_ids.Sizes.{sites_max, set_span}
use Rattle.wire_fields.specs.of_locus_ids.declared.ids.Kind.{Kind}
use Rattle.wire_fields.specs.of_locus_ids.declared.ids.Kind.TheVariants.{File, Dir}
use Rattle.wire_fields.specs.of_locus_ids.declared.ids.Mode.{Mode}
use Rattle.wire_fields.specs.of_locus_ids.declared.ids.Mode.TheVariants as mode
use Rattle.wire_fields.specs.of_locus_ids.declared.sites.Sites.{Sites}
use Rattle.wire_fields.specs.of_field_codec.Codec.{Codec, Unread, ◌>>=◌, AreBytes, u8_in, u16_in, pair, made, from_to}
use Rattle.wire_fields.proofs.of_field_codec.Laws.{Lawful, Takes, rest_at, bind_ok, ok_is, pair_laws, followed_by_laws}
use Rattle.wire_fields.specs.Parts.{kind_number}
use Rattle.wire_fields.proofs.PartLaws.{u8_in_laws, u16_in_laws}
use Rattle.wire_fields.proofs.Members.{range}
use Rattle.wire_messages.specs.declared.body.Opening.{Opening}
use Rattle.wire_messages.specs.declared.body.Opening.TheVariants as opening
use Rattle.wire_messages.specs.Answers.{mode_numbers, mode_number, mode_of, modes, OpeningNumbers, opening_numbers, numbers_of, kind_from, opening_of, openings}

-- a value that is made of another, and gives it back where that one is in range
module _ {A B : Type 0} {c : Codec A} (to : A → B) (from : B → A) where
  pub fitting_laws : ((a : A) → c.Fits a → from (to a) ≡ a) → ((b : B) → to (from b) ≡ b) → Lawful c → Lawful (made to from c)
  fitting_laws back forth laws = record { takes = takes; again = again } where
    takes : (u : Unread) (x : B) (after : Unread) → AreBytes u.bytes → (made to from c).read u ≡ Ok (x, after) → Takes u (c.spell (from x)) after × c.Fits (from x)
    takes u x after h e =
        let a = bind_ok (c.read u) (λ r. Ok (to r.0, r.1)) (x, after) e in
        let k = laws.takes u a.0.0 a.0.1 h a.1 in
        subst (λ (y : B × Unread). Takes u (c.spell (from y.0)) y.1 × c.Fits (from y.0)) (ok_is (to a.0.0, a.0.1) (x, after) a.2)
        (subst (λ (v : A). Takes u (c.spell v) a.0.1 × c.Fits v) (sym (back a.0.0 k.1)) k)

    again : (x : B) (at : ℕ) (rest : List ℕ) → c.Fits (from x) → (made to from c).read (rest_at at (c.spell (from x) ++ rest)) ≡ Ok (x, rest_at (at + length (c.spell (from x))) rest)
    again x at rest h = rw (laws.again (from x) at rest h, forth x) refl

mode_range : (new : Bool) (n : ℕ) → (mode_numbers new).Fits n → (1 ≤ n) × (n ≤ 5)
mode_range true n h = let r = range 5 5 n h.0 in (omega (arith, r.0), r.1)
mode_range false n h = let r = range 1 4 n h.0 in (r.0, omega (arith, r.1))

numbered : (n : ℕ) → 1 ≤ n → n ≤ 5 → mode_number (mode_of n) ≡ n
numbered zero low high = absurd (omega arith)
numbered (suc zero) low high = refl
numbered (suc (suc zero)) low high = refl
numbered (suc (suc (suc zero))) low high = refl
numbered (suc (suc (suc (suc zero)))) low high = refl
numbered (suc (suc (suc (suc (suc zero))))) low high = refl
numbered (suc (suc (suc (suc (suc (suc n)))))) low high = absurd (omega arith)

named : (m : Mode) → mode_of (mode_number m) ≡ m
named mode.Read = refl
named mode.Write = refl
named mode.Resolve = refl
named mode.Mend = refl
named mode.Make = refl

pub mode_numbers_laws : (new : Bool) → Lawful (mode_numbers new)
mode_numbers_laws new = u8_in_laws (cond new 5 1) (cond new 5 4)

pub modes_laws : (new : Bool) → Lawful (modes new)
modes_laws new = fitting_laws mode_of mode_number (λ n h. let r = mode_range new n h in numbered n r.0 r.1) named (mode_numbers_laws new)

-- what may stand behind a mode's number
abbrev pub behind_mode : ℕ → Codec (ℕ × (ℕ × ℕ))
behind_mode m = pair (u8_in (cond (m == 3) 1 0) (cond (m == 3) sites_max 0)) (pair (u16_in (cond (m == 5) 1 0) (cond (m == 5) (set_span - 1) 0)) (u8_in (cond (m == 5) 1 0) (cond (m == 5) 2 0)))

behind_mode_laws : (m : ℕ) → Lawful (behind_mode m)
behind_mode_laws m = pair_laws (u8_in_laws (cond (m == 3) 1 0) (cond (m == 3) sites_max 0)) (pair_laws (u16_in_laws (cond (m == 5) 1 0) (cond (m == 5) (set_span - 1) 0)) (u8_in_laws (cond (m == 5) 1 0) (cond (m == 5) 2 0)))

none_there : (n : ℕ) → IsTrue (from_to 0 0 n) → 0 ≡ n
none_there n h = let r = range 0 0 n h in omega (arith, r.1)

all_numbers : (m a b c d e f : ℕ) → a ≡ b → c ≡ d → e ≡ f → (let p : OpeningNumbers = (m, (a, (c, e))) in p) ≡ (m, (b, (d, f)))
all_numbers m a b c d e f x y z = cc

kind_back : (k : ℕ) → IsTrue (from_to 1 2 k) → kind_number (kind_from k) ≡ k
kind_back zero h = let r = range 1 2 0 h in absurd (omega (arith, r.0))
kind_back (suc zero) h = refl
kind_back (suc (suc zero)) h = refl
kind_back (suc (suc (suc k))) h = let r = range 1 2 (suc (suc (suc k))) h in absurd (omega (arith, r.1))

numbers_back : (m site set k : ℕ) → 1 ≤ m → m ≤ 5 → (behind_mode m).Fits (site, (set, k)) → numbers_of (opening_of (m, (site, (set, k)))) ≡ (m, (site, (set, k)))
numbers_back zero site set k low high h = absurd (omega arith)
numbers_back (suc zero) site set k low high h = all_numbers 1 0 site 0 set 0 k (none_there site h.0.0) (none_there set h.1.0.0) (none_there k h.1.1.0)
numbers_back (suc (suc zero)) site set k low high h = all_numbers 2 0 site 0 set 0 k (none_there site h.0.0) (none_there set h.1.0.0) (none_there k h.1.1.0)
numbers_back (suc (suc (suc zero))) site set k low high h = all_numbers 3 site site 0 set 0 k refl (none_there set h.1.0.0) (none_there k h.1.1.0)
numbers_back (suc (suc (suc (suc zero)))) site set k low high h = all_numbers 4 0 site 0 set 0 k (none_there site h.0.0) (none_there set h.1.0.0) (none_there k h.1.1.0)
numbers_back (suc (suc (suc (suc (suc zero))))) site set k low high h = all_numbers 5 0 site set set (kind_number (kind_from k)) k (none_there site h.0.0) refl (kind_back k h.1.1.0)
numbers_back (suc (suc (suc (suc (suc (suc m)))))) site set k low high h = absurd (omega arith)

kind_forth : (k : Kind) → kind_from (kind_number k) ≡ k
kind_forth File = refl
kind_forth Dir = refl

openings_forth : (how : Opening) → opening_of (numbers_of how) ≡ how
openings_forth opening.Read = refl
openings_forth opening.Write = refl
openings_forth (opening.Resolve site) = refl
openings_forth opening.Mend = refl
openings_forth (opening.Make set k) = ap (λ (x : Kind). opening.Make set x) (kind_forth k)

pub openings_laws : (new : Bool) → Lawful (openings new)
openings_laws new = fitting_laws opening_of numbers_of
    (λ p h. let r = mode_range new p.0 h.0 in numbers_back p.0 p.1.0 p.1.1.0 p.1.1.1 r.0 r.1 h.1) openings_forth
    (followed_by_laws (mode_numbers new) behind_mode (mode_numbers_laws new) behind_mode_laws)
