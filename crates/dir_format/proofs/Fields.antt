-- The laws of the fields of an entry: what is read is spelled so, and what is spelled so is read.
use Rattle.std.proofs.Common.{◌≡◌, ℕ, zero, suc, ◌+◌, ◌^◌, ◌<◌, ◌≤◌, Bool, true, false, List, [], ◌∷◌, ◌++◌, length, Ok, refl, sym, ap, subst, add-zero, arith}
use Rattle.std.specs.Int.{to_be_bytes, w32}
use Rattle.field_codec.specs.of_locus_ids.Sizes.{sites_max, inodes_max}
use Rattle.field_codec.specs.of_locus_ids.declared.ids.Kind.{Kind}
use Rattle.field_codec.specs.of_locus_ids.declared.ids.Kind.TheVariants.{File, Dir}
use Rattle.field_codec.specs.Codec.{Unread, AreBytes, u8, u8_in, u16_in, u16, u32, from_to, slice}
use Rattle.field_codec.proofs.Laws.{Lawful, Takes, Takes-then, rest_at, bind_ok, ok_is, u8_laws, u16_laws, u32_laws, slice_laws, within_laws, followed_by_laws, made_laws}
use Rattle.field_codec.proofs.Lists.{list_laws}
use Rattle.field_codec.proofs.Loop.{spelled_alike}
use Rattle.dir_format.specs.declared.entry.Entry.{Entry}
use Rattle.dir_format.specs.Entries.{is_live, nothing_seen}
use Rattle.dir_format.specs.Grammar.{kind_byte, kind_of, seen_bytes, entry_bytes, sized, kind_field, given, vector, seen_field, name_follows, ino_follows, kind_follows, entry_of, parts_of, entry_after}
use Rattle.dir_format.proofs.Tests.{in_range, in_range_back}

u8_in_laws : (lo hi : ℕ) → Lawful (u8_in lo hi)
u8_in_laws lo hi = within_laws (from_to lo hi) u8 u8_laws

pub sized_laws : Lawful sized
sized_laws = record { takes = takes; again = again } where
  takes : (u : Unread) (x : List ℕ) (after : Unread) → AreBytes u.bytes → sized.read u ≡ Ok (x, after) → Takes u (length x ∷ x) after × (((1 ≤ length x) × (length x ≤ 60)) × AreBytes x)
  takes u x after h e =
      let a = bind_ok ((u8_in 1 60).read u) (λ n. (slice n.0).read n.1) (x, after) e in
      let k = (u8_in_laws 1 60).takes u a.0.0 a.0.1 h a.1 in
      let s = (slice_laws a.0.0).takes a.0.1 x after k.0.rest_fits a.2 in
      subst (λ (n : ℕ). Takes u (n ∷ x) after × (((1 ≤ n) × (n ≤ 60)) × AreBytes x)) (sym s.1.0)
      (Takes-then u (a.0.0 ∷ []) a.0.1 x after k.0 s.0, (in_range 1 60 a.0.0 k.1.0, s.1.1))

  again : (x : List ℕ) (at : ℕ) (rest : List ℕ) → ((1 ≤ length x) × (length x ≤ 60)) × AreBytes x → sized.read (rest_at at (length x ∷ (x ++ rest))) ≡ Ok (x, rest_at (at + length (length x ∷ x)) rest)
  again x at rest h =
      let small : length x < 2 ^ 8 = omega (arith, h.0.1) in
      let place : (at + 1) + length x ≡ at + suc (length x) = omega arith in
      rw ((u8_in_laws 1 60).again (length x) at (x ++ rest) (in_range_back 1 60 (length x) h.0.0 h.0.1, small), (slice_laws (length x)).again x (at + 1) rest (refl, h.1))
      (ap (λ (n : ℕ). Ok (x, rest_at n rest)) place)

kind_byte-kind_of : (n : ℕ) → 1 ≤ n → n ≤ 2 → kind_byte (kind_of n) ≡ n
kind_byte-kind_of zero h k = absurd (omega arith)
kind_byte-kind_of (suc zero) h k = refl
kind_byte-kind_of (suc (suc zero)) h k = refl
kind_byte-kind_of (suc (suc (suc n))) h k = absurd (omega arith)

pub kind_field_laws : Lawful kind_field
kind_field_laws = record { takes = takes; again = again } where
  takes : (u : Unread) (x : Kind) (after : Unread) → AreBytes u.bytes → kind_field.read u ≡ Ok (x, after) → Takes u (kind_byte x ∷ []) after × Unit {0}
  takes u x after h e =
      let a = bind_ok ((u8_in 1 2).read u) (λ n. Ok (kind_of n.0, n.1)) (x, after) e in
      let k = (u8_in_laws 1 2).takes u a.0.0 a.0.1 h a.1 in
      let r = in_range 1 2 a.0.0 k.1.0 in
      subst (λ (y : Kind × Unread). Takes u (kind_byte y.0 ∷ []) y.1 × Unit {0}) (ok_is (kind_of a.0.0, a.0.1) (x, after) a.2)
      (subst (λ (n : ℕ). Takes u (n ∷ []) a.0.1) (sym (kind_byte-kind_of a.0.0 r.0 r.1)) k.0, tt)

  again : (x : Kind) (at : ℕ) (rest : List ℕ) → Unit {0} → kind_field.read (rest_at at (kind_byte x ∷ rest)) ≡ Ok (x, rest_at (at + 1) rest)
  again File at rest h = rw ((u8_in_laws 1 2).again 1 at rest (refl, omega arith)) refl
  again Dir at rest h = rw ((u8_in_laws 1 2).again 2 at rest (refl, omega arith)) refl

pub given_laws : {A : Type 0} (y : A) → Lawful (given y)
given_laws {A} y = record { takes = takes; again = again } where
  takes : (u : Unread) (x : A) (after : Unread) → AreBytes u.bytes → (given y).read u ≡ Ok (x, after) → Takes u [] after × (x ≡ y)
  takes u x after h e =
      subst (λ (z : A × Unread). Takes u [] z.1 × (z.0 ≡ y)) (ok_is (y, u) (x, after) e) (record { parts = refl; place = omega arith; rest_fits = h }, refl)

  again : (x : A) (at : ℕ) (rest : List ℕ) → x ≡ y → (given y).read (rest_at at rest) ≡ Ok (x, rest_at (at + 0) rest)
  again x at rest h = rw h (ap (λ (n : ℕ). Ok (y, rest_at n rest)) (sym (add-zero at)))

pub vector_laws : Lawful vector
vector_laws = list_laws (given_laws sites_max) u32_laws

pub seen_field_laws : (b : Bool) → Lawful (seen_field b)
seen_field_laws true = given_laws nothing_seen
seen_field_laws false = vector_laws

pub entry_laws : (before : List Entry) → Lawful (entry_after before)
entry_laws before =
    made_laws entry_of parts_of (λ _. refl) (λ _. refl)
    (followed_by_laws _ _ (within_laws (name_follows before) sized sized_laws) (λ name.
    followed_by_laws _ _ (within_laws (ino_follows before name) (u16_in 1 inodes_max) (within_laws (from_to 1 inodes_max) u16 u16_laws)) (λ ino.
    followed_by_laws _ _ (within_laws (kind_follows before ino) kind_field kind_field_laws) (λ _.
    followed_by_laws _ _ (within_laws (from_to 1 4294967295) u32 u32_laws) (λ count. seen_field_laws _)))))

spell-seen_field : (b : Bool) (seen : List ℕ) → (seen_field b).spell seen ≡ seen_bytes b seen
spell-seen_field true seen = refl
spell-seen_field false seen = spelled_alike (λ (_ : Unit {0}). u32) (λ _ _. tt) (to_be_bytes w32) (λ _ _. refl) tt seen

-- whatever stands before, an entry has the same bytes
pub spell-entry_after : (before : List Entry) (d : Entry) → (entry_after before).spell d ≡ entry_bytes d
spell-entry_after before d = rw (spell-seen_field (is_live d) d.seen) refl
