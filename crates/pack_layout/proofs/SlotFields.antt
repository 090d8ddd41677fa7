-- The bytes of a slot say its fields.
use Rattle.std.proofs.Common.{◌≡◌, inl, inr, ℕ, zero, suc, ◌+◌, ◌*◌, ◌^◌, ◌<◌, List, [], ◌∷◌, ◌++◌, length, get_or, replicate, refl, arith}
use Rattle.std.specs.List.{flat_map}
use Rattle.std.specs.Int.{w16, w32, to_be_bytes, byte_at}
use Rattle.locus_ids.specs.Sizes.{sites_max}
use Rattle.locus_ids.specs.declared.ids.Kind.{Kind}
use Rattle.locus_ids.specs.declared.ids.Kind.TheVariants.{File, Dir}
use Rattle.pack_layout.specs.declared.slot.Slot.{Slot}
use Rattle.pack_layout.specs.Layout.{layout, kind_number, slot_bytes, IsSlot}
use Rattle.pack_layout.specs.SlotFields.{counters, kind_of, fields_in, fields_of}
use Rattle.stored_versions.specs.Versions.{IsStamp}

kind_back : (k : Kind) → kind_of (kind_number k) ≡ k
kind_back File = refl
kind_back Dir = refl

pub two_bytes : (n : ℕ) → n < 2 ^ 16 → byte_at 1 n * 256 + byte_at 0 n ≡ n
two_bytes n lt = omega arith

pub four_bytes : (n : ℕ) → n < 2 ^ 32 → ((byte_at 3 n * 256 + byte_at 2 n) * 256 + byte_at 1 n) * 256 + byte_at 0 n ≡ n
four_bytes n lt = omega arith

counters_back : (n : ℕ) (v rest : List ℕ) → length v ≡ n → ((i : ℕ) → get_or v i 0 < 2 ^ 32) → counters n (flat_map (to_be_bytes w32) v ++ rest) ≡ v
counters_back zero [] rest long fits = refl
counters_back zero (x ∷ v) rest long fits = absurd (omega arith)
counters_back (suc n) [] rest long fits = absurd (omega arith)
counters_back (suc n) (x ∷ v) rest long fits =
    let one = four_bytes x (fits 0) in
    let more = counters_back n v rest (omega arith) (λ i. fits (suc i)) in
    (λ i. one i ∷ more i)

number_fits : (s : Slot) → IsStamp s.stamp → s.stamp.n < 2 ^ 32
number_fits s is = elim is [ inl none ↦ omega (arith, none.1) | inr some ↦ some.3 ]

pub fields_back : (s : Slot) → IsSlot s → fields_in (slot_bytes s) ≡ fields_of s
unfolding fields_in
fields_back s is =
    let k = kind_back s.kind in
    let high = is.high in
    let o = two_bytes s.ino (omega arith) in
    let w = two_bytes s.set.0 is.sites in
    let small = is.size in
    let z = four_bytes s.size (omega arith) in
    let m = four_bytes s.stamp.n (number_fits s is.stamp) in
    let v = counters_back sites_max s.vector (flat_map (to_be_bytes w16) s.pages ++ (flat_map (to_be_bytes w16) s.tables ++ replicate layout.rest_length 0)) is.vector.count is.vector.each in
    (λ i. record {
      kind = k i;
      ino = o i;
      set = record { 0 = w i };
      size = z i;
      stamp = record { site = s.stamp.site; n = m i };
      vector = v i;
    })
