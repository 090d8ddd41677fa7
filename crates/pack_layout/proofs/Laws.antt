-- The two laws of slots, from those of their fields.
use Rattle.std.proofs.Common.{◌≡◌, ℕ, ◌∷◌, [], List, refl, ◌<◌, ◌≤◌, ◌-◌, ◌+◌, arith, suc, zero, length, take, set, Ok, Err, ap, ◌∙◌}
use Rattle.std.proofs.Math.Seq.{take-length}
use Rattle.std.proofs.lemmas.List.{take_more_set}
use Rattle.locus_ids.specs.Sizes.{sites_max, slot_pages, content_tables_max}
use Rattle.field_codec.specs.declared.faults.FieldFault.{FieldFault}
use Rattle.field_codec.proofs.Loop.{with_front, goes_on, ends, is_done}
use Rattle.locus_ids.specs.declared.ids.Kind.TheVariants.{File, Dir}
use Rattle.field_codec.specs.Codec.{Codec, Unread, Read, AreBytes, u8, from_to}
use Rattle.field_codec.specs.Lists.{read_times}
use Rattle.field_codec.proofs.Laws.{Lawful, u8_laws, u16_laws, u32_laws, within_laws, pair_laws, made_laws, exactly_laws, zeros_laws, empty_laws}
use Rattle.field_codec.proofs.Sums.{variant_laws, kind_laws, no_kind_laws, tagged_laws}
use Rattle.field_codec.proofs.Lists.{list_laws}
use Rattle.pack_layout.specs.Layout.{layout, kind_number, open_gate}
use Rattle.pack_layout.specs.Fields.{repeated, kinds, sets, stamps, slot_of, parts_of, slots}

-- so many items, with no tie between them
abbrev pub times : {A : Type 0} → Codec A → ℕ → Unread → Read (List A)
times c n u = let start : Unit {0} = tt in read_times (λ (_ : Unit {0}). c) (λ _ _. start) start n u

pub times_start : (r : Read (List ℕ)) → with_front [] r ≡ r
times_start (Ok x) = refl
times_start (Err e) = refl

module _ (c : Codec ℕ) (n i : ℕ) (items : List ℕ) where
  pub times_more : (x : ℕ) (u after : Unread) (total : Read (List ℕ)) → length items ≡ n → i < n → c.read u ≡ Ok (x, after) → with_front (take i items) (times c (n - i) u) ≡ total
      → with_front (take (i + 1) (set items i x)) (times c (n - (i + 1)) after) ≡ total
  times_more x u after total len lt e so_far =
      let start : Unit {0} = tt in
      rw (take_more_set items i x (omega arith)) (goes_on (λ (_ : Unit {0}). c) (λ _ _. start) (take i items) start n i u x after total lt e so_far)

  pub times_end : (u : Unread) (d : FieldFault) (total : Read (List ℕ)) → i < n → c.read u ≡ Err d → with_front (take i items) (times c (n - i) u) ≡ total → total ≡ Err d
  times_end u d total lt e so_far =
      let start : Unit {0} = tt in
      ends (λ (_ : Unit {0}). c) (λ _ _. start) (take i items) start n i u d total lt e so_far

  pub times_done : (u : Unread) (total : Read (List ℕ)) → length items ≡ n → i ≤ n → n ≤ i → with_front (take i items) (times c (n - i) u) ≡ total → total ≡ Ok (items, u)
  times_done u total len low high so_far =
      let start : Unit {0} = tt in
      let same : i ≡ length items = omega arith in
      is_done (λ (_ : Unit {0}). c) (λ _ _. start) (take i items) start n i u total high so_far ∙ ap (λ (xs : List ℕ). Ok (xs, u)) (ap (λ (k : ℕ). take k items) same ∙ take-length items)

pub repeated_laws : {A : Type 0} {c : Codec A} (n : ℕ) → Lawful c → Lawful (repeated n c)
repeated_laws {A} {c} n laws = list_laws (variant_laws (λ _. n) (λ _. tt) (λ _. refl) empty_laws) laws

pub kinds_laws : Lawful kinds
kinds_laws = tagged_laws (kind_laws 1 (λ _. File) (λ _. tt) (λ _. refl) (λ _. refl) empty_laws (kind_laws 2 (λ _. Dir) (λ _. tt) (λ _. refl) (λ _. refl) empty_laws (no_kind_laws kind_number)))

pub sets_laws : Lawful sets
sets_laws = made_laws _ _ (λ _. refl) (λ _. refl) u16_laws

pub stamps_laws : Lawful stamps
stamps_laws = made_laws _ _ (λ _. refl) (λ _. refl) (pair_laws u8_laws u32_laws)

gate_is_byte : AreBytes (open_gate ∷ [])
gate_is_byte zero = omega arith
gate_is_byte (suc i) = omega arith

pub slots_laws : Lawful slots
slots_laws = made_laws slot_of parts_of (λ _. refl) (λ _. refl)
    (pair_laws (exactly_laws (open_gate ∷ []) gate_is_byte) (pair_laws (within_laws (from_to 0 2) u8 u8_laws) (pair_laws kinds_laws (pair_laws u16_laws (pair_laws sets_laws (pair_laws u32_laws (pair_laws stamps_laws
    (pair_laws (repeated_laws sites_max u32_laws) (pair_laws (repeated_laws slot_pages u16_laws) (pair_laws (repeated_laws content_tables_max u16_laws) (zeros_laws layout.rest_length)))))))))))
