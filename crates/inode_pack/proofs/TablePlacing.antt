-- What the tables that a commit writes leave on the disk.
use Rattle.std.proofs.Common.{◌≡◌, ◌⊎◌, inl, inr, ⊎_elim, ℕ, ◌+◌, ◌*◌, ◌<◌, ◌≤◌, Bool, false, ◌||◌, List, [], ◌∷◌, length, drop, get_or, refl, sym, ap, subst, ◌∙◌, arith, length-take, length-drop}
use Rattle.std.specs.List.{All}
use Rattle.std.proofs.lemmas.List.Elements.{All-nil, All-cons, All-head, All-tail}
use Rattle.locus_ids.specs.Sizes.{content_pages_max, slot_pages, table_pages, content_tables_max, pack_tables}
use Rattle.disk_model.specs.Images.{is_within, overwritten}
use Rattle.pack_layout.specs.Layout.{area_length, table_at, table_bytes, numbers_under}
use Rattle.gate_switch.specs.Switch.{Piece}
use Rattle.gate_switch.specs.Switch.{AreWithin, touches, written}
use Rattle.gate_switch.proofs.Pieces.{put_outside, length-overwritten}
use Rattle.gate_switch.proofs.Tearing.{put_inside}
use Rattle.inode_switch.proofs.SlotBytes.{length-numbers}
use Rattle.pack_slots.specs.declared.inode_copy.InodeCopy.{InodeCopy}
use Rattle.pack_slots.specs.Copies.{numbers_in}
use Rattle.inode_pack.specs.PagePieces.{table_piece, table_pieces}
use Rattle.inode_pack.proofs.WrittenTables.{IsIn}

module _ (base : ℕ) (made : InodeCopy) where
  abbrev at : ℕ → ℕ
  at k = table_at base (get_or made.slot.tables k 0)

  abbrev bytes : ℕ → List ℕ
  bytes k = table_bytes (numbers_under (numbers_in made) k)

  -- the copy may have the table, and its number is that of one of the area
  abbrev pub IsTable : ℕ → Type 0
  IsTable k = (k < content_tables_max) × (get_or made.slot.tables k 0 < pack_tables)

  abbrev pub IsBeside : ℕ → ℕ → Type 0
  IsBeside place k = is_within (table_at base (get_or made.slot.tables k 0)) 1024 place ≡ false

  -- a piece for each
  pub length-tables : (ks : List ℕ) → length (table_pieces base made ks) ≡ length ks
  length-tables [] = refl
  length-tables (k ∷ ks) = let rest = length-tables ks in omega arith

  module _ (count : length (numbers_in made) ≡ content_pages_max) where
    pub table_long : (k : ℕ) → k < content_tables_max → length (bytes k) ≡ 1024
    table_long k lt = omega (arith, length-numbers (numbers_under (numbers_in made) k), length-take table_pages (drop (slot_pages + table_pages * k) (numbers_in made)), length-drop (slot_pages + table_pages * k) (numbers_in made), count, lt)

    fits : (k m : ℕ) → base + area_length ≤ m → IsTable k → at k + length (bytes k) ≤ m
    fits k m area is = let long = table_long k is.0 in let number = is.1 in omega arith

    outside : (k place : ℕ) → k < content_tables_max → IsBeside place k → is_within (at k) (length (bytes k)) place ≡ false
    outside k place lt out = subst (λ (n : ℕ). is_within (at k) n place ≡ false) (sym (table_long k lt)) out

    pub spared_tables : (ks : List ℕ) (place : ℕ) → All IsTable ks → All (IsBeside place) ks → touches (table_pieces base made ks) place ≡ false
    spared_tables [] place are out = refl
    spared_tables (k ∷ ks) place are out =
        let is : IsTable k = All-head IsTable k ks are in
        ap (λ (b : Bool). b || touches (table_pieces base made ks) place) (outside k place is.0 (All-head (IsBeside place) k ks out))
        ∙ spared_tables ks place (All-tail IsTable k ks are) (All-tail (IsBeside place) k ks out)

    pub within_tables : (ks : List ℕ) (m : ℕ) → base + area_length ≤ m → All IsTable ks → AreWithin (table_pieces base made ks) m
    within_tables [] m area are = All-nil (λ (piece : Piece). piece.at + length piece.bytes ≤ m)
    within_tables (k ∷ ks) m area are =
        All-cons (λ (piece : Piece). piece.at + length piece.bytes ≤ m) (table_piece base made k) (table_pieces base made ks) (fits k m area (All-head IsTable k ks are)) (within_tables ks m area (All-tail IsTable k ks are))

    pub long_tables : (ks xs : List ℕ) → base + area_length ≤ length xs → All IsTable ks → length (written xs (table_pieces base made ks)) ≡ length xs
    long_tables [] xs area are = refl
    long_tables (k ∷ ks) xs area are =
        let one = length-overwritten xs (at k) (bytes k) (fits k (length xs) area (All-head IsTable k ks are)) in
        long_tables ks (overwritten xs (at k) (bytes k)) (omega (arith, one, area)) (All-tail IsTable k ks are) ∙ one

    -- other places stay
    pub beside_tables : (ks xs : List ℕ) (place : ℕ) → base + area_length ≤ length xs → All IsTable ks → All (IsBeside place) ks → get_or (written xs (table_pieces base made ks)) place 0 ≡ get_or xs place 0
    beside_tables [] xs place area are out = refl
    beside_tables (k ∷ ks) xs place area are out =
        let is : IsTable k = All-head IsTable k ks are in
        let fit = fits k (length xs) area is in
        let long = length-overwritten xs (at k) (bytes k) fit in
        beside_tables ks (overwritten xs (at k) (bytes k)) place (omega (arith, long, area)) (All-tail IsTable k ks are) (All-tail (IsBeside place) k ks out)
        ∙ put_outside (at k) xs (bytes k) place fit (outside k place is.0 (All-head (IsBeside place) k ks out))

    -- one of them has its bytes, where each other one stands elsewhere
    module _ (k j : ℕ) (lt : k < content_tables_max) (small : j < 1024) where
      abbrev pub IsApart : ℕ → Type 0
      IsApart m = (m ≡ k) ⊎ IsBeside (table_at base (get_or made.slot.tables k 0) + j) m

      put_table : (m : ℕ) (xs : List ℕ) → base + area_length ≤ length xs → IsTable m → m ≡ k → get_or (overwritten xs (at m) (bytes m)) (at k + j) 0 ≡ get_or (bytes k) j 0
      put_table m xs area is e =
          ap (λ (n : ℕ). get_or (overwritten xs (at m) (bytes m)) (at n + j) 0) (sym e)
          ∙ put_inside xs (at m) (bytes m) j (fits m (length xs) area is) (let long = table_long m is.0 in omega arith)
          ∙ ap (λ (n : ℕ). get_or (bytes n) j 0) e

      pub placed_table : (ks xs : List ℕ) → base + area_length ≤ length xs → All IsTable ks → All IsApart ks → (get_or xs (at k + j) 0 ≡ get_or (bytes k) j 0) ⊎ IsIn k ks
          → get_or (written xs (table_pieces base made ks)) (table_at base (get_or made.slot.tables k 0) + j) 0 ≡ get_or (table_bytes (numbers_under (numbers_in made) k)) j 0
      placed_table [] xs area are apart (inl there) = there
      placed_table [] xs area are apart (inr none) = absurd none
      placed_table (m ∷ ks) xs area are apart h =
          let is : IsTable m = All-head IsTable m ks are in
          let fit = fits m (length xs) area is in
          let long = length-overwritten xs (at m) (bytes m) fit in
          let next : (get_or (overwritten xs (at m) (bytes m)) (at k + j) 0 ≡ get_or (bytes k) j 0) ⊎ IsIn k ks = ⊎_elim
          (λ (same : m ≡ k). inl (put_table m xs area is same))
          (λ (beside : IsBeside (at k + j) m). ⊎_elim
          (λ (there : get_or xs (at k + j) 0 ≡ get_or (bytes k) j 0). inl (put_outside (at m) xs (bytes m) (at k + j) fit (outside m (at k + j) is.0 beside) ∙ there))
          (λ (more : (m ≡ k) ⊎ IsIn k ks). ⊎_elim
          (λ (same : m ≡ k). inl (put_table m xs area is same))
          (λ (among : IsIn k ks). inr among)
          more)
          h)
          (All-head IsApart m ks apart) in
          placed_table ks (overwritten xs (at m) (bytes m)) (omega (arith, long, area)) (All-tail IsTable m ks are) (All-tail IsApart m ks apart) next
