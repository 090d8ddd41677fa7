-- A losing gate that closes, or is torn, leaves the view as it was.
use Rattle.std.proofs.Common.{◌≡◌, ◌≢◌, inl, inr, ⊎_elim, ℕ, ◌+◌, ◌≤◌, ◌<◌, true, false, List, [], ◌∷◌, length, get_or, refl, sym, ◌∙◌, ap, subst, arith}
use Rattle.std.specs.Prelude.{Some, ◌==◌}
use Rattle.std.proofs.lemmas.Bool.{cases_eq, cases_Bool, eqb-true, true≢false}
use Rattle.std.proofs.lemmas.Bool.Decides.{nat_tests}
use Rattle.locus_ids.specs.Sizes.{inodes_max}
use Rattle.disk_model.specs.Images.{overwritten, is_within, Torn}
use Rattle.pack_layout.specs.declared.half.Half.{Half}
use Rattle.pack_layout.specs.declared.half.Half.TheVariants.{First, Second}
use Rattle.pack_layout.specs.Layout.{slot_at, tables_at, table_at, page_at, other_half}
use Rattle.pack_layout.proofs.Halves.{half_most, half_sum, other_twice}
use Rattle.inode_switch.specs.View.{is_open, turn, table, page, version, view, SameView}
use Rattle.inode_switch.specs.Replace.{Loses, IsNext}
use Rattle.gate_switch.proofs.Pieces.{torn_overwritten}
use Rattle.inode_switch.proofs.Views.{Keeps, Agrees, same_view, same_version, same_open}
use Rattle.inode_switch.proofs.OldOrNew.{own_by, one_slot, below_tables}

beside : (at k : ℕ) → k ≢ at → is_within at 1 k ≡ false
beside at k ne = grind (arith, nat_tests)

module _ (base ino : ℕ) (half : Half) (old : List ℕ) (loses : Loses base ino half old) where
  abbrev gate : ℕ
  gate = slot_at base ino half

  abbrev other : ℕ
  other = slot_at base ino (other_half half)

  -- a slot that keeps all its bytes and those of its tables and pages
  kept : (c : List ℕ) → length c ≡ length old → (i : ℕ) (one : Half) → 1 ≤ i → i ≤ inodes_max → ((k : ℕ) → k < 512 → get_or c (slot_at base i one + k) 0 ≡ get_or old (slot_at base i one + k) 0)
      → ((k : ℕ) → base + tables_at ≤ k → get_or c k 0 ≡ get_or old k 0) → is_open old (slot_at base i one) ≡ true → Keeps base (slot_at base i one) old c
  kept c long i one low high bytes pages is = record {
    long = long;
    few = loses.few i one low high is;
    bytes = bytes;
    tables = λ t k lt in_table. pages (table_at base (table old (slot_at base i one) t) + k) (omega arith);
    pages = λ n k lt in_page. pages (page_at base (page old base (slot_at base i one) n) + k) (omega arith);
  }

  agrees : (c : List ℕ) → length c ≡ length old → (i : ℕ) (one : Half) → 1 ≤ i → i ≤ inodes_max → ((k : ℕ) → k < 512 → get_or c (slot_at base i one + k) 0 ≡ get_or old (slot_at base i one + k) 0)
      → ((k : ℕ) → base + tables_at ≤ k → get_or c k 0 ≡ get_or old k 0) → Agrees base (slot_at base i one) old c
  agrees c long i one low high bytes pages = ⊎_elim
      (λ (is : is_open old (slot_at base i one) ≡ true). inr (kept c long i one low high bytes pages is))
      (λ (is : is_open old (slot_at base i one) ≡ false).
      let e : slot_at base i one + 0 ≡ slot_at base i one = omega arith in
      inl (is, ap (λ (n : ℕ). n == 165) (subst (λ (p : ℕ). get_or c p 0 ≡ get_or old p 0) e (bytes 0 (omega arith))) ∙ is))
      (cases_Bool (is_open old (slot_at base i one)))

  -- a torn gate
  module _ (c : List ℕ) (torn : Torn gate 1 old c) where
    each : (k : ℕ) → k ≢ gate → get_or c k 0 ≡ get_or old k 0
    each k ne = torn.outside k (beside gate k ne)

    pages : (k : ℕ) → base + tables_at ≤ k → get_or c k 0 ≡ get_or old k 0
    pages k le = each k (below_tables base ino half k loses.high le)

    slot_bytes : (i : ℕ) (one : Half) → slot_at base i one ≢ gate → (k : ℕ) → k < 512 → get_or c (slot_at base i one + k) 0 ≡ get_or old (slot_at base i one + k) 0
    slot_bytes i one apart k lt = each (slot_at base i one + k) (λ e. apart (one_slot base i one ino half k lt e))

    others : (i : ℕ) → 1 ≤ i → i ≤ inodes_max → i ≢ ino → view c base i ≡ view old base i
    others i low high ne = same_view base (slot_at base i First) (slot_at base i Second) old c
        (agrees c torn.long i First low high (slot_bytes i First (λ e. omega (arith, half_most half, loses.low))) pages)
        (agrees c torn.long i Second low high (slot_bytes i Second (λ e. omega (arith, half_most half, loses.low))) pages)

    keeps_other : Keeps base other old c
    keeps_other = kept c torn.long ino (other_half half) loses.low loses.high (slot_bytes ino (other_half half) (λ e. omega (arith, half_sum half))) pages loses.other

    was : view old base ino ≡ Some (version old base other)
    was = own_by base ino (other_half half) old (version old base other) loses.other refl (λ _. subst (λ (one : Half). IsNext (turn old (slot_at base ino one)) (turn old other)) (sym (other_twice half)) loses.next)

    shut : is_open c gate ≡ false → view c base ino ≡ Some (version old base other)
    shut closed = own_by base ino (other_half half) c (version old base other) (same_open base other old c keeps_other ∙ loses.other) (same_version base other old c keeps_other)
        (λ is. absurd (true≢false (sym is ∙ ap (λ (one : Half). is_open c (slot_at base ino one)) (other_twice half) ∙ closed)))

    still : is_open c gate ≡ true → is_open old gate ≡ true → (k : ℕ) → get_or c k 0 ≡ get_or old k 0
    still is open_is k = ⊎_elim
        (λ (e : k ≡ gate). ap (λ (n : ℕ). get_or c n 0) e ∙ eqb-true (get_or c gate 0) 165 is ∙ sym (eqb-true (get_or old gate 0) 165 open_is) ∙ sym (ap (λ (n : ℕ). get_or old n 0) e))
        (λ (apart : k ≢ gate). each k apart)
        (cases_eq k gate)

    own : is_open old gate ≡ true → view c base ino ≡ view old base ino
    own open_is = ⊎_elim
        (λ (is : is_open c gate ≡ true). same_view base (slot_at base ino First) (slot_at base ino Second) old c
        (agrees c torn.long ino First loses.low loses.high (λ k lt. still is open_is (slot_at base ino First + k)) pages)
        (agrees c torn.long ino Second loses.low loses.high (λ k lt. still is open_is (slot_at base ino Second + k)) pages))
        (λ (is : is_open c gate ≡ false). shut is ∙ sym was)
        (cases_Bool (is_open c gate))

    pub torn_same_view : is_open old gate ≡ true → SameView base old c
    torn_same_view open_is = λ i low high. ⊎_elim
        (λ (e : i ≡ ino). subst (λ (j : ℕ). view c base j ≡ view old base j) (sym e) (own open_is))
        (λ (ne : i ≢ ino). others i low high ne)
        (cases_eq i ino)

  pub closed_same_view : is_open old gate ≡ true → SameView base old (overwritten old gate (0 ∷ []))
  closed_same_view open_is = torn_same_view (overwritten old gate (0 ∷ [])) (torn_overwritten old gate (0 ∷ []) (omega (arith, loses.area, loses.high, half_most half, loses.low))) open_is
