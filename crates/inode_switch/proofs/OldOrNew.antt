-- Each stage of a switch that may replace an inode has the old view or the new one.
use Rattle.std.proofs.Common.{◌≡◌, ◌≢◌, inl, inr, ⊎_elim, ℕ, zero, suc, ◌+◌, ◌≤◌, ◌<◌, Bool, true, false, List, [], ◌∷◌, length, get_or, refl, sym, ◌∙◌, ap, subst, arith, ◌%◌}
use Rattle.std.specs.Prelude.{Option, None, Some, ◌==◌, if◌then◌else◌}
use Rattle.std.proofs.lemmas.Bool.{cases_eq, cases_Bool, eqb-true, eq-eqb}
use Rattle.std.proofs.lemmas.Bool.Decides.{nat_tests}
use Rattle.locus_ids.specs.Sizes.{inodes_max, content_pages_max}
use Rattle.disk_model.specs.Images.{is_within, Torn}
use Rattle.gate_switch.specs.Switch.{Piece}
use Rattle.gate_switch.specs.Switch.{touches, TornIn, TornGate, IsStage, written, closed, switched}
use Rattle.pack_layout.specs.of_file_content.Pages.{pages_of}
use Rattle.pack_layout.specs.declared.half.Half.{Half}
use Rattle.pack_layout.specs.declared.half.Half.TheVariants as slot_half
use Rattle.pack_layout.specs.Layout.{slot_at, tables_at, table_at, page_at, other_half}
use Rattle.pack_layout.proofs.Halves.{half_most, half_sum}
use Rattle.inode_switch.specs.View.{is_open, turn, size, table, page, Version, version, Newer, Second, First, newer_of, newer, counting, version_in, view, SameView, Replaced, IsOldOrNew}
use Rattle.inode_switch.specs.Replace.{MayReplace, made_bytes, made_version, closing, IsNext}
use Rattle.gate_switch.proofs.Pieces.{torn_written, torn_overwritten, put_gate}
use Rattle.inode_switch.proofs.Views.{Keeps, Agrees, same_view, same_version, size_by}

-- slots begin at every 512 bytes
pub one_slot : (base i : ℕ) (each : Half) (ino : ℕ) (half : Half) (k : ℕ) → k < 512 → slot_at base i each + k ≡ slot_at base ino half → slot_at base i each ≡ slot_at base ino half
one_slot base i each ino half k lt e = omega arith

pub below_tables : (base ino : ℕ) (half : Half) (k : ℕ) → ino ≤ inodes_max → base + tables_at ≤ k → k ≢ slot_at base ino half
below_tables base ino half k high le e = omega (arith, half_most half)

module _ (base ino : ℕ) (half : Half) (pieces : List Piece) (old : List ℕ) (may : MayReplace base ino half pieces old) where
  abbrev gate : ℕ
  gate = slot_at base ino half

  -- a slot that a change spares, with its tables and pages, outside the places where it may change more
  spared : (Out : ℕ → Type 0) (c : List ℕ) → length c ≡ length old → ((k : ℕ) → touches pieces k ≡ false → Out k → get_or c k 0 ≡ get_or old k 0)
      → (i : ℕ) (each : Half) → 1 ≤ i → i ≤ inodes_max → ((k : ℕ) → k < 512 → Out (slot_at base i each + k)) → ((k : ℕ) → base + tables_at ≤ k → Out k) → Agrees base (slot_at base i each) old c
  spared Out c long same i each low high in_slot in_pages = ⊎_elim kept shut (cases_Bool (is_open old (slot_at base i each)))
    where
      kept : is_open old (slot_at base i each) ≡ true → Agrees base (slot_at base i each) old c
      kept is = let s = may.spares i each low high is in inr record {
        long = long;
        few = s.few;
        bytes = λ k lt. same (slot_at base i each + k) (s.bytes k lt) (in_slot k lt);
        tables = λ t k lt in_table. same (table_at base (table old (slot_at base i each) t) + k) (s.tables t k lt in_table) (in_pages (table_at base (table old (slot_at base i each) t) + k) (omega arith));
        pages = λ n k lt in_page. same (page_at base (page old base (slot_at base i each) n) + k) (s.pages n k lt in_page) (in_pages (page_at base (page old base (slot_at base i each) n) + k) (omega arith));
      }

      shut : is_open old (slot_at base i each) ≡ false → Agrees base (slot_at base i each) old c
      shut is =
          let e : slot_at base i each + 0 ≡ slot_at base i each = omega arith in
          inl (is, ap (λ (n : ℕ). n == 165) (same (slot_at base i each) (may.gates i each low high) (subst Out e (in_slot 0 (omega arith)))) ∙ is)

  -- the new slot stays closed
  pub stays_old : (c : List ℕ) → length c ≡ length old → ((k : ℕ) → touches pieces k ≡ false → k ≢ gate → get_or c k 0 ≡ get_or old k 0) → is_open c gate ≡ false → SameView base old c
  stays_old c long same closed = λ i low high. same_view base (slot_at base i slot_half.First) (slot_at base i slot_half.Second) old c (at i slot_half.First low high) (at i slot_half.Second low high)
    where
      at : (i : ℕ) (each : Half) → 1 ≤ i → i ≤ inodes_max → Agrees base (slot_at base i each) old c
      at i each low high = ⊎_elim
          (λ (here : slot_at base i each ≡ gate). subst (λ (s : ℕ). Agrees base s old c) (sym here) (inl (may.shut, closed)))
          (λ (apart : slot_at base i each ≢ gate). spared (λ k. k ≢ gate) c long same i each low high (λ k lt e. apart (one_slot base i each ino half k lt e)) (λ k le. below_tables base ino half k may.high le))
          (cases_eq (slot_at base i each) gate)

  pub torn_pieces : (c : List ℕ) → TornIn pieces old c → SameView base old c
  torn_pieces c torn = stays_old c torn.long (λ k none out. torn.outside k none) (ap (λ (n : ℕ). n == 165) (torn.outside gate (may.gates ino half may.low may.high)) ∙ may.shut)

wins_first : (c : List ℕ) (base x y : ℕ) (made : Version) (p : Bool) (f : Newer) → version c base x ≡ made → (p ≡ true → f ≡ First) → version_in c base (counting true p f x y) ≡ Some made
wins_first c base x y made false f is loses = ap (λ (v : Version). Some v) is
wins_first c base x y made true f is loses = ap (λ (g : Newer). version_in c base (counting true true g x y)) (loses refl) ∙ ap (λ (v : Version). Some v) is

wins_second : (c : List ℕ) (base x y : ℕ) (made : Version) (p : Bool) (f : Newer) → version c base y ≡ made → (p ≡ true → f ≡ Second) → version_in c base (counting p true f x y) ≡ Some made
wins_second c base x y made false f is wins = ap (λ (v : Version). Some v) is
wins_second c base x y made true f is wins = ap (λ (g : Newer). version_in c base (counting true true g x y)) (wins refl) ∙ ap (λ (v : Version). Some v) is

follows_next : (o n : ℕ) → IsNext o n → ((o + 1) % 3 == n) ≡ true
follows_next o n next = eq-eqb ((o + 1) % 3) n (sym next.1)

-- the turn before doesn't follow
not_before : (o n : ℕ) → IsNext o n → ((n + 1) % 3 == o) ≡ false
not_before zero n next = ap (λ (m : ℕ). (m + 1) % 3 == 0) next.1
not_before (suc zero) n next = ap (λ (m : ℕ). (m + 1) % 3 == 1) next.1
not_before (suc (suc zero)) n next = ap (λ (m : ℕ). (m + 1) % 3 == 2) next.1
not_before (suc (suc (suc o))) n next = absurd (omega (arith, next.0))

-- an open slot whose turn follows that of the other, where that is open, counts
pub own_by : (base ino : ℕ) (half : Half) (c : List ℕ) (made : Version) → is_open c (slot_at base ino half) ≡ true → version c base (slot_at base ino half) ≡ made
    → (is_open c (slot_at base ino (other_half half)) ≡ true → IsNext (turn c (slot_at base ino (other_half half))) (turn c (slot_at base ino half))) → view c base ino ≡ Some made
own_by base ino slot_half.First c made open_is is next =
    (λ i. version_in c base (counting (open_is i) (is_open c (slot_at base ino slot_half.Second)) (newer c (slot_at base ino slot_half.First) (slot_at base ino slot_half.Second)) (slot_at base ino slot_half.First) (slot_at base ino slot_half.Second)))
    ∙ wins_first c base (slot_at base ino slot_half.First) (slot_at base ino slot_half.Second) made (is_open c (slot_at base ino slot_half.Second)) (newer c (slot_at base ino slot_half.First) (slot_at base ino slot_half.Second)) is (λ p. (λ i. newer_of (not_before (turn c (slot_at base ino slot_half.Second)) (turn c (slot_at base ino slot_half.First)) (next p) i) (follows_next (turn c (slot_at base ino slot_half.Second)) (turn c (slot_at base ino slot_half.First)) (next p) i)))
own_by base ino slot_half.Second c made open_is is next =
    (λ i. version_in c base (counting (is_open c (slot_at base ino slot_half.First)) (open_is i) (newer c (slot_at base ino slot_half.First) (slot_at base ino slot_half.Second)) (slot_at base ino slot_half.First) (slot_at base ino slot_half.Second)))
    ∙ wins_second c base (slot_at base ino slot_half.First) (slot_at base ino slot_half.Second) made (is_open c (slot_at base ino slot_half.First)) (newer c (slot_at base ino slot_half.First) (slot_at base ino slot_half.Second)) is (λ p. ap (λ (b : Bool). newer_of b ((turn c (slot_at base ino slot_half.Second) + 1) % 3 == turn c (slot_at base ino slot_half.First))) (follows_next (turn c (slot_at base ino slot_half.First)) (turn c (slot_at base ino slot_half.Second)) (next p)))

module _ (base ino : ℕ) (half : Half) (pieces : List Piece) (old : List ℕ) (may : MayReplace base ino half pieces old) where
  abbrev gate' : ℕ
  gate' = slot_at base ino half

  abbrev other' : ℕ
  other' = slot_at base ino (other_half half)

  abbrev mid : List ℕ
  mid = written old pieces

  abbrev made : List ℕ
  made = made_bytes base ino half pieces old

  pub mid_torn : TornIn pieces old mid
  mid_torn = torn_written pieces old may.within

  pub gate_fits : gate' + 1 ≤ length mid
  gate_fits = omega (arith, may.area, may.high, half_most half, mid_torn.long)

  pub made_torn : Torn gate' 1 mid made
  made_torn = torn_overwritten mid gate' (165 ∷ []) gate_fits

  -- one place is outside a gate
  pub beside : (at k : ℕ) → k ≢ at → is_within at 1 k ≡ false
  beside at k ne = grind (arith, nat_tests)

  -- the gate torn to what is no open one
  pub torn_shut : (c : List ℕ) → Torn gate' 1 mid c → is_open c gate' ≡ false → SameView base old c
  torn_shut c torn closed = stays_old base ino half pieces old may c (torn.long ∙ mid_torn.long) (λ k none ne. torn.outside k (beside gate' k ne) ∙ mid_torn.outside k none) closed

  -- a change at most at the other gate, after the new slot is open
  module _ (c : List ℕ) (long : length c ≡ length made) (each : (k : ℕ) → k ≢ other' → get_or c k 0 ≡ get_or made k 0) where
    own_apart : other' ≢ gate'
    own_apart e = omega (arith, half_sum half)

    made_gate : get_or made gate' 0 ≡ 165
    made_gate = put_gate mid gate' 165 gate_fits

    own_open : is_open c gate' ≡ true
    own_open = ap (λ (n : ℕ). n == 165) (each gate' (λ e. own_apart (sym e)) ∙ made_gate)

    size_same : size made gate' ≡ size mid gate'
    size_same = size_by gate' mid made (λ k low lt. made_torn.outside (gate' + k) (beside gate' (gate' + k) (λ e. omega arith)))

    turn_own : turn c gate' ≡ turn mid gate'
    turn_own = each (gate' + 1) (λ e. own_apart (sym (one_slot base ino half ino (other_half half) 1 (omega arith) e))) ∙ made_torn.outside (gate' + 1) (beside gate' (gate' + 1) (λ e. omega arith))

    keeps : Keeps base gate' made c
    keeps = record {
      long = long;
      few = subst (λ (n : ℕ). pages_of n ≤ content_pages_max) (sym size_same) may.few;
      bytes = λ k lt. each (gate' + k) (λ e. own_apart (sym (one_slot base ino half ino (other_half half) k lt e)));
      tables = λ t k lt in_table. each _ (below_tables base ino (other_half half) (table_at base (table made gate' t) + k) may.high (omega arith));
      pages = λ n k lt in_page. each _ (below_tables base ino (other_half half) (page_at base (page made base gate' n) + k) may.high (omega arith));
    }

    own_version : version c base gate' ≡ made_version base ino half pieces old
    own_version = same_version base gate' made c keeps

    -- the others
    pub others_same : (i : ℕ) → 1 ≤ i → i ≤ inodes_max → i ≢ ino → view c base i ≡ view old base i
    others_same i low high ne = same_view base (slot_at base i slot_half.First) (slot_at base i slot_half.Second) old c (at slot_half.First) (at slot_half.Second)
      where
        at : (one : Half) → Agrees base (slot_at base i one) old c
        at one = spared base ino half pieces old may (λ k. (k ≢ gate') × (k ≢ other')) c (long ∙ made_torn.long ∙ mid_torn.long)
            (λ k none out. each k out.1 ∙ made_torn.outside k (beside gate' k out.0) ∙ mid_torn.outside k none)
            i one low high
            (λ k lt. ((λ e. omega (arith, half_most one, half_most half, may.low)), (λ e. omega (arith, half_most one, half_most (other_half half), may.low))))
            (λ k le. (below_tables base ino half k may.high le, below_tables base ino (other_half half) k may.high le))

    turn_other : is_open old other' ≡ true → turn c other' ≡ turn old other'
    turn_other is =
        each (other' + 1) (λ e. omega arith)
        ∙ made_torn.outside (other' + 1) (beside gate' (other' + 1) (λ e. own_apart (one_slot base ino (other_half half) ino half 1 (omega arith) e)))
        ∙ mid_torn.outside (other' + 1) ((may.spares ino (other_half half) may.low may.high is).bytes 1 (omega arith))

    next_own : is_open old other' ≡ true → IsNext (turn c other') (turn c gate')
    next_own is = subst (λ (n : ℕ). IsNext n (turn c gate')) (sym (turn_other is)) (subst (λ (n : ℕ). IsNext (turn old other') n) (sym turn_own) (may.next is))

    pub replaced : (is_open c other' ≡ true → is_open old other' ≡ true) → Replaced base ino (made_version base ino half pieces old) old c
    replaced opens = record {
      others = others_same;
      own = own_by base ino half c (made_version base ino half pieces old) own_open own_version (λ is. next_own (opens is));
    }

  other_gate : (c : List ℕ) → ((k : ℕ) → k ≢ gate' → get_or c k 0 ≡ get_or mid k 0) → is_open c other' ≡ true → is_open old other' ≡ true
  other_gate c each is = ap (λ (n : ℕ). n == 165) (sym (each other' (λ e. omega (arith, half_sum half)) ∙ mid_torn.outside other' (may.gates ino (other_half half) may.low may.high))) ∙ is

  -- the gate torn to an open one
  pub torn_opened : (c : List ℕ) → Torn gate' 1 mid c → is_open c gate' ≡ true → Replaced base ino (made_version base ino half pieces old) old c
  torn_opened c torn is = replaced c (torn.long ∙ sym made_torn.long)
      (λ k ne. ⊎_elim
      (λ (e : k ≡ gate'). ap (λ (n : ℕ). get_or c n 0) e ∙ eqb-true (get_or c gate' 0) 165 is ∙ sym (put_gate mid gate' 165 gate_fits) ∙ sym (ap (λ (n : ℕ). get_or made n 0) e))
      (λ (apart : k ≢ gate'). torn.outside k (beside gate' k apart) ∙ sym (made_torn.outside k (beside gate' k apart)))
      (cases_eq k gate'))
      (other_gate c (λ k apart. torn.outside k (beside gate' k apart)))

  -- the gate torn: it is open, or it isn't
  pub torn_gate : (c : List ℕ) → Torn gate' 1 mid c → IsOldOrNew base ino (made_version base ino half pieces old) old c
  torn_gate c torn = ⊎_elim
      (λ (is : is_open c gate' ≡ true). inr (torn_opened c torn is))
      (λ (is : is_open c gate' ≡ false). inl (torn_shut c torn is))
      (cases_Bool (is_open c gate'))

  -- the other gate torn, half was open
  pub torn_other : (c : List ℕ) → is_open old other' ≡ true → Torn other' 1 made c → Replaced base ino (made_version base ino half pieces old) old c
  torn_other c is torn = replaced c torn.long (λ k ne. torn.outside k (beside other' k ne)) (λ _. is)

  -- the new slot open, and nothing else changed
  pub just_made : Replaced base ino (made_version base ino half pieces old) old made
  just_made = replaced made refl (λ k ne. refl) (other_gate made (λ k apart. made_torn.outside k (beside gate' k apart)))

  pub closing_open : is_open old other' ≡ true → closing base ino half old ≡ Some other'
  closing_open is = ap (λ (b : Bool). if b then Some other' else None) is

  pub closing_shut : is_open old other' ≡ false → closing base ino half old ≡ None
  closing_shut is = ap (λ (b : Bool). if b then Some other' else None) is

  -- each stage has the old view or the new one
  pub stage_view : (c : List ℕ) → IsStage pieces gate' (closing base ino half old) old c → IsOldOrNew base ino (made_version base ino half pieces old) old c
  stage_view c (inl torn) = inl (torn_pieces base ino half pieces old may c torn)
  stage_view c (inr (inl torn)) = torn_gate c torn
  stage_view c (inr (inr torn)) = ⊎_elim
      (λ (is : is_open old other' ≡ true). inr (torn_other c is (subst (λ (o : Option ℕ). TornGate o made c) (closing_open is) torn)))
      (λ (is : is_open old other' ≡ false). absurd (subst (λ (o : Option ℕ). TornGate o made c) (closing_shut is) torn))
      (cases_Bool (is_open old other'))

  pub other_fits : other' + 1 ≤ length made
  other_fits = omega (arith, may.area, may.high, may.low, half_most (other_half half), made_torn.long, mid_torn.long)

  -- and at the end the new one
  pub switched_view : Replaced base ino (made_version base ino half pieces old) old (switched pieces gate' (closing base ino half old) old)
  switched_view = ⊎_elim
      (λ (is : is_open old other' ≡ true). subst (λ (o : Option ℕ). Replaced base ino (made_version base ino half pieces old) old (closed o made)) (sym (closing_open is)) (torn_other (closed (Some other') made) is (torn_overwritten made other' (0 ∷ []) other_fits)))
      (λ (is : is_open old other' ≡ false). subst (λ (o : Option ℕ). Replaced base ino (made_version base ino half pieces old) old (closed o made)) (sym (closing_shut is)) just_made)
      (cases_Bool (is_open old other'))
