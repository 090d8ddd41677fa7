-- What a switch that was cut off leaves of an inode, by the stage that it had come to.
use Rattle.std.proofs.Common.{◌≡◌, ◌≢◌, ⊎_elim, ℕ, ◌+◌, ◌≤◌, ◌<◌, Bool, true, false, List, [], ◌∷◌, length, refl, sym, ◌∙◌, ap, subst, arith}
use Rattle.std.specs.Prelude.{Option, ◌==◌, ◌&&◌}
use Rattle.std.proofs.lemmas.Bool.{cases_eq, cases_Bool, cases_lt}
use Rattle.locus_ids.specs.Sizes.{inodes_max}
use Rattle.disk_model.specs.Cut.{Cut, left_by, left_in_write}
use Rattle.disk_model.specs.Images.{Torn}
use Rattle.gate_switch.specs.Switch.{Piece, TornIn, written, calls_of}
use Rattle.gate_switch.specs.Gates.{gate_left, new_gate, old_gate}
use Rattle.gate_switch.specs.Cutting.{IsCut}
use Rattle.gate_switch.proofs.Gates.{opens_write, opens_sync, torn_write, torn_sync, new_gate_before, new_gate_write, new_gate_sync, new_gate_after, old_gate_before, old_gate_write, old_gate_sync}
use Rattle.gate_switch.proofs.Pieces.{put_gate}
use Rattle.pack_layout.specs.declared.half.Half.{Half}
use Rattle.pack_layout.specs.Layout.{slot_at, other_half}
use Rattle.pack_layout.proofs.Halves.{half_most, half_sum}
use Rattle.inode_switch.specs.View.{is_open}
use Rattle.inode_switch.specs.Replace.{MayReplace, made_bytes, made_version, closing}
use Rattle.inode_switch.specs.Cutting.{IsViewBy, IsCutReplacing}
use Rattle.inode_switch.proofs.OldOrNew.{torn_pieces, torn_shut, torn_opened, torn_other, mid_torn, made_torn, gate_fits, other_fits, closing_open, closing_shut, beside}

and_true : (b : Bool) → b ≡ (b && true)
and_true true = refl
and_true false = refl

module _ (base ino : ℕ) (half : Half) (pieces : List Piece) (old : List ℕ) (may : MayReplace base ino half pieces old) (pages passed : ℕ) (how : Cut) where
  abbrev gate : ℕ
  gate = slot_at base ino half

  abbrev older : ℕ
  older = slot_at base ino (other_half half)

  abbrev mid : List ℕ
  mid = written old pieces

  abbrev made : List ℕ
  made = made_bytes base ino half pieces old

  abbrev Left : List ℕ → Type 0
  Left c = IsCutReplacing base ino half pieces pages how passed old c

  -- the pieces touch no gate
  mid_open : (i : ℕ) (each : Half) → 1 ≤ i → i ≤ inodes_max → (c : List ℕ) → TornIn pieces old c → is_open c (slot_at base i each) ≡ is_open old (slot_at base i each)
  mid_open i each low high c torn = ap (λ (n : ℕ). n == 165) (torn.outside (slot_at base i each) (may.gates i each low high))

  -- the gate of a place that isn't the one that is torn
  other_open : (at k : ℕ) (a c : List ℕ) → Torn at 1 a c → k ≢ at → is_open c k ≡ is_open a k
  other_open at k a c torn apart = ap (λ (n : ℕ). n == 165) (torn.outside k (beside base ino half pieces old may at k apart))

  in_pieces : (c : List ℕ) → passed < pages + 2 → TornIn pieces old c → Left c
  in_pieces c lt torn =
      let none = new_gate_before pages passed how lt in
      record {
        view = subst (λ (b : Bool). IsViewBy b base ino (made_version base ino half pieces old) old c) (sym none) (torn_pieces base ino half pieces old may c torn);
        mine = mid_open ino half may.low may.high c torn ∙ may.shut ∙ sym none;
        other = mid_open ino (other_half half) may.low may.high c torn ∙ and_true (is_open old older) ∙ ap (λ (b : Bool). is_open old older && b) (sym (old_gate_before pages passed how (omega arith)));
        rest = λ i each low high ne. mid_open i each low high c torn;
      }

  view_by : (c : List ℕ) → Torn gate 1 mid c → (b : Bool) → is_open c gate ≡ b → IsViewBy b base ino (made_version base ino half pieces old) old c
  view_by c torn true is = torn_opened base ino half pieces old may c torn is
  view_by c torn false is = torn_shut base ino half pieces old may c torn is

  older_apart : older ≢ gate
  older_apart e = omega (arith, half_sum half)

  in_gate : (c : List ℕ) → passed < pages + 4 → Torn gate 1 mid c → is_open c gate ≡ new_gate pages how passed → Left c
  in_gate c lt torn is =
      let first = mid_torn base ino half pieces old may in
      record {
        view = view_by c torn (new_gate pages how passed) is;
        mine = is;
        other = other_open gate older mid c torn older_apart ∙ mid_open ino (other_half half) may.low may.high mid first
            ∙ and_true (is_open old older) ∙ ap (λ (b : Bool). is_open old older && b) (sym (old_gate_before pages passed how lt));
        rest = λ i each low high ne. other_open gate (slot_at base i each) mid c torn (λ e. ne (omega (arith, half_most each, half_most half, e))) ∙ mid_open i each low high mid first;
      }

  in_closing : (c : List ℕ) → pages + 4 ≤ passed → is_open old older ≡ true → Torn older 1 made c → is_open c older ≡ old_gate pages how passed → Left c
  in_closing c le was torn is =
      let first = mid_torn base ino half pieces old may in
      let second = made_torn base ino half pieces old may in
      let now = new_gate_after pages passed how le in
      record {
        view = subst (λ (b : Bool). IsViewBy b base ino (made_version base ino half pieces old) old c) (sym now) (torn_other base ino half pieces old may c was torn);
        mine = other_open older gate made c torn (λ e. older_apart (sym e)) ∙ ap (λ (n : ℕ). n == 165) (put_gate mid gate 165 (gate_fits base ino half pieces old may)) ∙ sym now;
        other = is ∙ ap (λ (b : Bool). b && old_gate pages how passed) (sym was);
        rest = λ i each low high ne. other_open older (slot_at base i each) made c torn (λ e. ne (omega (arith, half_most each, half_most (other_half half), e)))
            ∙ other_open gate (slot_at base i each) mid made second (λ e. ne (omega (arith, half_most each, half_most half, e))) ∙ mid_open i each low high mid first;
      }

  mid_shut : is_open mid gate ≡ false
  mid_shut = mid_open ino half may.low may.high mid (mid_torn base ino half pieces old may) ∙ may.shut

  made_older : is_open old older ≡ true → is_open made older ≡ true
  made_older was = other_open gate older mid made (made_torn base ino half pieces old may) older_apart ∙ mid_open ino (other_half half) may.low may.high mid (mid_torn base ino half pieces old may) ∙ was

  module _ (c : List ℕ) (cut : IsCut pieces gate (closing base ino half old) how passed old c) (count : length pieces ≡ pages + 1) where
    fits : gate + 1 ≤ length mid
    fits = gate_fits base ino half pieces old may

    closes_fits : older + 1 ≤ length made
    closes_fits = other_fits base ino half pieces old may

    at_write : passed ≡ pages + 2 → Left c
    at_write is =
        let e : c ≡ left_in_write how mid gate (165 ∷ []) = cut.opens (omega (arith, count, is)) in
        subst (λ (x : List ℕ). Left x) (sym e) (in_gate (left_in_write how mid gate (165 ∷ [])) (omega arith) (torn_write mid gate 165 fits how)
        (opens_write mid gate 165 fits how ∙ ap (λ (b : Bool). gate_left how true b true) mid_shut ∙ sym (new_gate_write pages passed how is)))

    at_sync : passed ≡ pages + 3 → Left c
    at_sync is =
        let e : c ≡ left_by how mid gate (165 ∷ []) = cut.syncs_new (omega (arith, count, is)) in
        subst (λ (x : List ℕ). Left x) (sym e) (in_gate (left_by how mid gate (165 ∷ [])) (omega arith) (torn_sync mid gate 165 fits how)
        (opens_sync mid gate 165 fits how ∙ ap (λ (b : Bool). gate_left how false b true) mid_shut ∙ sym (new_gate_sync pages passed how is)))

    at_close : is_open old older ≡ true → passed ≡ pages + 4 → Left c
    at_close was is =
        let e : c ≡ left_in_write how made older (0 ∷ []) = cut.closes older (closing_open base ino half pieces old may was) (omega (arith, count, is)) in
        subst (λ (x : List ℕ). Left x) (sym e) (in_closing (left_in_write how made older (0 ∷ [])) (omega arith) was (torn_write made older 0 closes_fits how)
        (opens_write made older 0 closes_fits how ∙ ap (λ (b : Bool). gate_left how true b false) (made_older was) ∙ sym (old_gate_write pages passed how is)))

    at_close_sync : is_open old older ≡ true → passed ≡ pages + 5 → Left c
    at_close_sync was is =
        let e : c ≡ left_by how made older (0 ∷ []) = cut.syncs_old older (closing_open base ino half pieces old may was) (omega (arith, count, is)) in
        subst (λ (x : List ℕ). Left x) (sym e) (in_closing (left_by how made older (0 ∷ [])) (omega arith) was (torn_sync made older 0 closes_fits how)
        (opens_sync made older 0 closes_fits how ∙ ap (λ (b : Bool). gate_left how false b false) (made_older was) ∙ sym (old_gate_sync pages passed how is)))

    at_end : passed < calls_of pieces (closing base ino half old) → pages + 4 ≤ passed → Left c
    at_end lt le = ⊎_elim
        (λ (was : is_open old older ≡ true).
        let few : passed < length pieces + 5 = subst (λ (o : Option ℕ). passed < calls_of pieces o) (closing_open base ino half pieces old may was) lt in
        ⊎_elim
        (λ (is : passed ≡ pages + 4). at_close was is)
        (λ (ne : passed ≢ pages + 4). at_close_sync was (omega (arith, few, le, count, ne)))
        (cases_eq passed (pages + 4)))
        (λ (shut : is_open old older ≡ false).
        let few : passed < length pieces + 3 = subst (λ (o : Option ℕ). passed < calls_of pieces o) (closing_shut base ino half pieces old may shut) lt in
        absurd (omega (arith, few, le, count)))
        (cases_Bool (is_open old older))

    pub cut_replacing : passed < calls_of pieces (closing base ino half old) → Left c
    cut_replacing lt = ⊎_elim
        (λ (early : passed < pages + 2). in_pieces c early (cut.torn (omega (arith, count, early))))
        (λ (late : pages + 2 ≤ passed). ⊎_elim
        (λ (is : passed ≡ pages + 2). at_write is)
        (λ (ne : passed ≢ pages + 2). ⊎_elim
        (λ (is : passed ≡ pages + 3). at_sync is)
        (λ (nor : passed ≢ pages + 3). at_end lt (omega (arith, late, ne, nor)))
        (cases_eq passed (pages + 3)))
        (cases_eq passed (pages + 2)))
        (cases_lt passed (pages + 2))
