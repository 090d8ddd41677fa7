-- What a boot that was cut off leaves, by the stage that it had come to.
use Rattle.std.proofs.Common.{◌≡◌, ◌≢◌, inl, inr, ⊎_elim, ℕ, zero, suc, ◌+◌, ◌-◌, ◌^◌, ◌≤◌, ◌<◌, Bool, true, false, cond, List, [], ◌∷◌, length, refl, sym, ◌∙◌, ap, subst, arith}
use Rattle.std.specs.Prelude.{Some, ◌==◌, ◌&&◌, if◌then◌else◌}
use Rattle.std.proofs.lemmas.Bool.{cases_eq, cases_lt}
use Rattle.disk_model.specs.Cut.{Cut, left_by, left_in_write}
use Rattle.disk_model.specs.Images.{Torn, overwritten}
use Rattle.gate_switch.specs.Switch.{Piece, switched}
use Rattle.gate_switch.specs.Gates.{gate_left, new_gate, old_gate}
use Rattle.gate_switch.specs.Cutting.{IsCut}
use Rattle.gate_switch.proofs.Gates.{opens_write, opens_sync, torn_write, torn_sync, new_gate_before, new_gate_write, new_gate_sync, new_gate_after, old_gate_before, old_gate_write, old_gate_sync}
use Rattle.gate_switch.proofs.Pieces.{put_gate}
use Rattle.gate_switch.proofs.Tearing.{is_outside}
use Rattle.site_label.specs.declared.half.Half.{Half}
use Rattle.site_label.specs.declared.half.Half.TheVariants.{First, Second}
use Rattle.site_label.specs.Label.{label_bytes, half_at, is_open, other_half, Says, HasBoot, IsAlone, IsNew}
use Rattle.site_label.specs.Raising.{body_piece, are_open}
use Rattle.site_label.specs.Cutting.{IsLabel, raise_left, boot_left}
use Rattle.site_label.proofs.Halves.{says_open}
use Rattle.site_label.proofs.Stages.{open_kept, gate_beside, gate_before, gate_fits, mid_torn, opened_torn, in_body, stage_one, stays, made, raised, stage_three, within_label, body_beside, closes_number, second_shut}

-- both halves, from either
pub open_both : (half : Half) (image : List ℕ) (mine other : Bool) → is_open image half ≡ mine → is_open image (other_half half) ≡ other → are_open image ≡ (mine && other)
open_both First image mine other is beside = (λ i. is i && beside i)
open_both Second image mine other is beside = (λ i. beside i && is i) ∙ turned other mine
  where
    turned : (a b : Bool) → (a && b) ≡ (b && a)
    turned true true = refl
    turned true false = refl
    turned false true = refl
    turned false false = refl

module _ (site boot : ℕ) (half : Half) (old : List ℕ) (alone : IsAlone site boot half old) (long : label_bytes ≤ length old) (fits : boot + 1 < 2 ^ 32) where
  abbrev new_half : Half
  new_half = other_half half

  abbrev at : ℕ
  at = half_at (other_half half)

  abbrev body : Piece
  body = body_piece (other_half half) site (boot + 1)

  abbrev mid : List ℕ
  mid = overwritten old body.at body.bytes

  abbrev opened : List ℕ
  opened = overwritten mid at (165 ∷ [])

  old_open : is_open old half ≡ true
  old_open = says_open site boot half old alone.says

  torn_mid : Torn (at + 1) 511 old mid
  torn_mid = mid_torn site boot half old alone long fits

  torn_opened : Torn at 1 mid opened
  torn_opened = opened_torn site boot half old alone long fits

  shut_body : (c : List ℕ) → Torn (at + 1) 511 old c → is_open c new_half ≡ false
  shut_body c torn = ap (λ (n : ℕ). n == 165) (torn.outside at (is_outside (at + 1) 511 at (inl (omega arith)))) ∙ alone.shut

  mid_shut : is_open mid new_half ≡ false
  mid_shut = shut_body mid torn_mid

  half_open : (c : List ℕ) → Torn at 1 mid c → is_open c half ≡ true
  half_open c torn = says_open site boot half c (stays site boot half old alone long fits c torn)

  module _ (how : Cut) (passed : ℕ) where
    abbrev Left : List ℕ → Type 0
    Left c = IsLabel site (raise_left how passed boot) c

    -- the state by the gates
    left_by_gates : (c : List ℕ) (b d : Bool) → new_gate 0 how passed ≡ b → old_gate 0 how passed ≡ d → HasBoot site (cond b (boot + 1) boot) c → are_open c ≡ (b && d) → Left c
    left_by_gates c b d first second number both = record {
      number = subst (λ (x : Bool). HasBoot site (cond x (boot + 1) boot) c) (sym first) number;
      both = both ∙ sym (λ i. first i && second i);
    }

    in_pieces : (c : List ℕ) → passed < 2 → Torn (at + 1) 511 old c → Left c
    in_pieces c lt torn =
        let shut = shut_body c torn in
        left_by_gates c false true (new_gate_before 0 passed how (omega arith)) (old_gate_before 0 passed how (omega arith))
        (stage_one site boot half old alone long fits c torn)
        (open_both half c true false (open_kept half old c (body_beside half old c torn) ∙ old_open) shut)

    in_gate : (c : List ℕ) → passed < 4 → Torn at 1 mid c → (b : Bool) → is_open c new_half ≡ b → new_gate 0 how passed ≡ b → Left c
    in_gate c lt torn true is now =
        left_by_gates c true true now (old_gate_before 0 passed how (omega arith))
        (raised site boot half old alone long fits c (made site boot half old alone long fits c torn is) (inr (boot, (let less : boot < boot + 1 = omega arith in less), stays site boot half old alone long fits c torn)))
        (open_both half c true true (half_open c torn) is)
    in_gate c lt torn false is now =
        left_by_gates c false true now (old_gate_before 0 passed how (omega arith))
        (record { half = half; fits = alone.fits; says = stays site boot half old alone long fits c torn; other = inl is })
        (open_both half c true false (half_open c torn) is)

    in_closing : (c : List ℕ) → 4 ≤ passed → Torn (half_at half) 1 opened c → is_open c half ≡ old_gate 0 how passed → Left c
    in_closing c le torn is =
        left_by_gates c true (old_gate 0 how passed) (new_gate_after 0 passed how (omega arith)) refl
        (stage_three site boot half old alone long fits c torn)
        (open_both half c (old_gate 0 how passed) true is (open_kept new_half opened c (gate_before half opened c torn) ∙ ap (λ (n : ℕ). n == 165) (put_gate mid at 165 room)) ∙ turned (old_gate 0 how passed))
      where
        room : at + 1 ≤ length mid
        room = gate_fits site boot half old alone long fits

        turned : (b : Bool) → (b && true) ≡ (true && b)
        turned true = refl
        turned false = refl

    opened_fits : half_at half + 1 ≤ length opened
    opened_fits = let w = within_label half in omega (arith, long, torn_mid.long, torn_opened.long)

    mid_fits : at + 1 ≤ length mid
    mid_fits = gate_fits site boot half old alone long fits

    opened_half : is_open opened half ≡ true
    opened_half = half_open opened torn_opened

    pub cut_raising : (c : List ℕ) → passed < 6 → IsCut (body ∷ []) at (Some (half_at half)) how passed old c → Left c
    cut_raising c lt cut = ⊎_elim
        (λ (early : passed < 2). in_pieces c early (in_body site boot half old alone long fits c (cut.torn (omega arith))))
        (λ (late : 2 ≤ passed). ⊎_elim at_write (λ (a : passed ≢ 2). ⊎_elim at_sync (λ (b : passed ≢ 3). ⊎_elim at_close (λ (d : passed ≢ 4). at_close_sync (omega (arith, late, a, b, d, lt))) (cases_eq passed 4)) (cases_eq passed 3)) (cases_eq passed 2))
        (cases_lt passed 2)
      where
        at_write : passed ≡ 2 → Left c
        at_write is =
            let e : c ≡ left_in_write how mid at (165 ∷ []) = cut.opens (omega (arith, is)) in
            subst (λ (x : List ℕ). Left x) (sym e) (in_gate (left_in_write how mid at (165 ∷ [])) (omega (arith, is)) (torn_write mid at 165 mid_fits how) (new_gate 0 how passed)
            (opens_write mid at 165 mid_fits how ∙ ap (λ (b : Bool). gate_left how true b true) mid_shut ∙ sym (new_gate_write 0 passed how (omega (arith, is)))) refl)

        at_sync : passed ≡ 3 → Left c
        at_sync is =
            let e : c ≡ left_by how mid at (165 ∷ []) = cut.syncs_new (omega (arith, is)) in
            subst (λ (x : List ℕ). Left x) (sym e) (in_gate (left_by how mid at (165 ∷ [])) (omega (arith, is)) (torn_sync mid at 165 mid_fits how) (new_gate 0 how passed)
            (opens_sync mid at 165 mid_fits how ∙ ap (λ (b : Bool). gate_left how false b true) mid_shut ∙ sym (new_gate_sync 0 passed how (omega (arith, is)))) refl)

        at_close : passed ≡ 4 → Left c
        at_close is =
            let e : c ≡ left_in_write how opened (half_at half) (0 ∷ []) = cut.closes (half_at half) refl (omega (arith, is)) in
            subst (λ (x : List ℕ). Left x) (sym e) (in_closing (left_in_write how opened (half_at half) (0 ∷ [])) (omega (arith, is)) (torn_write opened (half_at half) 0 opened_fits how)
            (opens_write opened (half_at half) 0 opened_fits how ∙ ap (λ (b : Bool). gate_left how true b false) opened_half ∙ sym (old_gate_write 0 passed how (omega (arith, is)))))

        at_close_sync : passed ≡ 5 → Left c
        at_close_sync is =
            let e : c ≡ left_by how opened (half_at half) (0 ∷ []) = cut.syncs_old (half_at half) refl (omega (arith, is)) in
            subst (λ (x : List ℕ). Left x) (sym e) (in_closing (left_by how opened (half_at half) (0 ∷ [])) (omega (arith, is)) (torn_sync opened (half_at half) 0 opened_fits how)
            (opens_sync opened (half_at half) 0 opened_fits how ∙ ap (λ (b : Bool). gate_left how false b false) opened_half ∙ sym (old_gate_sync 0 passed how (omega (arith, is)))))

  -- at the end the half from before is closed
  pub end_alone : are_open (switched (body ∷ []) at (Some (half_at half)) old) ≡ false
  end_alone =
      let w = within_label half in
      open_both half (overwritten opened (half_at half) (0 ∷ [])) false (is_open (overwritten opened (half_at half) (0 ∷ [])) new_half)
      (ap (λ (n : ℕ). n == 165) (put_gate opened (half_at half) 0 (omega (arith, long, torn_mid.long, torn_opened.long)))) refl

-- a losing half that was being closed
module _ (site boot lesser : ℕ) (half : Half) (old : List ℕ) (fits : boot < 2 ^ 32) (less : lesser < boot) (says : Says site boot half old) (beside : Says site lesser (other_half half) old) (long : label_bytes ≤ length old) where
  abbrev losing : ℕ
  losing = half_at (other_half half)

  losing_fits : losing + 1 ≤ length old
  losing_fits = let w = within_label (other_half half) in omega arith

  closing_left : (c : List ℕ) (b : Bool) → Torn losing 1 old c → is_open c (other_half half) ≡ b → IsLabel site (record { boot = boot; both_open = b }) c
  closing_left c b torn is = record {
    number = closes_number site boot lesser half old c fits less says beside torn;
    both = open_both half c true b (open_kept half old c (gate_beside half old c torn) ∙ says_open site boot half old says) is;
  }

  pub closing_write : (how : Cut) (c : List ℕ) → c ≡ left_in_write how old losing (0 ∷ []) → IsLabel site (record { boot = boot; both_open = gate_left how true true false }) c
  closing_write how c e = subst (λ (x : List ℕ). IsLabel site (record { boot = boot; both_open = gate_left how true true false }) x) (sym e)
      (closing_left (left_in_write how old losing (0 ∷ [])) (gate_left how true true false) (torn_write old losing 0 losing_fits how)
      (opens_write old losing 0 losing_fits how ∙ ap (λ (b : Bool). gate_left how true b false) (says_open site lesser (other_half half) old beside)))

  pub closing_sync : (how : Cut) (c : List ℕ) → c ≡ left_by how old losing (0 ∷ []) → IsLabel site (record { boot = boot; both_open = gate_left how false true false }) c
  closing_sync how c e = subst (λ (x : List ℕ). IsLabel site (record { boot = boot; both_open = gate_left how false true false }) x) (sym e)
      (closing_left (left_by how old losing (0 ∷ [])) (gate_left how false true false) (torn_sync old losing 0 losing_fits how)
      (opens_sync old losing 0 losing_fits how ∙ ap (λ (b : Bool). gate_left how false b false) (says_open site lesser (other_half half) old beside)))

-- a new label has one open half
pub new_alone : (site : ℕ) (image : List ℕ) → IsNew site image → are_open image ≡ false
new_alone site image new = (λ i. is_open image First && second_shut site image new i) ∙ none (is_open image First)
  where
    none : (b : Bool) → (b && false) ≡ false
    none true = refl
    none false = refl

-- what the raising leaves, after the closing
pub behind_closing : (b : Bool) (how : Cut) (passed boot : ℕ) (n : ℕ) → (n ≡ (if b then 2 else 0)) → n ≤ passed → raise_left how (passed - n) boot ≡ boot_left b how passed boot
behind_closing false how passed boot n is le = (let e : passed - n ≡ passed = omega (arith, is) in ap (λ (k : ℕ). raise_left how k boot) e)
behind_closing true how zero boot n is le = absurd (omega (arith, is, le))
behind_closing true how (suc zero) boot n is le = absurd (omega (arith, is, le))
behind_closing true how (suc (suc passed)) boot n is le = (let e : suc (suc passed) - n ≡ passed = omega (arith, is) in ap (λ (k : ℕ). raise_left how k boot) e)
