-- What each stage of a boot leaves of the label.
use Rattle.std.proofs.Common.{◌≡◌, ◌⊎◌, inl, inr, ⊎_elim, ℕ, zero, suc, ◌+◌, ◌^◌, ◌<◌, ◌≤◌, Bool, true, false, ◌||◌, List, [], ◌∷◌, ◌++◌, length, replicate, take, drop, get_or, refl, sym, ◌∙◌, ap, subst, arith, length-take, length-drop}
use Rattle.std.specs.Prelude.{◌==◌, Some}
use Rattle.std.proofs.lemmas.Bool.{cases_Bool, eqb-true}
use Rattle.std.proofs.lemmas.List.{same_lists, get_or_default, get_or-take, get_or-drop, take-take, get_or-append_right}
use Rattle.std.proofs.Math.Seq.{take-append_seam}
use Rattle.disk_model.specs.Images.{bytes_at, overwritten, is_within, Torn}
use Rattle.gate_switch.specs.Switch.{Piece, TornIn, IsStage, switched}
use Rattle.gate_switch.proofs.Pieces.{torn_overwritten, put_gate}
use Rattle.gate_switch.proofs.Tearing.{same_bytes, is_outside, put_inside, torn_joins, torn_widens}
use Rattle.site_label.specs.declared.half.Half.{Half}
use Rattle.site_label.specs.declared.half.Half.TheVariants.{First, Second}
use Rattle.site_label.specs.Label.{label_bytes, half_at, half_bytes, is_open, other_half, Says, IsOlder, HasBoot, IsAlone, IsNew}
use Rattle.site_label.specs.Raising.{IsRaising}
use Rattle.site_label.proofs.Halves.{length-half, first_byte, says_open}

-- a half has the same bytes in both images
abbrev pub SameHalf : Half → List ℕ → List ℕ → Type 0
SameHalf half old new = (k : ℕ) → k < 512 → get_or new (half_at half + k) 0 ≡ get_or old (half_at half + k) 0

pub within_label : (half : Half) → half_at half + 512 ≤ label_bytes
within_label First = omega arith
within_label Second = omega arith

says_kept : (site boot : ℕ) (half : Half) (old new : List ℕ) → length new ≡ length old → SameHalf half old new → Says site boot half old → Says site boot half new
says_kept site boot half old new long same says = same_bytes old new (half_at half) 512 long same ∙ says

pub open_kept : (half : Half) (old new : List ℕ) → SameHalf half old new → is_open new half ≡ is_open old half
open_kept half old new same =
    let e : half_at half + 0 ≡ half_at half = omega arith in
    ap (λ (n : ℕ). n == 165) (subst (λ (n : ℕ). get_or new n 0 ≡ get_or old n 0) e (same 0 (omega arith)))

-- the gate of the other half is torn
pub gate_beside : (half : Half) (old new : List ℕ) → Torn (half_at (other_half half)) 1 old new → SameHalf half old new
gate_beside First old new torn = λ k lt. torn.outside (0 + k) (is_outside 512 1 (0 + k) (inl (omega arith)))
gate_beside Second old new torn = λ k lt. torn.outside (512 + k) (is_outside 0 1 (512 + k) (inr (omega arith)))

pub gate_before : (half : Half) (old new : List ℕ) → Torn (half_at half) 1 old new → SameHalf (other_half half) old new
gate_before First old new torn = gate_beside Second old new torn
gate_before Second old new torn = gate_beside First old new torn

-- the body of the other half is torn
pub body_beside : (half : Half) (old new : List ℕ) → Torn (half_at (other_half half) + 1) 511 old new → SameHalf half old new
body_beside First old new torn = λ k lt. torn.outside (0 + k) (is_outside 513 511 (0 + k) (inl (omega arith)))
body_beside Second old new torn = λ k lt. torn.outside (512 + k) (is_outside 1 511 (512 + k) (inr (omega arith)))

-- the gate of an open half is torn: it is closed, or the half is as it was
pub gate_torn : (site boot : ℕ) (half : Half) (old new : List ℕ) → Says site boot half old → Torn (half_at half) 1 old new → (is_open new half ≡ false) ⊎ Says site boot half new
gate_torn site boot half old new says torn = ⊎_elim
    (λ (is : is_open new half ≡ true). inr (says_kept site boot half old new torn.long (same is) says))
    (λ (is : is_open new half ≡ false). inl is)
    (cases_Bool (is_open new half))
  where
    same : is_open new half ≡ true → SameHalf half old new
    same is zero lt =
        let e : half_at half + 0 ≡ half_at half = omega arith in
        ap (λ (n : ℕ). get_or new n 0) e ∙ eqb-true (get_or new (half_at half) 0) 165 is ∙ sym (eqb-true (get_or old (half_at half) 0) 165 (says_open site boot half old says)) ∙ sym (ap (λ (n : ℕ). get_or old n 0) e)
    same is (suc k) lt = torn.outside (half_at half + suc k) (is_outside (half_at half) 1 (half_at half + suc k) (inr (omega arith)))

-- bytes that stand one by one
stands : (image bytes : List ℕ) (at : ℕ) → length bytes ≡ 512 → at + 512 ≤ length image → ((k : ℕ) → k < 512 → get_or image (at + k) 0 ≡ get_or bytes k 0) → bytes_at image at 512 ≡ bytes
stands image bytes at long fits each =
    let count : length (bytes_at image at 512) ≡ length bytes = omega (arith, length-take 512 (drop at image), length-drop at image) in
    same_lists (bytes_at image at 512) bytes count (λ k d lt.
    let below : k < 512 = omega (arith, count) in
    get_or_default (bytes_at image at 512) k d 0 lt ∙ get_or-take 512 (drop at image) k 0 below ∙ get_or-drop at image k 0 ∙ each k below ∙ get_or_default bytes k 0 d (omega arith))

-- a torn gate or body lies in the label
gate_inside : (half : Half) (old new : List ℕ) → Torn (half_at half) 1 old new → Torn 0 label_bytes old new
gate_inside half old new torn = torn_widens (half_at half) 1 0 label_bytes (omega arith) (let w = within_label half in omega arith) old new torn

-- of two open halves the one that doesn't count is closed
pub closes_number : (site boot lesser : ℕ) (half : Half) (old new : List ℕ) → boot < 2 ^ 32 → lesser < boot → Says site boot half old → Says site lesser (other_half half) old → Torn (half_at (other_half half)) 1 old new → HasBoot site boot new
closes_number site boot lesser half old new fits less says beside torn = record {
  half = half;
  fits = fits;
  says = says_kept site boot half old new torn.long (gate_beside half old new torn) says;
  other = older (gate_torn site lesser (other_half half) old new beside torn);
}
  where
    older : (is_open new (other_half half) ≡ false) ⊎ Says site lesser (other_half half) new → IsOlder site boot (other_half half) new
    older (inl shut) = inl shut
    older (inr says) = inr (lesser, less, says)

pub closing : (site boot lesser : ℕ) (half : Half) (old new : List ℕ) → boot < 2 ^ 32 → lesser < boot → Says site boot half old → Says site lesser (other_half half) old → Torn (half_at (other_half half)) 1 old new → IsRaising site boot old new
closing site boot lesser half old new fits less says beside torn = record {
  number = inl (closes_number site boot lesser half old new fits less says beside torn);
  outside = gate_inside (other_half half) old new torn;
}

-- and at the end it is
pub closed : (site boot : ℕ) (half : Half) (old : List ℕ) → boot < 2 ^ 32 → Says site boot half old → label_bytes ≤ length old → IsAlone site boot half (overwritten old (half_at (other_half half)) (0 ∷ []))
closed site boot half old fits says long =
    let w = within_label (other_half half) in
    let at = half_at (other_half half) in
    let room : at + 1 ≤ length old = omega arith in
    let torn = torn_overwritten old at (0 ∷ []) room in
    record {
      fits = fits;
      says = says_kept site boot half old (overwritten old at (0 ∷ [])) torn.long (gate_beside half old (overwritten old at (0 ∷ [])) torn) says;
      shut = ap (λ (n : ℕ). n == 165) (put_gate old at 0 room);
    }

pub twice : (half : Half) → other_half (other_half half) ≡ half
twice First = refl
twice Second = refl

module _ (site boot : ℕ) (half : Half) (old : List ℕ) (alone : IsAlone site boot half old) (long : label_bytes ≤ length old) (fits : boot + 1 < 2 ^ 32) where
  abbrev new_half : Half
  new_half = other_half half

  abbrev at : ℕ
  at = half_at (other_half half)

  abbrev bytes : List ℕ
  bytes = drop 1 (half_bytes site (boot + 1))

  abbrev body : Piece
  body = record { at = half_at (other_half half) + 1; bytes = drop 1 (half_bytes site (boot + 1)) }

  abbrev mid : List ℕ
  mid = overwritten old (half_at (other_half half) + 1) (drop 1 (half_bytes site (boot + 1)))

  abbrev opened : List ℕ
  opened = overwritten mid (half_at (other_half half)) (165 ∷ [])

  pub length_body : length bytes ≡ 511
  length_body = let l = length-half site (boot + 1) in omega (arith, length-drop 1 (half_bytes site (boot + 1)))

  pub body_fits : at + 1 + length bytes ≤ length old
  body_fits = let l = length_body in let w = within_label new_half in omega arith

  pub mid_torn : Torn (at + 1) 511 old mid
  mid_torn = subst (λ (n : ℕ). Torn (at + 1) n old mid) length_body (torn_overwritten old (at + 1) bytes body_fits)

  pub gate_fits : at + 1 ≤ length mid
  gate_fits = let l = mid_torn.long in let w = within_label new_half in omega arith

  pub opened_torn : Torn at 1 mid opened
  opened_torn = torn_overwritten mid at (165 ∷ []) gate_fits

  -- while the body is written
  pub in_body : (c : List ℕ) → TornIn (body ∷ []) old c → Torn (at + 1) 511 old c
  in_body c torn = record {
    long = torn.long;
    outside = λ k out. torn.outside k (ap (λ (b : Bool). b || false) (subst (λ (n : ℕ). is_within (at + 1) n k ≡ false) (sym length_body) out));
  }

  pub stage_one : (c : List ℕ) → Torn (at + 1) 511 old c → HasBoot site boot c
  stage_one c torn = record {
    half = half;
    fits = alone.fits;
    says = says_kept site boot half old c torn.long (body_beside half old c torn) alone.says;
    other = inl (ap (λ (n : ℕ). n == 165) (torn.outside at (is_outside (at + 1) 511 at (inl (omega arith)))) ∙ alone.shut);
  }

  -- the half that counts stays until the new one is open
  pub stays : (c : List ℕ) → Torn at 1 mid c → Says site boot half c
  stays c torn =
      says_kept site boot half mid c torn.long (gate_beside half mid c torn)
      (says_kept site boot half old mid mid_torn.long (body_beside half old mid mid_torn) alone.says)

  pub made : (c : List ℕ) → Torn at 1 mid c → is_open c new_half ≡ true → Says site (boot + 1) new_half c
  made c torn is = stands c (half_bytes site (boot + 1)) at (length-half site (boot + 1)) (let l = torn.long in let m = mid_torn.long in let w = within_label new_half in omega arith) each
    where
      each : (k : ℕ) → k < 512 → get_or c (at + k) 0 ≡ get_or (half_bytes site (boot + 1)) k 0
      each zero lt =
          let e : at + 0 ≡ at = omega arith in
          ap (λ (n : ℕ). get_or c n 0) e ∙ eqb-true (get_or c at 0) 165 is ∙ sym (first_byte site (boot + 1))
      each (suc k) lt =
          let l = length_body in
          let e : at + suc k ≡ at + 1 + k = omega arith in
          let f : 1 + k ≡ suc k = omega arith in
          torn.outside (at + suc k) (is_outside at 1 (at + suc k) (inr (omega arith)))
          ∙ ap (λ (n : ℕ). get_or mid n 0) e ∙ put_inside old (at + 1) bytes k body_fits (omega arith) ∙ get_or-drop 1 (half_bytes site (boot + 1)) k 0 ∙ ap (λ (n : ℕ). get_or (half_bytes site (boot + 1)) n 0) f

  -- both halves are open, and the new one counts
  pub raised : (c : List ℕ) → Says site (boot + 1) new_half c → IsOlder site (boot + 1) half c → HasBoot site (boot + 1) c
  raised c says older = record { half = new_half; fits = fits; says = says; other = subst (λ (h : Half). IsOlder site (boot + 1) h c) (sym (twice half)) older }

  -- while its gate opens
  stage_two : (c : List ℕ) → Torn at 1 mid c → HasBoot site boot c ⊎ HasBoot site (boot + 1) c
  stage_two c torn = ⊎_elim
      (λ (is : is_open c new_half ≡ true). inr (raised c (made c torn is) (inr (boot, (let lt : boot < boot + 1 = omega arith in lt), stays c torn))))
      (λ (is : is_open c new_half ≡ false). inl (record { half = half; fits = alone.fits; says = stays c torn; other = inl is }))
      (cases_Bool (is_open c new_half))

  opened_says : Says site (boot + 1) new_half opened
  opened_says = made opened opened_torn (ap (λ (n : ℕ). n == 165) (put_gate mid at 165 gate_fits))

  -- while the old gate closes
  pub stage_three : (c : List ℕ) → Torn (half_at half) 1 opened c → HasBoot site (boot + 1) c
  stage_three c torn = raised c (says_kept site (boot + 1) new_half opened c torn.long (gate_before half opened c torn) opened_says) (older (gate_torn site boot half opened c (stays opened opened_torn) torn))
    where
      older : (is_open c half ≡ false) ⊎ Says site boot half c → IsOlder site (boot + 1) half c
      older (inl shut) = inl shut
      older (inr says) = inr (boot, (let lt : boot < boot + 1 = omega arith in lt), says)

  body_inside : (c : List ℕ) → Torn (at + 1) 511 old c → Torn 0 label_bytes old c
  body_inside c torn = torn_widens (at + 1) 511 0 label_bytes (omega arith) (let w = within_label new_half in omega arith) old c torn

  mid_inside : (c : List ℕ) → Torn at 1 mid c → Torn 0 label_bytes old c
  mid_inside c torn = torn_joins 0 label_bytes old mid c (body_inside mid mid_torn) (gate_inside new_half mid c torn)

  -- each stage has the number from before or the raised one
  pub raising : (c : List ℕ) → IsStage (body ∷ []) at (Some (half_at half)) old c → IsRaising site boot old c
  raising c (inl torn) = record { number = inl (stage_one c (in_body c torn)); outside = body_inside c (in_body c torn) }
  raising c (inr (inl torn)) = record { number = stage_two c torn; outside = mid_inside c torn }
  raising c (inr (inr torn)) = record { number = inr (stage_three c torn); outside = torn_joins 0 label_bytes old opened c (mid_inside opened opened_torn) (gate_inside half opened c torn) }

  -- and at the end the raised one
  pub done : HasBoot site (boot + 1) (switched (body ∷ []) at (Some (half_at half)) old)
  done =
      let l = opened_torn.long in
      let m = mid_torn.long in
      let w = within_label half in
      stage_three (overwritten opened (half_at half) (0 ∷ [])) (torn_overwritten opened (half_at half) (0 ∷ []) (omega arith))

-- a new label has the boot number 1
new_byte : (site : ℕ) (image : List ℕ) → IsNew site image → (k : ℕ) → k < label_bytes → get_or image (0 + k) 0 ≡ get_or (half_bytes site 1 ++ replicate 512 0) k 0
new_byte site image new k lt = sym (get_or-drop 0 image k 0) ∙ sym (get_or-take label_bytes (drop 0 image) k 0 lt) ∙ ap (λ (l : List ℕ). get_or l k 0) new

pub second_shut : (site : ℕ) (image : List ℕ) → IsNew site image → is_open image Second ≡ false
second_shut site image new =
    let long = length-half site 1 in
    ap (λ (n : ℕ). n == 165) (new_byte site image new 512 (omega arith) ∙ get_or-append_right (half_bytes site 1) (replicate 512 0) 512 512 0 long (omega arith))

pub new_label : (site : ℕ) (image : List ℕ) → IsNew site image → HasBoot site 1 image
new_label site image new = record {
  half = First;
  fits = omega arith;
  says = first;
  other = inl (second_shut site image new);
}
  where
    first : Says site 1 First image
    first =
        let long = length-half site 1 in
        sym (take-take 512 label_bytes image (omega arith)) ∙ ap (λ (l : List ℕ). take 512 l) new ∙ ap (λ (n : ℕ). take n (half_bytes site 1 ++ replicate 512 0)) (sym long) ∙ take-append_seam (half_bytes site 1) (replicate 512 0)
