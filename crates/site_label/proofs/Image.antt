-- The number that a label has is the one that is read, and a label stays where what changes lies behind it.
use Rattle.std.proofs.Common.{◌≡◌, ◌⊎◌, inl, inr, ⊎_elim, ℕ, ◌+◌, ◌^◌, ◌<◌, ◌≤◌, Bool, true, false, cond, List, ◌++◌, length, replicate, take, drop, get_or, refl, sym, ◌∙◌, ap, subst, arith}
use Rattle.std.specs.Prelude.{◌==◌, ◌&&◌, max}
use Rattle.std.specs.Int.{w32, from_be_bytes}
use Rattle.std.proofs.lemmas.List.{drop-take, drop-drop, take-take, get_or-take, get_or-drop, get_or-append_right}
use Rattle.disk_model.specs.Images.{bytes_at, Torn}
use Rattle.gate_switch.proofs.Tearing.{bytes_below, torn_below}
use Rattle.site_label.specs.declared.half.Half.{Half}
use Rattle.site_label.specs.declared.half.Half.TheVariants.{First, Second}
use Rattle.site_label.specs.Label.{label_bytes, half_at, half_bytes, is_open, other_half, Says, IsOlder, HasBoot, IsNew}
use Rattle.site_label.specs.Raising.{are_open}
use Rattle.site_label.proofs.Halves.{length-half, boot_inside, says_open}
use Rattle.site_label.proofs.Stages.{within_label}
use Rattle.site_label.specs.Image.{half_number, label_number}

-- the number of a half that says one
number_of : (site boot : ℕ) (half : Half) (image : List ℕ) → boot < 2 ^ 32 → Says site boot half image → half_number image half ≡ boot
number_of site boot half image fits says =
    let at = half_at half in
    let bytes : bytes_at image (at + 10) 4 ≡ take 4 (drop 10 (half_bytes site boot)) =
    ap (λ (l : List ℕ). take 4 l) (sym (drop-drop 10 at image))
    ∙ sym (take-take 4 502 (drop 10 (drop at image)) (omega arith))
    ∙ ap (λ (l : List ℕ). take 4 l) (sym (drop-take 10 502 (drop at image)))
    ∙ ap (λ (l : List ℕ). take 4 (drop 10 l)) says in
    ap (λ (l : List ℕ). from_be_bytes w32 l) bytes ∙ boot_inside site boot fits

-- the greater of two numbers, where the halves are open
greater_first : (a b : ℕ) → b < a → max a b ≡ a
greater_first a b lt = omega arith

greater_second : (a b : ℕ) → a < b → max a b ≡ b
greater_second a b lt = omega arith

abbrev counts : Bool → Bool → ℕ → ℕ → ℕ
counts first second a b = cond first (cond second (max a b) a) b

-- the number that a label has is the one that is read
pub boot_there : (site boot : ℕ) (image : List ℕ) → HasBoot site boot image → label_number image ≡ boot
boot_there site boot image has = by has.half has.says has.other
  where
    by : (half : Half) → Says site boot half image → IsOlder site boot (other_half half) image → label_number image ≡ boot
    by First says older =
        let one = says_open site boot First image says in
        let number = number_of site boot First image has.fits says in
        ⊎_elim
        (λ (shut : is_open image Second ≡ false). (λ i. counts (one i) (shut i) (number i) (half_number image Second)))
        (λ (less : (lesser : ℕ) × (lesser < boot) × Says site lesser Second image).
        let two = says_open site less.0 Second image less.2 in
        let lt = less.1 in
        let fits = has.fits in
        let other = number_of site less.0 Second image (omega arith) less.2 in
        (λ i. counts (one i) (two i) (number i) (other i)) ∙ greater_first boot less.0 lt)
        older
    by Second says older =
        let two = says_open site boot Second image says in
        let number = number_of site boot Second image has.fits says in
        ⊎_elim
        (λ (shut : is_open image First ≡ false). (λ i. counts (shut i) (two i) (half_number image First) (number i)))
        (λ (less : (lesser : ℕ) × (lesser < boot) × Says site lesser First image).
        let one = says_open site less.0 First image less.2 in
        let lt = less.1 in
        let fits = has.fits in
        let other = number_of site less.0 First image (omega arith) less.2 in
        (λ i. counts (one i) (two i) (other i) (number i)) ∙ greater_second less.0 boot lt)
        older

-- a new label has one open half
pub new_shut : (site : ℕ) (image : List ℕ) → IsNew site image → are_open image ≡ false
new_shut site image new =
    let long = length-half site 1 in
    let byte : get_or image 512 0 ≡ 0 =
    sym (get_or-take label_bytes image 512 0 (omega arith)) ∙ ap (λ (l : List ℕ). get_or l 512 0) new ∙ get_or-append_right (half_bytes site 1) (replicate 512 0) 512 512 0 long (omega arith) in
    by (is_open image First) (is_open image Second) (ap (λ (n : ℕ). n == 165) byte)
  where
    by : (a b : Bool) → b ≡ false → (a && b) ≡ false
    by true b e = e
    by false b e = refl

-- ---- where only what stands behind the label is torn ----

module _ (n : ℕ) (a b : List ℕ) (torn : Torn label_bytes n a b) where
  open_same : (half : Half) → is_open b half ≡ is_open a half
  open_same half = let w = within_label half in ap (λ (k : ℕ). k == 165) (torn_below label_bytes n a b torn (half_at half) (omega arith))

  says_same : (site boot : ℕ) (half : Half) → Says site boot half a → Says site boot half b
  says_same site boot half says = bytes_below label_bytes n a b torn (half_at half) 512 (within_label half) ∙ says

  older_same : (site boot : ℕ) (half : Half) → IsOlder site boot half a → IsOlder site boot half b
  older_same site boot half (inl shut) = inl (open_same half ∙ shut)
  older_same site boot half (inr less) = inr (less.0, less.1, says_same site less.0 half less.2)

  pub boot_same : (site boot : ℕ) → HasBoot site boot a → HasBoot site boot b
  boot_same site boot has = record { half = has.half; fits = has.fits; says = says_same site boot has.half has.says; other = older_same site boot (other_half has.half) has.other }

  pub shut_same : are_open a ≡ false → are_open b ≡ false
  shut_same shut = let one = open_same First in let two = open_same Second in (λ i. one i && two i) ∙ shut

  pub new_same : (site : ℕ) → IsNew site a → IsNew site b
  new_same site new = bytes_below label_bytes n a b torn 0 label_bytes (omega arith) ∙ new
