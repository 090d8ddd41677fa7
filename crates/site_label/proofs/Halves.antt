-- What the halves of a label say, by their bytes.
use Rattle.std.proofs.Common.{◌≡◌, ◌⊎◌, inl, inr, ⊎_elim, ℕ, ◌+◌, ◌^◌, ◌<◌, Bool, true, false, List, length, take, drop, get_or, refl, sym, ◌∙◌, ap, subst, arith}
use Rattle.std.specs.Prelude.{Some, None, ◌==◌, cond, nat_lt}
use Rattle.std.specs.Int.{w32, from_be_bytes}
use Rattle.std.proofs.lemmas.Bool.{true≢false, cases_Bool, lt-ltb, le-ltb, ltb-true}
use Rattle.std.proofs.lemmas.List.{get_or-take, get_or-drop}
use Rattle.std.proofs.lemmas.Nat.{from_be_bytes-to_be_bytes_4}
use Rattle.disk_model.specs.Images.{bytes_at}
use Rattle.site_label.specs.declared.half.Half.{Half}
use Rattle.site_label.specs.declared.half.Half.TheVariants.{First, Second}
use Rattle.site_label.specs.declared.reading.Reading.{Reading}
use Rattle.site_label.specs.declared.reading.Reading.TheVariants.{Closed, Boot, Bad}
use Rattle.site_label.specs.declared.reading.Counted.{Counted}
use Rattle.site_label.specs.Label.{half_at, half_bytes, is_open, other_half, Says, IsOlder, HasBoot}
use Rattle.site_label.specs.Reading.{IsHalf, IsBeside, IsCounted, counted_of, greater}

pub length-half : (site boot : ℕ) → length (half_bytes site boot) ≡ 512
unfolding half_bytes
length-half site boot = refl

pub first_byte : (site boot : ℕ) → get_or (half_bytes site boot) 0 0 ≡ 165
unfolding half_bytes
first_byte site boot = refl

-- where the boot number stands
pub boot_inside : (site boot : ℕ) → boot < 2 ^ 32 → from_be_bytes w32 (take 4 (drop 10 (half_bytes site boot))) ≡ boot
unfolding half_bytes
boot_inside site boot fits = from_be_bytes-to_be_bytes_4 boot fits

-- a half has one number
pub one_number : (site a b : ℕ) → a < 2 ^ 32 → b < 2 ^ 32 → half_bytes site a ≡ half_bytes site b → a ≡ b
one_number site a b x y same = sym (boot_inside site a x) ∙ ap (λ (l : List ℕ). from_be_bytes w32 (take 4 (drop 10 l))) same ∙ boot_inside site b y

pub gate_of : (image : List ℕ) (half : Half) → get_or (bytes_at image (half_at half) 512) 0 0 ≡ get_or image (half_at half) 0
gate_of image half =
    let e : half_at half + 0 ≡ half_at half = omega arith in
    get_or-take 512 (drop (half_at half) image) 0 0 (omega arith) ∙ get_or-drop (half_at half) image 0 0 ∙ ap (λ (n : ℕ). get_or image n 0) e

pub says_open : (site boot : ℕ) (half : Half) (image : List ℕ) → Says site boot half image → is_open image half ≡ true
says_open site boot half image says = ap (λ (n : ℕ). n == 165) (sym (gate_of image half) ∙ ap (λ (l : List ℕ). get_or l 0 0) says ∙ first_byte site boot)

-- the number that a half has is what is read there
pub says_reading : (site boot : ℕ) (half : Half) (image : List ℕ) (reading : Reading) → IsHalf site half image reading → boot < 2 ^ 32 → Says site boot half image → reading ≡ Boot boot
says_reading site boot half image Closed is fits says = absurd (true≢false (sym (says_open site boot half image says) ∙ is))
says_reading site boot half image (Boot other) is fits says = ap Boot (one_number site other boot is.0 fits (sym is.1 ∙ says))
says_reading site boot half image Bad is fits says = absurd (is.1 boot fits says)

shut_reading : (site : ℕ) (half : Half) (image : List ℕ) (reading : Reading) → IsHalf site half image reading → is_open image half ≡ false → reading ≡ Closed
shut_reading site half image Closed is shut = refl
shut_reading site half image (Boot boot) is shut = absurd (true≢false (sym (says_open site boot half image is.1) ∙ shut))
shut_reading site half image Bad is shut = absurd (true≢false (sym is.0 ∙ shut))

-- a half that is older is read as closed, or as a lesser number
older_reading : (site boot : ℕ) (half : Half) (image : List ℕ) (reading : Reading) → IsHalf site half image reading → boot < 2 ^ 32 → IsOlder site boot half image → (reading ≡ Closed) ⊎ ((lesser : ℕ) × (lesser < boot) × (reading ≡ Boot lesser))
older_reading site boot half image reading is fits (inl shut) = inl (shut_reading site half image reading is shut)
older_reading site boot half image reading is fits (inr less) = inr (less.0, less.1, says_reading site less.0 half image reading is (omega (arith, less.1, fits)) less.2)

first_greater : (one other : ℕ) → other < one → greater one other ≡ Some (record { half = First; boot = one; beside = true })
first_greater one other lt = ap (λ (b : Bool). cond b (Some (record { half = First; boot = one; beside = true })) (cond (nat_lt one other) (Some (record { half = Second; boot = other; beside = true })) None)) (lt-ltb other one lt)

second_greater : (one other : ℕ) → one < other → greater one other ≡ Some (record { half = Second; boot = other; beside = true })
second_greater one other lt =
    ap (λ (b : Bool). cond b (Some (record { half = First; boot = one; beside = true })) (cond (nat_lt one other) (Some (record { half = Second; boot = other; beside = true })) None)) (le-ltb other one (omega arith))
    ∙ ap (λ (b : Bool). cond b (Some (record { half = Second; boot = other; beside = true })) None) (lt-ltb one other lt)

-- the half that a label has counts
pub boot_counted : (site boot : ℕ) (image : List ℕ) (first second : Reading) → IsHalf site First image first → IsHalf site Second image second → HasBoot site boot image → (c : Counted) × (counted_of first second ≡ Some c) × (c.boot ≡ boot)
boot_counted site boot image first second one two has = by has.half has.says has.other
  where
    by : (half : Half) → Says site boot half image → IsOlder site boot (other_half half) image → (c : Counted) × (counted_of first second ≡ Some c) × (c.boot ≡ boot)
    by First says older =
        let e = says_reading site boot First image first one has.fits says in
        ⊎_elim
        (λ (f : second ≡ Closed). (record { half = First; boot = boot; beside = false }, (λ i. counted_of (e i) (f i)), refl))
        (λ (less : (lesser : ℕ) × (lesser < boot) × (second ≡ Boot lesser)). (record { half = First; boot = boot; beside = true }, (λ i. counted_of (e i) (less.2 i)) ∙ first_greater boot less.0 less.1, refl))
        (older_reading site boot Second image second two has.fits older)
    by Second says older =
        let e = says_reading site boot Second image second two has.fits says in
        ⊎_elim
        (λ (f : first ≡ Closed). (record { half = Second; boot = boot; beside = false }, (λ i. counted_of (f i) (e i)), refl))
        (λ (less : (lesser : ℕ) × (lesser < boot) × (first ≡ Boot lesser)). (record { half = Second; boot = boot; beside = true }, (λ i. counted_of (less.2 i) (e i)) ∙ second_greater less.0 boot less.1, refl))
        (older_reading site boot First image first one has.fits older)

-- where none counts there is no label
pub none_counted : (site : ℕ) (image : List ℕ) (first second : Reading) → IsHalf site First image first → IsHalf site Second image second → counted_of first second ≡ None → (boot : ℕ) → HasBoot site boot image → ⊥
none_counted site image first second one two none boot has =
    let c = boot_counted site boot image first second one two has in
    let some : None ≡ Some c.0 = sym none ∙ c.1 in
    absurd cc

-- which of two open halves counts
greater_counted : (site : ℕ) (image : List ℕ) (one other : ℕ) (c : Counted) → IsHalf site First image (Boot one) → IsHalf site Second image (Boot other) → greater one other ≡ Some c → IsCounted site image c
greater_counted site image one other c first second is = ⊎_elim
    (λ (more : nat_lt other one ≡ true).
    let lt = ltb-true other one more in
    let e : Some (record { half = First; boot = one; beside = true }) ≡ Some c = sym (first_greater one other lt) ∙ is in
    let same : record { half = First; boot = one; beside = true } ≡ c = cc in
    subst (λ (x : Counted). IsCounted site image x) same (record { fits = first.0; says = first.1; beside = (other, lt, second.1) }))
    (λ (le : nat_lt other one ≡ false). ⊎_elim
    (λ (more : nat_lt one other ≡ true).
    let lt = ltb-true one other more in
    let e : Some (record { half = Second; boot = other; beside = true }) ≡ Some c = sym (second_greater one other lt) ∙ is in
    let same : record { half = Second; boot = other; beside = true } ≡ c = cc in
    subst (λ (x : Counted). IsCounted site image x) same (record { fits = second.0; says = second.1; beside = (one, lt, first.1) }))
    (λ (no : nat_lt one other ≡ false).
    let e : None ≡ Some c = sym (λ i. cond (le i) (Some (record { half = First; boot = one; beside = true })) (cond (no i) (Some (record { half = Second; boot = other; beside = true })) None)) ∙ is in
    absurd cc)
    (cases_Bool (nat_lt one other)))
    (cases_Bool (nat_lt other one))

-- the half that is found to count is one that counts
pub counted_is : (site : ℕ) (image : List ℕ) (first second : Reading) (c : Counted) → IsHalf site First image first → IsHalf site Second image second → counted_of first second ≡ Some c → IsCounted site image c
counted_is site image Closed Closed c one two is = absurd cc
counted_is site image Closed (Boot boot) c one two is =
    let same : record { half = Second; boot = boot; beside = false } ≡ c = cc in
    subst (λ (x : Counted). IsCounted site image x) same (record { fits = two.0; says = two.1; beside = one })
counted_is site image Closed Bad c one two is = absurd cc
counted_is site image (Boot boot) Closed c one two is =
    let same : record { half = First; boot = boot; beside = false } ≡ c = cc in
    subst (λ (x : Counted). IsCounted site image x) same (record { fits = one.0; says = one.1; beside = two })
counted_is site image (Boot boot) (Boot other) c one two is = greater_counted site image boot other c one two is
counted_is site image (Boot boot) Bad c one two is = absurd cc
counted_is site image Bad Closed c one two is = absurd cc
counted_is site image Bad (Boot boot) c one two is = absurd cc
counted_is site image Bad Bad c one two is = absurd cc

-- a half that counts gives the label its number
pub has_boot : (site : ℕ) (image : List ℕ) (c : Counted) → IsCounted site image c → HasBoot site c.boot image
has_boot site image c is = record { half = c.half; fits = is.fits; says = is.says; other = by c.beside is.beside }
  where
    by : (b : Bool) → IsBeside site c.boot (other_half c.half) image b → IsOlder site c.boot (other_half c.half) image
    by false shut = inl shut
    by true less = inr less

older_as : (site boot : ℕ) (half : Half) (image : List ℕ) → boot < 2 ^ 32 → IsOlder site boot half image → (reading : Reading) × IsHalf site half image reading
older_as site boot half image fits (inl shut) = (Closed, shut)
older_as site boot half image fits (inr less) = (Boot less.0, (omega (arith, less.1, fits), less.2))

-- a label has one number
pub one_boot : (site a b : ℕ) (image : List ℕ) → HasBoot site a image → HasBoot site b image → a ≡ b
one_boot site a b image one other = by one.half one.says one.other
  where
    alike : (first second : Reading) → IsHalf site First image first → IsHalf site Second image second → a ≡ b
    alike first second x y =
        let c = boot_counted site a image first second x y one in
        let d = boot_counted site b image first second x y other in
        let e : Some c.0 ≡ Some d.0 = sym c.1 ∙ d.1 in
        let same : c.0 ≡ d.0 = cc in
        sym c.2 ∙ ap (λ (x : Counted). x.boot) same ∙ d.2

    by : (half : Half) → Says site a half image → IsOlder site a (other_half half) image → a ≡ b
    by First says older = let r = older_as site a Second image one.fits older in alike (Boot a) r.0 (one.fits, says) r.1
    by Second says older = let r = older_as site a First image one.fits older in alike r.0 (Boot a) r.1 (one.fits, says)
