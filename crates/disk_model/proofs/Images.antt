-- What the images of a disk in memory become by a call.
use Rattle.std.proofs.Common.{◌≡◌, inr, ⊎_elim, ℕ, ◌+◌, ◌-◌, ◌≤◌, Bool, true, false, cond, ◌||◌, List, [], ◌∷◌, ◌++◌, length, replicate, take, drop, get_or, refl, sym, ◌∙◌, ap, subst, arith, length-take, length-drop, ltb}
use Rattle.std.proofs.lemmas.Bool.{cases_Bool}
use Rattle.std.proofs.lemmas.List.{same_lists, get_or_default, get_or-take, get_or-drop, length-replicate}
use Rattle.disk_model.specs.declared.store.Span.{Span}
use Rattle.disk_model.specs.Images.{overwritten, is_within, covers, Torn, IsImage}
use Rattle.disk_model.specs.Disk.{IsAfter, Goes, Only}
use Rattle.disk_model.specs.Store.{unsynced_max, with_room, left_in}
use Rattle.disk_model.specs.ScriptDisk.{seen, unsynced, images, moment}
use Rattle.disk_model.specs.declared.script.Leave.{Leave}
use Rattle.disk_model.specs.declared.script.Leave.TheVariants.{Old, New, Byte}
use Rattle.disk_model.specs.declared.script_disk.ScriptDisk.{ScriptDisk}
use Rattle.disk_model.proofs.Spans.{within_bounds, put_within, put_outside, length-overwritten, covers-append, covers-one}

-- no range is unsynced, so an image is what a read gives
pub only_image : (seen : List ℕ) → Only seen (IsImage [] seen)
only_image seen = λ image is. same_lists image seen is.long (λ k d lt. get_or_default image k d 0 lt ∙ is.outside k refl ∙ get_or_default seen k 0 d (omega (arith, is.long)))

pub torn_same : (at n : ℕ) (image : List ℕ) → Torn at n image image
torn_same at n image = record { long = refl; outside = λ k out. refl }

pub torn_overwritten : (xs : List ℕ) (at : ℕ) (ys : List ℕ) → at + length ys ≤ length xs → Torn at (length ys) xs (overwritten xs at ys)
torn_overwritten xs at ys fits = record {
  long = length-overwritten xs at ys fits;
  outside = λ k out. put_outside at xs ys k fits out;
}

pub room_none : (unsynced : List Span) (k : ℕ) → covers unsynced k ≡ false → covers (with_room unsynced) k ≡ false
room_none unsynced k none = by (ltb (length unsynced) unsynced_max)
  where
    by : (b : Bool) → covers (cond b unsynced []) k ≡ false
    by true = none
    by false = refl

-- each image after a write is one from before it that is torn in the range
module _ (unsynced waiting : List Span) (fewer : (k : ℕ) → covers unsynced k ≡ false → covers waiting k ≡ false) (at n : ℕ) (old new : List ℕ) (fits : at + n ≤ length old) (torn : Torn at n old new) where
  abbrev span : Span
  span = record { at = at; len = n }

  abbrev piece : List ℕ
  piece = take n (drop at old)

  length-piece : length piece ≡ n
  length-piece = omega (arith, fits, length-take n (drop at old), length-drop at old)

  module _ (image : List ℕ) (is : IsImage (waiting ++ span ∷ []) new image) where
    fits_in : at + length piece ≤ length image
    fits_in = omega (arith, fits, is.long, torn.long, length-piece)

    long : length (overwritten image at piece) ≡ length image
    long = length-overwritten image at piece fits_in

    inside : (k : ℕ) → is_within at n k ≡ true → get_or (overwritten image at piece) k 0 ≡ get_or old k 0
    inside k within =
        let low = (within_bounds at n k within).0 in
        let high = (within_bounds at n k within).1 in
        put_within at image piece k fits_in (ap (λ (m : ℕ). is_within at m k) length-piece ∙ within)
        ∙ get_or-take n (drop at old) (k - at) 0 (omega arith)
        ∙ get_or-drop at old (k - at) 0
        ∙ (let e : at + (k - at) ≡ k = omega arith in ap (λ (m : ℕ). get_or old m 0) e)

    beside : (k : ℕ) → is_within at n k ≡ false → get_or (overwritten image at piece) k 0 ≡ get_or image k 0
    beside k out = put_outside at image piece k fits_in (ap (λ (m : ℕ). is_within at m k) length-piece ∙ out)

    or_none : (a b : Bool) → a ≡ false → b ≡ false → (a || b) ≡ false
    or_none a b no' none = ap (λ (x : Bool). x || b) no' ∙ none

    outside : (k : ℕ) → covers unsynced k ≡ false → is_within at n k ≡ false → get_or (overwritten image at piece) k 0 ≡ get_or old k 0
    outside k none out =
        beside k out
        ∙ is.outside k (covers-append waiting (span ∷ []) k ∙ or_none _ _ (fewer k none) (covers-one span k ∙ out))
        ∙ torn.outside k out

    pub image_after_write : IsAfter (Torn at n) (IsImage unsynced old) image
    image_after_write = (
      overwritten image at piece,
      record {
        long = long ∙ is.long ∙ torn.long;
        outside = λ k none. ⊎_elim (inside k) (outside k none) (cases_Bool (is_within at n k));
      },
      record { long = sym long; outside = λ k out. sym (beside k out) },
    )

pub torn_left : (leave : Leave) (seen : List ℕ) (at : ℕ) (bytes : List ℕ) → at + length bytes ≤ length seen → Torn at (length bytes) seen (left_in leave seen at bytes)
torn_left Old seen at bytes fits = torn_same at (length bytes) seen
torn_left New seen at bytes fits = torn_overwritten seen at bytes fits
torn_left (Byte byte) seen at bytes fits =
    let long : length (replicate (length bytes) byte) ≡ length bytes = length-replicate (length bytes) byte in
    subst (λ (n : ℕ). Torn at n seen (overwritten seen at (replicate (length bytes) byte))) long (torn_overwritten seen at (replicate (length bytes) byte) (omega (arith, fits, long)))

-- a write to a disk in memory, by what is unsynced and what a read gives
module _ (old new : ScriptDisk) (at n : ℕ) (fits : at + n ≤ length (seen old)) (torn : Torn at n (seen old) (seen new))
    (waits : unsynced new ≡ with_room (unsynced old) ++ record { at = at; len = n } ∷ []) where
  after : (image : List ℕ) → images new image → IsAfter (Torn at n) (images old) image
  after image is = image_after_write (unsynced old) (with_room (unsynced old)) (room_none (unsynced old)) at n (seen old) (seen new) fits torn image (subst (λ (l : List Span). IsImage l (seen new) image) waits is)

  pub write_goes : Goes (Torn at n) (moment old) (moment new)
  write_goes = record { later = omega arith; images = after; since = λ t image le is. inr (after image is) }
