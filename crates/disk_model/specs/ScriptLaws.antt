-- What the trait asks of the image that a cut leaves on a disk that a script stops.
use Rattle.std.specs.Prelude.{ℕ, zero, suc, ◌≡◌, ◌+◌, false, cond, List, [], ◌∷◌, length, slice_index, refl}
use Rattle.std.proofs.Common.{◌∙◌, ap, arith}
use Rattle.disk_model.specs.declared.store.Span.{Span}
use Rattle.disk_model.specs.declared.script.Leave.{Leave}
use Rattle.disk_model.specs.declared.script.Leave.TheVariants.{Old, New, Byte}
use Rattle.disk_model.specs.declared.script_disk.ScriptDisk.{ScriptDisk}
use Rattle.disk_model.specs.Cut.{Cut, Stops, Fails}
use Rattle.disk_model.specs.Images.{covers, IsImage}
use Rattle.disk_model.specs.Store.{SameOutside}
use Rattle.disk_model.specs.Script.{how_of}
use Rattle.disk_model.specs.ScriptDisk.{seen, unsynced, durable, images, spoiled_from, crashed, crashed_by, cut_image}

pub length-spoiled : (k : ℕ) (spans : List Span) (byte : ℕ) (xs : List ℕ) → length (spoiled_from k spans byte xs) ≡ length xs
length-spoiled k spans byte [] = refl
length-spoiled k spans byte (x ∷ xs) = ap suc (length-spoiled (suc k) spans byte xs)

-- a byte outside the ranges is as it was
pub outside-spoiled : (k : ℕ) (spans : List Span) (byte : ℕ) (xs : List ℕ) (i : ℕ) → covers spans (k + i) ≡ false → slice_index (spoiled_from k spans byte xs) i ≡ slice_index xs i
outside-spoiled k spans byte [] i none = refl
outside-spoiled k spans byte (x ∷ xs) zero none = ap (λ b. cond b byte x) (let e : k ≡ k + zero = omega arith in ap (λ n. covers spans n) e ∙ none)
outside-spoiled k spans byte (x ∷ xs) (suc i) none = outside-spoiled (suc k) spans byte xs i (let e : suc k + i ≡ k + suc i = omega arith in ap (λ n. covers spans n) e ∙ none)

image_crashed : (leave : Leave) (spans : List Span) (kept read : List ℕ) → length kept ≡ length read → SameOutside spans kept read → IsImage spans read (crashed leave spans kept read)
image_crashed Old spans kept read long same = record { long = long; outside = same }
image_crashed New spans kept read long same = record { long = refl; outside = λ k none. refl }
image_crashed (Byte byte) spans kept read long same = record { long = length-spoiled 0 spans byte read; outside = λ k none. outside-spoiled 0 spans byte read k (let e : 0 + k ≡ k = omega arith in ap (λ n. covers spans n) e ∙ none) }

image_cut : (how : Cut) (spans : List Span) (kept read : List ℕ) → length kept ≡ length read → SameOutside spans kept read → IsImage spans read (crashed_by how spans kept read)
image_cut (Stops leave) spans kept read long same = image_crashed leave spans kept read long same
image_cut Fails spans kept read long same = record { long = refl; outside = λ k none. refl }

pub leaves_one : (disk : ScriptDisk) → images disk (cut_image disk)
leaves_one disk = image_cut (how_of disk.script) (unsynced disk) (durable disk) (seen disk) disk.store.same_length disk.store.synced
