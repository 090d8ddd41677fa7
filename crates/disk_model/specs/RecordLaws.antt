-- What the trait asks of the images of a disk that keeps each call.
use Rattle.std.specs.Prelude.{ℕ, ◌≤◌, ◌≡◌, List, length, slice_index}
use Rattle.std.proofs.Common.{sym, ◌∙◌, ap, subst, arith}
use Rattle.disk_model.specs.declared.record_disk.RecordDisk.{RecordDisk}
use Rattle.disk_model.specs.RecordDisk.{image_of}
use Rattle.disk_model.specs.RecordImages.{seen, calls_kept, state_at, images, images_since}

pub reads_one : (disk : RecordDisk) → images disk (seen disk)
reads_one disk = record { long = ap length (sym disk.replayed); outside = λ k none. ap (λ (l : List ℕ). slice_index l k) (sym disk.replayed) }

pub same_length : (disk : RecordDisk) (image : List ℕ) → images disk image → length image ≡ length (seen disk)
same_length disk image is = is.long ∙ ap length disk.replayed

pub one_now : (disk : RecordDisk) (t : ℕ) (image : List ℕ) → t ≤ calls_kept disk → images disk image → images_since disk t image
one_now disk t image le is = (calls_kept disk, le, omega arith, is)

pub none_else : (disk : RecordDisk) (image : List ℕ) → images_since disk (calls_kept disk) image → images disk image
none_else disk image left =
    let same : left.0 ≡ calls_kept disk = omega (arith, left.1, left.2) in
    subst (λ (k : ℕ). image_of (state_at disk k) image) same left.3
