-- What the label of an image says.
use Rattle.std.proofs.Common.{◌≡◌, ℕ, false, List}
use Rattle.site_label.specs.Label.{HasBoot}
use Rattle.site_label.specs.Raising.{are_open}
use Rattle.site_label.proofs.Image.{boot_there}
use Rattle.site_disk.specs.Image.{label_on, one_half}

pub label_there : (site boot : ℕ) (image : List ℕ) → HasBoot site boot image → are_open image ≡ false → label_on image ≡ one_half boot
label_there site boot image has shut = let number = boot_there site boot image has in (λ i. record { boot = number i; both_open = shut i })
