use Rattle.std.proofs.Common.{refl}
use Rattle.site_label.specs.Label.{half_bytes}
use Rattle.site_label.proofs.half.half_bytes.Goals as goal

pub returns : goal.returns
unfolding half_bytes
returns c = rw c.copy_from_slice-2.ensures.after (rw c.copy_from_slice.ensures.after (rw c.get.ensures.value (rw c.to_be_bytes.ensures refl)))
