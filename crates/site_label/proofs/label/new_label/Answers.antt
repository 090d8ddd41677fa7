use Rattle.std.proofs.Common.{refl}
use Rattle.site_label.proofs.label.new_label.Goals as goal

pub returns : goal.returns
returns c = rw c.copy_from_slice.ensures.after (rw c.half_bytes.ensures refl)
