use Rattle.site_label.proofs.Image.{boot_there}
use Rattle.site_disk.proofs.laws.label_says.Goals as goal

pub returns : goal.returns
returns c = boot_there
