use Rattle.site_label.proofs.Halves.{has_boot}
use Rattle.site_label.proofs.label.Label.number.Goals as goal

pub returns-clause-number : goal.returns-clause-number
returns-clause-number g c = has_boot c.args.site (g.D.Disk.moment c.args.disk.now).seen c.in_ok-counted.counted c.in_ok-counted.ensures.counted
