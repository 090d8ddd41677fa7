use Rattle.std.proofs.Common.{length}
use Rattle.using_site.proofs.instances.+opened_serial.Given as goal

abbrev pub decreases-opened_serial : goal.decreases-opened_serial
decreases-opened_serial l = length l.answers.now
