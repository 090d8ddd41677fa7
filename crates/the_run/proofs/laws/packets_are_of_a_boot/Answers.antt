use Rattle.the_run.proofs.Boots.{each_of_a_boot}
use Rattle.the_run.proofs.laws.packets_are_of_a_boot.Goals as goal

pub returns : goal.returns
returns c = λ config lines. each_of_a_boot config lines
