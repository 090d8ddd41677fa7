use Rattle.disk_calls.proofs.Counting.{at_least_four}
use Rattle.disk_calls.proofs.laws.versions_take_four_calls.Goals as goal

pub returns : goal.returns
returns c w = at_least_four w
