use Rattle.the_run.proofs.OneList.{one_list}
use Rattle.the_run.proofs.laws.joins_have_one_list.Goals as goal

pub returns : goal.returns
returns c = λ config lines. one_list config lines
