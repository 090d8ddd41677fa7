use Rattle.calm_laws.proofs.Packed.{all_go}
use Rattle.calm_laws.proofs.CalmAnswerOpenRequests.{open_request_row}
use Rattle.calm_laws.proofs.calm_answer.opens_carry_on.Goals as goal

pub returns : goal.returns
returns c = λ config. open_request_row config (all_go config)
