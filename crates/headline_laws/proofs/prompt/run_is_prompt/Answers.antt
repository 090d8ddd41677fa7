use Rattle.headline_laws.proofs.Prompting.Whole.{run_prompt}
use Rattle.headline_laws.proofs.prompt.run_is_prompt.Goals as goal

pub returns : goal.returns
returns c = λ lines order. run_prompt lines order
