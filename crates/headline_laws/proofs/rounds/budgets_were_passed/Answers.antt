use Rattle.headline_laws.proofs.Promises.BudgetsPassed.{budgets_passed}
use Rattle.headline_laws.proofs.rounds.budgets_were_passed.Goals as goal

pub returns : goal.returns
returns c = λ config lines. budgets_passed config lines
