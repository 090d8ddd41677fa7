use Rattle.row_laws.proofs.Bounds.RunsAsk.{requests_first, requests_kept, requests_bounded}
use Rattle.row_laws.proofs.bound_laws.requests_bounded.Goals as goal

pub returns-clause-first : goal.returns-clause-first
returns-clause-first c = λ k. requests_first k

pub returns-clause-events : goal.returns-clause-events
returns-clause-events c = λ k. requests_kept k

pub returns-clause-runs : goal.returns-clause-runs
returns-clause-runs c = λ k lines. requests_bounded k lines
