use Rattle.row_laws.proofs.Bounds.RunsSend.{looks_first, looks_kept, delivery_one, deliveries_send_one}
use Rattle.row_laws.proofs.bound_laws.deliveries_send_one.Goals as goal

pub returns-clause-first : goal.returns-clause-first
returns-clause-first c = λ k. looks_first k

pub returns-clause-events : goal.returns-clause-events
returns-clause-events c = λ k. looks_kept k

pub returns-clause-moments : goal.returns-clause-moments
returns-clause-moments c = λ k w fine. delivery_one k w fine

pub returns-clause-runs : goal.returns-clause-runs
returns-clause-runs c = λ k lines. deliveries_send_one k lines
