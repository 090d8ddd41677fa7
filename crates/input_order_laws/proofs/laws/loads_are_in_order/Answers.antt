use Rattle.input_order_laws.proofs.Loads.{load_in_order, generated_in_order}
use Rattle.input_order_laws.proofs.laws.loads_are_in_order.Goals as goal

pub returns-clause-drawn : goal.returns-clause-drawn
returns-clause-drawn c = λ draws. load_in_order draws

pub returns-clause-generated : goal.returns-clause-generated
returns-clause-generated c = λ number events. generated_in_order number events
