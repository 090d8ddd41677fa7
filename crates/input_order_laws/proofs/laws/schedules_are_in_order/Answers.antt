use Rattle.input_order_laws.proofs.Order.{read_in_order, spelled_in_order, more_in_order, first_in_order}
use Rattle.input_order_laws.proofs.laws.schedules_are_in_order.Goals as goal

pub returns-clause-read : goal.returns-clause-read
returns-clause-read c = λ bytes lines. read_in_order bytes lines

pub returns-clause-spelled : goal.returns-clause-spelled
returns-clause-spelled c = λ lines. spelled_in_order lines

pub returns-clause-none : goal.returns-clause-none
returns-clause-none c = tt

pub returns-clause-more : goal.returns-clause-more
returns-clause-more c = λ lines l. more_in_order lines l

pub returns-clause-first : goal.returns-clause-first
returns-clause-first c = λ some later. first_in_order some later
