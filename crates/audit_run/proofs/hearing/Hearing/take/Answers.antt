use Rattle.audit_run.proofs.Hearings.{next_before, next_record, none_by, some_by, then_ok}
use Rattle.audit_run.proofs.hearing.Hearing.take.Goals as goal

pub returns-then-is_none-clause-heard : goal.returns-then-is_none-clause-heard
returns-then-is_none-clause-heard c = λ all lines k placed.
    then_ok c.take_before.result c.take_before.ensures.ok (λ t. next_before all lines c.args.bytes.now c.args.self.now c.take_before.new.self k (none_by c.args.self.now.audit c.is_none.result c.is_none.ensures c.if-is_none.true) t)

pub returns-clause-heard : goal.returns-clause-heard
returns-clause-heard c = λ all lines k placed.
    let a = some_by c.args.self.now.audit c.is_none.result c.is_none.ensures c.if-is_none.false in
    next_record all lines c.args.bytes.now c.args.number c.in_ok-line.line c.in_ok-line.what c.args.self.now c.judge.new.self a.0 k a.1 placed c.in_ok-line.ensures.found c.in_ok-judge.ensures
