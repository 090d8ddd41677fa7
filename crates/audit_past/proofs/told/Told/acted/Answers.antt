use Rattle.audit_past.proofs.Acted.{acted_view}
use Rattle.audit_past.proofs.told.Told.acted.Goals as goal

pub returns : goal.returns
returns c = λ c' p n it was actor now. acted_view c' p _ c.args.self.now c.self.view_is c.args.epoch c.args.inst n c.args.done.0.now c.args.done.1.now c.args.work c.args.actor c.in_ok-answer.answer c.act.new.self c.answer.new.self it was actor now
    c.in_ok-answer.ensures c.in_ok-act.ensures c.in_ok-answer-2.ensures
