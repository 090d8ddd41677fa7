use Rattle.audit_past.proofs.Grants.{granted_view}
use Rattle.audit_past.proofs.told.Told.granted.Goals as goal

pub returns : goal.returns
returns c = λ c' request. granted_view c' _ c.args.self.now c.self.view_is c.args.epoch c.args.id request c.args.opening.now c.process_of.result c.in_ok-content.content c.kept_version.result c.in_ok-answer.answer c.grant.new.self c.grant-2.new.self
    c.requires.once c.in_ok-answer.ensures c.process_of.ensures c.in_ok-content.ensures c.kept_version.ensures c.in_ok-grant.ensures c.in_ok-grant-2.ensures
