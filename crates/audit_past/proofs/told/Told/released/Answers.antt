use Rattle.audit_past.proofs.Acted.{released_view}
use Rattle.audit_past.proofs.told.Told.released.Goals as goal

pub returns : goal.returns
returns c = λ c'. released_view c' _ c.args.self.now c.self.view_is c.args.epoch c.args.inst c.args.file c.args.stamp c.args.ender c.in-Some.answer c.release.new.self c.answer.new.self c.requires.stands c.requires.step
    c.in-Some.ensures c.in_ok-answer.ensures c.in_ok-release.ensures
