use Rattle.audit_past.proofs.Accepts.{accepted_view}
use Rattle.audit_past.proofs.told.Told.accepted.Goals as goal

pub returns : goal.returns
returns c = λ c'. accepted_view c' _ c.args.self.now c.self.view_is c.args.site c.args.process c.args.id c.args.words c.site_at-row.result.now c.beginning-begins.result c.epoch-epoch.result c.lowest_free.result c.in_ok-turn.field-0 c.accept-2.new.self c.accept.new.self c.in_ok-call.call c.begin-2.new.self
    c.site_at-row.ensures c.beginning-begins.ensures c.epoch-epoch.ensures c.lowest_free.ensures c.in_ok-turn.ensures c.accept-2.ensures c.in_ok-accept.ensures c.in_ok-call.ensures c.in_ok-begin.ensures
