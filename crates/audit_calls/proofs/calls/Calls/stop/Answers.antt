use Rattle.audit_calls.proofs.Settled.{index_stops, stopped_shown}
use Rattle.audit_calls.proofs.calls.Calls.stop.Goals as goal

pub invariant_of-self : goal.invariant_of-self
invariant_of-self c = index_stops c.args.site c.self.inside.rows.items c.end_all_at.new.rows.items c.self.inside.ids c.self.inside.uses c.self.inside.waiting.items c.end_all_at.new.waiting.items c.self.invariant c.end_all_at.ensures.rows c.end_all_at.ensures.waiting

pub returns : goal.returns
returns c = stopped_shown c.args.site c.self.inside.rows.items c.end_all_at.new.rows.items c.args.self.now c.self.view_is c.end_all_at.ensures.rows
