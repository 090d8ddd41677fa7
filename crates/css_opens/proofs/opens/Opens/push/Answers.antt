use Rattle.css_opens.proofs.OpenRows.{indexed_push, indexed_none, pushed}
use Rattle.css_opens.proofs.opens.Opens.push.Goals as goal

pub invariant_of-self : goal.invariant_of-self
invariant_of-self c = indexed_push c.self.inside.rows.items c.push_to.new.rows.items c.self.inside.index c.push_to.new.index c.self.inside.open c.push_to.new.instances c.args.entry c.self.invariant c.in-Ok.ensures.rows c.in-Ok.ensures.index c.in-Ok.ensures.open

pub invariant_of-self-in-Err : goal.invariant_of-self-in-Err
invariant_of-self-in-Err c = indexed_none _ _ _ c.forget.ensures.rows c.forget.ensures.index c.forget.ensures.open

pub returns-in-Ok : goal.returns-in-Ok
returns-in-Ok c = pushed c.self.inside.rows.items _ c.push_to.new.rows.items c.args.entry c.self.view_is c.requires c.in-Ok.ensures.rows
