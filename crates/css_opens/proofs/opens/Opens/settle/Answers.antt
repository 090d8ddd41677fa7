use Rattle.css_opens.proofs.OpenRows.{open_at, within_rows, settled_indexed, indexed_none, settled_table, settled_nothing}
use Rattle.css_opens.proofs.opens.Opens.settle.Goals as goal

pub returns-in_default : goal.returns-in_default
returns-in_default c = settled_nothing c.args.settling c.serial_key.result _ c.self.inside.rows.items c.args.self.now c.self.inside.index c.self.inside.open c.self.invariant c.self.view_is c.serial_key.ensures c.in_default.ensures.place

pub settle_at-requires-clause-open : goal.settle_at-requires-clause-open
settle_at-requires-clause-open c = open_at c.serial_key.result _ c.in-Some.place c.self.inside.rows.items c.args.self.now c.self.inside.index c.self.inside.open c.self.invariant c.self.view_is c.serial_key.ensures c.in-Some.ensures.place c.requires

pub invariant_of-self : goal.invariant_of-self
invariant_of-self c =
    settled_indexed c.args.settling c.in-Some.place c.self.inside.rows.items c.settle_at.new.rows.items c.self.inside.index c.self.inside.open c.settle_at.new.instances c.self.invariant
    (within_rows c.serial_key.result c.in-Some.place c.self.inside.rows.items c.self.inside.index c.self.inside.open c.self.invariant c.in-Some.ensures.place)
    (open_at c.serial_key.result _ c.in-Some.place c.self.inside.rows.items c.args.self.now c.self.inside.index c.self.inside.open c.self.invariant c.self.view_is c.serial_key.ensures c.in-Some.ensures.place c.requires)
    c.in-Ok.ensures.rows c.in-Ok.ensures.open

pub invariant_of-self-in-Err : goal.invariant_of-self-in-Err
invariant_of-self-in-Err c = indexed_none _ _ _ c.forget.ensures.rows c.forget.ensures.index c.forget.ensures.open

pub returns-in-Ok : goal.returns-in-Ok
returns-in-Ok c =
    settled_table c.args.settling c.serial_key.result _ c.in-Some.place c.self.inside.rows.items c.args.self.now c.settle_at.new.rows.items c.self.inside.index c.self.inside.open c.self.invariant c.self.view_is c.serial_key.ensures c.in-Some.ensures.place
    (within_rows c.serial_key.result c.in-Some.place c.self.inside.rows.items c.self.inside.index c.self.inside.open c.self.invariant c.in-Some.ensures.place)
    c.in-Ok.ensures.rows
