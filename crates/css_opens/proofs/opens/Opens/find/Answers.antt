use Rattle.css_opens.proofs.OpenRows.{found_open, absent_open}
use Rattle.css_opens.proofs.opens.Opens.find.Goals as goal

pub returns-in-Some : goal.returns-in-Some
returns-in-Some c = found_open c.serial_key.result _ c.in-Some.place c.self.inside.rows.items c.args.self.now c.self.inside.index c.self.inside.open c.index.result.now c.self.invariant c.self.view_is c.serial_key.ensures c.in-Some.ensures.place c.index.ensures

pub returns-in-None : goal.returns-in-None
returns-in-None c = absent_open c.serial_key.result _ c.self.inside.rows.items c.args.self.now c.self.inside.index c.self.inside.open c.self.invariant c.self.view_is c.serial_key.ensures c.in-None.ensures.place
