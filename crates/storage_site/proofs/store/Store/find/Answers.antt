use Rattle.std.proofs.Common.{ℕ, sym, ap, ◌∙◌}
use Rattle.role_steps.specs.Tables.{row}
use Rattle.role_steps.specs.Storage.{instance_key}
use Rattle.keyed_tables.proofs.Placed.{found_latest, absent_latest}
use Rattle.storage_site.proofs.store.Store.find.Goals as goal

pub returns-in-Some : goal.returns-in-Some
returns-in-Some c = rw (← c.self.view_is) (sym (ap (λ (k : ℕ). row instance_key k c.self.inside.rows.items) (sym c.serial_key.ensures) ∙ found_latest instance_key c.serial_key.result c.self.inside.rows.items c.self.inside.index c.in-Some.place c.index.result.now c.self.invariant.0 c.in-Some.ensures.place c.index.ensures))

pub returns-in-None : goal.returns-in-None
returns-in-None c = rw (← c.self.view_is) (sym (ap (λ (k : ℕ). row instance_key k c.self.inside.rows.items) (sym c.serial_key.ensures) ∙ absent_latest instance_key c.serial_key.result c.self.inside.rows.items c.self.inside.index c.self.invariant.0 c.in-None.ensures.place))
