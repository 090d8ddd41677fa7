use Rattle.std.proofs.Common.{◌<◌, length, ap, arith}
use Rattle.promises.specs.Past.{Epoch}
use Rattle.audit_epochs.specs.Changes.{names}
use Rattle.audit_epochs.proofs.Placing.{changed_there, changed_nowhere, in_rows, keys_stay}
use Rattle.audit_epochs.proofs.epochs.Epochs.name.Goals as goal

pub index_mut-row-requires : goal.index_mut-row-requires
index_mut-row-requires c =
    let l : c.in-Some.place < length c.self.inside.rows.items = in_rows c.args.epoch c.args.self.now c.self.inside.rows.items c.in-Some.place c.self.view_is c.in-Some.ensures in
    omega (arith, l)

pub invariant_of-self : goal.invariant_of-self
invariant_of-self c = (keys_stay c.self.inside.places c.self.inside.rows.items c.in-Some.place c.index_mut-row.result.now c.name.new.self c.self.invariant.0 c.index_mut-row.ensures.value (ap (λ (t : Epoch). t.id) c.name.ensures), c.self.invariant.1)

pub returns-in-Some : goal.returns-in-Some
returns-in-Some c =
    changed_there c.args.epoch (names c.args.inst) c.args.self.now c.self.inside.rows.items c.self.inside.places c.in-Some.place c.index_mut-row.result.now c.name.new.self
    c.self.view_is c.self.invariant.0 c.self.invariant.1 c.in-Some.ensures c.index_mut-row.ensures.value c.name.ensures

pub returns-in_default : goal.returns-in_default
returns-in_default c = changed_nowhere c.args.epoch (names c.args.inst) c.args.self.now c.in_default.ensures
