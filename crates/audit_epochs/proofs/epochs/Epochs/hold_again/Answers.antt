use Rattle.std.proofs.Common.{◌<◌, length, arith}
use Rattle.audit_epochs.specs.Changes.{holds_again}
use Rattle.audit_epochs.proofs.Placing.{changed_there, changed_nowhere, in_rows, keys_stay}
use Rattle.audit_epochs.proofs.epochs.Epochs.hold_again.Goals as goal

pub index_mut-row-requires : goal.index_mut-row-requires
index_mut-row-requires c =
    let l : c.in-Some.place < length c.self.inside.rows.items = in_rows c.args.epoch c.args.self.now c.self.inside.rows.items c.in-Some.place c.self.view_is c.in-Some.ensures in
    omega (arith, l)

pub invariant_of-self : goal.invariant_of-self
invariant_of-self c = (keys_stay c.self.inside.places c.self.inside.rows.items c.in-Some.place c.index_mut-row.result.now c.hold_again.new.self c.self.invariant.0 c.index_mut-row.ensures.value c.hold_again.ensures.kept, c.self.invariant.1)

pub invariant_of-self-in-Some : goal.invariant_of-self-in-Some
invariant_of-self-in-Some c = (keys_stay c.self.inside.places c.self.inside.rows.items c.in-Some.place c.index_mut-row.result.now c.hold_again.new.self c.self.invariant.0 c.index_mut-row.ensures.value c.hold_again.ensures.kept, c.self.invariant.1)

pub returns-in_ok-hold_again-in-Some : goal.returns-in_ok-hold_again-in-Some
returns-in_ok-hold_again-in-Some c =
    changed_there c.args.epoch (holds_again c.args.inst) c.args.self.now c.self.inside.rows.items c.self.inside.places c.in-Some.place c.index_mut-row.result.now c.hold_again.new.self
    c.self.view_is c.self.invariant.0 c.self.invariant.1 c.in-Some.ensures c.index_mut-row.ensures.value c.in_ok-hold_again-in-Some.ensures.ok

pub returns-in-None : goal.returns-in-None
returns-in-None c = changed_nowhere c.args.epoch (holds_again c.args.inst) c.args.self.now c.in-None.ensures
