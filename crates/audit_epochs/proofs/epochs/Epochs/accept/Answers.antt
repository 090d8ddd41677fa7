use Rattle.std.proofs.Common.{◌<◌, length, arith}
use Rattle.audit_epochs.specs.Changes.{accepts}
use Rattle.audit_epochs.proofs.Placing.{home_changed, home_unchanged, home_in_rows, keys_stay}
use Rattle.audit_epochs.proofs.epochs.Epochs.accept.Goals as goal

pub index_mut-row-requires : goal.index_mut-row-requires
index_mut-row-requires c =
    let l : c.in-Some.place < length c.self.inside.rows.items = home_in_rows c.args.home c.args.self.now c.self.inside.rows.items c.in-Some.place c.self.view_is c.in-Some.ensures in
    omega (arith, l)

pub invariant_of-self : goal.invariant_of-self
invariant_of-self c = (keys_stay c.self.inside.places c.self.inside.rows.items c.in-Some.place c.index_mut-row.result.now c.accept.new.self c.self.invariant.0 c.index_mut-row.ensures.value c.accept.ensures.kept, c.self.invariant.1)

pub invariant_of-self-in-Some : goal.invariant_of-self-in-Some
invariant_of-self-in-Some c = (keys_stay c.self.inside.places c.self.inside.rows.items c.in-Some.place c.index_mut-row.result.now c.accept.new.self c.self.invariant.0 c.index_mut-row.ensures.value c.accept.ensures.kept, c.self.invariant.1)

pub returns-in_ok-accept-in-Some : goal.returns-in_ok-accept-in-Some
returns-in_ok-accept-in-Some c =
    home_changed c.args.home (accepts c.args.begins.now c.args.words.now) c.args.self.now c.self.inside.rows.items c.self.inside.places c.in-Some.place c.index_mut-row.result.now c.accept.new.self
    c.self.view_is c.self.invariant.0 c.self.invariant.1 c.in-Some.ensures c.index_mut-row.ensures.value c.in_ok-accept-in-Some.ensures.ok

pub returns-in-None : goal.returns-in-None
returns-in-None c = home_unchanged c.args.home (accepts c.args.begins.now c.args.words.now) c.args.self.now c.in-None.ensures
