use Rattle.std.proofs.Common.{◌<◌, length, ap, arith}
use Rattle.promises.specs.Past.{Epoch}
use Rattle.audit_epochs.specs.Changes.{publishes}
use Rattle.audit_epochs.proofs.Placing.{home_changed, home_unchanged, home_in_rows, keys_stay}
use Rattle.audit_epochs.proofs.epochs.Epochs.commit.Goals as goal

pub index_mut-row-requires : goal.index_mut-row-requires
index_mut-row-requires c =
    let l : c.in-Some.place < length c.self.inside.rows.items = home_in_rows c.args.home c.args.self.now c.self.inside.rows.items c.in-Some.place c.self.view_is c.in-Some.ensures in
    omega (arith, l)

pub invariant_of-self : goal.invariant_of-self
invariant_of-self c = (keys_stay c.self.inside.places c.self.inside.rows.items c.in-Some.place c.index_mut-row.result.now c.commit.new.self c.self.invariant.0 c.index_mut-row.ensures.value (ap (λ (t : Epoch). t.id) c.commit.ensures), c.self.invariant.1)

pub returns-in-Some : goal.returns-in-Some
returns-in-Some c =
    home_changed c.args.home (publishes c.args.file c.args.site c.args.stamp) c.args.self.now c.self.inside.rows.items c.self.inside.places c.in-Some.place c.index_mut-row.result.now c.commit.new.self
    c.self.view_is c.self.invariant.0 c.self.invariant.1 c.in-Some.ensures c.index_mut-row.ensures.value c.commit.ensures

pub returns-in_default : goal.returns-in_default
returns-in_default c = home_unchanged c.args.home (publishes c.args.file c.args.site c.args.stamp) c.args.self.now c.in_default.ensures
