use Rattle.std.proofs.Common.{◌<◌, length, sym, ap, ◌∙◌, arith}
use Rattle.audit_instances.specs.Rows.{no_work}
use Rattle.audit_epochs.specs.Changes.{works}
use Rattle.audit_epochs.specs.Places.{work_of}
use Rattle.audit_epochs.proofs.Placing.{changed_there, changed_nowhere, found_at, found_nowhere, in_rows, keys_stay}
use Rattle.audit_epochs.proofs.epochs.Epochs.take_work.Goals as goal

pub index_mut-row-requires : goal.index_mut-row-requires
index_mut-row-requires c =
    let l : c.in-Some.place < length c.self.inside.rows.items = in_rows c.args.epoch c.args.self.now c.self.inside.rows.items c.in-Some.place c.self.view_is c.in-Some.ensures in
    omega (arith, l)

pub invariant_of-self : goal.invariant_of-self
invariant_of-self c = (keys_stay c.self.inside.places c.self.inside.rows.items c.in-Some.place c.index_mut-row.result.now c.take_work.new.self c.self.invariant.0 c.index_mut-row.ensures.value c.take_work.ensures.kept, c.self.invariant.1)

pub invariant_of-self-in-Some : goal.invariant_of-self-in-Some
invariant_of-self-in-Some c = (keys_stay c.self.inside.places c.self.inside.rows.items c.in-Some.place c.index_mut-row.result.now c.take_work.new.self c.self.invariant.0 c.index_mut-row.ensures.value c.take_work.ensures.kept, c.self.invariant.1)

pub returns-in_ok-work-in-Some-clause-work : goal.returns-in_ok-work-in-Some-clause-work
returns-in_ok-work-in-Some-clause-work c =
    c.in_ok-work-in-Some.ensures.work
    ∙ ap (work_of c.args.inst) (sym (found_at c.args.epoch c.args.self.now c.self.inside.rows.items c.in-Some.place c.index_mut-row.result.now c.self.view_is c.in-Some.ensures c.index_mut-row.ensures.value))

pub returns-in_ok-work-in-Some-clause-left : goal.returns-in_ok-work-in-Some-clause-left
returns-in_ok-work-in-Some-clause-left c =
    changed_there c.args.epoch (works c.args.inst no_work) c.args.self.now c.self.inside.rows.items c.self.inside.places c.in-Some.place c.index_mut-row.result.now c.take_work.new.self
    c.self.view_is c.self.invariant.0 c.self.invariant.1 c.in-Some.ensures c.index_mut-row.ensures.value c.in_ok-work-in-Some.ensures.left

pub returns-in-None-clause-work : goal.returns-in-None-clause-work
returns-in-None-clause-work c = ap (work_of c.args.inst) (sym (found_nowhere c.args.epoch c.args.self.now c.in-None.ensures))

pub returns-in-None-clause-left : goal.returns-in-None-clause-left
returns-in-None-clause-left c = changed_nowhere c.args.epoch (works c.args.inst no_work) c.args.self.now c.in-None.ensures
