use Rattle.audit_instances.specs.Rows.{used_once}
use Rattle.audit_instances.proofs.Own.{changed_there, changed_nowhere, own_kept}
use Rattle.audit_instances.proofs.instances.Instances.use_once.Goals as goal

pub invariant_of-self : goal.invariant_of-self
invariant_of-self c =
    own_kept c.args.inst c.index_mut-row.result.now c.use_once.new.self c.self.inside.items.items c.as_slice.result.now c.in-Some.place
    c.as_slice.ensures.value c.in-Some.ensures.place c.index_mut-row.ensures.value c.use_once.ensures.kept c.self.invariant

pub invariant_of-self-in-Some : goal.invariant_of-self-in-Some
invariant_of-self-in-Some c =
    own_kept c.args.inst c.index_mut-row.result.now c.use_once.new.self c.self.inside.items.items c.as_slice.result.now c.in-Some.place
    c.as_slice.ensures.value c.in-Some.ensures.place c.index_mut-row.ensures.value c.use_once.ensures.kept c.self.invariant

pub returns-in_ok-use_once-in-Some : goal.returns-in_ok-use_once-in-Some
returns-in_ok-use_once-in-Some c =
    changed_there c.args.inst used_once c.index_mut-row.result.now c.use_once.new.self c.args.self.now c.self.inside.items.items c.as_slice.result.now c.in-Some.place
    c.self.view_is c.as_slice.ensures.value c.in-Some.ensures.place c.index_mut-row.ensures.value c.in_ok-use_once-in-Some.ensures.ok c.self.invariant

pub returns-in-None : goal.returns-in-None
returns-in-None c =
    changed_nowhere c.args.inst used_once c.args.self.now c.self.inside.items.items c.as_slice.result.now c.self.view_is c.as_slice.ensures.value c.in-None.ensures.place c.self.invariant
