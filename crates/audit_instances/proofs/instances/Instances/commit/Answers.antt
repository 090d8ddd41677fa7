use Rattle.std.proofs.Common.{ap, ◌∙◌, refl, arith, length}
use Rattle.past_laws.specs.of_promises.Past.{is_writer}
use Rattle.past_laws.specs.of_promises.After.{change}
use Rattle.audit_instances.specs.Rows.{commits}
use Rattle.audit_instances.proofs.Own.{own_changed, written_back}
use Rattle.audit_instances.proofs.instances.Instances.commit.Goals as goal

pub invariant_of-self : goal.invariant_of-self
invariant_of-self c =
    let same = ap length c.as_mut_slice.ensures.value in
    let kept = c.commit_all.auto.rows in
    let long = c.as_mut_slice.ensures.len in
    own_changed (is_writer c.args.file c.args.site) (commits c.args.stamp) (λ x. refl) c.self.inside.items.items _
    (written_back c.commit_all.new.rows c.self.inside.items.items c.self.inside.items.len (omega (arith, same, kept)) (omega (arith, same, kept, long))
    ∙ (c.commit_all.ensures ∙ ap (change (is_writer c.args.file c.args.site) (commits c.args.stamp)) c.as_mut_slice.ensures.value))
    c.self.invariant
