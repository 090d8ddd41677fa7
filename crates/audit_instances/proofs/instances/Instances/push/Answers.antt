use Rattle.std.proofs.Common.{ap, ◌∙◌}
use Rattle.std.specs.List.{list_any}
use Rattle.past_laws.specs.of_promises.Past.{is_named}
use Rattle.audit_instances.proofs.Own.{own_pushed}
use Rattle.audit_instances.proofs.instances.Instances.push.Goals as goal

pub invariant_of-self-2 : goal.invariant_of-self-2
invariant_of-self-2 c =
    own_pushed c.self.inside.items.items c.push.new.self.items c.args.row c.in_ok-push.ensures.items
    (ap (list_any (is_named c.args.row.grant.inst)) c.self.view_is ∙ c.requires) c.self.invariant
