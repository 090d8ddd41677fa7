use Rattle.role_steps.specs.Epochs.{on_joined}
use Rattle.site_node.proofs.Joins.{quiet_works}
use Rattle.site_node.proofs.node.SiteNode.take_joined.Goals as goal

pub returns : goal.returns
returns c = λ out. quiet_works (on_joined c.args.from c.args.id) c.args.self.now c.on_joined.new.self out (λ v. c.quiet_by_parts.ensures.joined c.args.from c.args.id v) c.on_joined.ensures
