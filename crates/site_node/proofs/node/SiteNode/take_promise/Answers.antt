use Rattle.role_steps.specs.Epochs.{on_promise}
use Rattle.site_node.proofs.Joins.{quiet_works}
use Rattle.site_node.proofs.node.SiteNode.take_promise.Goals as goal

pub returns : goal.returns
returns c = λ out. quiet_works (on_promise c.args.header.from c.args.header.from_boot c.args.header.id c.args.reach) c.args.self.now c.on_promise.new.self out (λ v. c.quiet_by_parts.ensures.promise c.args.header.from c.args.header.from_boot c.args.header.id c.args.reach v) c.on_promise.ensures
