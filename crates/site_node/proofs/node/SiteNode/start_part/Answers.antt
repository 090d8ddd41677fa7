use Rattle.role_steps.specs.Epochs.{starts_part}
use Rattle.merge_protocol.specs.Parts.{epoch_named}
use Rattle.site_node.specs.Views.{view_of}
use Rattle.site_node.proofs.Leaves.{leaves_as}
use Rattle.site_node.proofs.node.SiteNode.start_part.Goals as goal

pub returns-clause-works : goal.returns-clause-works
returns-clause-works c = leaves_as (λ m. starts_part m c.args.links.now) c.site-me.result c.in_ok-left.left (epoch_named c.args.self.now.epochs.epoch) c.args.self.now c.leave_rest.new.self c.start_part.new.self c.args.out.now c.start_part.new.out c.leave_rest.new.out
    c.site-me.ensures (λ image. c.leaving_by_parts.ensures.part c.site-me.result c.args.links.now (view_of c.args.self.now image)) c.in_ok-left.ensures.left c.in_ok-left.ensures.view c.in_ok-left.ensures.packets c.in_ok-left.ensures.records c.in_ok-leave_rest.ensures
