use Rattle.role_steps.specs.Epochs.{on_refuse}
use Rattle.merge_protocol.specs.Parts.{left_at_refuse}
use Rattle.site_node.specs.Views.{view_of}
use Rattle.site_node.proofs.Leaves.{leaves_as}
use Rattle.site_node.proofs.node.SiteNode.take_refuse.Goals as goal

pub returns-clause-works : goal.returns-clause-works
returns-clause-works c = leaves_as (λ m. on_refuse m c.args.links.now c.args.id c.args.promised) c.site-me.result c.in_ok-left.left (left_at_refuse c.args.id c.args.self.now.epochs) c.args.self.now c.leave_rest.new.self c.on_refuse.new.self c.args.out.now c.on_refuse.new.out c.leave_rest.new.out
    c.site-me.ensures (λ image. c.leaving_by_parts.ensures.refuse c.site-me.result c.args.links.now c.args.id c.args.promised (view_of c.args.self.now image)) c.in_ok-left.ensures.left c.in_ok-left.ensures.view c.in_ok-left.ensures.packets c.in_ok-left.ensures.records c.in_ok-leave_rest.ensures
