use Rattle.std.proofs.Common.{ℕ, [], Option, Some, sym, subst}
use Rattle.locus_ids.specs.declared.ids.EpochId.{EpochId}
use Rattle.merge_protocol.specs.Parts.{rest_leaves}
use Rattle.site_node.specs.Views.{Works}
use Rattle.site_node.specs.declared.node.SiteNode.{SiteNode}
use Rattle.site_node.proofs.Leaves.{rest_left}
use Rattle.site_node.proofs.node.SiteNode.leave_rest.Goals as goal

pub returns : goal.returns
returns c = subst (λ (o : Option EpochId). Works (rest_leaves c.args.self.now.frame.me o) c.args.self.now c.drop_rest.new.self c.args.out.now c.leave.new.out) (sym c.in-Some.is)
    (subst (λ (n : SiteNode). Works (rest_leaves c.args.self.now.frame.me (Some c.in-Some.epoch)) c.args.self.now n c.args.out.now c.leave.new.out) (sym c.drop_rest.ensures)
    (subst (λ (m : ℕ). Works (rest_leaves m (Some c.in-Some.epoch)) c.args.self.now (record c.args.self.now { tables = []; store = record { instances = []; steps = [] }; users = c.leave.new.self; pulls = [] }) c.args.out.now c.leave.new.out) c.site-me.ensures
    (rest_left c.site-me.result c.boot-boot.result c.in-Some.epoch c.args.self.now c.leave.new.self c.args.out.now c.leave.new.out c.boot-boot.ensures c.in_ok-leave.ensures.view c.in_ok-leave.ensures.packets c.in_ok-leave.ensures.records)))
