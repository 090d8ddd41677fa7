use Rattle.std.proofs.Common.{◌∙◌, ap, sym}
use Rattle.role_steps.specs.Mends.{kept_stamps}
use Rattle.role_steps.specs.Using.{kept_for, on_open_done}
use Rattle.site_node.specs.Views.{view_of}
use Rattle.site_node.proofs.Parts.{users_work}
use Rattle.site_node.proofs.node.SiteNode.take_open_done.Goals as goal

pub returns : goal.returns
returns c = users_work (λ v. on_open_done c.args.self.now.frame (kept_stamps v) c.args.serial c.args.answer v.users) c.args.self.now c.on_open_done.new.self c.args.out.now c.on_open_done.new.out
    (λ image. c.in_ok-on_open_done.ensures (kept_stamps (view_of c.args.self.now image)) (ap (kept_for (kept_stamps (view_of c.args.self.now image))) (sym c.mend_opening.ensures) ∙ c.in_ok-kept.ensures image))
