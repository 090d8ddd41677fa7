use Rattle.std.proofs.Common.{◌++◌, ◌∙◌, ap, refl}
use Rattle.std.specs.List.{flat_map}
use Rattle.role_steps.specs.Epochs.{report_packets}
use Rattle.site_node.specs.Views.{view_of}
use Rattle.site_node.proofs.node.SiteNode.report_all.Goals as goal

pub returns-clause-packets : goal.returns-clause-packets
returns-clause-packets c = λ image h. c.in_ok-report_groups.ensures.packets (view_of c.args.self.now image) image h refl ∙ ap (λ gs. c.args.out.now.packets ++ flat_map (report_packets c.args.self.now.frame (view_of c.args.self.now image)) gs) c.reports.ensures
