use Rattle.std.proofs.Common.{sym}
use Rattle.site_node.specs.Views.{view_of}
use Rattle.site_node.proofs.node.SiteNode.is_dropped.Goals as goal

pub returns : goal.returns
returns c = λ image. c.is_dropped.ensures (view_of c.args.self.now image) (sym c.boot.ensures) (sym c.epoch.ensures)
