use Rattle.site_packs.specs.Packs.{copy_at}
use Rattle.site_node.proofs.Parts.{stamped_none, stamped_some}
use Rattle.site_node.proofs.node.SiteNode.stamp_held.Goals as goal

pub returns-in-Some : goal.returns-in-Some
returns-in-Some c = λ image h. stamped_some (copy_at c.args.self.now.packs image c.args.file) c.in-Some.copy (c.in-Some.ensures image h)

pub returns-in-None : goal.returns-in-None
returns-in-None c = λ image h. stamped_none (copy_at c.args.self.now.packs image c.args.file) (c.in-None.ensures image h)
