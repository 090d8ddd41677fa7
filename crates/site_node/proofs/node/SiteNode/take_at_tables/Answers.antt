use Rattle.site_parts.specs.of_site_tables.Tables.{tables_take}
use Rattle.site_node.proofs.Parts.{tables_work}
use Rattle.site_node.proofs.node.SiteNode.take_at_tables.Goals as goal

pub returns : goal.returns
returns c = tables_work (λ v. tables_take c.args.self.now.frame c.args.from c.args.body v.tables) c.args.self.now c.take.new.tables c.args.out.now c.take.new.out (λ image. c.in_ok-take.ensures)
