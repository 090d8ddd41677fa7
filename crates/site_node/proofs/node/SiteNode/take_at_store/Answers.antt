use Rattle.site_node.proofs.Parts.{store_taken}
use Rattle.site_node.proofs.node.SiteNode.take_at_store.Goals as goal

pub returns-clause-step : goal.returns-clause-step
returns-clause-step g c = store_taken c.take_at_store.result c.args.from c.args.body c.args.self.now c.take_at_store.new.store c.take_at_store.new.packs (g.D.Disk.moment c.args.disk.now) (g.D.Disk.moment c.take_at_store.new.disk) c.args.out.now c.take_at_store.new.out c.take_at_store.ensures.gives c.take_at_store.ensures.stands c.take_at_store.ensures.places

pub returns-clause-disk : goal.returns-clause-disk
returns-clause-disk g c = c.take_at_store.ensures.disk

pub returns-clause-unfit : goal.returns-clause-unfit
returns-clause-unfit g c = c.take_at_store.ensures.unfit
