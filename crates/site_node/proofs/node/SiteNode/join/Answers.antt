use Rattle.site_node.proofs.Joins.{joins_work}
use Rattle.site_node.proofs.node.SiteNode.join.Goals as goal

pub returns : goal.returns
returns c = joins_work c.args.epoch c.args.self.now c.enter.new.frame c.join_epoch.new.epochs c.start_tables.new.tables c.boot.result c.args.out.now c.join_epoch.new.out c.report_all.new.out
    c.boot.ensures c.enter.ensures c.in_ok-join_epoch.ensures.view c.in_ok-start_tables.ensures c.in_ok-join_epoch.ensures.packets c.in_ok-join_epoch.ensures.records c.in_ok-report_all.ensures.packets c.in_ok-report_all.ensures.records
