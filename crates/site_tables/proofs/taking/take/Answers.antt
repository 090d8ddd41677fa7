use Rattle.site_tables.proofs.Others.{others_quiet}
use Rattle.site_tables.proofs.taking.take.Goals as goal

pub returns : goal.returns
returns c = others_quiet c.args.frame.now c.args.from c.args.body c.args.tables.now c.args.out.now c.in_default.not-Report c.in_default.not-Open c.in_default.not-Opened c.in_default.not-Closed c.in_default.not-Look c.in_default.not-Have
