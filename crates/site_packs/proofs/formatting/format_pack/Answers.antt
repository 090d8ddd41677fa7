use Rattle.std.proofs.Common.{arith}
use Rattle.site_packs.proofs.NewPacks.{root_alone}
use Rattle.site_packs.proofs.formatting.format_pack.Goals as goal

pub returns-clause-made : goal.returns-clause-made
returns-clause-made g c =
    let e = c.in_ok-format.ensures in
    let new = (g.D.Disk.moment c.format.new.disk).seen in
    let long = e.outside.long in
    let area = c.requires.area in
    root_alone c.args.base c.args.group c.args.site c.args.set new (omega arith) c.requires.stored (omega arith) e.sound e.copies
