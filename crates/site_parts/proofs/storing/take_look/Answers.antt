use Rattle.site_parts.proofs.Cuts.{reads_ill, reads_well}
use Rattle.site_parts.proofs.Numbers.{read_numbered}
use Rattle.site_parts.proofs.Fits.{refused_reading}
use Rattle.site_parts.proofs.storing.take_look.Goals as goal

pub returns-in-Ok-clause-disk : goal.returns-in-Ok-clause-disk
returns-in-Ok-clause-disk g c = reads_well g.D.Disk.moment {T = Unit {0}} {S = Unit {0}} c.args.packs.now c.args.disk.now c.on_look_ss.new.disk c.args.out.now c.on_look_ss.new.out tt tt c.requires.settled (g.met.D.Disk.only_now c.args.disk.now) c.in-Ok.ensures.disk

pub returns-in-Err-clause-disk : goal.returns-in-Err-clause-disk
returns-in-Err-clause-disk g c = reads_ill g.D.Disk.moment {T = Unit {0}} {S = Unit {0}} c.args.packs.now c.args.disk.now c.on_look_ss.new.disk c.args.out.now c.on_look_ss.new.out c.reading.result c.in-Err.fault c.reading.ensures c.requires.settled (g.met.D.Disk.only_now c.args.disk.now) c.in-Err.ensures.disk

pub returns-in-Err-clause-numbered : goal.returns-in-Err-clause-numbered
returns-in-Err-clause-numbered g c = read_numbered c.reading.result c.in-Err.fault c.reading.ensures

pub returns-in-Err-clause-fit : goal.returns-in-Err-clause-fit
returns-in-Err-clause-fit g c so = refused_reading {S = Unit {0}} (Unit {0}) c.reading.result c.in-Err.fault c.reading.ensures (λ is u. c.in-Err.ensures.fit is) so tt
