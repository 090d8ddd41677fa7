use Rattle.std.proofs.Common.{◌≢◌, refl}
use Rattle.site_parts.specs.declared.fault.NodeFault.TheVariants.{NoMemory, NoNumber}
use Rattle.site_parts.proofs.Cuts.{failed_still, untouched}
use Rattle.site_parts.proofs.Numbers.{if_err, memory_numbered}
use Rattle.site_parts.proofs.Fits.{memory_fit}
use Rattle.site_parts.proofs.storing.take_read_held.Goals as goal

pub returns-clause-gives : goal.returns-clause-gives
returns-clause-gives g c = c.in_ok-on_read_held.ensures (g.D.Disk.moment c.args._disk.now).seen c.requires.shown

pub returns-clause-disk : goal.returns-clause-disk
returns-clause-disk g c = untouched _ c.args.packs.now (g.D.Disk.moment c.args._disk.now) c.args.out.now c.on_read_held.new.out tt refl c.requires.settled (g.met.D.Disk.only_now c.args._disk.now)

pub returns-in_err-on_read_held-clause-disk : goal.returns-in_err-on_read_held-clause-disk
returns-in_err-on_read_held-clause-disk g c = failed_still _ c.args.packs.now (g.D.Disk.moment c.args._disk.now) c.args.out.now c.on_read_held.new.out c.from_residual.result NoMemory c.from_residual.ensures.1 tt c.requires.settled (g.met.D.Disk.only_now c.args._disk.now)

pub returns-in_err-on_read_held-clause-numbered : goal.returns-in_err-on_read_held-clause-numbered
returns-in_err-on_read_held-clause-numbered g c = if_err c.from_residual.result NoMemory (λ f. f ≢ NoNumber) c.from_residual.ensures.1 memory_numbered

pub returns-in_err-on_read_held-clause-fit : goal.returns-in_err-on_read_held-clause-fit
returns-in_err-on_read_held-clause-fit g c = memory_fit c.from_residual.result c.from_residual.ensures.1
