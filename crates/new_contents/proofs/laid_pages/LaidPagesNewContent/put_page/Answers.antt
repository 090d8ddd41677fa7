use Rattle.std.proofs.Common.{◌≡◌, ℕ, List, length, Option, ap, subst, sym}
use Rattle.std.specs.Prelude.{OnOk, Ok}
use Rattle.disk_model.specs.Disk.{Goes}
use Rattle.disk_model.specs.declared.disk.DiskFault.{DiskFault}
use Rattle.disk_model.specs.Moments.{TellsMany}
use Rattle.disk_model.proofs.Tells.{tells_none}
use Rattle.gate_switch.specs.Switch.{AreWithin, TornIn, written}
use Rattle.new_contents.specs.Changed.{piece_at}
use Rattle.new_contents.proofs.laid_pages.LaidPagesNewContent.put_page.Goals as goal

pub put_padded-requires-clause-within : goal.put_padded-requires-clause-within
put_padded-requires-clause-within g c = subst (λ (o : Option (List ℕ)). AreWithin (piece_at c.args.at o) (length (g.D.Disk.moment c.args.disk.now).seen)) c.in-Some.ensures.some c.requires

pub returns-in-Some-clause-written : goal.returns-in-Some-clause-written
returns-in-Some-clause-written g c =
    subst (λ (o : Option (List ℕ)). OnOk c.put_padded.result ((g.D.Disk.moment c.put_padded.new.disk).seen ≡ written (g.D.Disk.moment c.args.disk.now).seen (piece_at c.args.at o))) (sym c.in-Some.ensures.some) c.put_padded.ensures.written

pub returns-in-Some-clause-crash : goal.returns-in-Some-clause-crash
returns-in-Some-clause-crash g c =
    subst (λ (o : Option (List ℕ)). Goes (TornIn (piece_at c.args.at o)) (g.D.Disk.moment c.args.disk.now) (g.D.Disk.moment c.put_padded.new.disk)) (sym c.in-Some.ensures.some) c.put_padded.ensures.crash

pub returns-in-Some-clause-tells : goal.returns-in-Some-clause-tells
returns-in-Some-clause-tells g c =
    subst (λ (o : Option (List ℕ)). TellsMany (length (piece_at c.args.at o)) (g.D.Disk.moment c.args.disk.now).passing (g.D.Disk.moment c.put_padded.new.disk).passing c.put_padded.result) (sym c.in-Some.ensures.some) c.put_padded.ensures.tells

pub returns-in-None-clause-written : goal.returns-in-None-clause-written
returns-in-None-clause-written g c = sym (ap (λ (o : Option (List ℕ)). written (g.D.Disk.moment c.args.disk.now).seen (piece_at c.args.at o)) c.in-None.ensures.none)

pub returns-in-None-clause-tells : goal.returns-in-None-clause-tells
returns-in-None-clause-tells g c =
    let p = (g.D.Disk.moment c.args.disk.now).passing in
    subst (λ (o : Option (List ℕ)). TellsMany {T = Unit {0}} {E = DiskFault} (length (piece_at c.args.at o)) p p (Ok tt)) (sym c.in-None.ensures.none) (tells_none p)
