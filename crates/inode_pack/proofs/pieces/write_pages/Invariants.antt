use Rattle.std.proofs.Common.{◌≡◌, ◌≤◌, length}
use Rattle.std.specs.Prelude.{Ok}
use Rattle.disk_model.specs.Disk.{Goes}
use Rattle.disk_model.specs.declared.disk.DiskFault.{DiskFault}
use Rattle.file_content.specs.Pages.{pages_of}
use Rattle.disk_model.specs.Moments.{TellsMany}
use Rattle.gate_switch.specs.Switch.{TornIn, written}
use Rattle.pack_slots.specs.Copies.{numbers_in}
use Rattle.inode_pack.specs.PagePieces.{page_pieces}
use Rattle.inode_pack.proofs.pieces.write_pages.Given as goal

abbrev pub invariant-loop-i : goal.invariant-loop-i
invariant-loop-i g l = record {
  seen : (g.D.Disk.moment l.disk).seen ≡ written (g.D.Disk.moment l.initial.disk).seen (page_pieces l.base (numbers_in l.made) (g.C.NewContent.working l.content) l.i);
  long : length (g.D.Disk.moment l.disk).seen ≡ length (g.D.Disk.moment l.initial.disk).seen;
  goes : Goes (TornIn (page_pieces l.base (numbers_in l.made) (g.C.NewContent.working l.content) (pages_of (g.C.NewContent.working l.content).size))) (g.D.Disk.moment l.initial.disk) (g.D.Disk.moment l.disk);
  cause : (g.D.Disk.moment l.initial.disk).faults ≤ (g.D.Disk.moment l.disk).faults;
  tells : TellsMany {T = Unit {0}} {E = DiskFault} (length (page_pieces l.base (numbers_in l.made) (g.C.NewContent.working l.content) l.i)) (g.D.Disk.moment l.initial.disk).passing (g.D.Disk.moment l.disk).passing (Ok tt);
  how : (g.D.Disk.moment l.disk).how ≡ (g.D.Disk.moment l.initial.disk).how;
}
