use Rattle.std.proofs.Common.{◌≡◌, ◌≤◌, ◌*◌, ◌++◌, take}
use Rattle.std.specs.Prelude.{Ok}
use Rattle.locus_ids.specs.Sizes.{page_bytes}
use Rattle.disk_model.specs.Disk.{Goes, TellsRead}
use Rattle.disk_model.specs.Images.{Same}
use Rattle.disk_model.specs.declared.disk.DiskFault.{DiskFault}
use Rattle.pack_slots.specs.of_inode_switch.View.{view}
use Rattle.inode_pack.specs.Pack.{Stands}
use Rattle.inode_pack.specs.Committing.{content_of}
use Rattle.site_packs.proofs.pages.read_content.Given as goal

abbrev pub invariant-loop-i : goal.invariant-loop-i
invariant-loop-i g l = record {
  out : l.out ≡ l.initial.out ++ take (page_bytes * l.i) (content_of (view (g.D.Disk.moment l.initial.disk).seen l.pack.base l.ino));
  stands : Stands l.pack (g.D.Disk.moment l.disk);
  seen : (g.D.Disk.moment l.disk).seen ≡ (g.D.Disk.moment l.initial.disk).seen;
  goes : Goes Same (g.D.Disk.moment l.initial.disk) (g.D.Disk.moment l.disk);
  cause : (g.D.Disk.moment l.initial.disk).faults ≤ (g.D.Disk.moment l.disk).faults;
  tells : TellsRead {T = Unit {0}} {E = DiskFault} (g.D.Disk.moment l.initial.disk).passing (g.D.Disk.moment l.disk).passing (Ok tt);
  how : (g.D.Disk.moment l.disk).how ≡ (g.D.Disk.moment l.initial.disk).how;
}
