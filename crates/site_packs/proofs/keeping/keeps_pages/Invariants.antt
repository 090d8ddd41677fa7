use Rattle.std.proofs.Common.{◌≡◌, ◌≤◌, ◌<◌, ℕ, false}
use Rattle.std.specs.Prelude.{Ok}
use Rattle.disk_model.specs.Disk.{Goes, TellsRead}
use Rattle.disk_model.specs.Images.{Same}
use Rattle.disk_model.specs.declared.disk.DiskFault.{DiskFault}
use Rattle.pack_slots.specs.of_inode_switch.View.{view}
use Rattle.inode_pack.specs.Pack.{Stands}
use Rattle.inode_pack.specs.of_new_contents.Marked.{is_marked}
use Rattle.inode_pack.specs.Committing.{content_of}
use Rattle.pack_layout.specs.of_stored_versions.Changes.{IsKept}
use Rattle.site_packs.proofs.keeping.keeps_pages.Given as goal

abbrev pub invariant-loop-page : goal.invariant-loop-page
invariant-loop-page g l = record {
  kept : (k : ℕ) → k < l.page → is_marked l.marks k ≡ false → IsKept (content_of (view (g.D.Disk.moment l.initial.disk).seen l.pack.base l.ino)) l.content k;
  stands : Stands l.pack (g.D.Disk.moment l.disk);
  seen : (g.D.Disk.moment l.disk).seen ≡ (g.D.Disk.moment l.initial.disk).seen;
  goes : Goes Same (g.D.Disk.moment l.initial.disk) (g.D.Disk.moment l.disk);
  cause : (g.D.Disk.moment l.initial.disk).faults ≤ (g.D.Disk.moment l.disk).faults;
  tells : TellsRead {T = Unit {0}} {E = DiskFault} (g.D.Disk.moment l.initial.disk).passing (g.D.Disk.moment l.disk).passing (Ok tt);
  how : (g.D.Disk.moment l.disk).how ≡ (g.D.Disk.moment l.initial.disk).how;
}
