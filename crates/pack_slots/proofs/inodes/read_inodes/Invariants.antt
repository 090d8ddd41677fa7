use Rattle.std.proofs.Common.{◌≡◌, ℕ, ◌-◌, ◌≤◌, length, get_or}
use Rattle.std.specs.Prelude.{None, Some, Ok, IfSome}
use Rattle.disk_model.specs.Disk.{Goes, TellsRead}
use Rattle.disk_model.specs.Images.{Same}
use Rattle.disk_model.specs.declared.disk.DiskFault.{DiskFault}
use Rattle.pack_slots.specs.Copies.{copy_of}
use Rattle.pack_slots.specs.Slots.{IsGoodInode}
use Rattle.pack_slots.specs.Losing.{AreSlotsFound}
use Rattle.pack_slots.specs.Tables.{IsUnread}
use Rattle.pack_slots.proofs.inodes.read_inodes.Given as goal

abbrev pub invariant-loop-i : goal.invariant-loop-i
invariant-loop-i g l = record {
  copies : length l.inodes.copies.items ≡ l.i;
  losing : length l.inodes.losing.items ≡ l.i;
  unread : (i : ℕ) → IfSome (get_or l.inodes.copies.items i None) IsUnread;
  found : l.inodes.bad ≡ None → AreSlotsFound l.base l.i (g.D.Disk.moment l.initial.disk).seen l.inodes.copies.items l.inodes.losing.items;
  before : (bad : ℕ) → l.inodes.bad ≡ Some bad → (1 ≤ bad) × (bad ≤ l.i) × (IsGoodInode l.base bad (g.D.Disk.moment l.initial.disk).seen → ⊥)
      × AreSlotsFound l.base (bad - 1) (g.D.Disk.moment l.initial.disk).seen l.inodes.copies.items l.inodes.losing.items × ((ino : ℕ) → bad ≤ ino → copy_of l.inodes.copies.items ino ≡ None);
  seen : (g.D.Disk.moment l.disk).seen ≡ (g.D.Disk.moment l.initial.disk).seen;
  goes : Goes Same (g.D.Disk.moment l.initial.disk) (g.D.Disk.moment l.disk);
  cause : (g.D.Disk.moment l.initial.disk).faults ≤ (g.D.Disk.moment l.disk).faults;
  tells : TellsRead {T = Unit {0}} {E = DiskFault} (g.D.Disk.moment l.initial.disk).passing (g.D.Disk.moment l.disk).passing (Ok tt);
  how : (g.D.Disk.moment l.disk).how ≡ (g.D.Disk.moment l.initial.disk).how;
}
