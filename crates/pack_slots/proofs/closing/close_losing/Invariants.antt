use Rattle.std.proofs.Common.{◌≡◌, ◌*◌, ◌≤◌, length}
use Rattle.std.specs.Prelude.{Ok}
use Rattle.disk_model.specs.Disk.{IsSettled}
use Rattle.disk_model.specs.declared.disk.DiskFault.{DiskFault}
use Rattle.disk_model.specs.Moments.{LeavesOnly, TellsMany}
use Rattle.pack_slots.specs.Mounting.{losing_gates}
use Rattle.pack_slots.specs.Losing.{KeepsCopies}
use Rattle.pack_slots.proofs.Gates.{AreClosed}
use Rattle.pack_slots.proofs.closing.close_losing.Given as goal

abbrev pub invariant-loop-i : goal.invariant-loop-i
invariant-loop-i g l = record {
  settled : IsSettled (g.D.Disk.moment l.disk);
  long : length (g.D.Disk.moment l.disk).seen ≡ length (g.D.Disk.moment l.initial.disk).seen;
  closed : AreClosed l.base l.i (g.D.Disk.moment l.disk).seen l.copies l.losing;
  kept : KeepsCopies l.base l.copies (g.D.Disk.moment l.initial.disk).seen (g.D.Disk.moment l.disk).seen;
  leaves : LeavesOnly (g.D.Disk.moment l.initial.disk) (g.D.Disk.moment l.disk) (KeepsCopies l.base l.copies (g.D.Disk.moment l.initial.disk).seen);
  cause : (g.D.Disk.moment l.initial.disk).faults ≤ (g.D.Disk.moment l.disk).faults;
  tells : TellsMany {T = Unit {0}} {E = DiskFault} (2 * losing_gates l.base l.i (g.D.Disk.moment l.initial.disk).seen) (g.D.Disk.moment l.initial.disk).passing (g.D.Disk.moment l.disk).passing (Ok tt);
  how : (g.D.Disk.moment l.disk).how ≡ (g.D.Disk.moment l.initial.disk).how;
}
