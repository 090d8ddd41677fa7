use Rattle.std.proofs.Common.{◌≡◌, ℕ, ◌≤◌, length, get_or}
use Rattle.std.specs.Prelude.{None, Ok}
use Rattle.disk_model.specs.Disk.{Goes, TellsRead}
use Rattle.disk_model.specs.Images.{Same}
use Rattle.disk_model.specs.declared.disk.DiskFault.{DiskFault}
use Rattle.pack_slots.specs.Tables.{AreRead}
use Rattle.pack_slots.proofs.tables.read_tables.Given as goal

abbrev pub invariant-loop-i : goal.invariant-loop-i
invariant-loop-i g l = record {
  count : length l.copies ≡ length l.initial.copies;
  read : AreRead l.base (g.D.Disk.moment l.initial.disk).seen l.i l.initial.copies l.copies;
  rest : (i : ℕ) → l.i ≤ i → get_or l.copies i None ≡ get_or l.initial.copies i None;
  seen : (g.D.Disk.moment l.disk).seen ≡ (g.D.Disk.moment l.initial.disk).seen;
  goes : Goes Same (g.D.Disk.moment l.initial.disk) (g.D.Disk.moment l.disk);
  cause : (g.D.Disk.moment l.initial.disk).faults ≤ (g.D.Disk.moment l.disk).faults;
  tells : TellsRead {T = Unit {0}} {E = DiskFault} (g.D.Disk.moment l.initial.disk).passing (g.D.Disk.moment l.disk).passing (Ok tt);
  how : (g.D.Disk.moment l.disk).how ≡ (g.D.Disk.moment l.initial.disk).how;
}
