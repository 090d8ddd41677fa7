use Rattle.std.proofs.Common.{◌≡◌, ℕ, ◌+◌, ◌*◌, ◌≤◌, ◌<◌, length}
use Rattle.std.specs.Prelude.{Ok, slice_index}
use Rattle.disk_model.specs.Disk.{Goes}
use Rattle.disk_model.specs.Images.{Torn}
use Rattle.disk_model.specs.declared.disk.DiskFault.{DiskFault}
use Rattle.disk_model.specs.Moments.{TellsMany}
use Rattle.pack_slots.proofs.formatting.write_pieces.Given as goal

abbrev pub invariant-loop-i : goal.invariant-loop-i
invariant-loop-i g l = record {
  long : length (g.D.Disk.moment l.disk).seen ≡ length (g.D.Disk.moment l.initial.disk).seen;
  zeros : (k : ℕ) → 1024 ≤ k → k < 1024 + 16384 * l.i → slice_index (g.D.Disk.moment l.disk).seen (l.base + k) ≡ 0;
  outside : Torn (l.base + 1024) 2097152 (g.D.Disk.moment l.initial.disk).seen (g.D.Disk.moment l.disk).seen;
  goes : Goes (Torn (l.base + 1024) 2097152) (g.D.Disk.moment l.initial.disk) (g.D.Disk.moment l.disk);
  cause : (g.D.Disk.moment l.initial.disk).faults ≤ (g.D.Disk.moment l.disk).faults;
  tells : TellsMany {T = Unit {0}} {E = DiskFault} l.i (g.D.Disk.moment l.initial.disk).passing (g.D.Disk.moment l.disk).passing (Ok tt);
}
