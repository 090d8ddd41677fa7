use Rattle.std.proofs.Common.{◌≡◌, ◌≤◌, length}
use Rattle.std.specs.Prelude.{Ok}
use Rattle.disk_model.specs.Disk.{Goes}
use Rattle.disk_model.specs.declared.disk.DiskFault.{DiskFault}
use Rattle.disk_model.specs.Moments.{TellsMany}
use Rattle.gate_switch.specs.Switch.{TornIn, written}
use Rattle.inode_pack.specs.PagePieces.{table_pieces, marked_tables}
use Rattle.inode_pack.proofs.TableStreaming.{marked_between}
use Rattle.inode_pack.proofs.pieces.write_tables.Given as goal

-- as with pages
abbrev pub invariant-loop-k : goal.invariant-loop-k
invariant-loop-k g l = record {
  seen : (g.D.Disk.moment l.disk).seen ≡ written (g.D.Disk.moment l.initial.disk).seen (table_pieces l.base l.made.copy (marked_between l.made.tables 0 l.k));
  long : length (g.D.Disk.moment l.disk).seen ≡ length (g.D.Disk.moment l.initial.disk).seen;
  goes : Goes (TornIn (table_pieces l.base l.made.copy (marked_tables l.made.tables))) (g.D.Disk.moment l.initial.disk) (g.D.Disk.moment l.disk);
  cause : (g.D.Disk.moment l.initial.disk).faults ≤ (g.D.Disk.moment l.disk).faults;
  tells : TellsMany {T = Unit {0}} {E = DiskFault} (length (table_pieces l.base l.made.copy (marked_between l.made.tables 0 l.k))) (g.D.Disk.moment l.initial.disk).passing (g.D.Disk.moment l.disk).passing (Ok tt);
  how : (g.D.Disk.moment l.disk).how ≡ (g.D.Disk.moment l.initial.disk).how;
}
