use Rattle.std.proofs.Common.{◌≡◌, ◌≤◌, take, length, []}
use Rattle.disk_model.specs.RecordDisk.{played}
use Rattle.disk_model.proofs.record_disk.RecordDisk.replay.Given as goal

abbrev pub invariant-loop-call : goal.invariant-loop-call
invariant-loop-call g l = record {
  read : (played l.self.pool.items (record { read = (g.D.Disk.moment l.initial.disk).seen; waiting = [] }) (take l.call-index l.self.calls.items)).read ≡ (g.D.Disk.moment l.disk).seen;
  long : length (g.D.Disk.moment l.disk).seen ≡ length l.self.seen.items;
  cause : (g.D.Disk.moment l.initial.disk).faults ≤ (g.D.Disk.moment l.disk).faults;
}
