use Rattle.std.proofs.Common.{◌≡◌, ℕ, ◌+◌, ◌*◌, ◌^◌, ◌≤◌, ◌<◌, length, take, drop, get_or}
use Rattle.std.specs.Prelude.{Ok}
use Rattle.locus_ids.specs.Sizes.{slot_pages, table_pages, content_pages_max}
use Rattle.disk_model.specs.Disk.{Goes, TellsRead}
use Rattle.disk_model.specs.Images.{bytes_at, Same}
use Rattle.disk_model.specs.declared.disk.DiskFault.{DiskFault}
use Rattle.pack_layout.specs.Layout.{table_at, table_bytes, numbers_under}
use Rattle.pack_slots.proofs.tables.read_numbers.Given as goal

abbrev pub invariant-loop-k : goal.invariant-loop-k
invariant-loop-k g l = record {
  count : length l.numbers ≡ content_pages_max;
  fits : (i : ℕ) → get_or l.numbers i 0 < 2 ^ 16;
  first : take slot_pages l.numbers ≡ take slot_pages l.initial.numbers;
  read : (k : ℕ) → k < l.k → bytes_at (g.D.Disk.moment l.initial.disk).seen (table_at l.base (get_or l.tables k 0)) 1024 ≡ table_bytes (numbers_under l.numbers k);
  rest : drop (slot_pages + table_pages * l.k) l.numbers ≡ drop (slot_pages + table_pages * l.k) l.initial.numbers;
  seen : (g.D.Disk.moment l.disk).seen ≡ (g.D.Disk.moment l.initial.disk).seen;
  goes : Goes Same (g.D.Disk.moment l.initial.disk) (g.D.Disk.moment l.disk);
  cause : (g.D.Disk.moment l.initial.disk).faults ≤ (g.D.Disk.moment l.disk).faults;
  tells : TellsRead {T = Unit {0}} {E = DiskFault} (g.D.Disk.moment l.initial.disk).passing (g.D.Disk.moment l.disk).passing (Ok tt);
  how : (g.D.Disk.moment l.disk).how ≡ (g.D.Disk.moment l.initial.disk).how;
}
