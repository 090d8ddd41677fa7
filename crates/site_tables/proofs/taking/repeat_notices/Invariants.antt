use Rattle.std.proofs.Common.{◌≡◌, ◌++◌, drop}
use Rattle.std.specs.List.{flat_map}
use Rattle.role_steps.specs.Reports.{sync_repeats}
use Rattle.site_tables.proofs.taking.repeat_notices.Given as goal

abbrev pub invariant-loop-table : goal.invariant-loop-table
invariant-loop-table l = record {
  packets : l.out.packets ++ flat_map (sync_repeats l.frame) (drop l.table-index l.tables) ≡ l.initial.out.packets ++ flat_map (sync_repeats l.frame) l.tables;
  records : l.out.records ≡ l.initial.out.records;
}
