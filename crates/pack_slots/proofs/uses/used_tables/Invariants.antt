use Rattle.std.proofs.Common.{◌≡◌, ℕ, ◌<◌, ◌++◌, length, get_or, take, false}
use Rattle.std.specs.Prelude.{nat_lt}
use Rattle.locus_ids.specs.Sizes.{pack_tables}
use Rattle.pack_slots.specs.Copies.{times, named_tables}
use Rattle.pack_slots.proofs.uses.used_tables.Given as goal

abbrev pub invariant-loop-copy : goal.invariant-loop-copy
invariant-loop-copy l = record {
  count : length l.used ≡ pack_tables;
  marked : (table : ℕ) → table < pack_tables → get_or l.used table false ≡ nat_lt 0 (times table (named_tables (take l.copy-index l.copies)));
}

abbrev pub invariant-loop-table : goal.invariant-loop-table
invariant-loop-table l = record {
  count : length l.used ≡ pack_tables;
  marked : (table : ℕ) → table < pack_tables → get_or l.used table false ≡ nat_lt 0 (times table (named_tables (take l.copy-index l.copies) ++ take l.table-index l.table-items));
}
