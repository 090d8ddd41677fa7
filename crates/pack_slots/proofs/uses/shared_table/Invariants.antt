use Rattle.std.proofs.Common.{◌≡◌, ℕ, ◌*◌, ◌≤◌, ◌<◌, get_or, take}
use Rattle.std.specs.Prelude.{sum}
use Rattle.locus_ids.specs.Sizes.{content_tables_max, pack_tables}
use Rattle.pack_slots.specs.Copies.{times, named_tables}
use Rattle.pack_slots.proofs.uses.shared_table.Given as goal

abbrev pub invariant-loop-copy : goal.invariant-loop-copy
invariant-loop-copy l = record {
  each : (table : ℕ) → table < pack_tables → get_or l.counts table 0 ≡ times table (named_tables (take l.copy-index l.copies));
  few : sum l.counts ≤ content_tables_max * l.copy-index;
}
