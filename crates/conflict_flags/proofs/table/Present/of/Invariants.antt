use Rattle.std.proofs.Common.{◌≡◌, ◌≤◌, take, length}
use Rattle.locus_ids.specs.Sizes.{sites_max}
use Rattle.conflict_flags.specs.Table.{present}
use Rattle.conflict_flags.proofs.table.Present.of.Given as goal

-- those of the first places
abbrev pub invariant-loop-i : goal.invariant-loop-i
invariant-loop-i l = record {
  some : l.len ≤ l.i;
  long : length l.items ≡ sites_max;
  done : take l.len l.items ≡ present (take l.i l.copies);
}
