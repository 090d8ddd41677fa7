use Rattle.std.proofs.Common.{◌≡◌, ◌*◌, take, length}
use Rattle.std.specs.List.{flat_map}
use Rattle.std.specs.Int.{w16, to_be_bytes}
use Rattle.locus_ids.specs.Sizes.{table_pages}
use Rattle.pack_layout.proofs.tables.read_table.Given as goal

-- the bytes so far are those of the numbers so far
abbrev pub invariant-loop-i : goal.invariant-loop-i
invariant-loop-i l = (length l.numbers ≡ table_pages) × (flat_map (to_be_bytes w16) (take l.i l.numbers) ≡ take (2 * l.i) l.bytes)
