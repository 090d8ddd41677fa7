-- A free table is always there: each copy that has a table has more than sixty pages, so a pack has at most fifty tables.
use Rattle.std.proofs.Common.{ℕ, suc, ◌*◌, ◌≤◌, List, [], ◌∷◌, length, Option, None, Some, arith, length-append, length-take}
use Rattle.std.specs.Prelude.{◌==◌, IfSome}
use Rattle.locus_ids.specs.Sizes.{content_tables_max, pack_pages, pack_tables}
use Rattle.file_content.specs.Pages.{pages_of, tables_of}
use Rattle.new_contents.specs.of_shadow_pages.Working.{count_below}
use Rattle.pack_slots.specs.declared.inode_copy.InodeCopy.{InodeCopy}
use Rattle.pack_slots.specs.Copies.{numbers_in, pages_in, tables_in, named_pages, named_tables, times}
use Rattle.pack_slots.specs.Losing.{AreSlots, IsSlotApart}
use Rattle.pack_slots.proofs.Times.{named_tables_below}
use Rattle.inode_pack.proofs.FreeCounts.{unnamed}

few_in : (copy : Option InodeCopy) → IfSome copy IsSlotApart → 61 * length (tables_in copy) ≤ length (pages_in copy)
few_in None is = omega arith
few_in (Some copy) is =
    let n = pages_of copy.slot.size in
    let small = is.0.size in
    let count = is.1.count in
    omega (arith, small, count, length-take (tables_of n) copy.slot.tables, length-take n (numbers_in copy))

few_named : (copies : List (Option InodeCopy)) → AreSlots copies → 61 * length (named_tables copies) ≤ length (named_pages copies)
few_named [] are = omega arith
few_named (copy ∷ copies) are = omega (arith, length-append (tables_in copy) (named_tables copies), length-append (pages_in copy) (named_pages copies), few_in copy (are 0), few_named copies (λ i. are (suc i)))

-- a commit writes two tables at most, and more than these are free
pub two_free : (copies : List (Option InodeCopy)) → AreSlots copies → length (named_pages copies) ≤ pack_pages → ((table : ℕ) → times table (named_tables copies) ≤ 1)
    → content_tables_max ≤ count_below (λ t. times t (named_tables copies) == 0) pack_tables
two_free copies are room once =
    let few = few_named copies are in
    let all = unnamed pack_tables (named_tables copies) (named_tables_below copies are) once in
    omega (arith, few, all, room)
