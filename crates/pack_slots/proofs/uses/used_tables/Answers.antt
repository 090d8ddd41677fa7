use Rattle.std.proofs.Common.{◌<◌, length, take, ◌∙◌, true, false, arith, length-set}
use Rattle.std.proofs.lemmas.List.{get_or-replicate, length-replicate}
use Rattle.locus_ids.specs.Sizes.{pack_tables}
use Rattle.pack_slots.specs.Copies.{named_tables}
use Rattle.pack_slots.proofs.Times.{marked_more}
use Rattle.pack_slots.proofs.uses.used_tables.Goals as goal

pub loop-copy-init : goal.loop-copy-init
loop-copy-init c = record { count = length-replicate pack_tables false; marked = λ table lt. get_or-replicate pack_tables table false false lt }

pub loop-table-preserved : goal.loop-table-preserved
loop-table-preserved c =
    let i = c.loop-table.table-index in
    let used = c.loop-table.used in
    let tables = c.tables_in-table-items.result.now in
    let inv = c.loop-table.invariant in
    let fits : c.from.result < length used = omega (arith, c.tables_in-table-items.ensures.inside i c.loop-table-test.true, c.from.ensures, inv.count) in
    record {
      count = length-set used c.from.result true ∙ inv.count;
      marked = λ table lt. marked_more used (named_tables (take c.loop-copy.copy-index c.args.copies.now)) tables i table c.from.result c.loop-table-test.true c.from.ensures fits (inv.marked table lt);
    }
