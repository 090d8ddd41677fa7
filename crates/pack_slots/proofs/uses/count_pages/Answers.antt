use Rattle.std.proofs.Common.{◌≡◌, ◌<◌, length, get_or, arith}
use Rattle.pack_slots.proofs.Times.{counted_more, sum_more}
use Rattle.pack_slots.proofs.uses.count_pages.Goals as goal

pub loop-page-preserved : goal.loop-page-preserved
loop-page-preserved c =
    let i = c.loop-page.page-index in
    let counts = c.loop-page.counts in
    let pages = c.args.pages.now in
    let number = c.from.result in
    let is : number ≡ get_or pages i 0 = c.from.ensures in
    let fits : number < length counts = omega (arith, c.requires.inside i c.loop-page-test.true, is, c.loop-page.auto.counts) in
    record {
      each = λ page lt. counted_more counts pages (get_or c.args.counts.now page 0) i page number c.loop-page-test.true is fits (c.loop-page.invariant.each page lt);
      total = omega (arith, sum_more counts number fits, c.loop-page.invariant.total);
    }
