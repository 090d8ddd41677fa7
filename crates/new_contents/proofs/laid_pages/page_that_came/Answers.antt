use Rattle.std.proofs.Common.{◌∙◌, sym, arith}
use Rattle.new_contents.proofs.Laid.{page_past, page_came, page_kept}
use Rattle.new_contents.proofs.laid_pages.page_that_came.Goals as goal

pub returns-then-from-pages_of-clause-none : goal.returns-then-from-pages_of-clause-none
returns-then-from-pages_of-clause-none c =
    let came = c.args.came.now in
    let many = c.pages_of.ensures in
    let own = c.from.ensures in
    let past = c.if-from-pages_of.true in
    page_past came.size came.numbers.now came.bytes.now c.args.i (omega arith)

pub returns-in-Some-clause-some : goal.returns-in-Some-clause-some
returns-in-Some-clause-some c =
    let came = c.args.came.now in
    let many = c.pages_of.ensures in
    let own = c.from.ensures in
    let here = c.if-from-pages_of.false in
    page_came came.size came.numbers.now came.bytes.now c.args.i c.in-Some.place c.page_at.result.now (omega arith) (sym c.place_of.ensures ∙ c.in-Some.is) c.page_at.ensures.page

pub returns-in-None-clause-none : goal.returns-in-None-clause-none
returns-in-None-clause-none c =
    let came = c.args.came.now in
    let many = c.pages_of.ensures in
    let own = c.from.ensures in
    let here = c.if-from-pages_of.false in
    page_kept came.size came.numbers.now came.bytes.now c.args.i (omega arith) (sym c.place_of.ensures ∙ c.in-None.is)
