use Rattle.std.proofs.Common.{◌∙◌, get_or, refl, arith, length-set}
use Rattle.page_marks.proofs.Marks.{no_marks, not_once, not_inside, next_mark, all_marks}
use Rattle.page_marks.proofs.marking.marks_of.Goals as goal

pub loop-i-init : goal.loop-i-init
loop-i-init c = record { are = no_marks c.args.count c.args.changed.now c.args.changed.now; long = refl }

pub returns-then-page-count-clause-none : goal.returns-then-page-count-clause-none
returns-then-page-count-clause-none c = not_inside c.args.count c.args.changed.now c.loop-i.i (get_or c.args.changed.now c.loop-i.i 0) c.loop-i-test.true refl c.if-page-count.true

pub returns-then-marks-page-clause-none : goal.returns-then-marks-page-clause-none
returns-then-marks-page-clause-none c = not_once c.args.count c.args.changed.now c.loop-i.marks c.loop-i.i (get_or c.args.changed.now c.loop-i.i 0) c.loop-i.invariant.are c.loop-i-test.true refl c.if-marks-page.true

pub loop-i-preserved : goal.loop-i-preserved
loop-i-preserved c =
    let long = c.loop-i.invariant.long in
    let few = c.requires in
    let below = c.if-page-count.false in
    record {
      are = next_mark c.args.count c.args.changed.now c.loop-i.marks c.loop-i.i (get_or c.args.changed.now c.loop-i.i 0) c.loop-i.invariant.are c.loop-i-test.true refl below (omega arith) c.if-marks-page.false;
      long = length-set c.loop-i.marks (get_or c.args.changed.now c.loop-i.i 0) _ ∙ long;
    }

pub returns-clause-some : goal.returns-clause-some
returns-clause-some c = all_marks c.args.count c.args.changed.now c.loop-i.marks c.loop-i.i c.loop-i.invariant.are c.loop-i-test.false
