use Rattle.std.proofs.Common.{◌∙◌, refl, arith, length-set}
use Rattle.page_marks.proofs.Marks.{no_marks, once_marked, all_marks}
use Rattle.page_marks.proofs.laying.marks_of_numbers.Goals as goal

pub loop-i-init : goal.loop-i-init
loop-i-init c = record { are = no_marks c.args.count c.args.numbers.now c.args.numbers.now; long = refl }

pub loop-i-preserved : goal.loop-i-preserved
loop-i-preserved c =
    let long = c.loop-i.invariant.long in
    let few = c.requires.few in
    record {
      are = once_marked c.args.count c.args.numbers.now c.loop-i.marks c.loop-i.i c.from-page.result c.loop-i.invariant.are c.loop-i-test.true c.from-page.ensures (omega arith) c.requires.pages;
      long = length-set c.loop-i.marks c.from-page.result _ ∙ long;
    }

pub returns : goal.returns
returns c = all_marks c.args.count c.args.numbers.now c.loop-i.marks c.loop-i.i c.loop-i.invariant.are c.loop-i-test.false
