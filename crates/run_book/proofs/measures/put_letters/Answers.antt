use Rattle.std.proofs.Common.{◌≡◌, ap, Err}
use Rattle.run_book.specs.declared.fault.BookFault.TheVariants.{Unfit}
use Rattle.run_book.proofs.Parts.{part_fits, part_rest}
use Rattle.run_book.proofs.PartLetters.{part_letters}
use Rattle.run_book.proofs.measures.put_letters.Goals as goal

pub returns-in-Err-clause-unfit : goal.returns-in-Err-clause-unfit
returns-in-Err-clause-unfit c = λ e all. let f : c.in-Err.fault ≡ Unfit = cc in c.in-Err.ensures.unfit (ap Err f) (part_fits c.args.parts.now c.loop-part.part-index c.part-item.result c.loop-part-test.true c.part-item.is all)

pub loop-part-preserved : goal.loop-part-preserved
loop-part-preserved c = record {
  letters = part_letters c.args.parts.now c.loop-part.part-index c.part-item.result c.loop-part.letters _ _ c.loop-part-test.true c.part-item.is c.in-Ok.ensures.letters c.loop-part.invariant.letters;
  fits = part_rest c.args.parts.now c.loop-part.part-index c.part-item.result c.loop-part-test.true c.part-item.is c.in-Ok.ensures.fits c.loop-part.invariant.fits;
}
