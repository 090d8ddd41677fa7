use Rattle.new_contents.proofs.Laid.{laid_long}
use Rattle.new_contents.proofs.laid_pages.LaidPagesNewContent.is_changed.Goals as goal

pub returns-clause-whole : goal.returns-clause-whole
returns-clause-whole c page is = let came = c.args.self.now in laid_long came.size came.numbers.now came.bytes.now c.args.i page is
