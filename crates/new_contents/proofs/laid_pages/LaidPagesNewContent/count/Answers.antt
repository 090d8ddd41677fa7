use Rattle.new_contents.proofs.Laid.{needed_come}
use Rattle.new_contents.proofs.laid_pages.LaidPagesNewContent.count.Goals as goal

pub returns-clause-number : goal.returns-clause-number
returns-clause-number c =
    let came = c.args.self.now in
    let row = c.args.row in
    needed_come came.size came.numbers.now came.bytes.now row.first row.stop c.count_come.result c.requires.changed c.requires.ordered c.requires.inside c.count_come.ensures.number
