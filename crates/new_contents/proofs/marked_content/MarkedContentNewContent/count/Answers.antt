use Rattle.new_contents.proofs.Marked.{needed_marks}
use Rattle.new_contents.proofs.marked_content.MarkedContentNewContent.count.Goals as goal

pub returns-clause-number : goal.returns-clause-number
returns-clause-number c =
    let self = c.args.self.now in
    let row = c.args.row in
    needed_marks self.content.now self.marks.now row.first row.stop c.count_marked.result c.requires.changed c.requires.ordered c.requires.inside c.count_marked.ensures.number
