use Rattle.new_contents.proofs.Marked.{row_has}
use Rattle.new_contents.proofs.marked_content.MarkedContentNewContent.row.Goals as goal

pub returns-clause-changed : goal.returns-clause-changed
returns-clause-changed c =
    let self = c.args.self.now in
    row_has self.content.now self.marks.now c.first_marked-first.result c.end_of_marked-stop.result c.page_count-end.result c.page_count-end.ensures.pages c.first_marked-first.ensures.before c.end_of_marked-stop.ensures.behind
