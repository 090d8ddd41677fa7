use Rattle.new_contents.proofs.Marked.{marked_long}
use Rattle.new_contents.proofs.marked_content.MarkedContentNewContent.is_changed.Goals as goal

pub returns-clause-whole : goal.returns-clause-whole
returns-clause-whole c page is = marked_long c.args.self.now.content.now c.args.self.now.marks.now c.args.i page is
