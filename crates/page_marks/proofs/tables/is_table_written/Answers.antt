use Rattle.std.proofs.Common.{◌∙◌, sym, arith}
use Rattle.page_marks.proofs.WrittenTables.{marks_tell}
use Rattle.page_marks.proofs.tables.is_table_written.Goals as goal

pub returns : goal.returns
returns c changed are =
    let under = c.pages_under-under.ensures in
    let before = c.pages_under.ensures in
    let some = c.if-under-eq0.false in
    let same = c.if-under-pages_under.false in
    c.is_one_marked.ensures ∙ marks_tell c.args.before c.args.now c.args.table _ _ changed c.args.marks.now are (omega arith) (sym under ∙ same ∙ before) (omega arith) (omega arith)
