use Rattle.promises.specs.Rows.{is_writing}
use Rattle.audit_row_parts.proofs.Alone.{alone_none, alone_one, alone_several}
use Rattle.audit_row_parts.proofs.writing.only_writer.Goals as goal

pub returns-in_default : goal.returns-in_default
returns-in_default c = alone_none (is_writing c.args.file) c.as_slice-rows.result.now c.args.opened.now c.as_slice-rows.ensures c.in_default.ensures.place

pub returns-then-is_some : goal.returns-then-is_some
returns-then-is_some c =
    alone_several (is_writing c.args.file) c.as_slice-rows.result.now c.args.opened.now c.in-Some.place c.writer_in-2.result
    c.as_slice-rows.ensures c.in-Some.ensures.place c.writer_in-2.ensures.place c.if-is_some.ensures

pub returns : goal.returns
returns c =
    alone_one (is_writing c.args.file) c.as_slice-rows.result.now c.args.opened.now c.in-Some.place c.index-rows-place.result c.writer_in-2.result
    c.as_slice-rows.ensures c.in-Some.ensures.place c.index-rows-place.is c.writer_in-2.ensures.place c.if-is_some.ensures
