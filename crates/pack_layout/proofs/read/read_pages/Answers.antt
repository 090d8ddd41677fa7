use Rattle.std.proofs.Common.{◌∙◌, arith}
use Rattle.std.proofs.lemmas.Result.{err_from_is_err_and}
use Rattle.std.proofs.lemmas.List.{length-set}
use Rattle.locus_ids.specs.Sizes.{slot_pages}
use Rattle.field_codec.specs.Codec.{u16}
use Rattle.pack_layout.proofs.Laws.{times, times_start, times_more, times_end, times_done}
use Rattle.pack_layout.proofs.read.read_pages.Goals as goal

pub loop-i-init : goal.loop-i-init
loop-i-init c = (omega arith, times_start (times u16 slot_pages c.args.fields.now))

pub loop-i-preserved : goal.loop-i-preserved
loop-i-preserved c = (
  length-set c.loop-i.pages c.loop-i.i c.in_ok-pages.field-0 ∙ c.loop-i.invariant.0,
  times_more u16 slot_pages c.loop-i.i c.loop-i.pages c.in_ok-pages.field-0 c.loop-i.fields c.get_u16.new.self (times u16 slot_pages c.args.fields.now) c.loop-i.invariant.0 c.loop-i-test.true c.in_ok-pages.ensures.read c.loop-i.invariant.1,
)

pub returns : goal.returns
returns c = times_done u16 slot_pages c.loop-i.i c.loop-i.pages c.loop-i.fields (times u16 slot_pages c.args.fields.now) c.loop-i.invariant.0 c.loop-i.auto.i-end c.loop-i-test.false c.loop-i.invariant.1

pub returns-in_err-pages : goal.returns-in_err-pages
returns-in_err-pages c =
    let p = err_from_is_err_and c.from_residual.result c.from_residual.ensures.1 in
    rw (p.1, p.2) (times_end u16 slot_pages c.loop-i.i c.loop-i.pages c.loop-i.fields c.in_err-pages.field-0.0 (times u16 slot_pages c.args.fields.now) c.loop-i-test.true c.in_err-pages.ensures.read c.loop-i.invariant.1)
