use Rattle.std.proofs.Common.{◌∙◌, arith}
use Rattle.std.proofs.lemmas.Result.{err_from_is_err_and}
use Rattle.std.proofs.lemmas.List.{length-set}
use Rattle.locus_ids.specs.Sizes.{sites_max}
use Rattle.field_codec.specs.Codec.{u32}
use Rattle.pack_layout.proofs.Laws.{times, times_start, times_more, times_end, times_done}
use Rattle.pack_layout.proofs.read.read_counters.Goals as goal

pub loop-i-init : goal.loop-i-init
loop-i-init c = (omega arith, times_start (times u32 sites_max c.args.fields.now))

pub loop-i-preserved : goal.loop-i-preserved
loop-i-preserved c = (
  length-set c.loop-i.counters c.loop-i.i c.in_ok-counters.field-0 ∙ c.loop-i.invariant.0,
  times_more u32 sites_max c.loop-i.i c.loop-i.counters c.in_ok-counters.field-0 c.loop-i.fields c.get_u32.new.self (times u32 sites_max c.args.fields.now) c.loop-i.invariant.0 c.loop-i-test.true c.in_ok-counters.ensures.read c.loop-i.invariant.1,
)

pub returns : goal.returns
returns c = times_done u32 sites_max c.loop-i.i c.loop-i.counters c.loop-i.fields (times u32 sites_max c.args.fields.now) c.loop-i.invariant.0 c.loop-i.auto.i-end c.loop-i-test.false c.loop-i.invariant.1

pub returns-in_err-counters : goal.returns-in_err-counters
returns-in_err-counters c =
    let p = err_from_is_err_and c.from_residual.result c.from_residual.ensures.1 in
    rw (p.1, p.2) (times_end u32 sites_max c.loop-i.i c.loop-i.counters c.loop-i.fields c.in_err-counters.field-0.0 (times u32 sites_max c.args.fields.now) c.loop-i-test.true c.in_err-counters.ensures.read c.loop-i.invariant.1)
