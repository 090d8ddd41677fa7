use Rattle.std.proofs.Common.{◌<◌, arith, ap, length, length-take, ◌∙◌}
use Rattle.disk_model.proofs.Record.{replay_more}
use Rattle.disk_model.proofs.record_disk.RecordDisk.replay.Goals as goal

pub loop-call-preserved : goal.loop-call-preserved
loop-call-preserved g c =
    let items = c.args.self.now.calls.items in
    let kept = c.as_slice-kept.result.now in
    let i = c.loop-call.call-index in
    let same = c.as_slice-kept.ensures.value in
    let below : i < c.args.calls = omega (arith, length-take c.args.calls kept) in
    let within : i < length items = omega (arith, length-take c.args.calls kept, ap length same) in
    record {
      read = replay_more c.args.self.now.pool.items c.deref.result.now _ items kept c.args.calls i _ _ _ below within same c.deref.ensures.value c.loop-call.invariant.read c.in_ok-repeat.ensures.read;
      long = c.in_ok-repeat.ensures.long ∙ c.loop-call.invariant.long;
      cause = omega (arith, c.loop-call.invariant.cause, c.repeat.ensures.cause.later);
    }
