use Rattle.std.proofs.Common.{None, Some}
use Rattle.std.proofs.lemmas.Result.{err_from_is_err_and}
use Rattle.field_codec.specs.Lists.{read_times}
use Rattle.field_codec.proofs.Loop.{goes_on, ends, is_done}
use Rattle.wire_fields.specs.Parts.{stamps_after}
use Rattle.wire_parts.proofs.stamps.read_ascending_stamps.Goals as goal

pub loop-preserved : goal.loop-preserved
loop-preserved c =
    rw c.in_ok-push.ensures.ok
    (goes_on stamps_after (λ _ stamp. Some stamp) c.loop.list c.loop.last c.in_ok-count.count c.loop.counter c.loop.fields c.in_ok-stamp.stamp c.read_stamp_after.new.fields
    (read_times stamps_after (λ _ stamp. Some stamp) None c.in_ok-count.count c.get_u8.new.self) c.loop-test.true c.in_ok-stamp.ensures.read c.loop.invariant)

pub returns-in_err-stamp : goal.returns-in_err-stamp
returns-in_err-stamp c =
    let p = err_from_is_err_and c.from_residual-in_err-stamp.result c.from_residual-in_err-stamp.ensures.1 in
    rw (p.1, p.2, c.in_ok-count.ensures.read)
    (ends stamps_after (λ _ stamp. Some stamp) c.loop.list c.loop.last c.in_ok-count.count c.loop.counter c.loop.fields c.in_err-stamp.field-0.0
    (read_times stamps_after (λ _ stamp. Some stamp) None c.in_ok-count.count c.get_u8.new.self) c.loop-test.true c.in_err-stamp.ensures.read c.loop.invariant)

pub returns : goal.returns
returns c =
    rw c.in_ok-count.ensures.read
    (is_done stamps_after (λ _ stamp. Some stamp) c.loop.list c.loop.last c.in_ok-count.count c.loop.counter c.loop.fields
    (read_times stamps_after (λ _ stamp. Some stamp) None c.in_ok-count.count c.get_u8.new.self) c.loop-test.false c.loop.invariant)
