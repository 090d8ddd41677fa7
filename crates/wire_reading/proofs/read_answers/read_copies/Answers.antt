use Rattle.std.proofs.Common.{◌+◌}
use Rattle.std.proofs.lemmas.Result.{err_from_is_err_and}
use Rattle.field_codec.specs.Lists.{read_times}
use Rattle.field_codec.proofs.Loop.{goes_on, ends, is_done}
use Rattle.wire_messages.specs.Answers.{copies_from}
use Rattle.wire_reading.proofs.read_answers.read_copies.Goals as goal

pub loop-preserved : goal.loop-preserved
loop-preserved c =
    rw c.in_ok-push.ensures.ok
    (goes_on copies_from (λ _ copy. copy.ino + 1) c.loop.copies c.loop.least c.in_ok-count.count c.loop.counter c.loop.fields c.in_ok-copy.copy c.read_copy.new.fields
    (read_times copies_from (λ _ copy. copy.ino + 1) 1 c.in_ok-count.count c.get_u16.new.self) c.loop-test.true c.in_ok-copy.ensures.read c.loop.invariant)

pub returns-in_err-copy : goal.returns-in_err-copy
returns-in_err-copy c =
    let p = err_from_is_err_and c.from_residual-in_err-copy.result c.from_residual-in_err-copy.ensures.1 in
    rw (p.1, p.2, c.in_ok-count.ensures.read)
    (ends copies_from (λ _ copy. copy.ino + 1) c.loop.copies c.loop.least c.in_ok-count.count c.loop.counter c.loop.fields c.in_err-copy.field-0.0
    (read_times copies_from (λ _ copy. copy.ino + 1) 1 c.in_ok-count.count c.get_u16.new.self) c.loop-test.true c.in_err-copy.ensures.read c.loop.invariant)

pub returns : goal.returns
returns c =
    rw c.in_ok-count.ensures.read
    (is_done copies_from (λ _ copy. copy.ino + 1) c.loop.copies c.loop.least c.in_ok-count.count c.loop.counter c.loop.fields
    (read_times copies_from (λ _ copy. copy.ino + 1) 1 c.in_ok-count.count c.get_u16.new.self) c.loop-test.false c.loop.invariant)
