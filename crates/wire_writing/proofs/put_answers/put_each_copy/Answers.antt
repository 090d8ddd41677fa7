use Rattle.wire_messages.specs.Answers.{copies_from}
use Rattle.wire_writing.proofs.Copies.{one_more}
use Rattle.wire_writing.proofs.put_answers.put_each_copy.Goals as goal

pub loop-copy-preserved : goal.loop-copy-preserved
loop-copy-preserved c =
    one_more (copies_from 1).spell c.args.copies.now c.loop-copy.copy-index c.copy-item.result c.args.out.now c.loop-copy.out c.put_copy.new.out c.loop-copy-test.true c.copy-item.is c.loop-copy.invariant c.in_ok-put_copy.ensures
