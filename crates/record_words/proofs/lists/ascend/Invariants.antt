use Rattle.std.proofs.Common.{◌≡◌, length}
use Rattle.record_words.specs.Order.{ascend}
use Rattle.record_words.proofs.lists.ascend.Given as goal

abbrev pub invariant-loop-rest : goal.invariant-loop-rest
invariant-loop-rest l = ascend l.rest ≡ ascend l.copies

abbrev pub decreases-loop-rest : goal.decreases-loop-rest
decreases-loop-rest l = length l.rest
