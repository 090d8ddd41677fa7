use Rattle.std.proofs.Common.{◌∙◌}
use Rattle.record_words.proofs.Loops.{short_ascends}
use Rattle.record_words.proofs.lists.ascend.Goals as goal

pub returns : goal.returns
returns c = short_ascends c.loop-rest.rest.now c.in_default.len_below ∙ c.loop-rest.invariant
