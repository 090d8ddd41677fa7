use Rattle.std.proofs.Common.{◌≡◌, length}
use Rattle.line_text.specs.Words.{pieces}
use Rattle.record_words.specs.Fields.{all_in, component_in}
use Rattle.record_words.proofs.Loops.{onto}
use Rattle.record_words.proofs.lists.components.Given as goal

abbrev pub invariant-loop-word : goal.invariant-loop-word
invariant-loop-word l = onto component_in 32 l.names l.rest ≡ all_in component_in (pieces 32 l.bytes)

abbrev pub decreases-loop-word : goal.decreases-loop-word
decreases-loop-word l = length l.rest
