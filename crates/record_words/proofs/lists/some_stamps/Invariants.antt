use Rattle.std.proofs.Common.{◌≡◌, length}
use Rattle.line_text.specs.Words.{pieces}
use Rattle.record_words.specs.Fields.{all_in, stamp_in}
use Rattle.record_words.proofs.Loops.{onto}
use Rattle.record_words.proofs.lists.some_stamps.Given as goal

abbrev pub invariant-loop-word : goal.invariant-loop-word
invariant-loop-word l = onto stamp_in 44 l.stamps l.rest ≡ all_in stamp_in (pieces 44 l.bytes)

abbrev pub decreases-loop-word : goal.decreases-loop-word
decreases-loop-word l = length l.rest
