use Rattle.std.proofs.Common.{◌≡◌, ◌≤◌, ◌+◌, length}
use Rattle.locus_ids.specs.Sizes.{sites_max}
use Rattle.line_text.specs.Words.{pieces}
use Rattle.record_words.specs.Fields.{members_in, with_members}
use Rattle.record_words.proofs.lists.members.Given as goal

abbrev pub invariant-loop-word : goal.invariant-loop-word
invariant-loop-word l = (with_members l.least l.boot (pieces 44 l.rest) ≡ members_in l.bytes) × (1 ≤ l.least) × (l.least ≤ sites_max + 1)

abbrev pub decreases-loop-word : goal.decreases-loop-word
decreases-loop-word l = length l.rest
