use Rattle.std.proofs.Common.{◌≡◌, ◌≤◌, length, ◌+◌}
use Rattle.locus_ids.specs.Sizes.{sites_max}
use Rattle.line_text.specs.Words.{pieces, sites_in, with_sites}
use Rattle.line_text.proofs.site_lists.site_list.Given as goal

abbrev pub invariant-loop-word : goal.invariant-loop-word
invariant-loop-word l = (with_sites l.n l.least l.set (pieces l.separator l.rest) ≡ sites_in l.n l.separator l.bytes) × (1 ≤ l.least) × (l.least ≤ sites_max + 1)

abbrev pub decreases-loop-word : goal.decreases-loop-word
decreases-loop-word l = length l.rest
