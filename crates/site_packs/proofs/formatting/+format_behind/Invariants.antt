use Rattle.std.proofs.Common.{length}
use Rattle.site_packs.proofs.formatting.+format_behind.Given as goal

-- proposed from what the function passes where it calls itself
abbrev pub decreases-format_behind : goal.decreases-format_behind
decreases-format_behind g l = length l.groups.now
