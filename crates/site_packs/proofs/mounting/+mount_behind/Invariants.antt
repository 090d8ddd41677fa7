use Rattle.std.proofs.Common.{length}
use Rattle.site_packs.proofs.mounting.+mount_behind.Given as goal

abbrev pub decreases-mount_behind : goal.decreases-mount_behind
decreases-mount_behind g l = length l.groups.now
