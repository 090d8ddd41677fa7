use Rattle.std.proofs.Common.{length}
use Rattle.css_versions.proofs.kept.+joined_vectors.Given as goal

abbrev pub decreases-joined_vectors : goal.decreases-joined_vectors
decreases-joined_vectors l = length l.versions.now
