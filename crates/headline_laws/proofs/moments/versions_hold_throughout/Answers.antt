use Rattle.headline_laws.proofs.Promises.VersionsNow.{versions_throughout}
use Rattle.headline_laws.proofs.moments.versions_hold_throughout.Goals as goal

pub returns : goal.returns
returns c = λ lines order. versions_throughout lines order
