use Rattle.store_laws.proofs.OneTree.RemoveRemovers.{sees_target}
use Rattle.store_laws.proofs.remove.removes_have_seen.Goals as goal

pub returns : goal.returns
returns c = λ config trace f w u i name ino h now k asks. sees_target config trace f w u i name ino h now k asks
