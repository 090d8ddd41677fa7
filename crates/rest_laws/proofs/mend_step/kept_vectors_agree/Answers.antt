use Rattle.std.proofs.Common.{Bool, subst}
use Rattle.tree_laws.specs.Tables.{FilesFact}
use Rattle.rest_laws.proofs.MendStepKeptVectors.{vectors_agree}
use Rattle.rest_laws.proofs.mend_step.kept_vectors_agree.Goals as goal

pub returns : goal.returns
returns c = λ config trace f t fact on. vectors_agree config trace f t fact (subst (λ (b : Bool). FilesFact config trace f t b) on fact.files)
