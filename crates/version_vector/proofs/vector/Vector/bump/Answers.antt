use Rattle.std.proofs.Common.{arith, ap, ◌∙◌, List, ℕ}
use Rattle.version_vector.specs.Counters.{raised}
use Rattle.version_vector.proofs.Counting.{set-raised}
use Rattle.version_vector.proofs.vector.Vector.bump.Goals as goal

pub returns-clause-ok : goal.returns-clause-ok
returns-clause-ok g c = set-raised c.self.inside.n c.place_of-place.result (omega arith)
    ∙ (ap (λ (v : List ℕ). raised v c.place_of-place.result) c.self.view_is ∙ ap (raised c.args.self.now) c.place_of-place.ensures.value)
