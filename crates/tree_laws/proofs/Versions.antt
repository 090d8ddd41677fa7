-- What stands stays: what fresh stamps give, and what the order of versions gives.
use Rattle.std.proofs.Common.{ℕ, List, ◌∷◌}
use Rattle.locus_ids.specs.declared.config.Config.{Config}
use Rattle.the_run.specs.of_role_steps.Views.{Told}
use Rattle.the_run.specs.Worlds.{Line}
use Rattle.tree_laws.specs.Following.{MayTell, IsFollowed}
use Rattle.tree_laws.specs.Frames.{IsFresh, VersionsStay, OrderStays}
use Rattle.tree_laws.proofs.Histories.{stands_more, content_same, vector_same}
use Rattle.tree_laws.proofs.Knowing.{known_stays}
use Rattle.tree_laws.proofs.Origins.{kind_same, set_same}
use Rattle.tree_laws.proofs.Using.{used_stays}

pub versions_stay : (c : Config) (n : ℕ) (x : Told) (older : List Line) → IsFollowed c older → MayTell c older x → IsFresh c older x → OrderStays c older (record { number = n; told = x } ∷ older) → VersionsStay c older (record { number = n; told = x } ∷ older)
versions_stay c n x older h may fresh o = record {
  stands = λ f s k. stands_more c n x older f s k;
  vectors = λ f s k. vector_same c n x older f s fresh k;
  contents = λ f s k. content_same c n x older f s fresh k;
  kinds = λ f s k. kind_same c n x older f s h may k;
  sets = λ f s k. set_same c n x older f s h may k;
  known = λ e f s k. known_stays c n x older e f s k;
  have = o.have;
  used = λ e site f k. used_stays c n x older e site f k;
  reports = o.reports;
  single = o.single;
  kept = o.kept;
}
