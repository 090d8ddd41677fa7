use Rattle.std.proofs.Common.{◌≡◌, ◌-◌, ℕ, List, length, drop}
use Rattle.role_steps.specs.Adoption.{is_ready}
use Rattle.propagation.specs.Choosing.{chooses}
use Rattle.site_packs.specs.Packs.{AreShown}
use Rattle.site_node.specs.Views.{view_of}
use Rattle.site_node.specs.Adopting.{choice_at, fits_own_in}
use Rattle.site_node.proofs.node.SiteNode.choose.Given as goal

abbrev pub invariant-loop-place : goal.invariant-loop-place
invariant-loop-place l = record {
  rest : l.self ≡ record l.fn.self { pulls = l.self.pulls };
  choice : (image : List ℕ) → AreShown l.fn.self.packs.packs image → chooses (is_ready (view_of l.fn.self image)) (fits_own_in (view_of l.fn.self image)) (drop l.place l.self.pulls) l.self.pulls ≡ choice_at (view_of l.fn.self image);
}

abbrev pub decreases-loop-place : goal.decreases-loop-place
decreases-loop-place l = length l.self.pulls - l.place
