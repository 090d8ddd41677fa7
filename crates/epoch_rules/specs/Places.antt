-- Sites one after the other, by their places in a list of sixteen.
use Rattle.std.specs.Prelude.{ℕ, ◌==◌, cond, List, [], ◌∷◌}
use Rattle.locus_ids.specs.Sites.{with_site}
use Rattle.locus_ids.specs.declared.sites.Links.{Links}
use Rattle.locus_ids.specs.declared.sites.Sites.{Sites}
use Rattle.role_steps.specs.Views.{boot_in}

-- those of these sites that are connected
abbrev pub reached_among : Links → List ℕ → Sites
reached_among links [] = record { 0 = 0 }
reached_among links (s ∷ ss) = cond (boot_in links.boot s == 0) (reached_among links ss) (with_site (reached_among links ss) s)
