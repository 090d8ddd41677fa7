use Rattle.std.proofs.Common.{ap, ◌∙◌}
use Rattle.css_versions.specs.Lists.{found_rows}
use Rattle.css_versions.proofs.Listing.{found_directories}
use Rattle.css_versions.proofs.files.Files.directories.Goals as goal

pub returns : goal.returns
returns c =
    rw (← c.self.view_is)
    (ap (found_rows c.self.inside.rows.items) (c.as_slice.ensures.rows ∙ c.self.invariant.2) ∙ found_directories c.self.inside.rows.items c.self.invariant.0)
