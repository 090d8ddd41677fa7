use Rattle.std.proofs.Common.{◌≡◌, Ok, drop}
use Rattle.site_frame.specs.of_role_steps.Views.{SiteView}
use Rattle.site_frame.specs.of_role_steps.Tables.{first_that}
use Rattle.site_frame.specs.of_role_steps.Mends.{wants_mend}
use Rattle.css_versions.specs.Lists.{found_rows}
use Rattle.site_mends.specs.Mending.{IsSeen, WasRead}
use Rattle.site_mends.proofs.starting.first_wanting_of.Given as goal

abbrev pub invariant-loop-one : goal.invariant-loop-one
invariant-loop-one g l = record {
  found : (v : SiteView) → IsSeen v l.packs (g.D.Disk.moment l.fn.disk).seen l.users → first_that (wants_mend v l.table) (found_rows l.table.files (drop l.one-index l.directories)) ≡ first_that (wants_mend v l.table) (found_rows l.table.files l.directories);
  disk : WasRead {T = Unit {0}} l.packs (g.D.Disk.moment l.fn.disk) (g.D.Disk.moment l.disk) (Ok tt);
}
