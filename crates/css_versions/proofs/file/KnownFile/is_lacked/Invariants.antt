use Rattle.std.proofs.Common.{◌≡◌, ◌&&◌, drop, filter, not}
use Rattle.std.specs.List.{list_any}
use Rattle.locus_ids.specs.Sites.{has}
use Rattle.role_steps.specs.Versions.{is_among, holders_of}
use Rattle.role_steps.specs.Views.{all_sites, is_member}
use Rattle.css_versions.specs.Lists.{is_lacked}
use Rattle.css_versions.proofs.file.KnownFile.is_lacked.Given as goal

abbrev pub invariant-loop-place : goal.invariant-loop-place
invariant-loop-place l =
    list_any (λ s. not (is_among s (holders_of l.self l.stamp))) (filter (λ s. has l.self.set s && is_member l.members s) (drop l.place all_sites))
    ≡ is_lacked l.members l.self l.stamp
