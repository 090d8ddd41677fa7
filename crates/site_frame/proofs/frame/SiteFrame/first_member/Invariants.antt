use Rattle.std.proofs.Common.{◌≡◌, ◌&&◌, filter, drop}
use Rattle.locus_ids.specs.Sites.{has}
use Rattle.role_steps.specs.Views.{all_sites, first_site, is_member, members_of}
use Rattle.site_frame.proofs.frame.SiteFrame.first_member.Given as goal

abbrev pub invariant-loop-place : goal.invariant-loop-place
invariant-loop-place l =
    first_site (filter (λ s. has l.set s && is_member l.self.members s) (drop l.place all_sites))
    ≡ first_site (members_of l.self.members l.set)
