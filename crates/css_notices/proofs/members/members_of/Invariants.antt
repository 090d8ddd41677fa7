use Rattle.std.proofs.Common.{◌≡◌, ◌&&◌, ◌++◌, filter, drop}
use Rattle.locus_ids.specs.Sites.{has}
use Rattle.role_steps.specs.Views.{all_sites, is_member, members_of}
use Rattle.css_notices.proofs.members.members_of.Given as goal

abbrev pub invariant-loop-place : goal.invariant-loop-place
invariant-loop-place l = l.made.items ++ filter (λ s. has l.set s && is_member l.frame.members s) (drop l.place all_sites) ≡ members_of l.frame.members l.set
