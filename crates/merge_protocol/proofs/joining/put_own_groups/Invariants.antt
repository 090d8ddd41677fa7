use Rattle.std.proofs.Common.{◌≡◌, drop, filter}
use Rattle.locus_ids.specs.Sites.{has}
use Rattle.role_steps.specs.Views.{all_groups, pack_sites}
use Rattle.merge_protocol.proofs.joining.put_own_groups.Given as goal

abbrev pub invariant-loop-group : goal.invariant-loop-group
invariant-loop-group l = l.groups ≡ filter (λ g. has (pack_sites l.config g) l.me) (drop l.group all_groups)
