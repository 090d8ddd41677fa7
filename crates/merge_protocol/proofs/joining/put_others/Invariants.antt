use Rattle.std.proofs.Common.{◌≡◌, drop, filter}
use Rattle.role_steps.specs.Views.{all_sites}
use Rattle.merge_protocol.specs.Parts.{is_other}
use Rattle.merge_protocol.proofs.joining.put_others.Given as goal

abbrev pub invariant-loop-place : goal.invariant-loop-place
invariant-loop-place l = l.sites ≡ filter (is_other l.me l.members) (drop l.place all_sites)
