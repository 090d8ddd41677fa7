use Rattle.std.proofs.Common.{◌≡◌, ◌++◌, drop}
use Rattle.std.specs.List.{flat_map}
use Rattle.role_steps.specs.Requests.{request_packets}
use Rattle.role_steps.specs.declared.users.WaitingCall.{WaitingCall}
use Rattle.using_site.proofs.users.UsingSite.repeats.Given as goal

abbrev pub invariant-loop-waiting : goal.invariant-loop-waiting
invariant-loop-waiting l = record {
  packets : l.out.packets ++ flat_map (λ (w : WaitingCall). request_packets l.frame w w.asking) (drop l.waiting-index l.rows) ≡ l.initial.out.packets ++ flat_map (λ (w : WaitingCall). request_packets l.frame w w.asking) l.rows;
  records : l.out.records ≡ l.initial.out.records;
}
