use Rattle.std.proofs.Common.{drop, map, filter, not, ◌==◌}
use Rattle.role_steps.specs.Views.{all_sites, boot_in}
use Rattle.role_steps.specs.Epochs.{poll_packet, polled_sites}
use Rattle.merge_protocol.proofs.Tabled.{Sent}
use Rattle.merge_protocol.proofs.polling.send_polls.Given as goal

abbrev pub invariant-loop-place : goal.invariant-loop-place
invariant-loop-place l = Sent l.fn.out l.out (map (poll_packet l.sender.me l.sender.boot l.id l.polled) (filter (λ s. not (boot_in l.polled.boot s == 0)) (drop l.place all_sites))) (map (poll_packet l.sender.me l.sender.boot l.id l.polled) (polled_sites l.polled))
