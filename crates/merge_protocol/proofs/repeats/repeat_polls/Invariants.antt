use Rattle.std.proofs.Common.{drop, map, filter, not, ◌==◌, ◌&&◌}
use Rattle.role_steps.specs.Views.{all_sites, boot_in}
use Rattle.role_steps.specs.Epochs.{poll_packet, unanswered, has_promised}
use Rattle.merge_protocol.proofs.Tabled.{Sent}
use Rattle.merge_protocol.proofs.repeats.repeat_polls.Given as goal

abbrev pub invariant-loop-place : goal.invariant-loop-place
invariant-loop-place l = Sent l.fn.out l.out (map (poll_packet l.sender.me l.sender.boot l.id l.polled) (filter (λ s. not (boot_in l.round.polled.boot s == 0) && not (has_promised l.round s)) (drop l.place all_sites))) (map (poll_packet l.sender.me l.sender.boot l.id l.polled) (unanswered l.round))
