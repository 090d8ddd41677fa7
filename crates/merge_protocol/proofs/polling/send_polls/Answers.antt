use Rattle.std.proofs.Common.{◌∙◌, sym, arith, map, not, ◌==◌}
use Rattle.role_steps.specs.Views.{boot_in}
use Rattle.role_steps.specs.Epochs.{poll_packet, polled_sites}
use Rattle.merge_protocol.proofs.Tabled.{Sent-next, Sent-skip}
use Rattle.merge_protocol.proofs.polling.send_polls.Goals as goal
use Rattle.merge_protocol.proofs.polling.send_polls.Goals.{then-is_linked+in_ok-send, else-is_linked}

pub loop-place-preserved : goal.loop-place-preserved
loop-place-preserved c = elim c.if-is_linked.branch [
  | then-is_linked+in_ok-send w ↦ Sent-next (poll_packet c.args.sender.now.me c.args.sender.now.boot c.args.id c.args.polled.now) (λ s. not (boot_in c.args.polled.now.boot s == 0)) c.loop-place.place c.site_at-site.result c.args.out.now c.loop-place.out c.if-is_linked.out (map (poll_packet c.args.sender.now.me c.args.sender.now.boot c.args.id c.args.polled.now) (polled_sites c.args.polled.now)) w.poll_packet.result (omega arith) c.site_at-site.ensures (sym c.is_linked.ensures ∙ w.if-is_linked.true) w.poll_packet.ensures (w.out-is ∙ w.in_ok-send.ensures.ok) c.loop-place.invariant
  | else-is_linked w ↦ Sent-skip (poll_packet c.args.sender.now.me c.args.sender.now.boot c.args.id c.args.polled.now) (λ s. not (boot_in c.args.polled.now.boot s == 0)) c.loop-place.place c.site_at-site.result c.args.out.now c.loop-place.out c.if-is_linked.out (map (poll_packet c.args.sender.now.me c.args.sender.now.boot c.args.id c.args.polled.now) (polled_sites c.args.polled.now)) (omega arith) c.site_at-site.ensures (sym c.is_linked.ensures ∙ w.if-is_linked.false) w.out-is c.loop-place.invariant
]
