use Rattle.std.proofs.Common.{◌∙◌, ◌++◌, sym, ap, List, ℕ, arith, map, not, ◌==◌, ◌&&◌, refl}
use Rattle.role_steps.specs.Views.{boot_in, all_sites}
use Rattle.role_steps.specs.Epochs.{poll_packet, unanswered, has_promised}
use Rattle.partition_protocol.proofs.Rows.{pass_both}
use Rattle.merge_protocol.proofs.Tabled.{Sent-next, Sent-skip}
use Rattle.merge_protocol.proofs.repeats.repeat_polls.Goals as goal
use Rattle.merge_protocol.proofs.repeats.repeat_polls.Goals.{then-is_awaited+in_ok-send, else-is_awaited}

pub loop-place-init : goal.loop-place-init
loop-place-init c = record {
  packets = ap (λ (ss : List ℕ). c.args.out.now.packets ++ map (poll_packet c.args.sender.now.me c.args.sender.now.boot c.id-id.result c.polled-polled.result) ss) (sym (pass_both (λ s. not (boot_in c.args.round.now.polled.boot s == 0)) (λ s. not (has_promised c.args.round.now s)) all_sites));
  records = refl;
}

pub loop-place-preserved : goal.loop-place-preserved
loop-place-preserved c = elim c.if-is_awaited.branch [
  | then-is_awaited+in_ok-send w ↦ Sent-next (poll_packet c.args.sender.now.me c.args.sender.now.boot c.id-id.result c.polled-polled.result) (λ s. not (boot_in c.args.round.now.polled.boot s == 0) && not (has_promised c.args.round.now s)) c.loop-place.place c.site_at-site.result c.args.out.now c.loop-place.out c.if-is_awaited.out (map (poll_packet c.args.sender.now.me c.args.sender.now.boot c.id-id.result c.polled-polled.result) (unanswered c.args.round.now)) w.poll_packet.result (omega arith) c.site_at-site.ensures (sym c.is_awaited.ensures ∙ w.if-is_awaited.true) w.poll_packet.ensures (w.out-is ∙ w.in_ok-send.ensures.ok) c.loop-place.invariant
  | else-is_awaited w ↦ Sent-skip (poll_packet c.args.sender.now.me c.args.sender.now.boot c.id-id.result c.polled-polled.result) (λ s. not (boot_in c.args.round.now.polled.boot s == 0) && not (has_promised c.args.round.now s)) c.loop-place.place c.site_at-site.result c.args.out.now c.loop-place.out c.if-is_awaited.out (map (poll_packet c.args.sender.now.me c.args.sender.now.boot c.id-id.result c.polled-polled.result) (unanswered c.args.round.now)) (omega arith) c.site_at-site.ensures (sym c.is_awaited.ensures ∙ w.if-is_awaited.false) w.out-is c.loop-place.invariant
]
