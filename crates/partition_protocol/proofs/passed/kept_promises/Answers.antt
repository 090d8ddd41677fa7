use Rattle.std.proofs.Common.{◌∙◌, not, sym, subst, ap, arith, List, Option, ◌+◌}
use Rattle.locus_ids.specs.declared.sites.Sites.{Sites}
use Rattle.partition_protocol.proofs.Rows.{Kept, Kept-drop, Kept-keep, Kept-all}
use Rattle.partition_protocol.proofs.passed.kept_promises.Goals as goal
use Rattle.partition_protocol.proofs.passed.kept_promises.Goals.{then-not-is_linked, else-not-is_linked}

pub loop-place-preserved : goal.loop-place-preserved
loop-place-preserved c = elim c.if-not-is_linked.branch [
  | then-not-is_linked w ↦ subst (λ (ks : List (Option Sites)). Kept c.args.polled.now c.args.promises.now ks (c.loop-place.place + 1)) (sym w.kept-is) (Kept-drop c.args.polled.now c.args.promises.now c.loop-place.kept c.loop-place.place c.site_at.result (omega arith) c.site_at.ensures (ap not (sym c.is_linked.ensures ∙ w.if-not-is_linked.true)) c.loop-place.invariant)
  | else-not-is_linked w ↦ subst (λ (ks : List (Option Sites)). Kept c.args.polled.now c.args.promises.now ks (c.loop-place.place + 1)) (sym w.kept-is) (Kept-keep c.args.polled.now c.args.promises.now c.loop-place.kept c.loop-place.place c.site_at.result (omega arith) c.site_at.ensures (ap not (sym c.is_linked.ensures ∙ w.if-not-is_linked.false)) c.loop-place.invariant)
]

pub returns : goal.returns
returns c = Kept-all c.args.polled.now c.args.promises.now c.loop-place.kept c.loop-place.place (omega arith) c.loop-place.invariant
