use Rattle.std.proofs.Common.{◌∙◌}
use Rattle.path_walk.proofs.Splits.{in_front_nothing, is_slash, read_slash, read_other}
use Rattle.path_walk.proofs.pieces.pieces.Goals.{then-c-eq47+in_ok-push, else-c-eq47+in_ok-push-2}
use Rattle.path_walk.proofs.pieces.pieces.Goals as goal

pub loop-c-init : goal.loop-c-init
loop-c-init c = rw (c.new-names.ensures, c.new-piece.ensures) (in_front_nothing is_slash c.args.text.now)

pub loop-c-preserved : goal.loop-c-preserved
loop-c-preserved c = elim c.if-c-eq47.branch [
  | then-c-eq47+in_ok-push w ↦ read_slash c.loop-c.names c.if-c-eq47.names c.loop-c.piece c.if-c-eq47.piece c.args.text.now c.loop-c.c-index _ c.loop-c-test.true w.if-c-eq47.true (w.names-is ∙ w.in_ok-push.ensures.ok) (w.piece-is ∙ w.new-piece-then-c-eq47.ensures) c.loop-c.invariant
  | else-c-eq47+in_ok-push-2 w ↦ read_other c.loop-c.names c.if-c-eq47.names c.loop-c.piece c.if-c-eq47.piece c.args.text.now c.loop-c.c-index _ c.loop-c-test.true w.if-c-eq47.false w.names-is (w.piece-is ∙ w.in_ok-push-2.ensures.ok) c.loop-c.invariant
]
