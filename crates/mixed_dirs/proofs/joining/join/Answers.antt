use Rattle.std.proofs.Common.{⊎_elim}
use Rattle.std.proofs.lemmas.List.{take_rest}
use Rattle.dir_reconcile.proofs.Steps.{first_over, second_over}
use Rattle.mixed_dirs.proofs.joining.join.Goals as goal

pub returns : goal.returns
returns c =
    rw (c.in_ok-push_all-2.ensures, c.in_ok-push_all.ensures, take_rest c.args.xs.now c.loop-order.i, take_rest c.args.ys.now c.loop-order.j)
    (⊎_elim
    (λ le. first_over c.args.xs.now c.args.ys.now c.loop-order.i c.loop-order.j c.loop-order.out.items _ le c.loop-order.invariant.all)
    (λ le. second_over c.args.xs.now c.args.ys.now c.loop-order.i c.loop-order.j c.loop-order.out.items _ le c.loop-order.invariant.all)
    (c.are_left.ensures.over c.loop-order-test.false))
