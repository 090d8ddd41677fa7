use Rattle.role_steps.specs.Using.{asks_op_number, on_op_done_of}
use Rattle.using_site.proofs.Awaited.{awaited, brought_taken}
use Rattle.using_site.proofs.users.UsingSite.on_op_done.Goals as goal

pub returns : goal.returns
returns c = awaited c.take.result (asks_op_number c.args.serial c.args.number c.args.outcome) (λ o. on_op_done_of c.args.frame.now c.args.outcome o c.args.self.now) c.args.self.now _ _ c.in-Some.key _ _ _ c.self.view_is c.as_slice.ensures.rows c.as_slice.ensures.rising c.in-Some.ensures
    (λ w e r h r' h'. brought_taken c.take.result c.args.frame.now w _ _ c.args.outcome c.in-Some.key _ c.args.self.now _ _ _ c.op_answer.ensures (c.in_ok-keep_brought.ensures w h) r h (c.take.ensures w))
