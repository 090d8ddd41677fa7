use Rattle.role_steps.specs.Using.{asks_close_of, on_close_done_of}
use Rattle.using_site.proofs.Awaited.{awaited, instance_out, same_taken}
use Rattle.using_site.proofs.users.UsingSite.on_close_done.Goals as goal

pub returns : goal.returns
returns c = awaited c.take.result (asks_close_of c.args.serial) (λ o. on_close_done_of c.args.frame.now c.args.serial c.args.answer o c.args.self.now) c.args.self.now _ _ c.in-Some.key _ _ _ c.self.view_is c.as_slice.ensures.rows c.as_slice.ensures.rising c.in-Some.ensures
    (λ w e r h r' h'. same_taken c.take.result c.args.frame.now w _ _ _ _ _ _ _ c.close_answer.ensures (instance_out _ _ _ _ c.args.serial c.self.view_is c.from.ensures c.remove.ensures.left) (c.take.ensures w r' h'))
