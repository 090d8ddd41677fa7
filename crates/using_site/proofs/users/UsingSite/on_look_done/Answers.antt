use Rattle.role_steps.specs.Using.{asks_take, on_look_done_of}
use Rattle.using_site.proofs.Awaited.{awaited}
use Rattle.using_site.proofs.users.UsingSite.on_look_done.Goals as goal

pub returns-in-Found : goal.returns-in-Found
returns-in-Found c = awaited c.take.result (asks_take c.args.call c.args.request c.args.take c.args.answer) (λ o. on_look_done_of c.args.frame.now c.args.answer o c.args.self.now) c.args.self.now _ _ c.in-Some.key _ _ _ c.self.view_is c.as_slice.ensures.rows c.as_slice.ensures.rising c.in-Some.ensures
    (λ w e r h r' h'. rw c.in-Found.is (c.take.ensures w r h))

pub returns-in-Content : goal.returns-in-Content
returns-in-Content c = awaited c.take_content.result (asks_take c.args.call c.args.request c.args.take c.args.answer) (λ o. on_look_done_of c.args.frame.now c.args.answer o c.args.self.now) c.args.self.now _ _ c.in-Some.key _ _ _ c.self.view_is c.as_slice.ensures.rows c.as_slice.ensures.rising c.in-Some.ensures
    (λ w e r h r' h'. rw c.in-Content.is (c.take_content.ensures w r h))

pub returns-in-Stat : goal.returns-in-Stat
returns-in-Stat c = awaited c.take-in-Stat.result (asks_take c.args.call c.args.request c.args.take c.args.answer) (λ o. on_look_done_of c.args.frame.now c.args.answer o c.args.self.now) c.args.self.now _ _ c.in-Some.key _ _ _ c.self.view_is c.as_slice.ensures.rows c.as_slice.ensures.rising c.in-Some.ensures
    (λ w e r h r' h'. rw c.in-Stat.is (c.take-in-Stat.ensures w r h))

pub returns-in-Moved : goal.returns-in-Moved
returns-in-Moved c = awaited c.look_again.result (asks_take c.args.call c.args.request c.args.take c.args.answer) (λ o. on_look_done_of c.args.frame.now c.args.answer o c.args.self.now) c.args.self.now _ _ c.in-Some.key _ _ _ c.self.view_is c.as_slice.ensures.rows c.as_slice.ensures.rising c.in-Some.ensures
    (λ w e r h r' h'. rw c.in-Moved.is (c.look_again.ensures w r h))

pub returns-in-No : goal.returns-in-No
returns-in-No c = awaited c.take-in-No.result (asks_take c.args.call c.args.request c.args.take c.args.answer) (λ o. on_look_done_of c.args.frame.now c.args.answer o c.args.self.now) c.args.self.now _ _ c.in-Some.key _ _ _ c.self.view_is c.as_slice.ensures.rows c.as_slice.ensures.rising c.in-Some.ensures
    (λ w e r h r' h'. rw c.in-No.is (c.take-in-No.ensures w r h))
