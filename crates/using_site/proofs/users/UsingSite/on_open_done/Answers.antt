use Rattle.std.proofs.Common.{Option, ap, ◌∙◌}
use Rattle.role_steps.specs.Requests.{with_user_instance}
use Rattle.role_steps.specs.Using.{asks_open_of, on_open_done_of}
use Rattle.role_steps.specs.declared.users.VersionRead.{VersionRead}
use Rattle.using_site.proofs.Awaited.{awaited, instance_put, opened_taken}
use Rattle.using_site.proofs.users.UsingSite.on_open_done.Goals as goal

pub returns-in_ok-put-in-Open : goal.returns-in_ok-put-in-Open
returns-in_ok-put-in-Open c = λ all given. awaited c.take.result (asks_open_of c.args.serial) (λ o. on_open_done_of c.args.frame.now all c.args.serial c.args.answer o c.args.self.now) c.args.self.now _ _ c.in-Some.key _ _ _ c.self.view_is c.as_slice.ensures.rows c.as_slice.ensures.rising c.in-Some.ensures
    (λ w e r h r' h'. rw c.in-Open.is (opened_taken c.take.result c.args.frame.now all c.args.kept c.args.serial c.in-Open.ino c.in-Open.stamp w _ _ _ _ _ _ _ e given (c.opened_answer-answer.ensures w h') (instance_put _ _ _ _ c.self.view_is c.in_ok-put-in-Open.ensures.ok ∙ ap (λ (v : Option VersionRead). with_user_instance (record { serial = c.args.serial; ss = c.in-Open.ss; vector = c.in-Open.vector; ops = 0; reads = v }) c.args.self.now) (c.version_read-reads.ensures w h)) (c.take.ensures w r' h')))

pub returns-in-No : goal.returns-in-No
returns-in-No c = λ all given. awaited c.take-in-No.result (asks_open_of c.args.serial) (λ o. on_open_done_of c.args.frame.now all c.args.serial c.args.answer o c.args.self.now) c.args.self.now _ _ c.in-Some.key _ _ _ c.self.view_is c.as_slice.ensures.rows c.as_slice.ensures.rising c.in-Some.ensures
    (λ w e r h r' h'. rw c.in-No.is (c.take-in-No.ensures w r h))
