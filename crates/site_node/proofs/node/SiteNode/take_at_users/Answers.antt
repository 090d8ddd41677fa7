use Rattle.role_steps.specs.Using.{on_op_done, on_as_held, on_close_done, on_look_done}
use Rattle.site_node.proofs.Parts.{users_pass, users_work}
use Rattle.site_node.proofs.node.SiteNode.take_at_users.Goals as goal

pub returns-in_ok-on_op_done-in-OpDone : goal.returns-in_ok-on_op_done-in-OpDone
returns-in_ok-on_op_done-in-OpDone c = rw c.in-OpDone.is (users_work (λ v. on_op_done c.args.self.now.frame c.in-OpDone.serial c.in-OpDone.number c.in-OpDone.outcome v.users) c.args.self.now c.on_op_done.new.self c.args.out.now c.on_op_done.new.out (λ image. c.in_ok-on_op_done-in-OpDone.ensures))

pub returns-in_ok-on_as_held-in-AsHeld : goal.returns-in_ok-on_as_held-in-AsHeld
returns-in_ok-on_as_held-in-AsHeld c = rw c.in-AsHeld.is (users_work (λ v. on_as_held c.args.self.now.frame c.in-AsHeld.serial c.in-AsHeld.number v.users) c.args.self.now c.on_as_held.new.self c.args.out.now c.on_as_held.new.out (λ image. c.in_ok-on_as_held-in-AsHeld.ensures))

pub returns-in_ok-on_close_done-in-CloseDone : goal.returns-in_ok-on_close_done-in-CloseDone
returns-in_ok-on_close_done-in-CloseDone c = rw c.in-CloseDone.is (users_work (λ v. on_close_done c.args.self.now.frame c.in-CloseDone.serial c.in-CloseDone.answer v.users) c.args.self.now c.on_close_done.new.self c.args.out.now c.on_close_done.new.out (λ image. c.in_ok-on_close_done-in-CloseDone.ensures))

pub returns-in_ok-on_look_done-in-LookDone : goal.returns-in_ok-on_look_done-in-LookDone
returns-in_ok-on_look_done-in-LookDone c = rw c.in-LookDone.is (users_work (λ v. on_look_done c.args.self.now.frame c.in-LookDone.call c.in-LookDone.request c.in-LookDone.take c.in-LookDone.answer v.users) c.args.self.now c.on_look_done.new.self c.args.out.now c.on_look_done.new.out (λ image. c.in_ok-on_look_done-in-LookDone.ensures))

pub returns-in_default : goal.returns-in_default
returns-in_default c = users_pass c.args.self.now.frame c.args.from c.args.body c.args.self.now c.args.out.now c.in_default.not-OpenDone c.in_default.not-OpDone c.in_default.not-AsHeld c.in_default.not-CloseDone c.in_default.not-LookDone
