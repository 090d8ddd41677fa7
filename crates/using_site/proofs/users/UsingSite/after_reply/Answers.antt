use Rattle.waiting_calls.specs.Called.{called}
use Rattle.using_site.proofs.Replies.{replied}
use Rattle.using_site.proofs.users.UsingSite.after_reply.Goals as goal

pub returns : goal.returns
returns c = λ a. replied c.change_by_reply.result c.args.frame.now (called c.args.caller.now a) c.args.reply.now _ c.args.self.now _ _ c.self.view_is (c.change_by_reply.ensures a)
