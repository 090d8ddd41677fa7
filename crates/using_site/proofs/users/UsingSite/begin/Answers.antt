use Rattle.std.proofs.Common.{◌∙◌, ap}
use Rattle.role_steps.specs.Requests.{waiting_of}
use Rattle.waiting_calls.specs.Called.{called}
use Rattle.using_site.proofs.Replies.{on_ok3, begun_asks, begun_replies, begun_stays, row_gone}
use Rattle.using_site.proofs.Going.{Begun}
use Rattle.using_site.proofs.users.UsingSite.begin.Goals as goal

pub returns-in-Asks : goal.returns-in-Asks
returns-in-Asks c = λ a.
    let g : Begun c.args.frame.now c.args.self.now c.step.new.self (called c.args.caller a) c.in_ok-want.want c.in_ok-asking.field-0 = record { next = c.in_ok-want.ensures a; step = c.in_ok-asking.ensures.step a; same = c.in_ok-asking.ensures.waiting } in
    on_ok3 c.ask.result (begun_asks g c.in-Asks.is) (c.ask.ensures.view a) (c.ask.ensures.packets a) c.ask.ensures.records

pub returns-in-Replies : goal.returns-in-Replies
returns-in-Replies c = λ a.
    let g : Begun c.args.frame.now c.args.self.now c.step.new.self (called c.args.caller a) c.in_ok-want.want c.in_ok-asking.field-0 = record { next = c.in_ok-want.ensures a; step = c.in_ok-asking.ensures.step a; same = c.in_ok-asking.ensures.waiting } in
    on_ok3 c.reply.result (begun_replies g c.in-Replies.is (row_gone _ _ _ _ (called c.args.caller a) c.self.view_is (c.waiting_key-key.ensures ∙ ap (waiting_of c.args.caller.process) c.words.ensures) c.remove.ensures.left)) (c.reply.ensures.view a) c.reply.ensures.packets (c.reply.ensures.records a)

pub returns-in-Stays : goal.returns-in-Stays
returns-in-Stays c = λ a.
    let g : Begun c.args.frame.now c.args.self.now c.step.new.self (called c.args.caller a) c.in_ok-want.want c.in_ok-asking.field-0 = record { next = c.in_ok-want.ensures a; step = c.in_ok-asking.ensures.step a; same = c.in_ok-asking.ensures.waiting } in
    begun_stays g c.in-Stays.is
