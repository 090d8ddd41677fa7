use Rattle.std.proofs.Common.{sym}
use Rattle.waiting_calls.specs.Called.{called}
use Rattle.waiting_calls.proofs.DescriptorRows.{on_ok}
use Rattle.using_site.proofs.Replies.{on_ok3}
use Rattle.using_site.proofs.Hearing.{Taking, heard_by, take_asks, take_replies, take_stays}
use Rattle.using_site.proofs.users.UsingSite.take.Goals as goal

pub returns-in-Asks : goal.returns-in-Asks
returns-in-Asks c = λ w r h.
    let asked = c.waiting.inside.asking in
    let t : Taking c.args.frame.now c.args.self.now _ c.step.new.self c.remove.new.self c.args.key w (called c.hear.new.self asked) (called c.waiting.inside.caller asked) c.in-Some.waiting c.args.content c.args.answer c.in_ok-want.want c.in_ok-asking.field-0 = record { rising = r; row_is = h; view_is = c.self.view_is; found_is = c.waiting.view_is; removed = c.in-Some.ensures.removed; left = c.in-Some.ensures.left; heard = c.in_ok-hear.ensures asked; next = c.in_ok-want.ensures asked; step = c.in_ok-asking.ensures.step asked; same = c.in_ok-asking.ensures.waiting } in
    on_ok3 c.ask.result (take_asks t c.in-Asks.is) (c.ask.ensures.view asked) (c.ask.ensures.packets asked) c.ask.ensures.records

pub returns-in-Replies : goal.returns-in-Replies
returns-in-Replies c = λ w r h.
    let asked = c.waiting.inside.asking in
    let t : Taking c.args.frame.now c.args.self.now _ c.step.new.self c.remove.new.self c.args.key w (called c.hear.new.self asked) (called c.waiting.inside.caller asked) c.in-Some.waiting c.args.content c.args.answer c.in_ok-want.want c.in_ok-asking.field-0 = record { rising = r; row_is = h; view_is = c.self.view_is; found_is = c.waiting.view_is; removed = c.in-Some.ensures.removed; left = c.in-Some.ensures.left; heard = c.in_ok-hear.ensures asked; next = c.in_ok-want.ensures asked; step = c.in_ok-asking.ensures.step asked; same = c.in_ok-asking.ensures.waiting } in
    on_ok3 c.reply.result (take_replies t c.in-Replies.is) (c.reply.ensures.view asked) c.reply.ensures.packets (c.reply.ensures.records asked)

pub returns-in-Stays : goal.returns-in-Stays
returns-in-Stays c = λ w r h.
    let asked = c.waiting.inside.asking in
    let t : Taking c.args.frame.now c.args.self.now _ c.step.new.self c.remove.new.self c.args.key w (called c.hear.new.self asked) (called c.waiting.inside.caller asked) c.in-Some.waiting c.args.content c.args.answer c.in_ok-want.want c.in_ok-asking.field-0 = record { rising = r; row_is = h; view_is = c.self.view_is; found_is = c.waiting.view_is; removed = c.in-Some.ensures.removed; left = c.in-Some.ensures.left; heard = c.in_ok-hear.ensures asked; next = c.in_ok-want.ensures asked; step = c.in_ok-asking.ensures.step asked; same = c.in_ok-asking.ensures.waiting } in
    on_ok c.put.result (take_stays t c.in-Stays.is c.self-in-Stays.view_is (c.unhear.ensures w asked c.args.answer c.args.content (sym c.is_some-has_content.ensures) (heard_by t))) c.put.ensures.ok
