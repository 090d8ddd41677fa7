use Rattle.std.proofs.Common.{arith, sym, nat_lt, false, length, ◌≤◌, ◌≡◌, ◌∙◌}
use Rattle.std.proofs.lemmas.Bool.Decides.{nat_tests}
use Rattle.packet_mail.proofs.Calls.{underway_is, past_end}
use Rattle.packet_mail.proofs.mail.Mail.is_underway.Goals as goal

pub returns-then-number-len : goal.returns-then-number-len
returns-then-number-len c = let i = c.self.inside in c.is_underway.ensures ∙ sym (underway_is i.queue i.ends.items i.log i.lost.items c.args.self.now c.self.invariant.0 c.self.view_is c.args.number)

pub returns-else-number-len : goal.returns-else-number-len
returns-else-number-len c =
    let i = c.self.inside in
    let e : nat_lt c.args.number c.len.result ≡ false = (let z = c.if-number-len.false in grind (arith, nat_tests)) in
    let b : length i.queue.underway ≤ c.args.number = (let n = c.len.ensures in let z = c.if-number-len.false in let t : length i.queue.underway ≡ length i.queue.circuits = c.self.invariant.0.both in omega arith) in
    e ∙ sym (underway_is i.queue i.ends.items i.log i.lost.items c.args.self.now c.self.invariant.0 c.self.view_is c.args.number ∙ past_end i.queue.underway c.args.number b)
