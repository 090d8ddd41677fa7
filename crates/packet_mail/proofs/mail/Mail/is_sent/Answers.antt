use Rattle.std.proofs.Common.{arith, ap, sym, not, nat_eq, true, ◌≡◌, ◌∙◌}
use Rattle.std.proofs.lemmas.Bool.Decides.{nat_tests}
use Rattle.std.specs.Option.{is_some}
use Rattle.packet_mail.specs.Posts.{is_sent}
use Rattle.packet_mail.proofs.Calls.{sent_test, sent_zero}
use Rattle.packet_mail.proofs.mail.Mail.is_sent.Goals as goal

pub returns-then-number-ne0 : goal.returns-then-number-ne0
returns-then-number-ne0 c = let i = c.self.inside in sent_test i.queue i.ends.items i.log i.lost.items c.args.self.now c.self.invariant.0 c.self.view_is c.args.number c.len.result c.len.ensures c.if-number-ne0.true

pub returns-else-number-ne0 : goal.returns-else-number-ne0
returns-else-number-ne0 c =
    let i = c.self.inside in
    let e : nat_eq c.args.number 0 ≡ true = (let z = c.if-number-ne0.false in grind (arith, nat_tests)) in
    ap not e ∙ sym (ap (λ k. is_sent k c.args.self.now) c.if-number-ne0.false ∙ ap is_some (sent_zero i.queue i.ends.items i.log i.lost.items c.args.self.now c.self.invariant.0 c.self.view_is))
