use Rattle.std.proofs.Common.{◌∙◌, Some, ap, sym}
use Rattle.circuits.specs.Circuits.{sender_on}
use Rattle.packet_mail.proofs.Calls.{is_in, ends_are}
use Rattle.packet_mail.proofs.mail.Mail.sender.Goals as goal

pub circuit-requires : goal.circuit-requires
circuit-requires c = let i = c.self.inside in (is_in i.queue i.ends.items i.log i.lost.items c.args.self.now c.self.invariant.0 c.self.view_is c.args.number (sym c.if-not-is_sent.ensures)).1

pub returns : goal.returns
returns c =
    let i = c.self.inside in
    let s = is_in i.queue i.ends.items i.log i.lost.items c.args.self.now c.self.invariant.0 c.self.view_is c.args.number (sym c.if-not-is_sent.ensures) in
    c.sender_on.ensures ∙ (ap (λ y. Some (sender_on y)) c.circuit.ensures ∙ (ends_are i.queue i.ends.items i.log i.lost.items c.args.self.now c.self.invariant.0 c.self.view_is c.args.number s.0 s.1).0)
