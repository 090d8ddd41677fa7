use Rattle.std.proofs.Common.{◌<◌, arith}
use Rattle.packet_mail.proofs.Calls.{is_in, lose_is, pass_keeps, lost_tells}
use Rattle.packet_mail.proofs.mail.Mail.lose.Goals as goal

pub index_mut-requires : goal.index_mut-requires
index_mut-requires c = let i = c.self.inside in let s = is_in i.queue i.ends.items i.log i.lost.items c.args.self.now c.self.invariant.0 c.self.view_is c.args.number c.requires in let r = c.self.invariant.1.room in let m = c.self.invariant.0.count in omega arith

pub take-requires : goal.take-requires
take-requires c = let i = c.self.inside in let s = is_in i.queue i.ends.items i.log i.lost.items c.args.self.now c.self.invariant.0 c.self.view_is c.args.number c.requires in omega arith

pub invariant_of-self-2 : goal.invariant_of-self-2
invariant_of-self-2 c =
    let i = c.self.inside in
    let s = is_in i.queue i.ends.items i.log i.lost.items c.args.self.now c.self.invariant.0 c.self.view_is c.args.number c.requires in
    let m = c.self.invariant.0.count in
    let l : c.args.number < 262145 = omega arith in (
      pass_keeps i.queue i.ends.items i.log i.lost.items c.args.self.now c.self.invariant.0 c.self.view_is _ c.args.number c.take.ensures.circuits c.take.ensures.underway,
      lost_tells i.lost_marks.items i.lost.items _ c.args.number l c.self.invariant.1 c.in_ok-push.ensures.items,
    )

pub returns : goal.returns
returns c = let i = c.self.inside in lose_is i.queue i.ends.items i.log i.lost.items c.args.self.now c.self.invariant.0 c.self.view_is _ _ c.args.number c.take.ensures.circuits c.take.ensures.underway c.in_ok-push.ensures.items
