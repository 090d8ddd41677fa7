use Rattle.std.proofs.Common.{arith, ap, false, length, ◌<◌, ◌∙◌}
use Rattle.std.proofs.lemmas.List.{get_or_read}
use Rattle.packet_mail.specs.Posts.{is_lost}
use Rattle.packet_mail.proofs.Calls.{is_in}
use Rattle.packet_mail.proofs.mail.Mail.is_lost.Goals as goal

pub index-requires : goal.index-requires
index-requires c = let i = c.self.inside in let s = is_in i.queue i.ends.items i.log i.lost.items c.args.self.now c.self.invariant.0 c.self.view_is c.args.number c.requires in let r = c.self.invariant.1.room in let m = c.self.invariant.0.count in omega arith

pub returns : goal.returns
returns c =
    let i = c.self.inside in
    let s = is_in i.queue i.ends.items i.log i.lost.items c.args.self.now c.self.invariant.0 c.self.view_is c.args.number c.requires in
    let m = c.self.invariant.0.count in
    let l : c.args.number < 262145 = omega arith in
    let r = c.self.invariant.1.room in
    let k : c.args.number < length i.lost_marks.items = omega arith in
    get_or_read i.lost_marks.items _ _ k c.index.ensures false ∙ (c.self.invariant.1.each c.args.number l ∙ ap (is_lost c.args.number) c.self.view_is)
