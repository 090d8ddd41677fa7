use Rattle.std.proofs.Common.{◌∙◌, ◌<◌, ◌-◌, length, arith, refl}
use Rattle.std.proofs.lemmas.List.{get_or_read}
use Rattle.packet_mail.proofs.Calls.{is_in, part_order, letter_is}
use Rattle.packet_mail.proofs.mail.Mail.letter.Goals as goal

pub overflow_sub-number : goal.overflow_sub-number
overflow_sub-number c = let i = c.self.inside in let s = is_in i.queue i.ends.items i.log i.lost.items c.args.self.now c.self.invariant.0 c.self.view_is c.args.number c.requires in omega arith

pub index-requires : goal.index-requires
index-requires c = let i = c.self.inside in let s = is_in i.queue i.ends.items i.log i.lost.items c.args.self.now c.self.invariant.0 c.self.view_is c.args.number c.requires in let r = c.self.invariant.0.room in let m = c.self.invariant.0.count in omega arith

pub index-requires-2 : goal.index-requires-2
index-requires-2 c = let i = c.self.inside in let s = is_in i.queue i.ends.items i.log i.lost.items c.args.self.now c.self.invariant.0 c.self.view_is c.args.number c.requires in let r = c.self.invariant.0.room in let m = c.self.invariant.0.count in omega arith

pub part-requires-clause-order : goal.part-requires-clause-order
part-requires-clause-order c =
    let i = c.self.inside in
    let s = is_in i.queue i.ends.items i.log i.lost.items c.args.self.now c.self.invariant.0 c.self.view_is c.args.number c.requires in
    let r = c.self.invariant.0.room in
    let m = c.self.invariant.0.count in
    let o = part_order i.queue i.ends.items i.log i.lost.items c.args.self.now c.self.invariant.0 c.self.view_is c.args.number s.0 s.1 in
    omega (arith, get_or_read i.ends.items _ _ (omega arith) c.index.ensures 0, get_or_read i.ends.items _ _ (omega arith) c.index-2.ensures 0)

pub part-requires-clause-within : goal.part-requires-clause-within
part-requires-clause-within c =
    let i = c.self.inside in
    let s = is_in i.queue i.ends.items i.log i.lost.items c.args.self.now c.self.invariant.0 c.self.view_is c.args.number c.requires in
    let r = c.self.invariant.0.room in
    let m = c.self.invariant.0.count in
    let o = part_order i.queue i.ends.items i.log i.lost.items c.args.self.now c.self.invariant.0 c.self.view_is c.args.number s.0 s.1 in
    rw c.as_slice.ensures (omega (arith, get_or_read i.ends.items _ _ (omega arith) c.index-2.ensures 0))

pub returns-clause-bytes : goal.returns-clause-bytes
returns-clause-bytes c =
    let i = c.self.inside in
    let s = is_in i.queue i.ends.items i.log i.lost.items c.args.self.now c.self.invariant.0 c.self.view_is c.args.number c.requires in
    let r = c.self.invariant.0.room in
    let m = c.self.invariant.0.count in
    let k : c.args.number < length i.ends.items = omega arith in
    let j : c.args.number - 1 < length i.ends.items = omega arith in
    let a = get_or_read i.ends.items _ _ j c.index.ensures 0 in
    let b = get_or_read i.ends.items _ _ k c.index-2.ensures 0 in
    letter_is i.queue i.ends.items i.log i.lost.items c.args.self.now c.self.invariant.0 c.self.view_is c.args.number c.part.result.now s.0 s.1 (c.part.ensures ∙ rw (c.as_slice.ensures, ← a, ← b) refl)
