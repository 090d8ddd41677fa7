use Rattle.std.proofs.Common.{◌≡◌, ◌+◌, ◌<◌, ℕ, List, length, ap, ◌∙◌, arith}
use Rattle.std.proofs.lemmas.List.{length-append}
use Rattle.packet_mail.specs.declared.fault.MailFault.TheVariants.{Full}
use Rattle.packet_mail.proofs.Adding.{row_within, all_in_order, all_posted, room_left, too_many, too_long, same_refusal}
use Rattle.packet_mail.proofs.Spans.{joined_size}
use Rattle.packet_mail.proofs.mail.Mail.put_all.Goals as goal

pub add_all-requires-clause-size : goal.add_all-requires-clause-size
add_all-requires-clause-size c = row_within c.self.inside.log _ _ c.args.letters.now _ c.len-before.ensures c.in_ok-put_letters.ensures.ok c.row.ensures c.in_ok-put_letters.ensures.room

pub invariant_of-self-2 : goal.invariant_of-self-2
invariant_of-self-2 c = let i = c.self.inside in (
  all_in_order i.log _ _ c.args.letters.now _ c.len-before.ensures c.in_ok-put_letters.ensures.ok c.row.ensures i.queue i.ends.items _ _ c.add_all.ensures c.self.invariant.0,
  c.self.invariant.1,
)

pub returns-clause-ok : goal.returns-clause-ok
returns-clause-ok c = let i = c.self.inside in all_posted i.log _ _ c.args.letters.now _ c.len-before.ensures c.in_ok-put_letters.ensures.ok c.row.ensures i.queue i.ends.items _ _ i.lost.items c.args.self.now c.add_all.ensures c.self.invariant.0 c.self.view_is

pub returns-clause-room : goal.returns-clause-room
returns-clause-room c =
    let i = c.self.inside in
    let row = ap (λ (bytes : List ℕ). length bytes) c.row.ensures ∙ joined_size c.args.letters.now in
    let longer = ap (λ (bytes : List ℕ). length bytes) c.in_ok-put_letters.ensures.ok ∙ length-append i.log c.row.result.now in
    room_left i.queue i.ends.items i.log i.lost.items c.args.letters.now c.args.self.now c.self.invariant.0 c.self.view_is c.requires
    (let n = c.len.ensures in let l = c.len-2.ensures in let b = c.if-len-room.false in let m = c.self.invariant.0.count in omega arith)
    (let s = c.in_ok-put_letters.ensures.room in omega (arith, row, longer))

pub returns-then-len-room-clause-full : goal.returns-then-len-room-clause-full
returns-then-len-room-clause-full c = λ h.
    let i = c.self.inside in
    too_many i.queue i.ends.items i.log i.lost.items c.args.letters.now c.args.self.now c.self.invariant.0 c.self.view_is c.requires
    (let n = c.len.ensures in let l = c.len-2.ensures in let b = c.if-len-room.true in let m = c.self.invariant.0.count in omega arith)

pub returns-in_err-put_letters-clause-full : goal.returns-in_err-put_letters-clause-full
returns-in_err-put_letters-clause-full c = λ h.
    let i = c.self.inside in
    let row = ap (λ (bytes : List ℕ). length bytes) c.row.ensures ∙ joined_size c.args.letters.now in
    let long : 134217728 < length i.log + length c.row.result.now = c.in_err-put_letters.ensures.full (same_refusal c.from_residual.result c.in_err-put_letters.field-0.0 Full c.from_residual.ensures.1 h) in
    too_long i.queue i.ends.items i.log i.lost.items c.args.letters.now c.args.self.now c.self.invariant.0 c.self.view_is c.requires (omega (arith, row, long))
