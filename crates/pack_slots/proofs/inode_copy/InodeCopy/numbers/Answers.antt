use Rattle.std.proofs.Common.{◌≡◌, ◌+◌, ◌-◌, length, ◌∙◌, arith}
use Rattle.locus_ids.specs.Sizes.{slot_pages}
use Rattle.pack_slots.proofs.Numbers.{numbers_made}
use Rattle.pack_slots.proofs.inode_copy.InodeCopy.numbers.Goals as goal

pub returns : goal.returns
returns c =
    let copy = c.args.self.now in
    let long : length c.copy_from_slice.new.self ≡ slot_pages = search in
    let wide : 60 + c.len-end.result - 60 ≡ length copy.more = omega (arith, c.len-end.ensures) in
    numbers_made copy.slot.pages copy.more c.copy_from_slice.new.self c.copy_from_slice-2.new.self (60 + c.len-end.result - 60) long c.copy_from_slice.ensures.after (c.copy_from_slice-2.ensures.after ∙ c.as_slice.ensures) wide c.requires
