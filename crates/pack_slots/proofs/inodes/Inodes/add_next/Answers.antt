use Rattle.std.proofs.Common.{ℕ, ◌∙◌, ap}
use Rattle.pack_slots.specs.Found.{first_bad}
use Rattle.pack_slots.proofs.NoneOpen.{adds_none}
use Rattle.pack_slots.proofs.inodes.Inodes.add_next.Goals as goal

pub returns-then-are_shut : goal.returns-then-are_shut
returns-then-are_shut c base image one two =
    let added = c.in_ok-push_none.ensures in
    adds_none base c.args.ino image c.args.first.now c.args.second.now c.args.self.now c.push_none.new.self one two (c.are_shut.ensures c.if-are_shut.true) added.copies added.losing added.bad

pub returns : goal.returns
returns c base image one two =
    let added = c.in_ok-add.ensures in
    record {
      read = c.read_both-read.result;
      copies = added.copies;
      losing = added.losing;
      bad = added.bad ∙ ap (λ (n : ℕ). first_bad c.args.self.now.bad n c.read_both-read.result) c.get.ensures.value;
      found = c.read_both-read.ensures.found base image one two;
      unread = c.read_both-read.ensures.unread;
      wrong = c.read_both-read.ensures.bad base image one two;
    }
