use Rattle.pack_layout.specs.declared.half.Half.TheVariants.{First, Second}
use Rattle.pack_layout.specs.Layout.{slot_at}
use Rattle.pack_slots.proofs.slots.read_both.Goals as goal

pub returns-clause-found : goal.returns-clause-found
returns-clause-found c base image one two =
    c.both.ensures.found base c.args.ino image (c.read_in-one.ensures (slot_at base c.args.ino First) image one) (c.read_in-two.ensures (slot_at base c.args.ino Second) image two)

pub returns-clause-bad : goal.returns-clause-bad
returns-clause-bad c base image one two =
    c.both.ensures.bad base c.args.ino image (c.read_in-one.ensures (slot_at base c.args.ino First) image one) (c.read_in-two.ensures (slot_at base c.args.ino Second) image two)
