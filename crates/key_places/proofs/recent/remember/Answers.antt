use Rattle.std.proofs.Common.{◌≡◌, length, ap, ◌∙◌, rules}
use Rattle.key_places.specs.Recent.{slot_of}
use Rattle.key_places.proofs.Remembered.{remembered}
use Rattle.key_places.proofs.recent.remember.Goals as goal

pub returns : goal.returns
returns c keys before same =
    let many : c.len.result ≡ length c.args.slots.now.items = search rules in
    remembered c.args.slots.now.items c.slot_of-at.result c.args.key c.args.place keys before same (c.slot_of-at.ensures.value ∙ ap (slot_of c.args.key) many)
