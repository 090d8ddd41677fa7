use Rattle.std.proofs.lemmas.List.{get_or-replicate}
use Rattle.pack_slots.proofs.formatting.zero_slots.Goals as goal

pub write_pieces-requires-clause-zeros : goal.write_pieces-requires-clause-zeros
write_pieces-requires-clause-zeros g c j lt = get_or-replicate 16384 j 0 0 lt
