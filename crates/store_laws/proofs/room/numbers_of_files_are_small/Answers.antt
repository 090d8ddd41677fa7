use Rattle.store_laws.proofs.Holdings.RoomNarrow.{stands_narrow}
use Rattle.store_laws.proofs.room.numbers_of_files_are_small.Goals as goal

pub returns : goal.returns
returns c = λ config trace f stamp fit stands. stands_narrow config trace fit f stamp stands
