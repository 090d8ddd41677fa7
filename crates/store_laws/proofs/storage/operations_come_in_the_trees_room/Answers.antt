use Rattle.store_laws.proofs.Executing.{op_fine}
use Rattle.store_laws.proofs.StorageResting.{rests_hold, room_is}
use Rattle.store_laws.proofs.storage.operations_come_in_the_trees_room.Goals as goal

pub returns : goal.returns
returns c = λ config n trace followed laws plain more f frame s kept ready m inst low number o seen fact mends low_told stays.
    op_fine config n trace laws.packs followed (rests_hold config trace followed laws plain) more f frame s kept (room_is config trace followed laws plain f frame s kept) ready m inst low number o seen fact mends low_told stays
