use Rattle.store_laws.proofs.Holdings.RoomRoom.{room_same}
use Rattle.store_laws.proofs.room.room_is_the_trees.Goals as goal

pub returns : goal.returns
returns c = λ config trace f s followed rests frame store group. room_same config trace f s followed rests frame store group
