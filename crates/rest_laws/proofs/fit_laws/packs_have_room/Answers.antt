use Rattle.rest_laws.proofs.Fits.RoomRun.{run_room}
use Rattle.rest_laws.proofs.fit_laws.packs_have_room.Goals as goal

pub returns : goal.returns
returns c = λ config lines fit packs few s v here. run_room config lines fit packs few s v here
