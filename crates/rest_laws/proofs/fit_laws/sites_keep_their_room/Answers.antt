use Rattle.rest_laws.proofs.Roles.{roles_do}
use Rattle.rest_laws.proofs.Fits.RoomRun.{next_room}
use Rattle.rest_laws.proofs.Fits.Storing.{store_fits}
use Rattle.rest_laws.proofs.fit_laws.sites_keep_their_room.Goals as goal

pub returns : goal.returns
returns c = record {
  room = λ config few trace me links v e past fact comes h. next_room config (roles_do config few) trace me links v e past fact comes h;
  storable = λ config trace f s past frame store h. store_fits config trace past f frame s store h;
}
