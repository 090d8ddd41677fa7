use Rattle.rest_laws.proofs.Fits.CalmAskingDoing.{doable}
use Rattle.rest_laws.proofs.calm_asking.asked_operations_can_be_done.Goals as goal

pub returns : goal.returns
returns c = λ config trace past e ss i n o seen q. doable config trace past e ss i n o seen q
