use Rattle.packet_laws.proofs.Reaching.Run.{run_reached}
use Rattle.packet_laws.proofs.reach_laws.records_tell_low_numbers.Goals as goal

pub returns : goal.returns
returns g = λ c lines fit packs few. run_reached c lines fit packs few
