use Rattle.site_laws.proofs.Packs.CounterRun.{run_numbers_low}
use Rattle.site_laws.proofs.counter.numbers_stay_low.Goals as goal

pub returns : goal.returns
returns c = λ config lines. run_numbers_low config lines
