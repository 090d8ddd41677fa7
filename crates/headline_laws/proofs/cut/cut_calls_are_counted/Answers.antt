use Rattle.headline_laws.proofs.WholeRuns.CutRun.{cuts_counted, schedule_counted}
use Rattle.headline_laws.proofs.cut.cut_calls_are_counted.Goals as goal

pub returns : goal.returns
returns c = record {
  fit = λ config lines ins packs few. cuts_counted config lines ins packs few;
  read = λ lines order. schedule_counted lines order;
}
