use Rattle.rest_laws.proofs.EpochTreeCounted.{report_table}
use Rattle.rest_laws.proofs.EpochTreeCounting.{report_rows}
use Rattle.rest_laws.proofs.epoch_tree.reported_rows_stand.Goals as goal

pub returns : goal.returns
returns c = record {
  rows = λ config trace e g from xs t past told k. report_rows config trace e g from past xs told t k;
  table = λ config trace f from xs t past waits k right told files. report_table config trace f from xs t past waits k right told files;
}
