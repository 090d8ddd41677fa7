use Rattle.rest_laws.proofs.EpochTreeReports.{reports_sent}
use Rattle.rest_laws.proofs.epoch_tree.reports_tell_what_is_held.Goals as goal

pub returns : goal.returns
returns c = λ config trace f v ready inside. reports_sent config trace f v ready.past ready.frame inside.store.copies inside.reports
