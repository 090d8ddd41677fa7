use Rattle.trace_samples.proofs.FirstRight.{first_is_lawful}
use Rattle.trace_samples.proofs.PartedRight.{parted_is_lawful}
use Rattle.trace_samples.proofs.FlaggedRight.{flagged_is_lawful}
use Rattle.trace_samples.proofs.StoppedRight.{stopped_is_lawful}
use Rattle.trace_samples.proofs.laws.right_traces_are_lawful.Goals as goal

pub returns-clause-first_run : goal.returns-clause-first_run
returns-clause-first_run c = first_is_lawful

pub returns-clause-parted_run : goal.returns-clause-parted_run
returns-clause-parted_run c = parted_is_lawful

pub returns-clause-flagged_run : goal.returns-clause-flagged_run
returns-clause-flagged_run c = flagged_is_lawful

pub returns-clause-stopped_run : goal.returns-clause-stopped_run
returns-clause-stopped_run c = stopped_is_lawful
