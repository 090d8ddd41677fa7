use Rattle.schedule_lines.specs.Cluster.{config_of}
use Rattle.calm_laws.proofs.CalmAnswerAnswered.{calm_left}
use Rattle.calm_laws.proofs.Convergence.TraceFlagged.{none_flagged}
use Rattle.calm_laws.proofs.convergence_laws.no_directory_is_flagged_in_traces.Goals as goal

pub returns : goal.returns
returns c = λ lines order within. none_flagged lines order within (calm_left (config_of lines))
