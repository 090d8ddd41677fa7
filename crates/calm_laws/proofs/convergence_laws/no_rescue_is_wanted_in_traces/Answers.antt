use Rattle.schedule_lines.specs.Cluster.{config_of}
use Rattle.calm_laws.proofs.CalmAnswerAnswered.{calm_left}
use Rattle.calm_laws.proofs.Convergence.DirectoriesRescued.{rescued_in_three}
use Rattle.calm_laws.proofs.Convergence.TraceRescued.{rescue_by_trace}
use Rattle.calm_laws.proofs.convergence_laws.no_rescue_is_wanted_in_traces.Goals as goal

pub returns : goal.returns
returns c = λ lines order within. rescue_by_trace lines order within (calm_left (config_of lines)) (rescued_in_three (config_of lines) (calm_left (config_of lines)))
