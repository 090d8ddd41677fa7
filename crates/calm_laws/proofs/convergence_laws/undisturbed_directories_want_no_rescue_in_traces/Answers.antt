use Rattle.calm_laws.proofs.CalmAnswerAnswered.{calm_left}
use Rattle.schedule_lines.specs.Cluster.{config_of}
use Rattle.calm_laws.proofs.Convergence.DirectoriesRescued.{rescued}
use Rattle.calm_laws.proofs.Convergence.TraceRescued.{undisturbed_by_trace}
use Rattle.calm_laws.proofs.convergence_laws.undisturbed_directories_want_no_rescue_in_traces.Goals as goal

pub returns : goal.returns
returns c = λ lines order within. undisturbed_by_trace lines order within (calm_left (config_of lines)) (rescued (config_of lines) (calm_left (config_of lines)))
