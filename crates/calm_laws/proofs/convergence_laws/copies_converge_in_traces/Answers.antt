use Rattle.schedule_lines.specs.Cluster.{config_of}
use Rattle.calm_laws.proofs.CalmAnswerAnswered.{calm_left}
use Rattle.calm_laws.proofs.Convergence.TraceConverging.{converging}
use Rattle.calm_laws.proofs.convergence_laws.copies_converge_in_traces.Goals as goal

pub returns : goal.returns
returns c = λ lines order within. converging lines order within (calm_left (config_of lines))
