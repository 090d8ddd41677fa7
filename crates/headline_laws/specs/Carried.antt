-- That calm rounds carry what waits.
use Rattle.std.specs.Prelude.{ℕ, ◌≤◌, List}
use Rattle.schedule_lines.specs.Cluster.{config_of}
use Rattle.schedule_lines.specs.declared.line.ScheduleLine.{ScheduleLine}
use Rattle.role_steps.specs.declared.rounds.InEpoch.{InEpoch}
use Rattle.calm_laws.specs.Carrying.{IsAllCarried}
use Rattle.calm_laws.specs.Rounds.{IsCalm, after}

-- In a calm round, once all its ticks are done, the reports of all members and the current request of each waiting call of a member are
-- carried, by a packet under way or by the synchronization site that holds it before the start; and so after each delivery.
abbrev pub CalmRoundsCarry : List ScheduleLine → Type 0
CalmRoundsCarry lines = (n : ℕ) (e : InEpoch) (k j : ℕ) → IsCalm (config_of lines) lines n e k → j ≤ k → IsAllCarried (config_of lines) e (after (config_of lines) lines n j)
