-- How a steady descriptor is held: by an instance, until its site leaves the epoch of that.
use Rattle.std.specs.Prelude.{ℕ, true, false, cond}
use Rattle.locus_ids.specs.declared.ids.EpochId.{EpochId}
use Rattle.read_reopen.specs.declared.steady.Steady.{Steady}
use Rattle.read_reopen.specs.declared.steady.SteadyStep.{SteadyStep}
use Rattle.read_reopen.specs.declared.steady.SteadyStep.TheVariants.{Read, Open}

-- the epoch is left
abbrev pub let_go : Steady → Steady
let_go s = record s { held = false }

-- a read goes to the instance that holds it, or opens the file again
abbrev pub step_of : Steady → SteadyStep
step_of s = cond s.held Read Open

-- this instance of the epoch holds it now
abbrev pub held_by : Steady → EpochId → ℕ → Steady
held_by s epoch serial = record s { last = epoch; held = true; serial = serial }
