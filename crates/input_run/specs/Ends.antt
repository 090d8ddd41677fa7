-- What a run comes to where it cannot go on.
use Rattle.std.specs.Prelude.{ℕ}
use Rattle.schedule_run.specs.declared.fault.RunFault.{RunFault}
use Rattle.schedule_run.specs.declared.fault.RunFault.TheVariants.{Bad, NoMemory, World}
use Rattle.schedule_run.specs.declared.load_fault.LoadFault.{LoadFault}
use Rattle.schedule_run.specs.declared.load_fault.LoadFault.TheVariants as load
use Rattle.run_book.specs.Ledgers.{limit_named}
use Rattle.input_run.specs.declared.status.Status.{Status}
use Rattle.input_run.specs.declared.status.Status.TheVariants as status
use Rattle.input_run.specs.Codes.{limited}

-- what a run comes to where the line of this number is not done
abbrev pub status_of_line : RunFault → ℕ → Status
status_of_line Bad number = status.BadLine number
status_of_line NoMemory number = status.NoMemory
status_of_line (World cause) number = status.NoMemory

-- what a load comes to where it was not run to its end
abbrev pub status_of_load : LoadFault → Status
status_of_load (load.Limit passed) = status.Limit (limited (limit_named passed))
status_of_load load.NoMemory = status.NoMemory
status_of_load (load.World cause) = status.NoMemory
