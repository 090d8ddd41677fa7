-- Where the runners stand before the first line, and how a command ends there.
use Rattle.std.proofs.Common.{◌≡◌, ℕ, List, [], Option, refl, sym, ◌∙◌}
use Rattle.schedule_run.specs.declared.fault.RunFault.{RunFault}
use Rattle.schedule_run.specs.declared.fault.RunFault.TheVariants.{Bad, NoMemory, World}
use Rattle.schedule_run.specs.declared.runner.ScheduleRunner.{ScheduleRunner}
use Rattle.schedule_run.specs.Standing.{HasRun}
use Rattle.schedule_run.specs.declared.tree.TreeRunner.{TreeRunner}
use Rattle.schedule_run.specs.Tree.{HasRun as HasAsked}
use Rattle.input_run.specs.declared.status.Status.{Status}
use Rattle.input_run.specs.declared.status.Status.TheVariants as status
use Rattle.input_run.specs.Inputs.{opening_of}
use Rattle.input_run.specs.Inputs.Input.{Schedule, Calls}
use Rattle.input_run.specs.Promises.{LinePromises}
use Rattle.input_run.specs.Runners.{ScheduleStands, TreeStands}
use Rattle.input_run.specs.Ends.{status_of_line}
use Rattle.input_run.proofs.Complete.{for_memory}
use Rattle.input_run.proofs.Runs.{Nothing-front}

pub schedule_opens : (r : ScheduleRunner) → HasRun [] [] r → ScheduleStands [] (opening_of Schedule) [] r
unfolding opening_of
schedule_opens r h = record { schedule = tt; ran = h }

pub tree_opens : (r : TreeRunner) → HasAsked [] [] r → TreeStands [] (opening_of Calls) [] r
unfolding opening_of
tree_opens r h = record { calls = []; asked = tt; run = refl; ran = h }

-- the opening of a tree was not done
pub not_opened : (fault : RunFault) (n : ℕ) (source left t : Option (List ℕ)) → (fault ≡ Bad → ⊥) → LinePromises Calls (status_of_line fault n) source left t t
not_opened Bad n source left t good = absurd (good refl)
not_opened NoMemory n source left t good = for_memory Calls source left t t (Nothing-front Calls source t)
not_opened (World cause) n source left t good = for_memory Calls source left t t (Nothing-front Calls source t)

-- it ends for want of memory
pub no_other : (fault : RunFault) (n : ℕ) → (fault ≡ Bad → ⊥) → status_of_line fault n ≡ status.NoMemory
no_other Bad n good = absurd (good refl)
no_other NoMemory n good = refl
no_other (World cause) n good = refl

pub only_memory : (s t : Status) → s ≡ status.NoMemory → (status.NoMemory ≡ t → ⊥) → s ≡ t → ⊥
only_memory s t h m e = m (sym h ∙ e)
