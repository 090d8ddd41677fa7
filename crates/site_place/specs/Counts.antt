-- The script of a site's disk, and the count of its calls that is kept beside it.
use Rattle.std.specs.Prelude.{ℕ, Option, None, Some}
use Rattle.disk_model.specs.declared.script.Armed.{Armed}
use Rattle.disk_model.specs.declared.script.Armed.TheVariants.{Nothing, StopAfter, FaultAfter}
use Rattle.disk_model.specs.declared.script.Fired.{Fired}
use Rattle.disk_model.specs.declared.script.Fired.TheVariants.{No, Stop, Fault}
use Rattle.disk_model.specs.declared.script.Script.{Script}
use Rattle.site_disk.specs.Run.{as_leave}
use Rattle.site_place.specs.declared.script.CallCut.{CallCut}
use Rattle.site_place.specs.declared.script.CallCut.TheVariants as script
use Rattle.site_place.specs.declared.script.DiskScript.{DiskScript}

-- how many calls pass until the script fires; where none is armed, and once it has fired, the count that is kept is as good as any
abbrev pub counted_at : Fired → Armed → ℕ → ℕ
counted_at No Nothing kept = kept
counted_at No (StopAfter calls leave) kept = calls
counted_at No (FaultAfter calls) kept = calls
counted_at Stop armed kept = kept
counted_at Fault armed kept = kept

abbrev pub counted : Script → ℕ → ℕ
counted s kept = counted_at s.fired s.writes kept

-- what is armed on the disk where so many calls pass, and the next one is cut off so
abbrev pub armed_disk : ℕ → CallCut → Armed
armed_disk calls (script.Stops leave) = StopAfter calls (as_leave leave)
armed_disk calls script.Fails = FaultAfter calls

-- where a script is armed or none
abbrev pub armed_by_script : Option DiskScript → Armed
armed_by_script None = Nothing
armed_by_script (Some x) = armed_disk x.left x.how

-- a script that hasn't fired, on a disk that has failed so often
abbrev pub waiting : Armed → ℕ → Script
waiting armed faults = record { writes = armed; reads = None; fired = No; faults = faults }
