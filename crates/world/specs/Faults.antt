-- Which faults may come at a line.
use Rattle.std.specs.Prelude.{◌≡◌, ◌⊎◌, None}
use Rattle.locus_ids.specs.declared.config.Config.{Config}
use Rattle.schedule_lines.specs.declared.line.Line.{Line}
use Rattle.schedule_lines.specs.declared.line.Line.TheVariants as line
use Rattle.site_place.specs.declared.fault.StartFault.{StartFault}
use Rattle.site_place.specs.declared.fault.StartFault.TheVariants as start
use Rattle.site_place.specs.declared.fault.PlaceFault.{PlaceFault}
use Rattle.site_place.specs.declared.fault.PlaceFault.TheVariants as place
use Rattle.run_book.specs.declared.fault.BookFault.{BookFault}
use Rattle.run_book.specs.declared.fault.BookFault.TheVariants as book
use Rattle.the_run.specs.Worlds.{World}
use Rattle.world.specs.States.{WorldState}
use Rattle.world.specs.Shown.{Taken, Shows}
use Rattle.world.specs.declared.fault.WorldFault.{WorldFault}
use Rattle.world.specs.declared.fault.WorldFault.TheVariants.{NoMemory, UnfitPacket, UnfitValue, Spent}

abbrev pub fault_of_start : StartFault → WorldFault
fault_of_start start.NoMemory = NoMemory
fault_of_start start.Spent = Spent

-- Want of memory may come at any line. At a boot the boot numbers may be spent. Another fault comes only where an event happens at a
-- site that runs.
abbrev pub MayCome : Line → WorldFault → Type 0
MayCome (line.Call site process call) fault = Unit {0}
MayCome (line.Deliver packet) fault = Unit {0}
MayCome (line.Lose packet) fault = fault ≡ NoMemory
MayCome (line.Tick site) fault = Unit {0}
MayCome (line.Down one other) fault = fault ≡ NoMemory
MayCome (line.Up one other) fault = fault ≡ NoMemory
MayCome (line.Part site) fault = Unit {0}
MayCome (line.Merge site) fault = Unit {0}
MayCome (line.GiveUp site) fault = Unit {0}
MayCome (line.Stop site) fault = fault ≡ NoMemory
MayCome (line.ArmStop site calls leave) fault = ⊥
MayCome (line.ArmFail site calls) fault = ⊥
MayCome (line.Boot site) fault = (fault ≡ NoMemory) ⊎ (fault ≡ Spent)
MayCome (line.Settle most) fault = Unit {0}
MayCome line.Pending fault = fault ≡ NoMemory

abbrev pub fault_of_place : PlaceFault → WorldFault
fault_of_place place.NoMemory = NoMemory
fault_of_place place.Unfit = UnfitValue

abbrev pub fault_of_book : BookFault → WorldFault
fault_of_book book.NoMemory = NoMemory
fault_of_book book.Unfit = UnfitPacket

-- whatever world is shown in which this is so, the fault is want of memory
abbrev pub WantsMemory : (Config → World → Type 0) → WorldState → WorldFault → Type 0
WantsMemory Need x fault = (c : Config) (taken : Taken) (w : World) → Shows c taken w x → Need c w → fault ≡ NoMemory

-- the same, of a world in which no limit was passed
abbrev pub WantsMemoryWithin : (Config → World → Type 0) → WorldState → WorldFault → Type 0
WantsMemoryWithin Need x fault = (c : Config) (taken : Taken) (w : World) → w.over ≡ None → Shows c taken w x → Need c w → fault ≡ NoMemory
