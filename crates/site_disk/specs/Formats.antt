-- What a format answers.
use Rattle.std.specs.Prelude.{ℕ, Result, Ok, Err}
use Rattle.disk_model.specs.declared.disk.DiskFault.{DiskFault}
use Rattle.disk_model.specs.declared.disk.DiskFault.TheVariants.{Failed}
use Rattle.disk_model.specs.Disk.{Passing}
use Rattle.disk_model.specs.Moments.{TellsMany}
use Rattle.site_disk.specs.declared.format_fault.FormatFault.{FormatFault}
use Rattle.site_disk.specs.declared.format_fault.FormatFault.TheVariants.{Disk, NoMemory}

-- what the disk calls of a format answered
abbrev pub disk_answer : {T : Type 0} → Result T FormatFault → Result (Unit {0}) DiskFault
disk_answer (Ok packs) = Ok tt
disk_answer (Err Disk) = Err Failed
disk_answer (Err NoMemory) = Ok tt

-- where a disk tells how many calls pass, a format that has memory fails exactly where they are too few
abbrev pub TellsFormat : {T : Type 0} → ℕ → Passing → Passing → Result T FormatFault → Type 0
TellsFormat calls before after (Ok packs) = TellsMany {T = Unit {0}} {E = DiskFault} calls before after (Ok tt)
TellsFormat calls before after (Err Disk) = TellsMany {T = Unit {0}} {E = DiskFault} calls before after (Err Failed)
TellsFormat calls before after (Err NoMemory) = Unit {0}
