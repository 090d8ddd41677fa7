-- Why a site doesn't boot.
use Rattle.site_disk.specs.declared.boot_fault.BootFault.{BootFault}
use Rattle.site_disk.specs.declared.boot_fault.BootFault.TheVariants.{Disk, NotALabel, Spent, NotAPack, BadSlot, SharedTable, SharedPage, NoMemory}

-- a fault of a boot that may come where the disk is whole
abbrev pub IsOfWhole : BootFault → Type 0
IsOfWhole Disk = Unit {0}
IsOfWhole NotALabel = ⊥
IsOfWhole Spent = Unit {0}
IsOfWhole NotAPack = ⊥
IsOfWhole (BadSlot ino) = ⊥
IsOfWhole (SharedTable table) = ⊥
IsOfWhole (SharedPage page) = ⊥
IsOfWhole NoMemory = Unit {0}
