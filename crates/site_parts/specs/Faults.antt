-- Which fault of the site a fault of one of its parts becomes.
use Rattle.merge_protocol.specs.declared.errors.EpochError.{EpochError}
use Rattle.merge_protocol.specs.declared.errors.EpochError.TheVariants as epoch
use Rattle.packet_order.specs.declared.fault.OrderFault.{OrderFault}
use Rattle.packet_order.specs.declared.fault.OrderFault.TheVariants as order
use Rattle.site_packs.specs.declared.faults.CommitFault.{CommitFault}
use Rattle.site_packs.specs.declared.faults.CommitFault.TheVariants as commit
use Rattle.storage_site.specs.of_store_instances.declared.fault.StoreFault.{StoreFault}
use Rattle.storage_site.specs.of_store_instances.declared.fault.StoreFault.TheVariants as store
use Rattle.site_mends.specs.declared.fault.MendFault.{MendFault}
use Rattle.site_mends.specs.declared.fault.MendFault.TheVariants as mend
use Rattle.site_parts.specs.declared.fault.NodeFault.{NodeFault}
use Rattle.site_parts.specs.declared.fault.NodeFault.TheVariants.{NoMemory, Disk, Cut, NoNumber, Unfit}

abbrev pub fault_of_epoch : EpochError → NodeFault
fault_of_epoch epoch.NoMemory = NoMemory
fault_of_epoch epoch.NoNumber = NoNumber

abbrev pub fault_of_order : OrderFault → NodeFault
fault_of_order order.NoMemory = NoMemory
fault_of_order order.Unfit = Unfit

abbrev pub fault_of_store : StoreFault → NodeFault
fault_of_store store.Disk = Disk
fault_of_store (store.Cut size) = Cut size
fault_of_store store.Unfit = Unfit
fault_of_store store.NoMemory = NoMemory

abbrev pub fault_of_commit : CommitFault → NodeFault
fault_of_commit commit.Disk = Disk
fault_of_commit (commit.Cut size) = Cut size
fault_of_commit commit.NoSpace = Unfit
fault_of_commit commit.Unfit = Unfit
fault_of_commit commit.NoMemory = NoMemory

abbrev pub fault_of_mend : MendFault → NodeFault
fault_of_mend mend.NoMemory = NoMemory
fault_of_mend mend.Disk = Disk
fault_of_mend mend.Unfit = Unfit

-- the fault of a call that only reads: no write is cut off in it
abbrev pub fault_of_reading : StoreFault → NodeFault
fault_of_reading store.Disk = Disk
fault_of_reading (store.Cut size) = Disk
fault_of_reading store.Unfit = Unfit
fault_of_reading store.NoMemory = NoMemory

-- no call of the disk failed
abbrev pub IsOffDisk : NodeFault → Type 0
IsOffDisk Disk = ⊥
IsOffDisk (Cut size) = ⊥
IsOffDisk NoMemory = Unit {0}
IsOffDisk NoNumber = Unit {0}
IsOffDisk Unfit = Unit {0}

-- neither the disk nor the numbers of epochs have to do with it
abbrev pub IsOwn : NodeFault → Type 0
IsOwn NoMemory = Unit {0}
IsOwn Unfit = Unit {0}
IsOwn NoNumber = ⊥
IsOwn Disk = ⊥
IsOwn (Cut size) = ⊥
