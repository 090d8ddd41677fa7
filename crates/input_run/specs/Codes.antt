-- What a status is to the program's caller.
use Rattle.std.specs.Prelude.{ℕ, Bool, true, false, List, codes}
use Rattle.locus_io.specs.declared.traits.WriteFault.{WriteFault}
use Rattle.locus_io.specs.declared.traits.WriteFault.TheVariants as write
use Rattle.the_run.specs.Worlds.{Limit}
use Rattle.the_run.specs.Worlds as world
use Rattle.input_run.specs.declared.status.Status.{Status}
use Rattle.input_run.specs.declared.status.Status.TheVariants as status
use Rattle.input_run.specs.declared.status.Limited.{Limited}
use Rattle.input_run.specs.declared.status.Limited.TheVariants.{Packets, Bytes, Trace, Line, Lines}

-- the exit code
abbrev pub code_of : Status → ℕ
code_of status.Ok = 0
code_of status.BadWords = 2
code_of (status.BadLine line) = 3
code_of status.ReadFault = 4
code_of status.WriteFault = 5
code_of status.NoMemory = 6
code_of (status.Limit what) = 7

-- a run that ends so was not cut short while it wrote
abbrev pub ends_written : Status → Bool
ends_written status.Ok = true
ends_written status.BadWords = true
ends_written (status.BadLine line) = true
ends_written status.ReadFault = true
ends_written status.WriteFault = false
ends_written status.NoMemory = false
ends_written (status.Limit what) = true

-- a load may end so
abbrev pub ends_load : Status → Bool
ends_load status.Ok = true
ends_load status.BadWords = false
ends_load (status.BadLine line) = false
ends_load status.ReadFault = false
ends_load status.WriteFault = true
ends_load status.NoMemory = true
ends_load (status.Limit Line) = false
ends_load (status.Limit Lines) = false
ends_load (status.Limit _) = true

-- a limit's name in a message
abbrev pub limit_word : Limited → List ℕ
limit_word Packets = codes "packets"
limit_word Bytes = codes "bytes"
limit_word Trace = codes "trace"
limit_word Line = codes "line"
limit_word Lines = codes "lines"

-- what has the limit that a run passes
abbrev pub limited : Limit → Limited
limited world.Packets = Packets
limited world.Bytes = Bytes
limited world.Trace = Trace

-- what a run comes to where a write goes wrong
abbrev pub status_of : WriteFault → Status
status_of write.Failed = status.WriteFault
status_of write.NoMemory = status.NoMemory
