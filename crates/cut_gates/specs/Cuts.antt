-- How a disk call was cut off, by what it leaves.
use Rattle.std.specs.Prelude.{Option, None, Some}
use Rattle.schedule_lines.specs.declared.line.Leave.{Leave}
use Rattle.disk_calls.specs.Gates.{Cut, Stops, Fails}

-- the site stopped in it, or it failed
abbrev pub cut_of : Option Leave → Cut
cut_of (Some leave) = Stops leave
cut_of None = Fails
