-- One step of a merge of two lists in order.
use Rattle.std.specs.Prelude.{ℕ}
use Rattle.std.specs.declared.cmp.Ordering.{Ordering}
use Rattle.std.specs.declared.cmp.Ordering.TheVariants.{Less, Equal, Greater}
use Rattle.dir_format.specs.declared.entry.Entry.{Entry}
use Rattle.dir_reconcile.specs.Joins.{joined_entry}

-- what comes next of two entries
abbrev pub merged : Ordering → Entry → Entry → Entry
merged Less x y = x
merged Equal x y = joined_entry x y
merged Greater x y = y

-- how many entries of the first list go by
abbrev pub from_first : Ordering → ℕ
from_first Less = 1
from_first Equal = 1
from_first Greater = 0

-- how many of the second
abbrev pub from_second : Ordering → ℕ
from_second Less = 0
from_second Equal = 1
from_second Greater = 1
