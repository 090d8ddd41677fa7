-- Which looks mean more than they say.
use Rattle.std.specs.Prelude.{Bool, true, false}
use Rattle.trace_book.specs.declared.operation.What.{What}
use Rattle.trace_book.specs.declared.operation.What.TheVariants.{Name, List, Stat, Whole}

-- the look is at a whole content
abbrev pub is_whole : What → Bool
is_whole (Name component) = false
is_whole List = false
is_whole Stat = false
is_whole (Whole stamp) = true
