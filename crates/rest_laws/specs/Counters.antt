-- No counter of a run comes to its end.
use Rattle.std.specs.Prelude.{◌<◌, List}
use Rattle.trace_book.specs.declared.record.Record.{Record}
use Rattle.trace_book.specs.declared.record.Record.TheVariants as says
use Rattle.role_steps.specs.Own.{Every}
use Rattle.role_steps.specs.Views.{Told, Shown}
use Rattle.the_run.specs.Worlds.{Line}
use Rattle.store_laws.specs.of_site_laws.Vectors.Written.{past_of}
use Rattle.store_laws.specs.OneTree.Rest.{IsSpentMend}

abbrev pub LowRecord : Record → Type 0
LowRecord (says.Commit f s stamp parents content) = stamp.n < 4294967295
LowRecord (says.Act e inst n o r) = IsSpentMend o r → ⊥
LowRecord _ = Unit {0}

abbrev pub LowTold : Told → Type 0
LowTold (Shown r) = LowRecord r
LowTold _ = Unit {0}

-- no commit has the last number of 32 bits, and no mend is refused for want of a number
abbrev pub CountersAreLow : List Line → Type 0
CountersAreLow trace = Every LowTold (past_of trace)
