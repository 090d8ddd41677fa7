-- Whether a mend was refused since a count was at its end.
use Rattle.std.specs.Prelude.{List}
use Rattle.trace_book.specs.declared.record.Record.{Record}
use Rattle.trace_book.specs.declared.record.Record.TheVariants as says
use Rattle.role_steps.specs.Own.{Every}
use Rattle.role_steps.specs.Views.{Told, Shown}
use Rattle.store_laws.specs.OneTree.Rest.{IsSpentMend}

abbrev pub MendedRecord : Record → Type 0
MendedRecord (says.Act e inst n o r) = IsSpentMend o r → ⊥
MendedRecord _ = Unit {0}

abbrev pub MendedTold : Told → Type 0
MendedTold (Shown r) = MendedRecord r
MendedTold _ = Unit {0}

-- no mend was refused so
abbrev pub AllMended : List Told → Type 0
AllMended past = Every MendedTold past
