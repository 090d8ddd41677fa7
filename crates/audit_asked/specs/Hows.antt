-- How an open is asked for.
use Rattle.std.specs.Prelude.{Bool, true, false}
use Rattle.locus_ids.specs.declared.ids.Mode.{Mode}
use Rattle.locus_ids.specs.declared.ids.Mode.TheVariants as mode
use Rattle.trace_book.specs.declared.call.OpenMode.{OpenMode}
use Rattle.trace_book.specs.declared.call.OpenMode.TheVariants as how

-- an open in this mode is asked so
abbrev pub is_how : Mode → OpenMode → Bool
is_how mode.Read how.Read = true
is_how mode.Read how.Steady = true
is_how mode.Write how.Write = true
is_how mode.Resolve (how.Resolve site) = true
is_how _ _ = false
