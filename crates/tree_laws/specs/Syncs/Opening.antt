-- Which opens are of files that stand.
use Rattle.locus_ids.specs.declared.ids.Mode.{Mode}
use Rattle.locus_ids.specs.declared.ids.Mode.TheVariants as mode
use Rattle.wire_messages.specs.declared.body.Opening.{Opening}
use Rattle.wire_messages.specs.declared.body.Opening.TheVariants as how

-- the open is of a file that stands: it makes none
abbrev pub IsPlainOpening : Opening → Type 0
IsPlainOpening (how.Make set k) = ⊥
IsPlainOpening q = Unit {0}

-- reading and ordinary writing
abbrev pub IsOrdinary : Opening → Type 0
IsOrdinary how.Read = Unit {0}
IsOrdinary how.Write = Unit {0}
IsOrdinary _ = ⊥

-- an instance in this mode is of a file that stood before it
abbrev pub IsFileMode : Mode → Type 0
IsFileMode mode.Make = ⊥
IsFileMode m = Unit {0}
