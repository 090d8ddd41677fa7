-- What an operation on a directory answered, with the entries after it, as its effect.
use Rattle.std.specs.Prelude.{List, Option, None, Some}
use Rattle.dir_format.specs.declared.entry.Entry.{Entry}
use Rattle.dir_format.specs.Effects.{DirEffect}
use Rattle.dir_operations.specs.declared.answer.DirAnswer.{DirAnswer}

-- an answer with the entries after it
abbrev pub effect_of : DirAnswer → List Entry → DirEffect
effect_of a ds = record { outcome = a.outcome; entries = ds; counts = a.counts; spent = a.spent }

-- where it is lawful
abbrev pub effect_of_some : Option DirAnswer → List Entry → Option DirEffect
effect_of_some None ds = None
effect_of_some (Some a) ds = Some (effect_of a ds)
