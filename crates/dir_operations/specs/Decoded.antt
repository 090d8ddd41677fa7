-- What a decoder of directories answered, against what was to be read.
use Rattle.std.specs.Prelude.{◌≡◌, ℕ, List, Result, Ok, Err}
use Rattle.field_codec.specs.declared.faults.FieldFault.{FieldFault}
use Rattle.field_codec.specs.declared.faults.FieldFault.TheVariants.{Short, Range}
use Rattle.dir_format.specs.declared.entry.Entry.{Entry}
use Rattle.dir_format.specs.declared.directory.Dir.{Dir}
use Rattle.dir_operations.specs.declared.decoding.BadDir.{BadDir}
use Rattle.dir_operations.specs.declared.decoding.BadDir.TheVariants.{At, NoMemory}

-- where a field at fault begins
abbrev pub place_of : FieldFault → ℕ
place_of (Short at) = at
place_of (Range at) = at

-- the entries that were to be read, or the place of the field at fault, unless memory ran out
abbrev pub Decoded : Result (List Entry) FieldFault → Result Dir BadDir → Type 0
Decoded wanted (Ok d) = wanted ≡ Ok d
Decoded wanted (Err (At at)) = (fault : FieldFault) × (wanted ≡ Err fault) × (place_of fault ≡ at)
Decoded wanted (Err NoMemory) = Unit {0}
