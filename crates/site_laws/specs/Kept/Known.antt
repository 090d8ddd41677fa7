-- What records name of versions: what is adopted or published was told before.
use Rattle.std.specs.Prelude.{ℕ, List, [], ◌∷◌, Some}
use Rattle.locus_ids.specs.declared.ids.FileId.{FileId}
use Rattle.locus_ids.specs.declared.ids.Stamp.{Stamp}
use Rattle.trace_book.specs.declared.record.Record.{Record}
use Rattle.trace_book.specs.declared.record.Record.TheVariants as says
use Rattle.role_steps.specs.Views.{Told, Shown}
use Rattle.site_laws.specs.Vectors.Written.{WrittenAs}

-- the version of the file with this stamp was told, or is the format's
abbrev pub IsVersion : List Told → FileId → Stamp → Type 0
IsVersion past file stamp = (vector : List ℕ) × WrittenAs past file stamp vector

abbrev pub NamedRecord : List Told → Record → Type 0
NamedRecord older (says.Adopt file s stamp) = IsVersion older file stamp
NamedRecord older (says.Release e inst file (Some stamp)) = IsVersion older file stamp
NamedRecord older _ = Unit {0}

abbrev pub NamedTold : List Told → Told → Type 0
NamedTold older (Shown r) = NamedRecord older r
NamedTold older _ = Unit {0}

-- each version that a record adopts or publishes is one by then
abbrev pub NamesAreVersions : List Told → Type 0
NamesAreVersions [] = Unit {0}
NamesAreVersions (x ∷ older) = NamedTold older x × NamesAreVersions older
