-- Entries in the order of a directory, where an inode may have two kinds.
use Rattle.std.specs.Prelude.{List, [], ◌∷◌, map}
use Rattle.locus_ids.specs.declared.ids.Kind.TheVariants.{File}
use Rattle.dir_format.specs.declared.entry.Entry.{Entry}
use Rattle.dir_format.specs.Entries.{IsDir}

abbrev pub as_file : Entry → Entry
as_file d = record d { kind = File }

-- were all of them files, the entries would be those of a directory
abbrev pub IsMixed : List Entry → Type 0
IsMixed ds = IsDir (map as_file ds)

-- entries, one by one with the kinds of others
abbrev pub with_kinds : List Entry → List Entry → List Entry
with_kinds [] es = []
with_kinds (d ∷ ds) [] = []
with_kinds (d ∷ ds) (e ∷ es) = record e { kind = d.kind } ∷ with_kinds ds es
