-- Where an entry goes.
use Rattle.std.specs.Prelude.{◌≤◌, ◌<◌, List, length, insert, slice_set}
use Rattle.dir_format.specs.declared.entry.Entry.{Entry}
use Rattle.dir_format.specs.declared.place.Place.{Place}
use Rattle.dir_format.specs.declared.place.Place.TheVariants.{Free, Taken}

abbrev pub IsPlaceIn : List Entry → Place → Type 0
IsPlaceIn ds (Free at) = at ≤ length ds
IsPlaceIn ds (Taken at) = at < length ds

-- the entries after one was put there
abbrev pub put_at : List Entry → Entry → Place → List Entry
put_at ds d (Free at) = insert ds at d
put_at ds d (Taken at) = slice_set ds at d
