-- The keys of names: four numbers each, and zeros where a name has fewer.
use Rattle.std.specs.Prelude.{ℕ, ◌==◌, Bool, ◌&&◌}
use Rattle.locus_ids.specs.declared.ids.CallId.{CallId}
use Rattle.locus_ids.specs.declared.ids.EpochId.{EpochId}
use Rattle.locus_ids.specs.declared.ids.Serial.{Serial}
use Rattle.locus_ids.specs.declared.ids.FileId.{FileId}
use Rattle.locus_ids.specs.declared.ids.Stamp.{Stamp}
use Rattle.key_places.specs.declared.key.Key.{Key}

abbrev pub same_key : Key → Key → Bool
same_key a b = (a.first == b.first) && ((a.second == b.second) && ((a.third == b.third) && (a.fourth == b.fourth)))

abbrev pub call_key : CallId → Key
call_key id = record { first = id.site; second = id.boot; third = id.n; fourth = 0 }

abbrev pub epoch_key : EpochId → Key
epoch_key id = record { first = id.number; second = id.site; third = id.boot; fourth = 0 }

abbrev pub serial_key : Serial → Key
serial_key id = record { first = id.us; second = id.serial; third = 0; fourth = 0 }

abbrev pub file_key : FileId → Key
file_key file = record { first = file.group; second = file.ino; third = 0; fourth = 0 }

abbrev pub version_key : FileId → Stamp → Key
version_key file stamp = record { first = file.group; second = file.ino; third = stamp.site; fourth = stamp.n }

abbrev pub number_key : ℕ → Key
number_key number = record { first = number; second = 0; third = 0; fourth = 0 }
