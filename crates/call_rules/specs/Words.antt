-- What the words of a call refuse by themselves, whatever the site and its tables are.
use Rattle.std.specs.Prelude.{ℕ, ◌+◌, ◌==◌, Bool, false, not, ◌&&◌, cond, List, length, Option, None, Some, nat_lt}
use Rattle.std.specs.Option.{is_some}
use Rattle.trace_book.specs.of_locus_ids.declared.config.Mount.{Mount}
use Rattle.trace_book.specs.of_locus_ids.declared.refusal.Refusal.{Refusal}
use Rattle.trace_book.specs.of_locus_ids.declared.refusal.Refusal.TheVariants.{BadName, TooLong}
use Rattle.trace_book.specs.of_locus_ids.Sizes.{file_bytes_max}
use Rattle.trace_book.specs.Names.{is_name, components, last_of}
use Rattle.trace_book.specs.declared.call.Call.{Call}
use Rattle.trace_book.specs.declared.call.Call.TheVariants as call
use Rattle.call_rules.specs.Paths.{is_path}
use Rattle.call_rules.specs.Walks.{mounted}

-- the last component of the path is an entry of the root of group 0
abbrev pub is_of_root : List ℕ → Bool
is_of_root path = length (components path) == 1

-- the name beside the last component of the path is that of a mount; only the root of group 0 has mounts
abbrev pub is_mount_name : List Mount → List ℕ → List ℕ → Bool
is_mount_name mounts path name = is_of_root path && is_some (mounted mounts name)

-- the last component of a path may be an entry's: it is there, and is no mount name
abbrev pub names_entry : List Mount → List ℕ → Bool
names_entry mounts path = is_path path && (nat_lt 0 (length (components path)) && not (is_mount_name mounts path (last_of (components path))))

-- it may be the name of a new entry: a plain one
abbrev pub names_new : List Mount → List ℕ → Bool
names_new mounts path = names_entry mounts path && is_name (last_of (components path))

-- a call has a path or a new name that isn't allowed
abbrev pub is_badly_named : List Mount → Call → Bool
is_badly_named mounts (call.Create path sites) = not (names_new mounts path)
is_badly_named mounts (call.MakeDir path) = not (names_new mounts path)
is_badly_named mounts (call.Unlink path) = not (names_entry mounts path)
is_badly_named mounts (call.RemoveDir path) = not (names_entry mounts path)
is_badly_named mounts (call.Rename path name) = not (names_entry mounts path && (is_name name && not (is_mount_name mounts path name)))
is_badly_named mounts (call.List path) = not (is_path path)
is_badly_named mounts (call.Stat path) = not (is_path path)
is_badly_named mounts (call.Mail path bytes) = not (is_path path)
is_badly_named mounts (call.Mails path) = not (is_path path)
is_badly_named mounts (call.Open path mode) = not (is_path path)
is_badly_named mounts _ = false

-- a write would end past the greatest size
abbrev pub is_too_long : Call → Bool
is_too_long (call.Write fd at bytes) = nat_lt file_bytes_max (at + length bytes)
is_too_long _ = false

-- what the words alone refuse
abbrev pub refused_by_words : List Mount → Call → Option Refusal
refused_by_words mounts words = cond (is_badly_named mounts words) (Some BadName) (cond (is_too_long words) (Some TooLong) None)
