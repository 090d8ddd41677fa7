-- Files whose removal didn't see a version that is kept, and the directory in which they are live again.
use Rattle.std.specs.Prelude.{◌≡◌, ℕ, suc, ◌==◌, Bool, true, false, not, ◌&&◌, cond, List, [], ◌∷◌, map, Option, None, Some, Result, Ok, Err}
use Rattle.std.specs.List.{list_any, find}
use Rattle.std.specs.Str.{bytes_eq}
use Rattle.dir_format.specs.of_version_vector.Counters.{all_le, joined}
use Rattle.dir_format.specs.declared.entry.Entry.{Entry}
use Rattle.dir_format.specs.declared.directory.Dir.{Dir}
use Rattle.dir_format.specs.Entries.{is_live, nothing_seen, max_count}
use Rattle.dir_reconcile.specs.declared.kept.KeptVector.{KeptVector}
use Rattle.dir_reconcile.specs.declared.fault.RescueFault.{RescueFault}
use Rattle.dir_reconcile.specs.declared.fault.RescueFault.TheVariants.{Spent, NoMemory}

-- the entry is of this inode
abbrev pub is_of : ℕ → Entry → Bool
is_of ino d = d.ino == ino

-- some entry of the inode is live
abbrev pub has_live : ℕ → List Entry → Bool
has_live ino ds = list_any (λ d. is_of ino d && is_live d) ds

-- counter by counter the greatest of a vector and of what the removals of an inode's entries saw
abbrev pub seen_with : ℕ → List ℕ → Entry → List ℕ
seen_with ino v d = cond (is_of ino d) (joined v d.seen) v

abbrev pub seen_from : ℕ → List ℕ → List Entry → List ℕ
seen_from ino v [] = v
seen_from ino v (d ∷ ds) = seen_from ino (seen_with ino v d) ds

-- counter by counter the greatest of what the removals of an inode's entries saw
abbrev pub all_seen : ℕ → List Entry → List ℕ
all_seen ino ds = seen_from ino nothing_seen ds

-- a kept version of the file isn't at most the vector
abbrev pub is_unseen : ℕ → List ℕ → KeptVector → Bool
is_unseen ino seen kept = (kept.ino == ino) && not (all_le kept.vector seen)

-- none of the entries of an inode is live, and some kept version of the file isn't at most what its removals saw
abbrev pub wants_rescue : List Entry → List KeptVector → ℕ → Bool
wants_rescue ds kept ino = not (has_live ino ds) && list_any (is_unseen ino (all_seen ino ds)) kept

-- some inode of the directory, which has a removed entry then, wants a rescue
abbrev pub rescue_wanted : List Entry → List KeptVector → Bool
rescue_wanted ds kept = list_any (λ d. not (is_live d) && wants_rescue ds kept d.ino) ds

abbrev pub saw_something : Entry → Bool
saw_something d = not (bytes_eq d.seen nothing_seen)

abbrev pub either_entry : Option Entry → Option Entry → Option Entry
either_entry None other = other
either_entry (Some d) other = Some d

-- of the entries of an inode the first by name whose removal saw something, else the first by name
abbrev pub chosen : ℕ → List Entry → Option Entry
chosen ino ds = either_entry (find (λ d. is_of ino d && saw_something d) ds) (find (is_of ino) ds)

-- among the entries of one inode the name tells which one it is
abbrev pub is_that : Option Entry → Entry → Bool
is_that None d = false
is_that (Some e) d = bytes_eq e.name d.name

-- the entry is to become live: it is the chosen one of an inode that wants a rescue
abbrev pub is_to_rescue : List Entry → List KeptVector → Entry → Bool
is_to_rescue ds kept d = not (is_live d) && (wants_rescue ds kept d.ino && is_that (chosen d.ino ds) d)

-- the entry, live with a count that is one more
abbrev pub revived : Entry → Entry
revived d = record { name = d.name; ino = d.ino; kind = d.kind; count = suc d.count; seen = nothing_seen }

abbrev pub entry_after_rescue : List Entry → List KeptVector → Entry → Entry
entry_after_rescue ds kept d = cond (is_to_rescue ds kept d) (revived d) d

-- the directory with one live entry more for each inode that wants a rescue
abbrev pub rescued : List Entry → List KeptVector → List Entry
rescued ds kept = map (entry_after_rescue ds kept) ds

-- an entry that is to become live has the greatest count
abbrev pub rescue_is_spent : List Entry → List KeptVector → Bool
rescue_is_spent ds kept = list_any (λ d. (d.count == max_count) && is_to_rescue ds kept d) ds

-- what a rescue answers
abbrev pub Rescued : List Entry → List KeptVector → Result Dir RescueFault → Type 0
Rescued ds kept (Ok d) = (rescue_is_spent ds kept ≡ false) × (d ≡ rescued ds kept)
Rescued ds kept (Err Spent) = rescue_is_spent ds kept ≡ true
Rescued ds kept (Err NoMemory) = Unit {0}
