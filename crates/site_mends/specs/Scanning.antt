-- A walk over the bytes of a directory that builds no entries.
use Rattle.std.specs.Prelude.{◌≡◌, ℕ, ◌+◌, ◌*◌, Bool, true, false, not, ◌||◌, List, ◌∷◌, length, take, drop}
use Rattle.std.specs.Int.{from_be_bytes, w16}
use Rattle.std.specs.List.{list_all, list_any}
use Rattle.locus_ids.specs.Sizes.{sites_max}
use Rattle.dir_format.specs.Contents.{counters, entries_from, is_odd, count_at}
use Rattle.dir_format.specs.Entries.{is_live}
use Rattle.dir_format.specs.declared.entry.Entry.{Entry}
use Rattle.dir_reconcile.specs.Rescues.{is_unseen}
use Rattle.dir_reconcile.specs.declared.kept.KeptVector.{KeptVector}

-- some kept version of the inode isn't at most what was seen
abbrev pub is_missed : List KeptVector → ℕ → List ℕ → Bool
is_missed kept ino seen = list_any (is_unseen ino seen) kept

-- the entry brings about no rescue: it is live, or its removal saw each kept version of its file
abbrev pub is_past : List KeptVector → Entry → Bool
is_past kept d = is_live d || not (is_missed kept d.ino d.seen)

-- so do all entries of these bytes
abbrev pub are_past : List KeptVector → List ℕ → Bool
are_past kept bytes = list_all (is_past kept) (entries_from (length bytes) bytes)

-- the bytes begin with a live entry, and these follow it
pub record IsBehindLive (bytes after : List ℕ) : Type 0 where
  pub named : ℕ
  pub rest : List ℕ
  pub split : bytes ≡ named ∷ rest
  pub live : is_odd (count_at named rest) ≡ true
  pub behind : after ≡ drop (named + 7) rest

-- the bytes begin with a removed entry, whose removal saw each kept version of its file, and these follow it
pub record IsBehindSeen (kept : List KeptVector) (bytes after : List ℕ) : Type 0 where
  pub named : ℕ
  pub rest : List ℕ
  pub split : bytes ≡ named ∷ rest
  pub removed : is_odd (count_at named rest) ≡ false
  pub seen : is_missed kept (from_be_bytes w16 (take 2 (drop named rest))) (counters sites_max (drop (named + 7) rest)) ≡ false
  pub behind : after ≡ drop (named + (7 + 4 * sites_max)) rest
