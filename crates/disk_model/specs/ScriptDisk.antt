-- A disk that a script stops or makes fail.
use Rattle.std.specs.Prelude.{ℕ, suc, ◌≡◌, cond, List, [], ◌∷◌, ◌++◌, length, replicate, slice_index, None}
use Rattle.disk_model.specs.declared.script.Leave.{Leave}
use Rattle.disk_model.specs.declared.script.Leave.TheVariants.{Old, New, Byte}
use Rattle.disk_model.specs.declared.script.Fired.TheVariants.{No}
use Rattle.disk_model.specs.declared.script.Armed.TheVariants.{Nothing}
use Rattle.disk_model.specs.declared.script.Turn.{Turn}
use Rattle.disk_model.specs.declared.script.Turn.TheVariants.{Passes, Stops, Fails}
use Rattle.disk_model.specs.declared.store.Span.{Span}
use Rattle.disk_model.specs.declared.script_disk.ScriptDisk.{ScriptDisk}
use Rattle.disk_model.specs.Disk.{Moment}
use Rattle.disk_model.specs.Cut.{Cut}
use Rattle.disk_model.specs.Cut as cut
use Rattle.disk_model.specs.Script.{passing_of, how_of}
use Rattle.disk_model.specs.Images.{overwritten, covers, IsImage}
use Rattle.disk_model.specs.Store.{left_in, with_room, durable_with_room}
use Rattle.disk_model.specs.Durable.{durable_in}

-- what a read gives
abbrev pub seen : ScriptDisk → List ℕ
seen disk = disk.store.seen

-- what was on the disk when it was last synced, or has been made durable since
abbrev pub durable : ScriptDisk → List ℕ
durable disk = durable_in disk.store

-- the ranges written since then, the oldest first
abbrev pub unsynced : ScriptDisk → List Span
unsynced disk = disk.store.unsynced.items

-- what a crash may leave, now and since any earlier moment: no past is kept
abbrev pub images : ScriptDisk → List ℕ → Type 0
images disk image = IsImage (unsynced disk) (seen disk) image

abbrev pub images_since : ScriptDisk → ℕ → List ℕ → Type 0
images_since disk t image = images disk image

-- the bytes with this one in these ranges
abbrev pub spoiled_from : ℕ → List Span → ℕ → List ℕ → List ℕ
spoiled_from k spans byte [] = []
spoiled_from k spans byte (x ∷ xs) = cond (covers spans k) byte x ∷ spoiled_from (suc k) spans byte xs

-- what a crash makes of the bytes, as it is told
abbrev pub crashed : Leave → List Span → List ℕ → List ℕ → List ℕ
crashed Old unsynced durable seen = durable
crashed New unsynced durable seen = seen
crashed (Byte byte) unsynced durable seen = spoiled_from 0 unsynced byte seen

-- and where a cut tells it: a call that fails leaves what was read
abbrev pub crashed_by : Cut → List Span → List ℕ → List ℕ → List ℕ
crashed_by (cut.Stops leave) unsynced durable seen = crashed leave unsynced durable seen
crashed_by cut.Fails unsynced durable seen = seen

abbrev pub cut_image : ScriptDisk → List ℕ
cut_image disk = crashed_by (how_of disk.script) (unsynced disk) (durable disk) (seen disk)

-- the disk as the trait sees it
abbrev pub moment : ScriptDisk → Moment
moment disk = record {
  seen = seen disk;
  may_leave = images disk;
  now = 0;
  may_have_left = images_since disk;
  faults = disk.script.faults;
  passing = passing_of disk.script;
  how = how_of disk.script;
  left = cut_image disk;
}

-- the bytes are as they were, and so is which of them are durable
pub record SameBytes (old new : ScriptDisk) : Type 0 where
  pub read : seen new ≡ seen old
  pub kept : durable new ≡ durable old
  pub waiting : unsynced new ≡ unsynced old

-- a range is unsynced, and a read gives this; where the ranges fill their room, all was made durable first
pub record Unsynced (at n : ℕ) (bytes : List ℕ) (old new : ScriptDisk) : Type 0 where
  pub read : seen new ≡ bytes
  pub kept : durable new ≡ durable_with_room (unsynced old) (durable old) (seen old)
  pub waiting : unsynced new ≡ with_room (unsynced old) ++ record { at = at; len = n } ∷ []

-- a write that passes leaves its bytes unsynced, a stopped one what the script says, and one that fails nothing
abbrev pub Writes : Turn → ℕ → List ℕ → ScriptDisk → ScriptDisk → Type 0
Writes Passes at bytes old new = Unsynced at (length bytes) (overwritten (seen old) at bytes) old new
Writes (Stops leave) at bytes old new = Unsynced at (length bytes) (left_in leave (seen old) at bytes) old new
Writes Fails at bytes old new = SameBytes old new

-- all is durable
pub record AllDurable (old new : ScriptDisk) : Type 0 where
  pub read : seen new ≡ seen old
  pub kept : durable new ≡ seen old
  pub waiting : unsynced new ≡ []

-- a sync that passes makes all durable, and one that stops or fails leaves all as it was
abbrev pub Syncs : Turn → ScriptDisk → ScriptDisk → Type 0
Syncs Passes old new = AllDurable old new
Syncs (Stops leave) old new = SameBytes old new
Syncs Fails old new = SameBytes old new

-- what a crash makes of one byte that isn't durable
abbrev pub left_of : Leave → ℕ → ℕ → ℕ
left_of Old durable seen = durable
left_of New durable seen = seen
left_of (Byte byte) durable seen = byte

-- after the crash each byte of an unsynced range is as told and each other one as it was read; all is durable
pub record Crashed (leave : Leave) (old new : ScriptDisk) : Type 0 where
  pub long : length (seen new) ≡ length (seen old)
  pub bytes : (k : ℕ) → slice_index (seen new) k ≡ cond (covers (unsynced old) k) (left_of leave (slice_index (durable old) k) (slice_index (seen old) k)) (slice_index (seen old) k)
  pub kept : durable new ≡ seen new
  pub waiting : unsynced new ≡ []

-- zeros, all of them durable, with nothing armed
pub record IsNew (disk : ScriptDisk) (len : ℕ) : Type 0 where
  pub read : seen disk ≡ replicate len 0
  pub kept : durable disk ≡ replicate len 0
  pub waiting : unsynced disk ≡ []
  pub script : disk.script ≡ record { writes = Nothing; reads = None; fired = No; faults = 0 }
