-- A disk that keeps each call.
use Rattle.std.specs.Prelude.{ℕ, ◌+◌, ◌≤◌, List, [], ◌∷◌, ◌++◌, length, take, replicate}
use Rattle.std.specs.List.{All}
use Rattle.disk_model.specs.declared.store.Span.{Span}
use Rattle.disk_model.specs.declared.record_disk.Call.{Call}
use Rattle.disk_model.specs.declared.record_disk.Call.TheVariants.{Wrote, Synced}
use Rattle.disk_model.specs.Images.{overwritten, bytes_at, IsImage}

-- what a read gives, and which ranges are unsynced
pub record State : Type 0 where
  pub read : List ℕ
  pub waiting : List Span

-- the state after one call more; the bytes of the writes stand in a pool
abbrev pub after_call : List ℕ → State → Call → State
after_call pool state (Wrote span from) = record { read = overwritten state.read span.at (bytes_at pool from span.len); waiting = state.waiting ++ span ∷ [] }
after_call pool state Synced = record { read = state.read; waiting = [] }

-- the state after these calls
abbrev pub played : List ℕ → State → List Call → State
played pool state [] = state
played pool state (call ∷ calls) = played pool (after_call pool state call) calls

-- zeros, all of them durable
abbrev pub blank : ℕ → State
blank len = record { read = replicate len 0; waiting = [] }

-- the state after the first k of these calls on a blank disk
abbrev pub state_after : ℕ → List ℕ → List Call → ℕ → State
state_after len pool calls k = played pool (blank len) (take k calls)

-- what a crash may leave
abbrev pub image_of : State → List ℕ → Type 0
image_of state image = IsImage state.waiting state.read image

-- where the bytes of a call end in the pool, and its range in the disk
abbrev pub pool_end : Call → ℕ
pool_end (Wrote span from) = from + span.len
pool_end Synced = 0

abbrev pub disk_end : Call → ℕ
disk_end (Wrote span from) = span.at + span.len
disk_end Synced = 0

-- each call's bytes stand in the pool, and its range in the disk
abbrev pub StandInPool : List ℕ → List Call → Type 0
StandInPool pool calls = All (λ call. pool_end call ≤ length pool) calls

abbrev pub StandOnDisk : ℕ → List Call → Type 0
StandOnDisk len calls = All (λ call. disk_end call ≤ len) calls
