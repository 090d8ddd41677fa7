-- How a call of a disk is cut off, and what that leaves of the bytes.
use Rattle.std.specs.Prelude.{ℕ, List}
use Rattle.disk_model.specs.declared.script.Leave.{Leave}
use Rattle.disk_model.specs.Images.{overwritten}
use Rattle.disk_model.specs.Store.{left_in}

-- The site stops in the call, and the ranges that aren't synced are left so; or the call fails, which leaves them as they
-- were read, and itself does nothing.
pub data Cut : Type 0 where
  Stops : Leave → Cut
  Fails : Cut

-- what is left where these bytes were written over others at a place, and aren't synced
abbrev pub left_by : Cut → List ℕ → ℕ → List ℕ → List ℕ
left_by (Stops leave) old at bytes = left_in leave old at bytes
left_by Fails old at bytes = overwritten old at bytes

-- and where that very write is cut off
abbrev pub left_in_write : Cut → List ℕ → ℕ → List ℕ → List ℕ
left_in_write (Stops leave) old at bytes = left_in leave old at bytes
left_in_write Fails old at bytes = old
