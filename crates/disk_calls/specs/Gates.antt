-- A gate whose write, or the sync after it, is cut off.
use Rattle.std.specs.Prelude.{ℕ, ◌==◌, Bool, cond}
use Rattle.schedule_lines.specs.declared.line.Leave.{Leave}
use Rattle.schedule_lines.specs.declared.line.Leave.TheVariants as leave

-- how a disk call is cut off: the site stops in it, and the ranges that aren't synced are left so; or it fails, which
-- leaves them as new, but a range that the failed call itself was to write as old
pub data Cut : Type 0 where
  Stops : Leave → Cut
  Fails : Cut

-- the byte of an open gate
abbrev pub open_gate : ℕ
open_gate = 165

abbrev pub left_open : Bool → Bool → Leave → Bool
left_open was to leave.Old = was
left_open was to leave.New = to
left_open was to (leave.Byte byte) = byte == open_gate

-- whether the gate is open after it, where it was open or not and was to be so; `writing` tells the write from its sync
abbrev pub gate_left : Cut → Bool → Bool → Bool → Bool
gate_left (Stops l) writing was to = left_open was to l
gate_left Fails writing was to = cond writing was to
