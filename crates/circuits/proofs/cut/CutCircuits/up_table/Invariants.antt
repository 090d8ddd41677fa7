use Rattle.std.proofs.Common.{◌≡◌, ℕ, false, ◌<◌}
use Rattle.std.specs.Prelude.{length, slice_index_or}
use Rattle.circuits.specs.Circuits.{sender_on, receiver_on, is_up_among}
use Rattle.circuits.proofs.cut.CutCircuits.up_table.Given as goal

abbrev pub invariant-loop-circuit : goal.invariant-loop-circuit
invariant-loop-circuit l = record {
  room : length l.up ≡ 256;
  each : (i : ℕ) → i < l.circuit → slice_index_or l.up i false ≡ is_up_among l.self l.boots (sender_on i) (receiver_on i);
}
