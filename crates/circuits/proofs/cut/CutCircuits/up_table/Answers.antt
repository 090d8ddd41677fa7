use Rattle.std.proofs.Common.{length, ◌∙◌, arith, ◌<◌}
use Rattle.std.proofs.lemmas.List.{length-set}
use Rattle.circuits.specs.Circuits.{sender_on, receiver_on, is_up_among}
use Rattle.circuits.proofs.Cuts.{one_more, tells_up}
use Rattle.circuits.proofs.cut.CutCircuits.up_table.Goals as goal

pub loop-circuit-preserved : goal.loop-circuit-preserved
loop-circuit-preserved c =
    let r = c.loop-circuit.invariant.room in
    let l : c.loop-circuit.circuit < length c.loop-circuit.up = omega arith in record {
      room = length-set c.loop-circuit.up c.loop-circuit.circuit c.is_number_up.result ∙ r;
      each = one_more (λ i. is_up_among c.args.self.now c.args.boots.now (sender_on i) (receiver_on i)) c.loop-circuit.up c.loop-circuit.circuit c.is_number_up.result l c.loop-circuit.invariant.each c.is_number_up.ensures;
    }

pub returns : goal.returns
returns c = tells_up c.args.self.now c.args.boots.now c.loop-circuit.up c.loop-circuit.invariant.room (λ i l. c.loop-circuit.invariant.each i (omega arith))
