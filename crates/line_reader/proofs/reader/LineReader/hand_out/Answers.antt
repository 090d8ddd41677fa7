use Rattle.std.proofs.Common.{◌≤◌, ◌-◌, drop, length-take, arith}
use Rattle.line_reader.proofs.Readers.{same_reader}
use Rattle.line_reader.proofs.Windows.{range_front, range_rest}
use Rattle.line_reader.proofs.reader.LineReader.hand_out.Goals as goal

pub returns : goal.returns
returns c =
    let inside = c.self.inside in
    let within = rw (← c.self.view_is) at c.requires.within in
    let room : c.args.len ≤ inside.to - inside.from = omega (arith, within, length-take (inside.to - inside.from) (drop inside.from inside.block.items)) in
    rw (← c.self.view_is)
    (same_reader _ _ _ _ _ _ _ (range_rest inside.block.items inside.from inside.to c.args.len c.min-self-inside.result (omega arith) c.min-self-inside.ensures)
    (range_front inside.block.items inside.from inside.to c.args.len room))
