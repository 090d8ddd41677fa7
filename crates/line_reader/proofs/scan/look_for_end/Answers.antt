use Rattle.std.proofs.Common.{◌+◌, ◌-◌, drop, length-take, arith}
use Rattle.line_reader.proofs.Windows.{found_behind, none_up_to, none_at_all}
use Rattle.line_reader.proofs.scan.look_for_end.Goals as goal

pub returns-in-Some : goal.returns-in-Some
returns-in-Some c = (
  omega (arith, c.in-Some.ensures.within, length-take (c.min-end.result - c.args.seen) (drop c.args.seen c.args.ahead.now)),
  found_behind c.args.ahead.now c.args.seen (c.min-end.result - c.args.seen) c.in-Some.at c.requires.free c.in-Some.ensures,
)

pub returns-in-None : goal.returns-in-None
returns-in-None c = (omega arith, none_up_to c.args.ahead.now c.args.seen (c.args.limit + 1) c.min-end.result (omega arith) (omega arith) c.requires.free c.in-None.ensures)

pub returns-in-None-2 : goal.returns-in-None-2
returns-in-None-2 c = (omega arith, none_at_all c.args.ahead.now c.args.seen c.min-end.result (omega arith) (omega arith) c.requires.free c.in-None-2.ensures)
