use Rattle.std.proofs.Common.{◌≡◌, ◌++◌, length}
use Rattle.std.specs.Vec.Iter.{into_iter_items, into_iter_len}
use Rattle.schedule_run.proofs.Doing.{Does}
use Rattle.schedule_run.proofs.opened.OpenedRun.happen_all.Given as goal

abbrev pub invariant-loop-line : goal.invariant-loop-line
invariant-loop-line l = record {
  done : Does l.yielded l.initial.self l.self;
  rest : l.yielded ++ into_iter_items l.line-iterator ≡ l.fn.next.items;
  size : into_iter_len l.line-iterator ≡ length (into_iter_items l.line-iterator);
}
