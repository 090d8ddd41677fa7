use Rattle.std.proofs.Common.{◌≡◌, ◌≤◌, ◌+◌, ◌-◌, length, filter}
use Rattle.std.specs.Option.{is_some}
use Rattle.commit_graph.specs.Vectors.{numbers_from}
use Rattle.tree_model.specs.State.{held_at}
use Rattle.tree_steps.proofs.tree.TreeTables.used_from.Given as goal

abbrev pub invariant-loop-k : goal.invariant-loop-k
invariant-loop-k l = record {
  low : l.used ≤ l.k;
  left : l.used + length (filter (λ ino. is_some (held_at l.self l.site ino)) (numbers_from (l.first + l.k) (l.count - l.k))) ≡ length (filter (λ ino. is_some (held_at l.self l.site ino)) (numbers_from l.first l.count));
}
