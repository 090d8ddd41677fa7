use Rattle.std.proofs.Common.{◌≡◌, ◌++◌, take}
use Rattle.std.specs.Prelude.{codes}
use Rattle.std.specs.List.{flat_map}
use Rattle.trace_book.specs.Text.{stamp_text}
use Rattle.trace_text.proofs.lists.push_stamps.Given as goal

abbrev pub invariant-loop-stamp : goal.invariant-loop-stamp
invariant-loop-stamp l = l.out ≡ l.initial.out ++ flat_map (λ t. codes "," ++ stamp_text t) (take l.stamp-index l.others)
