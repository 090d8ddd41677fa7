use Rattle.std.proofs.Common.{◌≡◌, drop, take, ◌++◌}
use Rattle.commit_graph.specs.Versions.{with_stamp}
use Rattle.audit_versions.proofs.stamps.place_of.Given as goal

-- those that come before, and the rest with the stamp
abbrev pub invariant-loop-at : goal.invariant-loop-at
invariant-loop-at l = take l.at l.stamps ++ with_stamp l.stamp (drop l.at l.stamps) ≡ with_stamp l.stamp l.stamps
