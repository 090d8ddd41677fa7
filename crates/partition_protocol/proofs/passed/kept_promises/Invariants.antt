use Rattle.partition_protocol.proofs.Rows.{Kept}
use Rattle.partition_protocol.proofs.passed.kept_promises.Given as goal

abbrev pub invariant-loop-place : goal.invariant-loop-place
invariant-loop-place l = Kept l.polled l.promises l.kept l.place
