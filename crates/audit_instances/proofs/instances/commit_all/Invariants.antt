use Rattle.std.proofs.Common.{◌≡◌, ◌++◌, take, drop}
use Rattle.past_laws.specs.of_promises.Past.{is_writer}
use Rattle.past_laws.specs.of_promises.After.{change}
use Rattle.audit_instances.specs.Rows.{commits}
use Rattle.audit_instances.proofs.instances.commit_all.Given as goal

abbrev pub invariant-loop-row : goal.invariant-loop-row
invariant-loop-row l = l.rows ≡ change (is_writer l.file l.site) (commits l.stamp) (take l.row-index l.fn.rows) ++ drop l.row-index l.fn.rows
