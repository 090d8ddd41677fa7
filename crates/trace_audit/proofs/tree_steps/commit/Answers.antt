-- A commit that may come next has its writer.
use Rattle.std.proofs.Common.{sym, ◌∙◌}
use Rattle.audit_laws.proofs.Tidy.Makings.{commits_one}
use Rattle.trace_audit.proofs.Standing.{is_written}
use Rattle.trace_audit.proofs.tree_steps.commit.Goals as goal

pub committed-requires-clause-written : goal.committed-requires-clause-written
committed-requires-clause-written c =
    is_written c.args.told.now c.args.version.file c.args.version.site
    (commits_one c.args.config.now c.args.told.now c.args.version.file c.args.version.site c.args.version.stamp c.args.version.parents c.args.version.content c.requires (sym c.in_ok-may_come.ensures ∙ c.if-not-branch.false))
