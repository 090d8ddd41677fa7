use Rattle.std.proofs.Common.{◌∙◌, false}
use Rattle.file_effects.specs.Works.{commit_result, counted}
use Rattle.tree_model.specs.Same.{is_given}
use Rattle.tree_acts.proofs.Given.{by_no, commits_so}
use Rattle.tree_acts.proofs.acting.committed_work.Goals as goal

pub returns-then-not-is_committed : goal.returns-then-not-is_committed
returns-then-not-is_committed c =
    by_no c.is_committed.result (is_given (commit_result false c.args.instance.now.work) c.args.outcome.now) (counted c.args.instance.now.work) c.is_committed.ensures c.if-not-is_committed.true
    ∙ commits_so c.args.h.now c.args.tree.now c.args.outcome.now c.args.instance.now c.requires.short
