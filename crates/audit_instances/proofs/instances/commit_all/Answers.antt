use Rattle.std.proofs.Common.{ap, sym, ◌∙◌, cond, set}
use Rattle.std.proofs.lemmas.List.Edits.{map_over_more}
use Rattle.past_laws.specs.of_promises.Past.{Instance, is_writer}
use Rattle.audit_instances.specs.Rows.{commits}
use Rattle.audit_instances.proofs.instances.commit_all.Goals as goal

pub loop-row-preserved : goal.loop-row-preserved
loop-row-preserved c =
    ap (λ (x : Instance). set c.loop-row.rows c.loop-row.row-index x) (c.commit_row.ensures ∙ ap (λ (x : Instance). cond (is_writer c.args.file c.args.site x) (commits c.args.stamp x) x) (sym c.row-item.is))
    ∙ map_over_more (λ (x : Instance). cond (is_writer c.args.file c.args.site x) (commits c.args.stamp x) x) c.args.rows.now c.loop-row.rows c.loop-row.row-index c.row-item.result
    c.loop-row-test.true c.loop-row.invariant c.row-item.is
