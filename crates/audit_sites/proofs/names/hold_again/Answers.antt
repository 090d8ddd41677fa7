use Rattle.std.proofs.Common.{◌&&◌, Some, ap, sym, ◌∙◌, cond, set}
use Rattle.std.specs.Prelude.{◌==◌}
use Rattle.std.proofs.lemmas.List.Edits.{map_over_more}
use Rattle.promises.specs.Past.{Named}
use Rattle.promises.specs.After.{held_by}
use Rattle.audit_sites.proofs.names.hold_again.Goals as goal

pub loop-row-preserved : goal.loop-row-preserved
loop-row-preserved c =
    ap (λ (x : Named). set c.loop-row.rows c.loop-row.row-index x)
    (c.hold_row.ensures ∙ ap (λ (x : Named). cond ((x.process == c.args.process) && (x.fd == c.args.fd)) (held_by (Some c.args.opening) x) x) (sym c.row-item.is))
    ∙ map_over_more (λ (x : Named). cond ((x.process == c.args.process) && (x.fd == c.args.fd)) (held_by (Some c.args.opening) x) x) c.args.rows.now c.loop-row.rows c.loop-row.row-index c.row-item.result
    c.loop-row-test.true c.loop-row.invariant c.row-item.is
