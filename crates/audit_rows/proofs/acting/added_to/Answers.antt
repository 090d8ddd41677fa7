use Rattle.std.proofs.Common.{List, ap, ◌∙◌}
use Rattle.commit_graph.specs.declared.history.Version.{Version}
use Rattle.promises.specs.Past.{Copy, Instance}
use Rattle.audit_site_rows.specs.of_audit_acts.Knowing.{knowing, of_history}
use Rattle.audit_tree.specs.Adding.{added_on}
use Rattle.audit_told_calls.proofs.Found.{if_ok}
use Rattle.audit_rows.proofs.acting.added_to.Goals as goal

pub returns-clause-value : goal.returns-clause-value
returns-clause-value c =
    if_ok c.added_for.result c.added_for.ensures.value
    (λ a e. e
    ∙ ap (λ (h : List Version). added_on (of_history h) (knowing c.known.result.now c.opened.result.now) c.args.op.now c.args.x.now) c.versions.ensures
    ∙ ap (λ (known : List Copy). added_on (of_history c.args.told.now.history) (knowing known c.opened.result.now) c.args.op.now c.args.x.now) c.known.ensures
    ∙ ap (λ (opened : List Instance). added_on (of_history c.args.told.now.history) (knowing c.args.t.now.known opened) c.args.op.now c.args.x.now) c.opened.ensures)
