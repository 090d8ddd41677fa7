use Rattle.std.proofs.Common.{List, [], ap, ◌∙◌}
use Rattle.commit_graph.specs.declared.history.Version.{Version}
use Rattle.promises.specs.Past.{Copy}
use Rattle.promises.specs.Tree.{is_spent}
use Rattle.audit_site_rows.specs.of_audit_acts.Knowing.{knowing, of_history}
use Rattle.audit_told_calls.proofs.Found.{if_ok}
use Rattle.audit_rows.proofs.releasing.is_spent_by.Goals as goal

pub returns : goal.returns
returns c =
    if_ok c.is_spent.result c.is_spent.ensures
    (λ b e. e
    ∙ ap (λ (h : List Version). is_spent (of_history h) (knowing c.known.result.now []) c.args.x.now) c.versions.ensures
    ∙ ap (λ (known : List Copy). is_spent (of_history c.args.told.now.history) (knowing known []) c.args.x.now) c.known.ensures)
