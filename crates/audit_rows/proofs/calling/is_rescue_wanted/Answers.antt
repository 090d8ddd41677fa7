use Rattle.std.proofs.Common.{List, [], ap, ◌∙◌}
use Rattle.commit_graph.specs.declared.history.Version.{Version}
use Rattle.promises.specs.Past.{Copy}
use Rattle.promises.specs.Tree.{wants_rescue}
use Rattle.audit_site_rows.specs.of_audit_acts.Knowing.{knowing, of_history}
use Rattle.audit_told_calls.proofs.Found.{if_ok}
use Rattle.audit_rows.proofs.calling.is_rescue_wanted.Goals as goal

pub returns : goal.returns
returns c =
    if_ok c.wants_rescue.result c.wants_rescue.ensures
    (λ b e. e
    ∙ ap (λ (h : List Version). wants_rescue (of_history h) (knowing c.known.result.now []) c.args.file) c.versions.ensures
    ∙ ap (λ (known : List Copy). wants_rescue (of_history c.args.told.now.history) (knowing known []) c.args.file) c.known.ensures)
