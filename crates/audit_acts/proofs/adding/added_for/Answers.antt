use Rattle.std.proofs.Common.{◌≡◌, [], ap, sym, subst, ◌∙◌, IfOk}
use Rattle.locus_ids.specs.declared.ids.FileId.{FileId}
use Rattle.trace_book.specs.declared.operation.Op.{Op}
use Rattle.tree_model.specs.declared.instance.Granted.{Granted}
use Rattle.tree_model.specs.Working.{are_several}
use Rattle.promises.specs.Past.{kept_in}
use Rattle.promises.specs.Tree.{mended}
use Rattle.audit_tree.specs.Adding.{added_on}
use Rattle.audit_tree.specs.declared.acting.Added.{Added}
use Rattle.audit_tree.specs.declared.acting.Added.TheVariants.{Join}
use Rattle.audit_acts.specs.Knowing.{knowing, of_history}
use Rattle.audit_acts.proofs.adding.added_for.Goals as goal

pub returns-in-Mend-clause-value : goal.returns-in-Mend-clause-value
returns-in-Mend-clause-value c =
    subst (λ (a : Added). IfOk c.join_for.result (λ (added : Added). added ≡ a))
    (ap (λ (f : FileId). Join (are_several (kept_in (of_history c.args.h.now) (knowing c.args.known.now []) f)) (mended (of_history c.args.h.now) (knowing c.args.known.now []) f)) (ap (λ (g : Granted). g.file) c.grant-in-Mend.ensures)
    ∙ ap (λ (o : Op). added_on (of_history c.args.h.now) (knowing c.args.known.now c.args.opened.now) o c.args.x.now) (sym c.in-Mend.is))
    c.join_for.ensures
