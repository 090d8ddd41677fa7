use Rattle.std.proofs.Common.{sym, ◌∙◌}
use Rattle.std.proofs.lemmas.List.{length-map}
use Rattle.tree_model.specs.Same.{same_brought}
use Rattle.audit_same.proofs.Alike.{unequal}
use Rattle.audit_row_parts.specs.Parts.{brought_of}
use Rattle.audit_row_parts.proofs.members.same_as_brought.Goals as goal

pub returns-then-told-known : goal.returns-then-told-known
returns-then-told-known c = sym (unequal same_brought c.args.told.now (brought_of c.args.known.now)
    (λ e. c.if-told-known.true (e ∙ length-map c.args.known.now _)))
