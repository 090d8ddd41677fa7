use Rattle.std.proofs.Common.{◌==◌, ◌&&◌, not, filter, sym, ap, ◌∙◌}
use Rattle.trace_book.specs.Same.{same_call}
use Rattle.tree_model.specs.State.{is_make}
use Rattle.tree_model.specs.declared.instance.Granted.{Granted}
use Rattle.promises.specs.Past.{Make}
use Rattle.audit_epochs.proofs.Making.{shown_make_ends, shown_no_make_ends, shown_nothing_ends}
use Rattle.audit_epochs.proofs.epoch_row.EpochRow.end_make.Goals as goal

pub returns-in_ok-self-inside-clause-ok : goal.returns-in_ok-self-inside-clause-ok
returns-in_ok-self-inside-clause-ok c =
    shown_make_ends _ c.args.self.now c.args.inst c.args.group c.in-Some.row.now c.in_ok-self-inside.field-0 c.as_slice.result.now c.self.view_is c.in-Some.ensures.found c.in-Some.ensures.one
    (ap (λ (g : Granted). is_make g.mode) (sym c.grant-grant.ensures) ∙ (sym c.is_make.ensures ∙ c.if-is_make.true)) c.as_slice.ensures
    (c.in_ok-self-inside.ensures ∙ ap (λ (g : Granted). filter (λ (k : Make). not ((k.group == c.args.group) && same_call k.call g.call)) c.as_slice.result.now) c.grant-grant.ensures)

pub returns-else-is_make-clause-ok : goal.returns-else-is_make-clause-ok
returns-else-is_make-clause-ok c =
    shown_no_make_ends _ c.args.self.now c.args.inst c.args.group c.in-Some.row.now c.self.view_is c.in-Some.ensures.found c.in-Some.ensures.one
    (ap (λ (g : Granted). is_make g.mode) (sym c.grant-grant.ensures) ∙ (sym c.is_make.ensures ∙ c.if-is_make.false))

pub returns-in_default-clause-ok : goal.returns-in_default-clause-ok
returns-in_default-clause-ok c = shown_nothing_ends _ c.args.self.now c.args.inst c.args.group c.self.view_is c.in_default.ensures.found
