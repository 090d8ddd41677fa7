use Rattle.std.proofs.Common.{List, ◌∷◌, ap, ◌∙◌}
use Rattle.tree_model.specs.declared.instance.Granted.{Granted}
use Rattle.promises.specs.Past.{Make}
use Rattle.audit_epochs.proofs.Making.{shown_make_begins, shown_no_make_begins}
use Rattle.audit_epochs.proofs.epoch_row.EpochRow.begin_make.Goals as goal

pub returns-in_ok-insert-clause-ok : goal.returns-in_ok-insert-clause-ok
returns-in_ok-insert-clause-ok c =
    let of : Granted → Make = λ g. record { call = g.call; group = g.file.group } in
    let all : Granted → List Make = λ g. of g ∷ c.self.inside.makes in
    shown_make_begins _ c.args.self.now c.args.inst c.in-Some.row.now c.insert.new.self c.self.view_is c.in-Some.ensures.found c.in-Some.ensures.one
    (c.in_ok-insert.ensures.ok ∙ ap all c.grant-grant.ensures)

pub returns-in_default-clause-ok : goal.returns-in_default-clause-ok
returns-in_default-clause-ok c = shown_no_make_begins _ c.args.self.now c.args.inst c.self.view_is c.in_default.ensures.found
