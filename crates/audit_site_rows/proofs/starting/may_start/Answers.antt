use Rattle.std.proofs.Common.{◌≡◌, false, refl, ap, ◌∙◌}
use Rattle.promises.specs.Past.{Epoch, first_or, unformed}
use Rattle.promises.specs.After.{is_epoch}
use Rattle.promises.specs.Rows.{may_start}
use Rattle.audit_row_parts.proofs.Homes.{first_else, first_there}
use Rattle.audit_site_rows.proofs.Home.{ok_as}
use Rattle.audit_site_rows.proofs.starting.may_start.Goals as goal

pub returns-in-Some : goal.returns-in-Some
returns-in-Some c =
    ok_as c.starts.result _ _
    (ap (λ (t : Epoch). may_start c.args.config.now t c.args.group c.args.copies.now) (first_there (unformed c.args.epoch) (is_epoch c.args.epoch) c.epochs.result.now c.in-Some.row.now c.in-Some.ensures.found
    ∙ ap (first_or (unformed c.args.epoch) (is_epoch c.args.epoch)) c.epochs.ensures))
    c.starts.ensures

pub returns-in-None : goal.returns-in-None
returns-in-None c =
    let nothing : false ≡ may_start c.args.config.now (unformed c.args.epoch) c.args.group c.args.copies.now = refl in
    nothing
    ∙ ap (λ (t : Epoch). may_start c.args.config.now t c.args.group c.args.copies.now)
    (first_else (unformed c.args.epoch) (is_epoch c.args.epoch) c.epochs.result.now c.in-None.ensures.found
    ∙ ap (first_or (unformed c.args.epoch) (is_epoch c.args.epoch)) c.epochs.ensures)
