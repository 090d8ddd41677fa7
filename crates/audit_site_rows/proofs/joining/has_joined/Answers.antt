use Rattle.std.proofs.Common.{ℕ, List, ap, ◌∙◌}
use Rattle.promises.specs.Past.{Epoch, is_number, unformed}
use Rattle.promises.specs.After.{is_epoch}
use Rattle.audit_row_parts.proofs.Homes.{first_else, first_there}
use Rattle.audit_site_rows.proofs.joining.has_joined.Goals as goal

pub returns-in-Some : goal.returns-in-Some
returns-in-Some c =
    c.is_number.ensures ∙ ap (λ (ns : List ℕ). is_number ns c.args.site) c.joined.ensures
    ∙ ap (λ (t : Epoch). is_number t.joined c.args.site) (first_there (unformed c.args.epoch) (is_epoch c.args.epoch) c.args.epochs.now c.in-Some.row.now c.in-Some.ensures.found)

pub returns-in-None : goal.returns-in-None
returns-in-None c =
    ap (λ (t : Epoch). is_number t.joined c.args.site) (first_else (unformed c.args.epoch) (is_epoch c.args.epoch) c.args.epochs.now c.in-None.ensures.found)
