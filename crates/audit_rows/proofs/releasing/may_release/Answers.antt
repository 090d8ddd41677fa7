use Rattle.std.proofs.Common.{ap, ◌∙◌}
use Rattle.promises.specs.Past.{Epoch, unformed}
use Rattle.promises.specs.Rows.{is_synced, may_release}
use Rattle.audit_site_rows.proofs.Home.{ok_as}
use Rattle.audit_rows.proofs.Found.{found_at, none_opened, unformed_at}
use Rattle.audit_rows.proofs.releasing.may_release.Goals as goal

pub returns-in-Some : goal.returns-in-Some
returns-in-Some c =
    ok_as c.releases.result _ _
    (ap (λ (t : Epoch). may_release c.args.config.now c.args.told.now t c.args.end.instance c.args.end.file c.args.end.stamp) (found_at c.args.told.now c.args.epoch c.in-Some.t.now c.in-Some.ensures))
    c.releases.ensures

pub returns-in-None : goal.returns-in-None
returns-in-None c =
    none_opened (is_synced c.args.config.now (unformed c.args.epoch) c.args.end.file.group)
    ∙ ap (λ (t : Epoch). may_release c.args.config.now c.args.told.now t c.args.end.instance c.args.end.file c.args.end.stamp) (unformed_at c.args.told.now c.args.epoch c.in-None.ensures)
