use Rattle.std.proofs.Common.{List, ap, ◌∙◌}
use Rattle.promises.specs.Past.{Site}
use Rattle.promises.specs.Tree.{is_placed}
use Rattle.audit_opens.specs.Once.{past_of}
use Rattle.audit_opens.proofs.Told.{placed_told}
use Rattle.audit_rows.proofs.granting.is_placed_where.Goals as goal

pub returns : goal.returns
returns c e =
    c.is_placed.ensures c.args.told.now.calls c.args.told.now.history e
    ∙ ap (λ (sites : List Site). is_placed c.args.config.now (past_of sites c.args.told.now.calls c.args.told.now.history) c.args.t.now c.args.k.now c.args.mode c.args.place.file c.args.place.stamp c.args.place.ss) c.sites.ensures
    ∙ placed_told c.args.config.now c.args.told.now c.args.t.now c.args.k.now c.args.mode c.args.place.file c.args.place.stamp c.args.place.ss
