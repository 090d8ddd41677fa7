use Rattle.std.proofs.Common.{List, ap, ◌∙◌}
use Rattle.std.specs.Option.{is_some}
use Rattle.promises.specs.Past.{Site}
use Rattle.promises.specs.Tree.{open_refusal}
use Rattle.audit_opens.specs.Once.{past_of}
use Rattle.audit_opens.proofs.Told.{refusal_told}
use Rattle.audit_rows.proofs.granting.is_refused.Goals as goal

pub returns : goal.returns
returns c e =
    c.is_some.ensures
    ∙ ap is_some
    (c.open_refusal.ensures c.args.told.now.calls c.args.told.now.history e
    ∙ ap (λ (sites : List Site). open_refusal c.args.config.now (past_of sites c.args.told.now.calls c.args.told.now.history) c.args.t.now c.args.k.now c.args.mode c.args.file) c.sites.ensures
    ∙ refusal_told c.args.config.now c.args.told.now c.args.t.now c.args.k.now c.args.mode c.args.file)
