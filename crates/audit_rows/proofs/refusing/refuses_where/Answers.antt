use Rattle.std.proofs.Common.{List, ap, ◌∙◌}
use Rattle.promises.specs.Past.{CallSoFar, Site}
use Rattle.promises.specs.Rows.{is_refused}
use Rattle.audit_opens.specs.Once.{past_of}
use Rattle.audit_opens.proofs.Told.{refused_told}
use Rattle.audit_rows.proofs.refusing.refuses_where.Goals as goal

pub returns : goal.returns
returns c e =
    c.is_refused.ensures c.args.told.now.history e
    ∙ ap (λ (sites : List Site). is_refused c.args.config.now (past_of sites c.calls-calls.result.now c.args.told.now.history) c.args.t.now c.args.open.mode c.args.open.file c.args.why.now c.args.k.now) c.sites-sites.ensures
    ∙ ap (λ (calls : List CallSoFar). is_refused c.args.config.now (past_of c.args.told.now.sites calls c.args.told.now.history) c.args.t.now c.args.open.mode c.args.open.file c.args.why.now c.args.k.now) c.calls-calls.ensures
    ∙ refused_told c.args.config.now c.args.told.now c.args.t.now c.args.k.now c.args.open.mode c.args.open.file c.args.why.now
