use Rattle.std.proofs.Common.{ap}
use Rattle.locus_ids.specs.declared.ids.CallId.{CallId}
use Rattle.audit_opens.specs.Once.{past_of}
use Rattle.audit_opens.proofs.Lacking.{make_told}
use Rattle.audit_opens.proofs.opening.open_refusal.Goals as goal

pub returns-in-Make : goal.returns-in-Make
returns-in-Make c =
    λ calls h kept. make_told c.args.config.now (past_of c.args.sites.now calls h) c.args.t.now c.args.file c.args.k.now c.args.mode c.members-members.result c.id.result.site c.words.result.now c.make_refusal.result
    c.make_refusal.ensures c.members-members.ensures (ap (λ (d : CallId). d.site) c.id.ensures) c.words.ensures c.in-Make.is
