use Rattle.std.proofs.Common.{ap}
use Rattle.locus_ids.specs.declared.ids.CallId.{CallId}
use Rattle.audit_opens.proofs.Lacking.{place_told}
use Rattle.audit_opens.proofs.numbers.place_of.Goals as goal

pub returns : goal.returns
returns c =
    place_told c.args.config.now c.args.t.now c.args.group c.args.k.now c.members.result c.id.result.site c.words.result.now c.place_for.result c.place_for.ensures c.members.ensures (ap (λ (d : CallId). d.site) c.id.ensures) c.words.ensures
