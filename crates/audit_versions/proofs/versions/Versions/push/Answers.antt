use Rattle.std.proofs.Common.{arith}
use Rattle.audit_versions.proofs.Beside.{agree_more}
use Rattle.audit_versions.proofs.versions.Versions.push.Goals as goal

pub invariant_of-self : goal.invariant_of-self
invariant_of-self c =
    let is = c.len.ensures in let few = c.if-len-ge-MOST.false in
    agree_more c.self.inside.rows.history c.args.self.now _ c.self.inside.rows.counts.items _ c.self.inside.rows.names _ c.self.inside.rows.files _ c.self.inside.regular c.is_regular_with-regular.result c.args.version c.counts_on-counts.result
    c.self.invariant c.self.view_is c.in-Ok.ensures.history c.in-Ok.ensures.counts c.in-Ok.ensures.names c.in-Ok.ensures.files
    c.counts_on-counts.ensures c.is_regular_with-regular.ensures (omega (arith, is, few)) c.requires.sited c.requires.short
