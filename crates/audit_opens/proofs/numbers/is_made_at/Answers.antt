use Rattle.std.proofs.Common.{[]}
use Rattle.audit_opens.specs.Once.{past_of}
use Rattle.audit_opens.proofs.Lacking.{made_so, unmade_so}
use Rattle.audit_opens.proofs.numbers.is_made_at.Goals as goal

pub returns-in-Some : goal.returns-in-Some
returns-in-Some c =
    made_so c.args.config.now (past_of [] c.args.calls.now []) c.args.t.now c.args.group c.args.site c.args.call c.in-Some.k.now c.place_of.result c.is_site.result
    (c.requires c.args.call) c.in-Some.ensures c.place_of.ensures c.is_site.ensures

pub returns-in-None : goal.returns-in-None
returns-in-None c = unmade_so c.args.config.now (past_of [] c.args.calls.now []) c.args.t.now c.args.group c.args.site c.args.call c.in-None.ensures
