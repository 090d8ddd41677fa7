use Rattle.std.proofs.Common.{[]}
use Rattle.audit_opens.specs.Once.{past_of}
use Rattle.audit_opens.proofs.Lacking.{lacks_so}
use Rattle.audit_opens.proofs.numbers.lacks_numbers.Goals as goal

pub returns : goal.returns
returns c =
    lacks_so c.args.config.now (past_of c.args.sites.now c.args.calls.now []) c.args.t.now c.args.group c.args.site c.copies_in.result.now c.numbers_used-used.result c.makes_at-makes.result c.lacks_numbers.result
    c.copies_in.ensures c.numbers_used-used.ensures c.makes_at-makes.ensures (c.lacks_numbers.ensures c.args.site)
