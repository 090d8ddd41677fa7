use Rattle.std.proofs.Common.{sym}
use Rattle.std.specs.Str.{bytes_eq}
use Rattle.audit_same.proofs.Alike.{unequal}
use Rattle.audit_same.proofs.lists.same_names.Goals as goal

pub returns-then-a-b : goal.returns-then-a-b
returns-then-a-b c = sym (unequal bytes_eq c.args.a.now c.args.b.now c.if-a-b.true)
