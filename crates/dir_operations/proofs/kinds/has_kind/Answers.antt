use Rattle.std.proofs.Common.{sym, ◌∙◌}
use Rattle.dir_format.proofs.Following.{kinds_tell, kinds_told}
use Rattle.dir_operations.proofs.kinds.has_kind.Goals as goal

pub returns-clause-yes : goal.returns-clause-yes
returns-clause-yes c = λ h. kinds_tell c.args.ino c.args.kind c.args.d.now (sym (rw c.as_slice.ensures.value at c.all_have.ensures) ∙ h)

pub returns-clause-no : goal.returns-clause-no
returns-clause-no c = λ h. (rw c.as_slice.ensures.value at c.all_have.ensures) ∙ kinds_told c.args.ino c.args.kind c.args.d.now h
