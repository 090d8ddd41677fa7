use Rattle.std.proofs.Common.{◌==◌, ◌||◌, not, sym, ◌∙◌}
use Rattle.std.specs.List.{list_all}
use Rattle.dir_format.specs.Entries.{HasKind}
use Rattle.dir_format.specs.Grammar.{kind_byte}
use Rattle.dir_format.proofs.Tests.{all_tell, all_told}
use Rattle.dir_format.proofs.Following.{kinds_tell, kinds_told}
use Rattle.dir_reconcile.proofs.agreeing.agree_on_kinds.Goals as goal

pub returns-clause-yes : goal.returns-clause-yes
returns-clause-yes c = λ h.
    all_tell (λ x. list_all (λ e. not (e.ino == x.ino) || (kind_byte e.kind == kind_byte x.kind)) c.args.b.now) (λ x. HasKind x.ino x.kind c.args.b.now) (λ x. kinds_tell x.ino x.kind c.args.b.now) c.args.a.now
    (sym (rw (c.as_slice.ensures.value, c.as_slice-2.ensures.value) at c.all_agree.ensures) ∙ h)

pub returns-clause-no : goal.returns-clause-no
returns-clause-no c = λ h.
    (rw (c.as_slice.ensures.value, c.as_slice-2.ensures.value) at c.all_agree.ensures)
    ∙ all_told (λ x. list_all (λ e. not (e.ino == x.ino) || (kind_byte e.kind == kind_byte x.kind)) c.args.b.now) (λ x. HasKind x.ino x.kind c.args.b.now) (λ x. kinds_told x.ino x.kind c.args.b.now) c.args.a.now h
