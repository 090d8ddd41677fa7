use Rattle.std.proofs.Common.{sym, ap, ◌∙◌, subst}
use Rattle.past_laws.specs.of_promises.After.{with_known}
use Rattle.audit_copies.specs.Files.{AreByFile, all_copies}
use Rattle.audit_copies.proofs.ByFile.{known_ordered, known_so}
use Rattle.audit_copies.proofs.known.Known.note.Goals as goal

pub returns-clause-ok : goal.returns-clause-ok
returns-clause-ok c =
    ap all_copies c.in_ok-note_in.ensures.ok
    ∙ (known_so c.args.copy c.self.inside.files.items c.self.invariant ∙ ap (with_known c.args.copy) c.self.view_is)

pub invariant_of-self : goal.invariant_of-self
invariant_of-self c = subst AreByFile (sym c.in_err-note_in.ensures.err) c.self.invariant

pub invariant_of-self-2 : goal.invariant_of-self-2
invariant_of-self-2 c = subst AreByFile (sym c.in_ok-note_in.ensures.ok) (known_ordered c.args.copy c.self.inside.files.items c.self.invariant)
