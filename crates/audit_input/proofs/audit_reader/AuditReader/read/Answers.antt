use Rattle.std.proofs.Common.{codes, sym, ap, ◌∙◌}
use Rattle.std.specs.Str.{bytes_eq}
use Rattle.std.proofs.lemmas.Bool.{false≢true}
use Rattle.std.proofs.lemmas.Slice.Eq.{bytes_eq-Decides}
use Rattle.audit_input.proofs.NotTaken.{not_taken}
use Rattle.audit_input.proofs.audit_reader.AuditReader.read.Goals as goal

pub returns-clause-bad : goal.returns-clause-bad
returns-clause-bad c = λ h told after takes.
    not_taken c.args.self.now c.args.line.now c.if-self.false (sym c.if-is_passed.ensures)
    (λ e. false≢true (c.if-eq.ensures ∙ ap (bytes_eq c.args.line.now) c.as_slice.ensures ∙ (bytes_eq-Decides c.args.line.now (codes "trace")).1 e))
    (c.header_line.ensures.bad h) told after takes
