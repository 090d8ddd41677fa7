use Rattle.std.proofs.Common.{◌++◌, ap, codes, sym, ◌∙◌}
use Rattle.line_text.specs.EventReader.{call_line, event_in}
use Rattle.line_text.proofs.Answered.{none_is, other_fault}
use Rattle.line_text.proofs.EventForms.{event_complete, event_sound}
use Rattle.line_text.proofs.tree_lines.parse_tree_line.Goals as goal

pub returns-in_err-line-clause-bad : goal.returns-in_err-line-clause-bad
returns-in_err-line-clause-bad c = λ h. absurd (other_fault c.from_residual.result c.from_residual.ensures.1 h)

pub returns-in-Some-clause-found : goal.returns-in-Some-clause-found
returns-in-Some-clause-found c =
    let s = event_sound c.args.h.now.config.sites (codes "call " ++ c.args.line.now) c.in-Some.line (sym c.in_ok-line.ensures ∙ c.in-Some.is) in
    (s.0, c.if-not-h.false, s.1)

pub returns-in-None-clause-bad : goal.returns-in-None-clause-bad
returns-in-None-clause-bad c = λ h line is.
    none_is (call_line c.args.h.now.config.sites c.args.line.now) c.in_ok-line.field-0 line c.in_ok-line.ensures c.in-None.is
    (ap (event_in c.args.h.now.config.sites) is.0 ∙ event_complete c.args.h.now.config.sites line is.2)
