use Rattle.std.proofs.Common.{◌≡◌, Some, ap, sym, ◌∙◌}
use Rattle.std.proofs.lemmas.Bool.{false≢true}
use Rattle.std.proofs.lemmas.Option.{same_Some}
use Rattle.schedule_lines.specs.Cluster.{may_join}
use Rattle.line_text.specs.HeaderReader.{header_in}
use Rattle.line_text.proofs.Answered.{none_is, other_fault}
use Rattle.line_text.proofs.HeaderForms.{header_complete, header_sound}
use Rattle.line_text.proofs.headers.parse_header.Goals as goal

pub returns-in_err-header-clause-bad : goal.returns-in_err-header-clause-bad
returns-in_err-header-clause-bad c = λ h. absurd (other_fault c.from_residual.result c.from_residual.ensures.1 h)

pub returns-in_default-clause-bad : goal.returns-in_default-clause-bad
returns-in_default-clause-bad c = λ h. (
  sym c.if-not-begins_header.ensures,
  λ l is.
      none_is (header_in c.args.so_far.now.config.sites c.args.line.now) c.in_ok-header.field-0 l c.in_ok-header.ensures c.in_default.is
      (ap (header_in c.args.so_far.now.config.sites) is.0 ∙ header_complete c.args.so_far.now.config l is.1),
)

pub returns-then-not-may_take-clause-bad : goal.returns-then-not-may_take-clause-bad
returns-then-not-may_take-clause-bad c = λ h. (
  sym c.if-not-begins_header.ensures,
  λ l is.
      let read : header_in c.args.so_far.now.config.sites c.args.line.now ≡ Some l = ap (header_in c.args.so_far.now.config.sites) is.0 ∙ header_complete c.args.so_far.now.config l is.1 in
      let same : c.in-Some.header ≡ l = same_Some c.in-Some.header l (sym c.in-Some.is ∙ c.in_ok-header.ensures ∙ read) in
      false≢true (c.if-not-may_take.ensures ∙ ap (may_join c.args.so_far.now.config) same ∙ is.1),
)

pub returns-in_err-take-clause-bad : goal.returns-in_err-take-clause-bad
returns-in_err-take-clause-bad c = λ h. absurd (other_fault c.from_residual-in_err-take.result c.from_residual-in_err-take.ensures.1 h)

pub returns-clause-step : goal.returns-clause-step
returns-clause-step c =
    let spelled = header_sound c.args.so_far.now.config.sites c.args.line.now c.in-Some.header (sym c.in_ok-header.ensures ∙ c.in-Some.is) in
    (sym c.if-not-begins_header.ensures, c.in-Some.header, (spelled, sym c.if-not-may_take.ensures), c.in_ok-take.ensures.ok)
