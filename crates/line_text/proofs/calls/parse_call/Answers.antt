use Rattle.std.proofs.Common.{ap, sym, ◌∙◌}
use Rattle.line_text.specs.CallReader.{call_in}
use Rattle.line_text.proofs.Answered.{none_is, other_fault}
use Rattle.line_text.proofs.CallForms.{call_complete, call_sound}
use Rattle.line_text.proofs.calls.parse_call.Goals as goal

pub returns-in_err-call-clause-bad : goal.returns-in_err-call-clause-bad
returns-in_err-call-clause-bad c = λ h. absurd (other_fault c.from_residual.result c.from_residual.ensures.1 h)

pub returns-in-Some-clause-found : goal.returns-in-Some-clause-found
returns-in-Some-clause-found c = call_sound c.args.h.now.config.sites c.args.words.now c.in-Some.call (sym c.in_ok-call.ensures ∙ c.in-Some.is)

pub returns-in-None-clause-bad : goal.returns-in-None-clause-bad
returns-in-None-clause-bad c = λ h call is.
    none_is (call_in c.args.h.now.config.sites c.args.words.now) c.in_ok-call.field-0 call c.in_ok-call.ensures c.in-None.is
    (ap (call_in c.args.h.now.config.sites) is.0 ∙ call_complete c.args.h.now.config.sites call is.1)
