use Rattle.std.proofs.Common.{ℕ, ◌+◌, List, [], sym, ap, subst, ◌∙◌}
use Rattle.audit_input.specs.Input.{ReadsAll, nothing_read}
use Rattle.audit_input.specs.declared.audit_reader.AuditReader.{AuditReader}
use Rattle.audit_answers.specs.Answers.{answer_to}
use Rattle.audit_answers.proofs.OneReading.{all_once, good_or_bad, heads_none, one_bad}
use Rattle.audit_answers.proofs.laws.an_input_has_one_answer.Goals as goal

pub returns-clause-one : goal.returns-clause-one
returns-clause-one c = λ bytes a b p q.
    let one = all_once bytes [] nothing_read p.lines q.lines p.input.after q.input.after heads_none p.input.reads q.input.reads in
    p.is ∙ (ap (λ (r : AuditReader). answer_to r.header.config p.lines) one.after ∙ (ap (answer_to q.input.after.header.config) one.lines ∙ sym q.is))

pub returns-clause-good : goal.returns-clause-good
returns-clause-good c = λ bytes a n p bad.
    good_or_bad bad.good bad.rest [] nothing_read bad.lines p.lines bad.after p.input.after heads_none bad.reads bad.bad
    (subst (λ (bs : List (List ℕ)). ReadsAll nothing_read bs p.lines p.input.after) bad.split p.input.reads) p.input.traced

pub returns-clause-bad : goal.returns-clause-bad
returns-clause-bad c = λ bytes m n p q.
    p.place ∙ (ap (λ (k : ℕ). k + 1) (one_bad p.good q.good p.rest q.rest [] nothing_read p.lines q.lines p.after q.after heads_none (sym p.split ∙ q.split) p.reads q.reads p.bad q.bad) ∙ sym q.place)
