use Rattle.std.proofs.Common.{ℕ, Option, refl, subst}
use Rattle.audit_answers.specs.Answers.{IsAnswered, answer_by}
use Rattle.audit_run.proofs.Hearings.{answered, none_by, some_by, unanswered}
use Rattle.audit_run.proofs.hearing.Hearing.answer.Goals as goal

pub returns-then-is_none-clause-short : goal.returns-then-is_none-clause-short
returns-then-is_none-clause-short c = λ all lines k. (refl, unanswered all lines c.args.self.now k (none_by c.args.self.now.audit c.is_none.result c.is_none.ensures c.if-is_none.true))

pub returns-in-Some-clause-answered : goal.returns-in-Some-clause-answered
returns-in-Some-clause-answered c = λ all lines k.
    let a = some_by c.args.self.now.audit c.is_none.result c.is_none.ensures c.if-is_none.false in
    let P : Option ℕ → Type 0 = λ o. IsAnswered all (answer_by c.args.self.now.tally.records o) in
    subst P c.in-Some.is (answered all lines c.args.self.now a.0 k a.1)

pub returns-in-None-clause-answered : goal.returns-in-None-clause-answered
returns-in-None-clause-answered c = λ all lines k.
    let a = some_by c.args.self.now.audit c.is_none.result c.is_none.ensures c.if-is_none.false in
    let P : Option ℕ → Type 0 = λ o. IsAnswered all (answer_by c.args.self.now.tally.records o) in
    subst P c.in-None.is (answered all lines c.args.self.now a.0 k a.1)
