-- What an audit says of a record, and what it keeps.
use Rattle.std.proofs.Common.{Bool, cond, sym, ap, subst, ◌∙◌}
use Rattle.audit_tally.specs.declared.standing.Standing.{Standing}
use Rattle.trace_audit.specs.Audits.{IsKept}
use Rattle.trace_audit.specs.declared.verdict.Verdict.TheVariants as says
use Rattle.trace_audit.proofs.Taking.{kept, says_broken, says_so, seen_judged, seen_passed}
use Rattle.trace_audit.proofs.audit.Audit.take.Goals as goal

pub returns-then-not-take-clause-state : goal.returns-then-not-take-clause-state
returns-then-not-take-clause-state c =
    seen_passed c.self.inside.config c.self.inside.standing.sound c.self.inside.standing.last c.args.line c.self.inside.told c.args.r c.take.new.self c.args.self.now
    (sym c.self.view_is) (sym c.take.ensures.goes_on ∙ c.if-not-take.true) c.take.ensures.open

pub returns-then-not-take-clause-verdict : goal.returns-then-not-take-clause-verdict
returns-then-not-take-clause-verdict c = says_broken c.self.inside.standing.last c.self.inside.told c.take.new.self c.take.ensures.open

pub invariant_of-self-2 : goal.invariant_of-self-2
invariant_of-self-2 c =
    subst (λ (b : Bool). IsKept b c.self.inside.config c.judge.new.told) (sym (ap (λ (s : Standing). s.sound) c.judged.ensures.known))
    (kept c.self.inside.config c.self.inside.standing.sound c.self.inside.standing.last c.args.line c.self.inside.told c.judge.new.told c.args.r c.in_ok-may_come.may_come c.self.invariant
    (sym c.take.ensures.goes_on ∙ c.if-not-take.false) c.in_ok-may_come.ensures)

pub returns-clause-state : goal.returns-clause-state
returns-clause-state c =
    seen_judged c.self.inside.config c.self.inside.standing.sound c.self.inside.standing.last c.args.line c.self.inside.told c.judge.new.told c.args.r c.in_ok-may_come.may_come c.judged.new.self c.args.self.now
    (sym c.self.view_is) (sym c.take.ensures.goes_on ∙ c.if-not-take.false) c.in_ok-may_come.ensures c.judged.ensures.known

pub returns-clause-verdict : goal.returns-clause-verdict
returns-clause-verdict c = c.said_where.ensures ∙ (ap (λ (b : Bool). cond b says.Good says.Broken) c.judged.ensures.says ∙ says_so c.args.line c.judge.new.told c.in_ok-may_come.may_come c.judged.new.self c.judged.ensures.known)
