use Rattle.std.proofs.Common.{◌∙◌, Some, None, sym, refl}
use Rattle.audit_calls.specs.Rows.{with_answer}
use Rattle.audit_calls.proofs.Settled.{asked_for, by_answer, index_stays, on_ok, row_there, row_within, shown_changed, shown_unchanged}
use Rattle.audit_calls.proofs.calls.Calls.answer.Goals as goal

pub returns-in_default : goal.returns-in_default
returns-in_default c =
    let at = asked_for c.self.inside.ids c.args.id c.call_key.result None (sym c.in_default.is ∙ c.place.ensures.place) c.call_key.ensures in
    shown_unchanged (with_answer c.args.answer) c.self.inside.rows.items c.args.self.now c.self.inside.ids c.args.id c.self.view_is c.self.invariant.ids_are at

pub invariant_of-self : goal.invariant_of-self
invariant_of-self c =
    let s = row_there c.self.inside.rows.items c.in-Some.place (row_within c.self.inside.rows.items c.self.inside.ids c.in-Some.place c.self.invariant.ids_are c.in-Some.ensures.within) in
    by_answer c.answer_at.result (c.answer_at.ensures.ok s.row s.is) c.answer_at.ensures.err
    (λ e. index_stays c.self.inside.rows.items c.answer_at.new.rows.items c.self.inside.ids c.self.inside.uses c.self.inside.waiting.items c.in-Some.place s.row (with_answer c.args.answer s.row) c.self.invariant s.is e refl refl refl (λ n. refl))
    (λ e. rw e c.self.invariant)

pub returns : goal.returns
returns c =
    let s = row_there c.self.inside.rows.items c.in-Some.place (row_within c.self.inside.rows.items c.self.inside.ids c.in-Some.place c.self.invariant.ids_are c.in-Some.ensures.within) in
    let at = asked_for c.self.inside.ids c.args.id c.call_key.result (Some c.in-Some.place) c.in-Some.ensures.place c.call_key.ensures in
    on_ok c.answer_at.result (c.answer_at.ensures.ok s.row s.is) (shown_changed (with_answer c.args.answer) c.self.inside.rows.items c.answer_at.new.rows.items c.args.self.now c.self.inside.ids c.args.id c.in-Some.place s.row c.self.view_is c.self.invariant.ids_are at c.requires s.is)
