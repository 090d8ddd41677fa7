use Rattle.std.proofs.Common.{◌∙◌, Some, None, sym}
use Rattle.audit_calls.specs.Rows.{replied}
use Rattle.audit_calls.proofs.Settled.{asked_for, index_ends, row_there, row_within, shown_changed, shown_unchanged}
use Rattle.audit_calls.proofs.calls.Calls.reply.Goals as goal

pub returns-in_default : goal.returns-in_default
returns-in_default c =
    let at = asked_for c.self.inside.ids c.args.id c.call_key.result None (sym c.in_default.is ∙ c.place.ensures.place) c.call_key.ensures in
    shown_unchanged replied c.self.inside.rows.items c.args.self.now c.self.inside.ids c.args.id c.self.view_is c.self.invariant.ids_are at

pub invariant_of-self : goal.invariant_of-self
invariant_of-self c =
    let s = row_there c.self.inside.rows.items c.in-Some.place (row_within c.self.inside.rows.items c.self.inside.ids c.in-Some.place c.self.invariant.ids_are c.in-Some.ensures.within) in
    index_ends c.self.inside.rows.items c.end_at.new.rows.items c.self.inside.ids c.self.inside.uses c.self.inside.waiting.items c.end_at.new.waiting.items c.in-Some.place s.row c.self.invariant s.is (c.end_at.ensures.rows s.row s.is) c.end_at.ensures.waiting

pub returns : goal.returns
returns c =
    let s = row_there c.self.inside.rows.items c.in-Some.place (row_within c.self.inside.rows.items c.self.inside.ids c.in-Some.place c.self.invariant.ids_are c.in-Some.ensures.within) in
    let at = asked_for c.self.inside.ids c.args.id c.call_key.result (Some c.in-Some.place) c.in-Some.ensures.place c.call_key.ensures in
    shown_changed replied c.self.inside.rows.items c.end_at.new.rows.items c.args.self.now c.self.inside.ids c.args.id c.in-Some.place s.row c.self.view_is c.self.invariant.ids_are at c.requires s.is (c.end_at.ensures.rows s.row s.is)
