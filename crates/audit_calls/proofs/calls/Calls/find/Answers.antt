use Rattle.std.proofs.Common.{◌∙◌, Some, None, sym, ap}
use Rattle.std.specs.List.{find}
use Rattle.promises.specs.After.{is_id}
use Rattle.audit_calls.proofs.Settled.{asked_for, found_at, found_nowhere, read_at, row_within}
use Rattle.audit_calls.proofs.calls.Calls.find.Goals as goal

pub returns-in-Some : goal.returns-in-Some
returns-in-Some c =
    let at = asked_for c.self.inside.ids c.args.id c.call_key.result (Some c.in-Some.place) c.in-Some.ensures.place c.call_key.ensures in
    read_at c.self.inside.rows.items c.in-Some.place c.index.result.now (row_within c.self.inside.rows.items c.self.inside.ids c.in-Some.place c.self.invariant.ids_are c.in-Some.ensures.within) c.index.ensures
    ∙ (sym (found_at c.self.inside.rows.items c.self.inside.ids c.args.id c.in-Some.place c.self.invariant.ids_are at) ∙ ap (find (is_id c.args.id)) c.self.view_is)

pub returns-in-None : goal.returns-in-None
returns-in-None c =
    let at = asked_for c.self.inside.ids c.args.id c.call_key.result None c.in-None.ensures.place c.call_key.ensures in
    sym (found_nowhere c.self.inside.rows.items c.self.inside.ids c.args.id c.self.invariant.ids_are at) ∙ ap (find (is_id c.args.id)) c.self.view_is
