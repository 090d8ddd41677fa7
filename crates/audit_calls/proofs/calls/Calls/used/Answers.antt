use Rattle.std.proofs.Common.{◌∙◌, sym, ap}
use Rattle.std.specs.List.{find}
use Rattle.key_places.specs.Places.{place_of}
use Rattle.audit_calls.specs.Uses.{is_use}
use Rattle.audit_calls.proofs.Settled.{read_at, use_within}
use Rattle.audit_calls.proofs.Sought.{used_at, used_nowhere}
use Rattle.audit_calls.proofs.calls.Calls.used.Goals as goal

pub returns-in_default : goal.returns-in_default
returns-in_default c =
    used_nowhere c.self.inside.rows.items c.self.inside.uses c.args.sought c.self.invariant.uses_are (sym c.in_default.is ∙ (c.place.ensures.place ∙ ap (λ k. place_of k c.self.inside.uses) c.sought_key.ensures))
    ∙ ap (find (is_use c.args.sought)) c.self.view_is

pub returns-then-is_use : goal.returns-then-is_use
returns-then-is_use c =
    let row = read_at c.self.inside.rows.items c.in-Some.place c.index-row.result.now (use_within c.self.inside.rows.items c.self.inside.uses c.in-Some.place c.self.invariant.uses_are c.in-Some.ensures.within) c.index-row.ensures in
    used_at c.self.inside.rows.items c.self.inside.uses c.args.sought c.in-Some.place c.index-row.result.now c.self.invariant.uses_are (c.in-Some.ensures.place ∙ ap (λ k. place_of k c.self.inside.uses) c.sought_key.ensures) row (sym c.if-is_use.ensures)
    ∙ ap (find (is_use c.args.sought)) c.self.view_is
