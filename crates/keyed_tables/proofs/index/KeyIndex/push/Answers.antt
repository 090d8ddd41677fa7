use Rattle.std.proofs.Common.{sym, ◌∙◌, ap, ◌++◌, ◌∷◌, [], length, List, ℕ, refl}
use Rattle.std.specs.Option.{is_some}
use Rattle.role_steps.specs.Tables.{with_row}
use Rattle.keyed_tables.specs.Places.{slot_key, place_of}
use Rattle.keyed_tables.proofs.Placed.{index_new, index_old, index_along}
use Rattle.keyed_tables.proofs.index.KeyIndex.push.Goals as goal

pub invariant_of-self-then-known : goal.invariant_of-self-then-known
invariant_of-self-then-known c =
    index_along c.self.inside.slots c.self.inside.slots (c.self.inside.keys.items ++ c.args.key ∷ []) c.push.new.self.items refl c.in_ok-push.ensures.items
    (index_old c.self.inside.slots c.self.inside.keys.items c.args.key c.self.invariant (ap (λ (ks : List ℕ). is_some (place_of c.args.key ks)) c.self.view_is ∙ (ap is_some (sym c.place.ensures.place) ∙ sym c.if-known.ensures)))

pub invariant_of-self-in-Ok : goal.invariant_of-self-in-Ok
invariant_of-self-in-Ok c =
    index_along (with_row slot_key (record { key = c.args.key; place = c.len-place.result }) c.self.inside.slots) _ (c.self.inside.keys.items ++ c.args.key ∷ []) _ c.in-Ok.ensures.ok c.in_ok-push.ensures.items
    (index_new c.self.inside.slots c.self.inside.keys.items c.args.key c.len-place.result c.self.invariant (ap (λ (ks : List ℕ). is_some (place_of c.args.key ks)) c.self.view_is ∙ (ap is_some (sym c.place.ensures.place) ∙ sym c.if-known.ensures)) (c.len-place.ensures ∙ ap length (sym c.self.view_is)))
