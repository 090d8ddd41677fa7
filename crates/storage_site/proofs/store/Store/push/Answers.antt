use Rattle.std.proofs.Common.{List, length, sym, ap, ◌∙◌}
use Rattle.role_steps.specs.Storage.{instance_key}
use Rattle.role_steps.specs.declared.instances.Instance.{Instance}
use Rattle.storage_site.proofs.Opens.{latest_new}
use Rattle.storage_site.proofs.Standing.{keys_more, stand_more}
use Rattle.storage_site.proofs.store.Store.push.Goals as goal

pub invariant_of-self-in-Ok : goal.invariant_of-self-in-Ok
invariant_of-self-in-Ok c = (
  keys_more c.self.inside.rows.items c.push_row.new.rows.items c.args.new c.self.inside.index c.push_row.new.index c.self.invariant.0 c.in-Ok.ensures.rows c.in-Ok.ensures.index,
  stand_more c.self.inside.rows.items c.push_row.new.rows.items c.args.new c.self.inside.standing.items c.push.new.self.items c.next_place-place.result c.self.invariant.1 c.in-Ok.ensures.rows c.requires.stands (c.next_place-place.ensures ∙ ap (λ (xs : List Instance). length xs) c.as_slice.ensures.value) c.in_ok-push.ensures.items,
)

pub returns-in-Ok : goal.returns-in-Ok
returns-in-Ok c =
    rw (← c.self.view_is)
    (ap (λ (ys : List Instance). record { instances = ys; steps = c.self.inside.steps }) (c.in-Ok.ensures.rows ∙ sym (latest_new instance_key c.args.new c.self.inside.rows.items (rw (← c.self.view_is) at c.requires.absent))))
