use Rattle.std.proofs.Common.{◌≡◌, ℕ, List, Option, Some, None, set, refl, sym, subst, ap, ◌∙◌}
use Rattle.role_steps.specs.Storage.{instance_key, ends_at, is_open, on_closed_ok_of}
use Rattle.role_steps.specs.Views.{serial_key}
use Rattle.role_steps.specs.Tables.{row}
use Rattle.role_steps.specs.declared.instances.Instance.{Instance}
use Rattle.store_instances.specs.Stores.{Gives, StoreState, store_of}
use Rattle.storage_site.proofs.Placing.{placed_so, stand_kept, stand_same, gives_placed, quiet_store}
use Rattle.keyed_tables.proofs.Placed.{absent_latest}
use Rattle.storage_site.proofs.store.Store.on_closed_ok.Goals as goal

pub invariant_of-self : goal.invariant_of-self
invariant_of-self c = (
  (placed_so c.serial_key.result c.self.inside.rows.items c.self.inside.index c.in-Some.place c.index_mut-row.result.now c.on_closed_ok.new.self c.self.invariant.0 c.in-Some.ensures.place c.index_mut-row.ensures.value c.on_closed_ok.ensures.key).keys_after,
  stand_same c.self.inside.rows.items c.self.inside.standing.items c.in-Some.place c.index_mut-row.result.now c.on_closed_ok.new.self c.self.invariant.1 c.index_mut-row.ensures.value (ap is_open c.in_err-on_closed_ok-in-Some.ensures.kept),
)

pub invariant_of-self-in-Some : goal.invariant_of-self-in-Some
invariant_of-self-in-Some c = (
  (placed_so c.serial_key.result c.self.inside.rows.items c.self.inside.index c.in-Some.place c.index_mut-row.result.now c.on_closed_ok.new.self c.self.invariant.0 c.in-Some.ensures.place c.index_mut-row.ensures.value c.on_closed_ok.ensures.key).keys_after,
  stand_kept c.self.inside.rows.items c.self.inside.standing.items c.keep_open.new.standing.items c.in-Some.place c.index_mut-row.result.now c.on_closed_ok.new.self c.is_open-is_open.result c.self.invariant.1 c.index_mut-row.ensures.value c.on_closed_ok.ensures.stays c.is_open-is_open.ensures c.keep_open.ensures,
)

pub returns-in-None-clause-gives : goal.returns-in-None-clause-gives
returns-in-None-clause-gives c p image =
    let xs : List Instance = c.self.inside.rows.items in
    let r : StoreState = record { instances = xs; steps = c.self.inside.steps } in
    let absent : row instance_key (serial_key c.args.inst) xs ≡ None = ap (λ (k : ℕ). row instance_key k xs) (sym c.serial_key.ensures) ∙ absent_latest instance_key c.serial_key.result xs c.self.inside.index c.self.invariant.0 c.in-None.ensures.place in
    rw (← c.self.view_is)
    (subst (λ (o : Option Instance). Gives (on_closed_ok_of c.args.frame.now o (store_of r p image)) (store_of r p image) c.args.out.now c.args.out.now) (sym absent) (quiet_store (store_of r p image) c.args.out.now))

pub returns-in_ok-on_closed_ok-in-Some-clause-gives : goal.returns-in_ok-on_closed_ok-in-Some-clause-gives
returns-in_ok-on_closed_ok-in-Some-clause-gives c p image =
    let xs : List Instance = c.self.inside.rows.items in
    let r : StoreState = record { instances = xs; steps = c.self.inside.steps } in
    let i : Instance = c.index_mut-row.result.now in
    let there = placed_so c.serial_key.result xs c.self.inside.index c.in-Some.place i c.on_closed_ok.new.self c.self.invariant.0 c.in-Some.ensures.place c.index_mut-row.ensures.value c.on_closed_ok.ensures.key in
    let asked : row instance_key (serial_key c.args.inst) xs ≡ Some i = ap (λ (k : ℕ). row instance_key k xs) (sym c.serial_key.ensures) ∙ there.asked in
    rw (← c.self.view_is)
    (subst (λ (o : Option Instance). Gives (on_closed_ok_of c.args.frame.now o (store_of r p image)) (store_of (record { instances = set xs c.in-Some.place c.on_closed_ok.new.self; steps = c.self.inside.steps }) p image) c.args.out.now c.on_closed_ok.new.out) (sym asked)
    (gives_placed (ends_at c.args.frame.now i i.stage (store_of r p image)) r (record { instances = set xs c.in-Some.place c.on_closed_ok.new.self; steps = c.self.inside.steps }) (set xs c.in-Some.place c.on_closed_ok.new.self) None c.on_closed_ok.new.self p image c.args.out.now c.on_closed_ok.new.out there.after
    (c.in_ok-on_closed_ok-in-Some.ensures.gives r p image there.is_row) refl))
