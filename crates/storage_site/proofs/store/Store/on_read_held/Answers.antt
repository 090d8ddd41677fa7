use Rattle.std.proofs.Common.{◌≡◌, ℕ, List, Option, Some, None, set, get_or, refl, sym, subst, ap, ◌∙◌}
use Rattle.trace_book.specs.declared.operation.Op.TheVariants as op
use Rattle.role_steps.specs.of_dir_format.Entries.{nothing_seen}
use Rattle.role_steps.specs.Views.{Store, serial_key}
use Rattle.role_steps.specs.Storage.{free_pages, instance_key, is_open}
use Rattle.role_steps.specs.Tables.{row}
use Rattle.role_steps.specs.Operations.{in_form, nothing_to_mend, on_op_at, on_op_of}
use Rattle.role_steps.specs.declared.instances.Instance.{Instance}
use Rattle.store_instances.specs.Stores.{Gives, StoreState, store_of}
use Rattle.storage_site.proofs.Placing.{placed_so, stand_same, gives_placed, quiet_store}
use Rattle.keyed_tables.proofs.Placed.{absent_latest}
use Rattle.storage_site.proofs.store.Store.on_read_held.Goals as goal

pub invariant_of-self : goal.invariant_of-self
invariant_of-self c = (
  (placed_so c.serial_key.result c.self.inside.rows.items c.self.inside.index c.in-Some.place c.index_mut-row.result.now c.on_read_held.new.self c.self.invariant.0 c.in-Some.ensures.place c.index_mut-row.ensures.value c.on_read_held.ensures.key).keys_after,
  stand_same c.self.inside.rows.items c.self.inside.standing.items c.in-Some.place c.index_mut-row.result.now c.on_read_held.new.self c.self.invariant.1 c.index_mut-row.ensures.value (ap is_open c.on_read_held.ensures.stage),
)

pub invariant_of-self-in-Some : goal.invariant_of-self-in-Some
invariant_of-self-in-Some c = (
  (placed_so c.serial_key.result c.self.inside.rows.items c.self.inside.index c.in-Some.place c.index_mut-row.result.now c.on_read_held.new.self c.self.invariant.0 c.in-Some.ensures.place c.index_mut-row.ensures.value c.on_read_held.ensures.key).keys_after,
  stand_same c.self.inside.rows.items c.self.inside.standing.items c.in-Some.place c.index_mut-row.result.now c.on_read_held.new.self c.self.invariant.1 c.index_mut-row.ensures.value (ap is_open c.on_read_held.ensures.stage),
)

pub returns-in-None : goal.returns-in-None
returns-in-None c image shown =
    let xs : List Instance = c.self.inside.rows.items in
    let r : StoreState = record { instances = xs; steps = c.self.inside.steps } in
    let s : Store = store_of r c.args.packs.now image in
    let absent : row instance_key (serial_key c.args.inst) xs ≡ None = ap (λ (k : ℕ). row instance_key k xs) (sym c.serial_key.ensures) ∙ absent_latest instance_key c.serial_key.result xs c.self.inside.index c.self.invariant.0 c.in-None.ensures.place in
    rw (← c.self.view_is)
    (subst (λ (o : Option Instance). Gives (in_form o (on_op_of c.args.frame.now nothing_to_mend o c.args.read.number (op.Read c.args.read.at c.args.read.len) nothing_seen s)) s c.args.out.now c.args.out.now) (sym absent) (quiet_store s c.args.out.now))

pub returns-in_ok-on_read_held-in-Some : goal.returns-in_ok-on_read_held-in-Some
returns-in_ok-on_read_held-in-Some c image shown =
    let xs : List Instance = c.self.inside.rows.items in
    let r : StoreState = record { instances = xs; steps = c.self.inside.steps } in
    let after : StoreState = record { instances = set xs c.in-Some.place c.on_read_held.new.self; steps = c.self.inside.steps } in
    let s : Store = store_of r c.args.packs.now image in
    let i : Instance = c.index_mut-row.result.now in
    let there = placed_so c.serial_key.result xs c.self.inside.index c.in-Some.place i c.on_read_held.new.self c.self.invariant.0 c.in-Some.ensures.place c.index_mut-row.ensures.value c.on_read_held.ensures.key in
    let asked : row instance_key (serial_key c.args.inst) xs ≡ Some i = ap (λ (k : ℕ). row instance_key k xs) (sym c.serial_key.ensures) ∙ there.asked in
    rw (← c.self.view_is)
    (subst (λ (o : Option Instance). Gives (in_form o (on_op_of c.args.frame.now nothing_to_mend o c.args.read.number (op.Read c.args.read.at c.args.read.len) nothing_seen s)) (store_of after c.args.packs.now image) c.args.out.now c.on_read_held.new.out)
    (sym asked)
    (gives_placed (in_form (Some i) (on_op_at c.args.frame.now nothing_to_mend i i.stage c.args.read.number (op.Read c.args.read.at c.args.read.len) nothing_seen s)) r after (set xs c.in-Some.place c.on_read_held.new.self) None c.on_read_held.new.self c.args.packs.now image
    c.args.out.now c.on_read_held.new.out there.after
    (c.in_ok-on_read_held-in-Some.ensures.gives r c.args.packs.now image there.is_row
    (ap (λ (q : StoreState). free_pages (store_of q c.args.packs.now image) i.file.group) c.self.view_is ∙ sym (c.free_at-free.ensures image i shown (c.index_mut-row.ensures.value ∙ ap (λ (q : StoreState). get_or q.instances c.in-Some.place i) c.self.view_is))))
    refl))
