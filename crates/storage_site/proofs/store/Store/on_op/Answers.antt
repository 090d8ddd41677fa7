use Rattle.std.proofs.Common.{◌≡◌, ℕ, List, Ok, Option, Some, None, set, get_or, sym, subst, ap, ◌∙◌}
use Rattle.role_steps.specs.Views.{Store}
use Rattle.role_steps.specs.Storage.{free_pages, instance_key, is_open}
use Rattle.role_steps.specs.Views.{serial_key}
use Rattle.role_steps.specs.Tables.{row}
use Rattle.role_steps.specs.Operations.{on_op_at, on_op_of}
use Rattle.locus_ids.specs.declared.ids.FileId.{FileId}
use Rattle.role_steps.specs.declared.copies.Step.{Step}
use Rattle.role_steps.specs.declared.instances.Instance.{Instance}
use Rattle.storage_site.proofs.Forgotten.{done_so, forgot_so}
use Rattle.store_instances.specs.Stores.{Gives, StoreState, store_of, with_made}
use Rattle.store_instances.specs.Writes.{Writes}
use Rattle.store_instances.proofs.Stays.{nothing_written, same_at}
use Rattle.storage_site.proofs.Placing.{placed_so, stand_same, gives_placed, quiet_store}
use Rattle.keyed_tables.proofs.Placed.{absent_latest}
use Rattle.store_instances.specs.of_site_packs.Packs.{groups_of}
use Rattle.storage_site.specs.Fitting.{CanOperateAt, CanOperateOf}
use Rattle.store_instances.proofs.Fits.{memory_fit, unfit_at}
use Rattle.storage_site.proofs.store.Store.on_op.Goals as goal

pub invariant_of-self : goal.invariant_of-self
invariant_of-self g c = (
  (placed_so c.serial_key.result c.self.inside.rows.items c.self.inside.index c.in-Some.place c.index_mut-row.result.now c.on_op.new.self c.self.invariant.0 c.in-Some.ensures.place c.index_mut-row.ensures.value c.on_op.ensures.key).keys_after,
  stand_same c.self.inside.rows.items c.self.inside.standing.items c.in-Some.place c.index_mut-row.result.now c.on_op.new.self c.self.invariant.1 c.index_mut-row.ensures.value (ap is_open c.on_op.ensures.stage),
)

pub invariant_of-self-in-Some : goal.invariant_of-self-in-Some
invariant_of-self-in-Some g c = (
  (placed_so c.serial_key.result c.self.inside.rows.items c.self.inside.index c.in-Some.place c.index_mut-row.result.now c.on_op.new.self c.self.invariant.0 c.in-Some.ensures.place c.index_mut-row.ensures.value c.on_op.ensures.key).keys_after,
  stand_same c.self.inside.rows.items c.self.inside.standing.items c.in-Some.place c.index_mut-row.result.now c.on_op.new.self c.self.invariant.1 c.index_mut-row.ensures.value (ap is_open c.on_op.ensures.stage),
)

pub returns-in-None-clause-gives : goal.returns-in-None-clause-gives
returns-in-None-clause-gives g c =
    let xs : List Instance = c.self.inside.rows.items in
    let r : StoreState = record { instances = xs; steps = c.self.inside.steps } in
    let absent : row instance_key (serial_key c.args.inst) xs ≡ None = ap (λ (k : ℕ). row instance_key k xs) (sym c.serial_key.ensures) ∙ absent_latest instance_key c.serial_key.result xs c.self.inside.index c.self.invariant.0 c.in-None.ensures.place in
    rw (← c.self.view_is)
    (subst (λ (o : Option Instance). Gives (on_op_of c.args.frame.now c.args.mending.now o c.args.n c.args.op.now c.args.seen.now (store_of r c.args.packs.now (g.D.Disk.moment c.args.disk.now).seen)) (store_of r c.args.packs.now (g.D.Disk.moment c.args.disk.now).seen) c.args.out.now c.args.out.now)
    (sym absent) (quiet_store (store_of r c.args.packs.now (g.D.Disk.moment c.args.disk.now).seen) c.args.out.now))

pub returns-in_ok-remember-in-Some-clause-gives : goal.returns-in_ok-remember-in-Some-clause-gives
returns-in_ok-remember-in-Some-clause-gives g c =
    let xs : List Instance = c.self.inside.rows.items in
    let r : StoreState = record { instances = xs; steps = c.self.inside.steps } in
    let i : Instance = c.index_mut-row.result.now in
    let there = placed_so c.serial_key.result xs c.self.inside.index c.in-Some.place i c.on_op.new.self c.self.invariant.0 c.in-Some.ensures.place c.index_mut-row.ensures.value c.on_op.ensures.key in
    let asked : row instance_key (serial_key c.args.inst) xs ≡ Some i = ap (λ (k : ℕ). row instance_key k xs) (sym c.serial_key.ensures) ∙ there.asked in
    rw (← c.self.view_is)
    (subst (λ (o : Option Instance). Gives (on_op_of c.args.frame.now c.args.mending.now o c.args.n c.args.op.now c.args.seen.now (store_of r c.args.packs.now (g.D.Disk.moment c.args.disk.now).seen)) (store_of c.remember.new.self c.on_op.new.packs (g.D.Disk.moment c.on_op.new.disk).seen) c.args.out.now c.on_op.new.out)
    (sym asked)
    (gives_placed (on_op_at c.args.frame.now c.args.mending.now i i.stage c.args.n c.args.op.now c.args.seen.now (store_of r c.args.packs.now (g.D.Disk.moment c.args.disk.now).seen)) r c.remember.new.self (set xs c.in-Some.place c.on_op.new.self) c.in_ok-made-in-Some.made c.on_op.new.self c.on_op.new.packs (g.D.Disk.moment c.on_op.new.disk).seen c.args.out.now c.on_op.new.out there.after
    (c.in_ok-made-in-Some.ensures.gives r there.is_row (ap (λ (q : StoreState). free_pages (store_of q c.args.packs.now (g.D.Disk.moment c.args.disk.now).seen) i.file.group) c.self.view_is ∙ sym (c.free_at-free.ensures (g.D.Disk.moment c.args.disk.now).seen i c.requires.shown (c.index_mut-row.ensures.value ∙ ap (λ (q : StoreState). get_or q.instances c.in-Some.place i) c.self.view_is))))
    (c.in_ok-remember-in-Some.ensures ∙ ap (λ (file : FileId). record { instances = set xs c.in-Some.place c.on_op.new.self; steps = with_made file c.in_ok-made-in-Some.made c.self.inside.steps }) c.file-file.ensures)))

pub returns-in-None-clause-disk : goal.returns-in-None-clause-disk
returns-in-None-clause-disk g c =
    let xs : List Instance = c.self.inside.rows.items in
    let r : StoreState = record { instances = xs; steps = c.self.inside.steps } in
    let s : Store = store_of r c.args.packs.now (g.D.Disk.moment c.args.disk.now).seen in
    let absent : row instance_key (serial_key c.args.inst) xs ≡ None = ap (λ (k : ℕ). row instance_key k xs) (sym c.serial_key.ensures) ∙ absent_latest instance_key c.serial_key.result xs c.self.inside.index c.self.invariant.0 c.in-None.ensures.place in
    rw (← c.self.view_is)
    (subst (λ (o : Option Instance). Writes (on_op_of c.args.frame.now c.args.mending.now o c.args.n c.args.op.now c.args.seen.now s).written c.args.packs.now (g.D.Disk.moment c.args.disk.now) (g.D.Disk.moment c.args.disk.now) c.args.out.now c.args.out.now (Ok tt))
    (sym absent) (nothing_written c.args.packs.now (g.D.Disk.moment c.args.disk.now) c.args.out.now c.args.out.now tt c.requires.settled (g.met.D.Disk.only_now c.args.disk.now)))

pub returns-in_ok-remember-in-Some-clause-disk : goal.returns-in_ok-remember-in-Some-clause-disk
returns-in_ok-remember-in-Some-clause-disk g c =
    let xs : List Instance = c.self.inside.rows.items in
    let r : StoreState = record { instances = xs; steps = c.self.inside.steps } in
    let s : Store = store_of r c.args.packs.now (g.D.Disk.moment c.args.disk.now).seen in
    let i : Instance = c.index_mut-row.result.now in
    let there = placed_so c.serial_key.result xs c.self.inside.index c.in-Some.place i c.on_op.new.self c.self.invariant.0 c.in-Some.ensures.place c.index_mut-row.ensures.value c.on_op.ensures.key in
    let asked : row instance_key (serial_key c.args.inst) xs ≡ Some i = ap (λ (k : ℕ). row instance_key k xs) (sym c.serial_key.ensures) ∙ there.asked in
    rw (← c.self.view_is)
    (subst (λ (o : Option Instance). Writes (on_op_of c.args.frame.now c.args.mending.now o c.args.n c.args.op.now c.args.seen.now s).written c.args.packs.now (g.D.Disk.moment c.args.disk.now) (g.D.Disk.moment c.on_op.new.disk) c.args.out.now c.on_op.new.out (Ok tt))
    (sym asked) (done_so c.in_ok-made-in-Some.made (c.in_ok-made-in-Some.ensures.disk s)))

pub returns-in_err-made-in-Some-clause-disk : goal.returns-in_err-made-in-Some-clause-disk
returns-in_err-made-in-Some-clause-disk g c =
    let xs : List Instance = c.self.inside.rows.items in
    let r : StoreState = record { instances = xs; steps = c.self.inside.steps } in
    let s : Store = store_of r c.args.packs.now (g.D.Disk.moment c.args.disk.now).seen in
    let i : Instance = c.index_mut-row.result.now in
    let there = placed_so c.serial_key.result xs c.self.inside.index c.in-Some.place i c.on_op.new.self c.self.invariant.0 c.in-Some.ensures.place c.index_mut-row.ensures.value c.on_op.ensures.key in
    let asked : row instance_key (serial_key c.args.inst) xs ≡ Some i = ap (λ (k : ℕ). row instance_key k xs) (sym c.serial_key.ensures) ∙ there.asked in
    rw (← c.self.view_is)
    (subst (λ (o : Option Instance). Writes (on_op_of c.args.frame.now c.args.mending.now o c.args.n c.args.op.now c.args.seen.now s).written c.args.packs.now (g.D.Disk.moment c.args.disk.now) (g.D.Disk.moment c.on_op.new.disk) c.args.out.now c.on_op.new.out c.from_residual.result)
    (sym asked)
    (same_at {S = Option Step} (on_op_at c.args.frame.now c.args.mending.now i i.stage c.args.n c.args.op.now c.args.seen.now s).written c.args.packs.now (g.D.Disk.moment c.args.disk.now) (g.D.Disk.moment c.on_op.new.disk) c.args.out.now c.on_op.new.out c.from_residual.result c.in_err-made-in-Some.field-0.0 c.from_residual.ensures.1
    (c.in_err-made-in-Some.ensures.disk s)))

pub returns-in_err-remember-in-Some-clause-disk : goal.returns-in_err-remember-in-Some-clause-disk
returns-in_err-remember-in-Some-clause-disk g c =
    let xs : List Instance = c.self.inside.rows.items in
    let r : StoreState = record { instances = xs; steps = c.self.inside.steps } in
    let s : Store = store_of r c.args.packs.now (g.D.Disk.moment c.args.disk.now).seen in
    let i : Instance = c.index_mut-row.result.now in
    let there = placed_so c.serial_key.result xs c.self.inside.index c.in-Some.place i c.on_op.new.self c.self.invariant.0 c.in-Some.ensures.place c.index_mut-row.ensures.value c.on_op.ensures.key in
    let asked : row instance_key (serial_key c.args.inst) xs ≡ Some i = ap (λ (k : ℕ). row instance_key k xs) (sym c.serial_key.ensures) ∙ there.asked in
    rw (← c.self.view_is)
    (subst (λ (o : Option Instance). Writes (on_op_of c.args.frame.now c.args.mending.now o c.args.n c.args.op.now c.args.seen.now s).written c.args.packs.now (g.D.Disk.moment c.args.disk.now) (g.D.Disk.moment c.on_op.new.disk) c.args.out.now c.on_op.new.out c.from_residual-in_err-remember-in-Some.result)
    (sym asked)
    (forgot_so c.in_ok-made-in-Some.made c.from_residual-in_err-remember-in-Some.result c.from_residual-in_err-remember-in-Some.ensures.1 (c.in_ok-made-in-Some.ensures.disk s)))

pub returns-in_err-made-in-Some-clause-unfit : goal.returns-in_err-made-in-Some-clause-unfit
returns-in_err-made-in-Some-clause-unfit g c =
    let xs : List Instance = c.self.inside.rows.items in
    let r : StoreState = record { instances = xs; steps = c.self.inside.steps } in
    let groups : List ℕ = groups_of c.args.packs.now in
    let s : Store = store_of c.args.self.now c.args.packs.now (g.D.Disk.moment c.args.disk.now).seen in
    let i : Instance = c.index_mut-row.result.now in
    let there = placed_so c.serial_key.result xs c.self.inside.index c.in-Some.place i c.on_op.new.self c.self.invariant.0 c.in-Some.ensures.place c.index_mut-row.ensures.value c.on_op.ensures.key in
    let asked : row instance_key (serial_key c.args.inst) c.args.self.now.instances ≡ Some i =
    ap (λ (q : StoreState). row instance_key (serial_key c.args.inst) q.instances) (sym c.self.view_is) ∙ (ap (λ (k : ℕ). row instance_key k xs) (sym c.serial_key.ensures) ∙ there.asked) in
    unfit_at {S = Option Step} (CanOperateAt c.args.frame.now c.args.mending.now groups c.args.inst c.args.n c.args.op.now s) c.from_residual.result c.in_err-made-in-Some.field-0.0 c.from_residual.ensures.1
    (λ so can. c.in_err-made-in-Some.ensures.unfit so (subst (λ (o : Option Instance). CanOperateOf c.args.frame.now c.args.mending.now groups s.copies c.args.n c.args.op.now o) asked can))

pub returns-in_err-remember-in-Some-clause-unfit : goal.returns-in_err-remember-in-Some-clause-unfit
returns-in_err-remember-in-Some-clause-unfit g c so can = memory_fit c.from_residual-in_err-remember-in-Some.result c.from_residual-in_err-remember-in-Some.ensures.1 so
