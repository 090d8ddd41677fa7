use Rattle.std.proofs.Common.{◌≡◌, ℕ, List, Ok, Option, Some, None, set, sym, subst, ap, ◌∙◌}
use Rattle.role_steps.specs.Views.{Store}
use Rattle.role_steps.specs.Storage.{instance_key, on_close_at, on_close_of}
use Rattle.role_steps.specs.Views.{serial_key}
use Rattle.role_steps.specs.Tables.{row}
use Rattle.locus_ids.specs.declared.ids.FileId.{FileId}
use Rattle.role_steps.specs.declared.copies.Step.{Step}
use Rattle.role_steps.specs.declared.instances.Instance.{Instance}
use Rattle.storage_site.proofs.Forgotten.{done_so, forgot_so}
use Rattle.store_instances.specs.Stores.{Gives, StoreState, store_of, with_made}
use Rattle.store_instances.specs.Writes.{Writes}
use Rattle.store_instances.proofs.Stays.{nothing_written, same_at}
use Rattle.storage_site.proofs.Placing.{placed_so, stand_same, gives_placed, quiet_store}
use Rattle.keyed_tables.proofs.Placed.{absent_latest}
use Rattle.store_instances.specs.of_site_packs.Packs.{groups_of}
use Rattle.storage_site.specs.Fitting.{CanCloseAt, CanCloseOf}
use Rattle.store_instances.proofs.Fits.{memory_fit, unfit_at}
use Rattle.storage_site.proofs.store.Store.on_close.Goals as goal

pub invariant_of-self : goal.invariant_of-self
invariant_of-self g c = (
  (placed_so c.serial_key.result c.self.inside.rows.items c.self.inside.index c.in-Some.place c.index_mut-row.result.now c.on_close.new.self c.self.invariant.0 c.in-Some.ensures.place c.index_mut-row.ensures.value c.on_close.ensures.key).keys_after,
  stand_same c.self.inside.rows.items c.self.inside.standing.items c.in-Some.place c.index_mut-row.result.now c.on_close.new.self c.self.invariant.1 c.index_mut-row.ensures.value (c.on_close.ensures.stays),
)

pub invariant_of-self-in-Some : goal.invariant_of-self-in-Some
invariant_of-self-in-Some g c = (
  (placed_so c.serial_key.result c.self.inside.rows.items c.self.inside.index c.in-Some.place c.index_mut-row.result.now c.on_close.new.self c.self.invariant.0 c.in-Some.ensures.place c.index_mut-row.ensures.value c.on_close.ensures.key).keys_after,
  stand_same c.self.inside.rows.items c.self.inside.standing.items c.in-Some.place c.index_mut-row.result.now c.on_close.new.self c.self.invariant.1 c.index_mut-row.ensures.value (c.on_close.ensures.stays),
)

pub returns-in-None-clause-gives : goal.returns-in-None-clause-gives
returns-in-None-clause-gives g c =
    let xs : List Instance = c.self.inside.rows.items in
    let r : StoreState = record { instances = xs; steps = c.self.inside.steps } in
    let absent : row instance_key (serial_key c.args.inst) xs ≡ None = ap (λ (k : ℕ). row instance_key k xs) (sym c.serial_key.ensures) ∙ absent_latest instance_key c.serial_key.result xs c.self.inside.index c.self.invariant.0 c.in-None.ensures.place in
    rw (← c.self.view_is)
    (subst (λ (o : Option Instance). Gives (on_close_of c.args.frame.now o (store_of r c.args.packs.now (g.D.Disk.moment c.args.disk.now).seen)) (store_of r c.args.packs.now (g.D.Disk.moment c.args.disk.now).seen) c.args.out.now c.args.out.now)
    (sym absent) (quiet_store (store_of r c.args.packs.now (g.D.Disk.moment c.args.disk.now).seen) c.args.out.now))

pub returns-in_ok-remember-in-Some-clause-gives : goal.returns-in_ok-remember-in-Some-clause-gives
returns-in_ok-remember-in-Some-clause-gives g c =
    let xs : List Instance = c.self.inside.rows.items in
    let r : StoreState = record { instances = xs; steps = c.self.inside.steps } in
    let i : Instance = c.index_mut-row.result.now in
    let there = placed_so c.serial_key.result xs c.self.inside.index c.in-Some.place i c.on_close.new.self c.self.invariant.0 c.in-Some.ensures.place c.index_mut-row.ensures.value c.on_close.ensures.key in
    let asked : row instance_key (serial_key c.args.inst) xs ≡ Some i = ap (λ (k : ℕ). row instance_key k xs) (sym c.serial_key.ensures) ∙ there.asked in
    rw (← c.self.view_is)
    (subst (λ (o : Option Instance). Gives (on_close_of c.args.frame.now o (store_of r c.args.packs.now (g.D.Disk.moment c.args.disk.now).seen)) (store_of c.remember.new.self c.on_close.new.packs (g.D.Disk.moment c.on_close.new.disk).seen) c.args.out.now c.on_close.new.out)
    (sym asked)
    (gives_placed (on_close_at c.args.frame.now i i.stage (store_of r c.args.packs.now (g.D.Disk.moment c.args.disk.now).seen)) r c.remember.new.self (set xs c.in-Some.place c.on_close.new.self) c.in_ok-made-in-Some.made c.on_close.new.self c.on_close.new.packs (g.D.Disk.moment c.on_close.new.disk).seen c.args.out.now c.on_close.new.out there.after
    (c.in_ok-made-in-Some.ensures.gives r there.is_row)
    (c.in_ok-remember-in-Some.ensures ∙ ap (λ (file : FileId). record { instances = set xs c.in-Some.place c.on_close.new.self; steps = with_made file c.in_ok-made-in-Some.made c.self.inside.steps }) c.file-file.ensures)))

pub returns-in-None-clause-disk : goal.returns-in-None-clause-disk
returns-in-None-clause-disk g c =
    let xs : List Instance = c.self.inside.rows.items in
    let r : StoreState = record { instances = xs; steps = c.self.inside.steps } in
    let s : Store = store_of r c.args.packs.now (g.D.Disk.moment c.args.disk.now).seen in
    let absent : row instance_key (serial_key c.args.inst) xs ≡ None = ap (λ (k : ℕ). row instance_key k xs) (sym c.serial_key.ensures) ∙ absent_latest instance_key c.serial_key.result xs c.self.inside.index c.self.invariant.0 c.in-None.ensures.place in
    rw (← c.self.view_is)
    (subst (λ (o : Option Instance). Writes (on_close_of c.args.frame.now o s).written c.args.packs.now (g.D.Disk.moment c.args.disk.now) (g.D.Disk.moment c.args.disk.now) c.args.out.now c.args.out.now (Ok tt))
    (sym absent) (nothing_written c.args.packs.now (g.D.Disk.moment c.args.disk.now) c.args.out.now c.args.out.now tt c.requires.settled (g.met.D.Disk.only_now c.args.disk.now)))

pub returns-in_ok-remember-in-Some-clause-disk : goal.returns-in_ok-remember-in-Some-clause-disk
returns-in_ok-remember-in-Some-clause-disk g c =
    let xs : List Instance = c.self.inside.rows.items in
    let r : StoreState = record { instances = xs; steps = c.self.inside.steps } in
    let s : Store = store_of r c.args.packs.now (g.D.Disk.moment c.args.disk.now).seen in
    let i : Instance = c.index_mut-row.result.now in
    let there = placed_so c.serial_key.result xs c.self.inside.index c.in-Some.place i c.on_close.new.self c.self.invariant.0 c.in-Some.ensures.place c.index_mut-row.ensures.value c.on_close.ensures.key in
    let asked : row instance_key (serial_key c.args.inst) xs ≡ Some i = ap (λ (k : ℕ). row instance_key k xs) (sym c.serial_key.ensures) ∙ there.asked in
    rw (← c.self.view_is)
    (subst (λ (o : Option Instance). Writes (on_close_of c.args.frame.now o s).written c.args.packs.now (g.D.Disk.moment c.args.disk.now) (g.D.Disk.moment c.on_close.new.disk) c.args.out.now c.on_close.new.out (Ok tt))
    (sym asked) (done_so c.in_ok-made-in-Some.made (c.in_ok-made-in-Some.ensures.disk s)))

pub returns-in_err-made-in-Some-clause-disk : goal.returns-in_err-made-in-Some-clause-disk
returns-in_err-made-in-Some-clause-disk g c =
    let xs : List Instance = c.self.inside.rows.items in
    let r : StoreState = record { instances = xs; steps = c.self.inside.steps } in
    let s : Store = store_of r c.args.packs.now (g.D.Disk.moment c.args.disk.now).seen in
    let i : Instance = c.index_mut-row.result.now in
    let there = placed_so c.serial_key.result xs c.self.inside.index c.in-Some.place i c.on_close.new.self c.self.invariant.0 c.in-Some.ensures.place c.index_mut-row.ensures.value c.on_close.ensures.key in
    let asked : row instance_key (serial_key c.args.inst) xs ≡ Some i = ap (λ (k : ℕ). row instance_key k xs) (sym c.serial_key.ensures) ∙ there.asked in
    rw (← c.self.view_is)
    (subst (λ (o : Option Instance). Writes (on_close_of c.args.frame.now o s).written c.args.packs.now (g.D.Disk.moment c.args.disk.now) (g.D.Disk.moment c.on_close.new.disk) c.args.out.now c.on_close.new.out c.from_residual.result)
    (sym asked)
    (same_at {S = Option Step} (on_close_at c.args.frame.now i i.stage s).written c.args.packs.now (g.D.Disk.moment c.args.disk.now) (g.D.Disk.moment c.on_close.new.disk) c.args.out.now c.on_close.new.out c.from_residual.result c.in_err-made-in-Some.field-0.0 c.from_residual.ensures.1
    (c.in_err-made-in-Some.ensures.disk s)))

pub returns-in_err-remember-in-Some-clause-disk : goal.returns-in_err-remember-in-Some-clause-disk
returns-in_err-remember-in-Some-clause-disk g c =
    let xs : List Instance = c.self.inside.rows.items in
    let r : StoreState = record { instances = xs; steps = c.self.inside.steps } in
    let s : Store = store_of r c.args.packs.now (g.D.Disk.moment c.args.disk.now).seen in
    let i : Instance = c.index_mut-row.result.now in
    let there = placed_so c.serial_key.result xs c.self.inside.index c.in-Some.place i c.on_close.new.self c.self.invariant.0 c.in-Some.ensures.place c.index_mut-row.ensures.value c.on_close.ensures.key in
    let asked : row instance_key (serial_key c.args.inst) xs ≡ Some i = ap (λ (k : ℕ). row instance_key k xs) (sym c.serial_key.ensures) ∙ there.asked in
    rw (← c.self.view_is)
    (subst (λ (o : Option Instance). Writes (on_close_of c.args.frame.now o s).written c.args.packs.now (g.D.Disk.moment c.args.disk.now) (g.D.Disk.moment c.on_close.new.disk) c.args.out.now c.on_close.new.out c.from_residual-in_err-remember-in-Some.result)
    (sym asked)
    (forgot_so c.in_ok-made-in-Some.made c.from_residual-in_err-remember-in-Some.result c.from_residual-in_err-remember-in-Some.ensures.1 (c.in_ok-made-in-Some.ensures.disk s)))

pub returns-in_err-made-in-Some-clause-unfit : goal.returns-in_err-made-in-Some-clause-unfit
returns-in_err-made-in-Some-clause-unfit g c =
    let xs : List Instance = c.self.inside.rows.items in
    let r : StoreState = record { instances = xs; steps = c.self.inside.steps } in
    let groups : List ℕ = groups_of c.args.packs.now in
    let s : Store = store_of c.args.self.now c.args.packs.now (g.D.Disk.moment c.args.disk.now).seen in
    let i : Instance = c.index_mut-row.result.now in
    let there = placed_so c.serial_key.result xs c.self.inside.index c.in-Some.place i c.on_close.new.self c.self.invariant.0 c.in-Some.ensures.place c.index_mut-row.ensures.value c.on_close.ensures.key in
    let asked : row instance_key (serial_key c.args.inst) c.args.self.now.instances ≡ Some i =
    ap (λ (q : StoreState). row instance_key (serial_key c.args.inst) q.instances) (sym c.self.view_is) ∙ (ap (λ (k : ℕ). row instance_key k xs) (sym c.serial_key.ensures) ∙ there.asked) in
    unfit_at {S = Option Step} (CanCloseAt c.args.frame.now groups c.args.inst s) c.from_residual.result c.in_err-made-in-Some.field-0.0 c.from_residual.ensures.1
    (λ so can. c.in_err-made-in-Some.ensures.unfit so (subst (λ (o : Option Instance). CanCloseOf c.args.frame.now groups s.copies o) asked can))

pub returns-in_err-remember-in-Some-clause-unfit : goal.returns-in_err-remember-in-Some-clause-unfit
returns-in_err-remember-in-Some-clause-unfit g c so can = memory_fit c.from_residual-in_err-remember-in-Some.result c.from_residual-in_err-remember-in-Some.ensures.1 so
