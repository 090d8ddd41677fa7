use Rattle.std.proofs.Common.{refl, ap, subst, sym, ◌≡◌, Err}
use Rattle.std.specs.Prelude.{OnOk}
use Rattle.locus_ids.specs.declared.ids.Serial.{Serial}
use Rattle.role_steps.specs.Operations.{on_op, on_read_held}
use Rattle.role_steps.specs.Storage.{on_close, instance_of}
use Rattle.role_steps.specs.Views.{Outcome, Store}
use Rattle.run_laws.proofs.Telling.{on_closed_ok_talks, on_look_ss_talks, on_open_ss_talks, on_pull_talks, on_want_talks}
use Rattle.storage_site.specs.of_store_instances.Stores.{Gives, store_of}
use Rattle.site_parts.specs.Roles.{mending_by}
use Rattle.site_parts.specs.Writing.{EventWrites}
use Rattle.site_parts.proofs.Cuts.{untouched, written_as}
use Rattle.site_parts.proofs.StoreParts.{given_as, held_unwritten, others_quiet, store_stays}
use Rattle.role_steps.specs.OperationEffects.{Mending}
use Rattle.run_laws.specs.of_the_run.Steps.{from_user, group_of}
use Rattle.storage_site.specs.Fitting.{CanCloseAt, CanOperateAt}
use Rattle.site_parts.specs.Fitting.{CanOperateHere, CanRest}
use Rattle.site_parts.specs.declared.fault.NodeFault.TheVariants.{Unfit}
use Rattle.site_parts.proofs.Fits.{unfit_at}
use Rattle.site_packs.specs.Packs.{groups_of}
use Rattle.site_parts.proofs.storing.take_at_store.Goals as goal

pub returns-in-OpenSs-clause-gives : goal.returns-in-OpenSs-clause-gives
returns-in-OpenSs-clause-gives g c = rw c.in-OpenSs.is c.take_open.ensures.gives

pub returns-in-OpenSs-clause-disk : goal.returns-in-OpenSs-clause-disk
returns-in-OpenSs-clause-disk g c = rw c.in-OpenSs.is (written_as _ _ _ _ _ _ _ _ (on_open_ss_talks c.args.frame.now (record { inst = c.in-OpenSs.inst; file = c.in-OpenSs.file; mode = c.in-OpenSs.mode; set = c.in-OpenSs.set; kind = c.in-OpenSs.kind; base = c.in-OpenSs.base; vector = c.in-OpenSs.vector; parents = c.in-OpenSs.parents }) (store_of c.args.store.now c.args.packs.now (g.D.Disk.moment c.args.disk.now).seen)).1 c.take_open.ensures.disk)

pub returns-in-LookSs-clause-gives : goal.returns-in-LookSs-clause-gives
returns-in-LookSs-clause-gives g c = rw c.in-LookSs.is c.take_look.ensures.gives

pub returns-in-LookSs-clause-disk : goal.returns-in-LookSs-clause-disk
returns-in-LookSs-clause-disk g c = rw c.in-LookSs.is (written_as _ _ _ _ _ _ _ _ (on_look_ss_talks c.args.frame.now c.in-LookSs.us (record { call = c.in-LookSs.call; process = c.in-LookSs.process; request = c.in-LookSs.request; take = c.in-LookSs.take; file = c.in-LookSs.file; what = c.in-LookSs.what }) c.in-LookSs.serve (store_of c.args.store.now c.args.packs.now (g.D.Disk.moment c.args.disk.now).seen)).1 c.take_look.ensures.disk)

pub returns-in-Pull-clause-gives : goal.returns-in-Pull-clause-gives
returns-in-Pull-clause-gives g c = rw c.in-Pull.is c.take_pull.ensures.gives

pub returns-in-Pull-clause-disk : goal.returns-in-Pull-clause-disk
returns-in-Pull-clause-disk g c = rw c.in-Pull.is (written_as _ _ _ _ _ _ _ _ (on_pull_talks c.args.frame.now c.args.from c.in-Pull.file c.in-Pull.stamp c.in-Pull.page (store_of c.args.store.now c.args.packs.now (g.D.Disk.moment c.args.disk.now).seen)).1 c.take_pull.ensures.disk)

pub returns-in-ClosedOk-clause-gives : goal.returns-in-ClosedOk-clause-gives
returns-in-ClosedOk-clause-gives g c = rw c.in-ClosedOk.is c.take_closed_ok.ensures.gives

pub returns-in-ClosedOk-clause-disk : goal.returns-in-ClosedOk-clause-disk
returns-in-ClosedOk-clause-disk g c = rw c.in-ClosedOk.is (written_as _ _ _ _ _ _ _ _ (on_closed_ok_talks c.args.frame.now c.in-ClosedOk.inst (store_of c.args.store.now c.args.packs.now (g.D.Disk.moment c.args.disk.now).seen)).1 c.take_closed_ok.ensures.disk)

pub returns-in-Want-clause-gives : goal.returns-in-Want-clause-gives
returns-in-Want-clause-gives g c = rw c.in-Want.is c.take_want.ensures.gives

pub returns-in-Want-clause-disk : goal.returns-in-Want-clause-disk
returns-in-Want-clause-disk g c = rw c.in-Want.is (written_as _ _ _ _ _ _ _ _ (on_want_talks c.args.frame.now c.args.from c.in-Want.file c.in-Want.wanted c.in-Want.own (store_of c.args.store.now c.args.packs.now (g.D.Disk.moment c.args.disk.now).seen)).1 c.take_want.ensures.disk)

pub returns-in-Want-clause-unfit : goal.returns-in-Want-clause-unfit
returns-in-Want-clause-unfit g c so can = c.take_want.ensures.fit so

pub returns-in-ReadHeld-clause-gives : goal.returns-in-ReadHeld-clause-gives
returns-in-ReadHeld-clause-gives g c =
    rw c.in-ReadHeld.is (subst (λ (i : Serial). OnOk c.take_read_held.result (Gives (on_read_held c.args.frame.now i c.in-ReadHeld.number c.in-ReadHeld.at c.in-ReadHeld.len (store_of c.args.store.now c.args.packs.now (g.D.Disk.moment c.args.disk.now).seen)) (store_of c.take_read_held.new.store c.args.packs.now (g.D.Disk.moment c.take_read_held.new._disk).seen) c.args.out.now c.take_read_held.new.out)) c.named.ensures c.take_read_held.ensures.gives)

pub returns-in-ReadHeld-clause-disk : goal.returns-in-ReadHeld-clause-disk
returns-in-ReadHeld-clause-disk g c =
    rw c.in-ReadHeld.is (written_as _ _ _ _ _ _ _ _ (held_unwritten c.args.frame.now (from_user c.args.from c.in-ReadHeld.serial) c.in-ReadHeld.number c.in-ReadHeld.at c.in-ReadHeld.len (store_of c.args.store.now c.args.packs.now (g.D.Disk.moment c.args.disk.now).seen)) c.take_read_held.ensures.disk)

pub returns-in-ReadHeld-clause-unfit : goal.returns-in-ReadHeld-clause-unfit
returns-in-ReadHeld-clause-unfit g c so can = c.take_read_held.ensures.fit so

pub returns-in-Close-clause-gives : goal.returns-in-Close-clause-gives
returns-in-Close-clause-gives g c = rw c.in-Close.is (subst (λ (i : Serial). OnOk c.take_close.result (Gives (on_close c.args.frame.now i (store_of c.args.store.now c.args.packs.now (g.D.Disk.moment c.args.disk.now).seen)) (store_of c.take_close.new.store c.take_close.new.packs (g.D.Disk.moment c.take_close.new.disk).seen) c.args.out.now c.take_close.new.out)) c.named-in-Close.ensures c.take_close.ensures.gives)

pub returns-in-Close-clause-disk : goal.returns-in-Close-clause-disk
returns-in-Close-clause-disk g c = rw c.in-Close.is (subst (λ (i : Serial). EventWrites {T = Unit {0}} (on_close c.args.frame.now i (store_of c.args.store.now c.args.packs.now (g.D.Disk.moment c.args.disk.now).seen)).written c.args.packs.now (g.D.Disk.moment c.args.disk.now) (g.D.Disk.moment c.take_close.new.disk) c.args.out.now c.take_close.new.out c.take_close.result) c.named-in-Close.ensures c.take_close.ensures.disk)

pub returns-in_default-clause-gives : goal.returns-in_default-clause-gives
returns-in_default-clause-gives g c =
    let s : Store = store_of c.args.store.now c.args.packs.now (g.D.Disk.moment c.args.disk.now).seen in
    store_stays _ s c.args.out.now (others_quiet c.args.frame.now (mending_by c.args.tables.now c.args.users.now s) c.args.from c.args.body s c.in_default.not-OpenSs c.in_default.not-Op c.in_default.not-Close c.in_default.not-ClosedOk c.in_default.not-LookSs c.in_default.not-Pull c.in_default.not-ReadHeld c.in_default.not-Want)

pub returns-in_default-clause-disk : goal.returns-in_default-clause-disk
returns-in_default-clause-disk g c =
    let s : Store = store_of c.args.store.now c.args.packs.now (g.D.Disk.moment c.args.disk.now).seen in
    untouched _ c.args.packs.now (g.D.Disk.moment c.args.disk.now) c.args.out.now c.args.out.now tt (ap (λ (o : Outcome Store). o.written) (others_quiet c.args.frame.now (mending_by c.args.tables.now c.args.users.now s) c.args.from c.args.body s c.in_default.not-OpenSs c.in_default.not-Op c.in_default.not-Close c.in_default.not-ClosedOk c.in_default.not-LookSs c.in_default.not-Pull c.in_default.not-ReadHeld c.in_default.not-Want)) c.requires.settled (g.met.D.Disk.only_now c.args.disk.now)

pub returns-in_ok-work-in-Op-clause-gives : goal.returns-in_ok-work-in-Op-clause-gives
returns-in_ok-work-in-Op-clause-gives g c =
    let s : Store = store_of c.args.store.now c.args.packs.now (g.D.Disk.moment c.args.disk.now).seen in
    rw c.in-Op.is (subst (λ (i : Serial). OnOk c.take_op.result (Gives (on_op c.args.frame.now (mending_by c.args.tables.now c.args.users.now s i) i c.in-Op.number c.in-Op.op c.in-Op.seen s) (store_of c.take_op.new.store c.take_op.new.packs (g.D.Disk.moment c.take_op.new.disk).seen) c.args.out.now c.take_op.new.out)) c.named-inst.ensures
    (given_as c.take_op.result _ _ _ _ _ (c.in_ok-work-in-Op.ensures.work c.args.frame.now c.in-Op.number c.in-Op.seen s refl) c.take_op.ensures.gives))

pub returns-in_ok-work-in-Op-clause-disk : goal.returns-in_ok-work-in-Op-clause-disk
returns-in_ok-work-in-Op-clause-disk g c =
    let s : Store = store_of c.args.store.now c.args.packs.now (g.D.Disk.moment c.args.disk.now).seen in
    rw c.in-Op.is (subst (λ (i : Serial). EventWrites {T = Unit {0}} (on_op c.args.frame.now (mending_by c.args.tables.now c.args.users.now s i) i c.in-Op.number c.in-Op.op c.in-Op.seen s).written c.args.packs.now (g.D.Disk.moment c.args.disk.now) (g.D.Disk.moment c.take_op.new.disk) c.args.out.now c.take_op.new.out c.take_op.result) c.named-inst.ensures
    (written_as _ _ _ _ _ _ _ _ (ap (λ (o : Outcome Store). o.written) (sym (c.in_ok-work-in-Op.ensures.work c.args.frame.now c.in-Op.number c.in-Op.seen s refl))) c.take_op.ensures.disk))

pub returns-in-OpenSs-clause-unfit : goal.returns-in-OpenSs-clause-unfit
returns-in-OpenSs-clause-unfit g c = rw c.in-OpenSs.is c.take_open.ensures.unfit

pub returns-in-LookSs-clause-unfit : goal.returns-in-LookSs-clause-unfit
returns-in-LookSs-clause-unfit g c so can = c.take_look.ensures.fit so

pub returns-in-Pull-clause-unfit : goal.returns-in-Pull-clause-unfit
returns-in-Pull-clause-unfit g c so can = c.take_pull.ensures.fit so

pub returns-in-ClosedOk-clause-unfit : goal.returns-in-ClosedOk-clause-unfit
returns-in-ClosedOk-clause-unfit g c so can = c.take_closed_ok.ensures.fit so

pub returns-in-Close-clause-unfit : goal.returns-in-Close-clause-unfit
returns-in-Close-clause-unfit g c = rw c.in-Close.is (subst (λ (i : Serial). c.take_close.result ≡ Err Unfit → CanCloseAt c.args.frame.now (groups_of c.args.packs.now) i (store_of c.args.store.now c.args.packs.now (g.D.Disk.moment c.args.disk.now).seen) → ⊥) c.named-in-Close.ensures c.take_close.ensures.unfit)

pub returns-in_err-work-in-Op-clause-unfit : goal.returns-in_err-work-in-Op-clause-unfit
returns-in_err-work-in-Op-clause-unfit g c =
    let s : Store = store_of c.args.store.now c.args.packs.now (g.D.Disk.moment c.args.disk.now).seen in
    rw c.in-Op.is (unfit_at {S = Mending} (CanOperateHere c.args.frame.now (mending_by c.args.tables.now c.args.users.now s (from_user c.args.from c.in-Op.serial)) c.args.tables.now (groups_of c.args.packs.now) (from_user c.args.from c.in-Op.serial) c.in-Op.number c.in-Op.op s) c.from_residual.result c.in_err-work-in-Op.field-0.0 c.from_residual.ensures.1
    (λ so can. c.in_err-work-in-Op.ensures.unfit so (subst (λ (i : Serial). CanRest c.args.tables.now (group_of (instance_of s i)) c.in-Op.op) (sym c.named-inst.ensures) can.rests)))

pub returns-in_ok-work-in-Op-clause-unfit : goal.returns-in_ok-work-in-Op-clause-unfit
returns-in_ok-work-in-Op-clause-unfit g c =
    let s : Store = store_of c.args.store.now c.args.packs.now (g.D.Disk.moment c.args.disk.now).seen in
    rw c.in-Op.is (λ so can. c.take_op.ensures.unfit so
    (c.in_ok-work-in-Op.ensures.can c.args.frame.now (groups_of c.args.packs.now) c.in-Op.number s refl
    (subst (λ (i : Serial). CanOperateAt c.args.frame.now (mending_by c.args.tables.now c.args.users.now s i) (groups_of c.args.packs.now) i c.in-Op.number c.in-Op.op s) (sym c.named-inst.ensures) can.operates)))
