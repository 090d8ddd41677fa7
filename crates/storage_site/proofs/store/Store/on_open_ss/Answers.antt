use Rattle.std.proofs.Common.{◌≡◌, ℕ, List, Some, None, refl, sym, ap, ◌∙◌}
use Rattle.std.specs.Option.{option_copied}
use Rattle.role_steps.specs.Tables.{row}
use Rattle.role_steps.specs.Views.{serial_key}
use Rattle.role_steps.specs.Storage.{StoreRequest, instance_key}
use Rattle.role_steps.specs.declared.instances.Instance.{Instance}
use Rattle.store_instances.specs.Stores.{StoreState}
use Rattle.storage_site.proofs.Opens.{again_opened, new_opened}
use Rattle.storage_site.specs.Fitting.{CanOpen}
use Rattle.store_instances.proofs.Fits.{memory_fit, unfit_at}
use Rattle.storage_site.proofs.store.Store.on_open_ss.Goals as goal

pub returns-in_ok-open_again-in-Some-clause-gives : goal.returns-in_ok-open_again-in-Some-clause-gives
returns-in_ok-open_again-in-Some-clause-gives g c =
    let r : StoreState = c.args.self.now in
    let image : List ℕ = (g.D.Disk.moment c.args.disk.now).seen in
    let there : row instance_key (serial_key c.args.asked.inst) r.instances ≡ Some c.in-Some.row.now = ap (λ (q : StoreRequest). row instance_key (serial_key q.inst) r.instances) (sym c.asked.view_is) ∙ (sym c.find.ensures ∙ ap (λ o. option_copied o) c.in-Some.is) in
    again_opened c.args.frame.now c.args.asked r r c.args.packs.now image image c.args.out.now c.open_again.new.out c.in-Some.row.now there refl refl c.in_ok-open_again-in-Some.ensures.packets c.in_ok-open_again-in-Some.ensures.records

pub open_new-requires-clause-absent : goal.open_new-requires-clause-absent
open_new-requires-clause-absent g c =
    ap (λ (q : StoreRequest). row instance_key (serial_key q.inst) c.args.self.now.instances) (sym c.asked.view_is) ∙ (sym c.find.ensures ∙ ap (λ o. option_copied o) c.in-None.is)

pub returns-in_ok-open_new-in-None-clause-gives : goal.returns-in_ok-open_new-in-None-clause-gives
returns-in_ok-open_new-in-None-clause-gives g c =
    let r : StoreState = c.args.self.now in
    let absent : row instance_key (serial_key c.args.asked.inst) r.instances ≡ None = ap (λ (q : StoreRequest). row instance_key (serial_key q.inst) r.instances) (sym c.asked.view_is) ∙ (sym c.find.ensures ∙ ap (λ o. option_copied o) c.in-None.is) in
    new_opened c.args.frame.now c.args.asked r c.open_new.new.self c.args.packs.now (g.D.Disk.moment c.args.disk.now).seen (g.D.Disk.moment c.open_new.new.disk).seen c.args.out.now c.open_new.new.out absent c.in_ok-open_new-in-None.ensures.gives

pub returns-in_err-open_again-in-Some-clause-unfit : goal.returns-in_err-open_again-in-Some-clause-unfit
returns-in_err-open_again-in-Some-clause-unfit g c so can = memory_fit c.from_residual.result c.from_residual.ensures.1 so

pub returns-in_err-open_new-in-None-clause-unfit : goal.returns-in_err-open_new-in-None-clause-unfit
returns-in_err-open_new-in-None-clause-unfit g c =
    unfit_at {S = Unit {0}} (CanOpen c.args.frame.now c.args.packs.now.site c.args.asked) c.from_residual-in_err-open_new-in-None.result c.in_err-open_new-in-None.field-0.0 c.from_residual-in_err-open_new-in-None.ensures.1 c.in_err-open_new-in-None.ensures.unfit
