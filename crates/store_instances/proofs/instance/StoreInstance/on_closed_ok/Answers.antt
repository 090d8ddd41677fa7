use Rattle.std.proofs.Common.{refl, subst, sym, ap, ◌∙◌, None}
use Rattle.role_steps.specs.Storage.{ends_at}
use Rattle.role_steps.specs.declared.instances.Instance.{Instance}
use Rattle.role_steps.specs.declared.instances.Stage.{Stage}
use Rattle.store_instances.specs.Stores.{RowGives, store_of}
use Rattle.store_instances.proofs.Given.{quiet_so}
use Rattle.store_instances.proofs.instance.StoreInstance.on_closed_ok.Goals as goal

pub returns-in-Running-clause-gives : goal.returns-in-Running-clause-gives
returns-in-Running-clause-gives c xs p image h =
    subst (λ (st : Stage). RowGives (ends_at c.args.frame.now c.args.self.now st (store_of xs p image)) xs None c.args.self.now p image c.args.out.now c.args.out.now)
    (sym c.in-Running.is ∙ ap (λ (j : Instance). j.stage) c.self.view_is) (quiet_so xs p image c.args.self.now c.args.self.now c.args.out.now c.args.out.now h refl refl)

pub returns-in-Closed-clause-gives : goal.returns-in-Closed-clause-gives
returns-in-Closed-clause-gives c xs p image h =
    subst (λ (st : Stage). RowGives (ends_at c.args.frame.now c.args.self.now st (store_of xs p image)) xs None c.args.self.now p image c.args.out.now c.args.out.now)
    (sym c.in-Closed.is ∙ ap (λ (j : Instance). j.stage) c.self.view_is) (quiet_so xs p image c.args.self.now c.args.self.now c.args.out.now c.args.out.now h refl refl)
