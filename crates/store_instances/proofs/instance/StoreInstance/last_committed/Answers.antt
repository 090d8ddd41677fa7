use Rattle.std.proofs.Common.{refl, subst}
use Rattle.std.specs.Prelude.{Option, None}
use Rattle.locus_ids.specs.declared.ids.Stamp.{Stamp}
use Rattle.trace_book.specs.declared.operation.Op.TheVariants as op
use Rattle.trace_book.specs.declared.operation.Outcome.TheVariants as result
use Rattle.file_effects.specs.Works.{counted}
use Rattle.role_steps.specs.Operations.{last_committed}
use Rattle.store_instances.specs.Stores.{RowGives, store_of}
use Rattle.store_instances.proofs.Given.{quiet_so, acts_so}
use Rattle.store_instances.proofs.instance.StoreInstance.last_committed.Goals as goal

pub returns-in-None-clause-gives : goal.returns-in-None-clause-gives
returns-in-None-clause-gives c xs p image h =
    subst (λ (l : Option Stamp). RowGives (last_committed c.args.frame.now c.args.self.now l (store_of xs p image)) xs None c.args.self.now p image c.args.out.now c.args.out.now)
    c.in-None.ensures (quiet_so xs p image c.args.self.now c.args.self.now c.args.out.now c.args.out.now h refl refl)

pub returns-in_ok-act_counted-in-Some-clause-gives : goal.returns-in_ok-act_counted-in-Some-clause-gives
returns-in_ok-act_counted-in-Some-clause-gives c xs p image h =
    subst (λ (l : Option Stamp). RowGives (last_committed c.args.frame.now c.args.self.now l (store_of xs p image)) xs None c.act_counted.new.self p image c.args.out.now c.act_counted.new.out)
    c.in-Some.ensures
    (acts_so xs p image c.args.frame.now c.args.self.now op.Commit (result.Committed c.in-Some.stamp) (counted c.args.self.now.work) c.act_counted.new.self c.args.out.now c.act_counted.new.out
    c.in_ok-act_counted-in-Some.ensures.row c.in_ok-act_counted-in-Some.ensures.packets c.in_ok-act_counted-in-Some.ensures.records)
