use Rattle.std.proofs.Common.{rules, of_calls, Bool}
use Rattle.std.proofs.lemmas.Fn.{always_returns_same}
use Rattle.past_laws.specs.of_promises.Past.{Copy}
use Rattle.past_laws.specs.of_promises.After.{is_copy_below}
use Rattle.audit_copies.proofs.Splitting.{splits}
use Rattle.audit_copies.proofs.file_rows.place_of.Goals as goal

pub returns-clause-split : goal.returns-clause-split
returns-clause-split c =
    let p : Copy → Bool = λ v. is_copy_below v c.args.copy in
    let key = always_returns_same _ _ _ (λ a r f k. search (rules, of_calls)) in
    λ up. splits c.args.copy c.args.rows.now c.partition_point.result c.partition_point.ensures.bound (c.partition_point.ensures.partitioned p key) up
