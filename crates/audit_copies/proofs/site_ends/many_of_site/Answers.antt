use Rattle.std.proofs.Common.{rules, of_calls, Bool, ◌==◌}
use Rattle.std.proofs.lemmas.Fn.{always_returns_same}
use Rattle.past_laws.specs.of_promises.Past.{Copy}
use Rattle.audit_copies.proofs.Tops.{split_of}
use Rattle.audit_copies.proofs.site_ends.many_of_site.Goals as goal

pub returns-clause-split : goal.returns-clause-split
returns-clause-split c =
    let p : Copy → Bool = λ v. c.args.site == v.stamp.site in
    let key = always_returns_same _ _ _ (λ a r f k. search (rules, of_calls)) in
    λ parted. split_of p c.args.rows.now c.partition_point.result c.partition_point.ensures.bound (c.partition_point.ensures.partitioned p key parted)
