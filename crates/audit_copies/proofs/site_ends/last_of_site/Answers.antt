use Rattle.std.proofs.Common.{List, ◌+◌, ◌-◌, ap, arith, length, take, drop}
use Rattle.locus_ids.specs.declared.ids.Stamp.{Stamp}
use Rattle.past_laws.specs.of_promises.Past.{Copy}
use Rattle.audit_copies.proofs.Parting.{take_rest}
use Rattle.audit_copies.proofs.Tops.{last_numbers, last_top, many_by}
use Rattle.audit_copies.proofs.site_ends.last_of_site.Goals as goal

pub returns-clause-top : goal.returns-clause-top
returns-clause-top c =
    let vs : List Copy = c.args.rows.now in
    let k = c.args.at + 1 in
    λ d. last_top vs c.args.at c.many_of_site.result d
    (many_by vs (take (length vs - k) (drop k vs)) c.args.at k c.many_of_site.result c.stamp_at.result.site c.requires.inside c.requires.order (omega arith) (take_rest vs k)
    c.many_of_site.ensures.within (λ e. ap (λ (s : Stamp). s.site) (c.stamp_at.ensures e)) c.many_of_site.ensures.split)

pub returns-clause-numbers : goal.returns-clause-numbers
returns-clause-numbers c =
    let vs : List Copy = c.args.rows.now in
    let k = c.args.at + 1 in
    λ d. last_numbers vs c.args.at c.many_of_site.result d
    (many_by vs (take (length vs - k) (drop k vs)) c.args.at k c.many_of_site.result c.stamp_at.result.site c.requires.inside c.requires.order (omega arith) (take_rest vs k)
    c.many_of_site.ensures.within (λ e. ap (λ (s : Stamp). s.site) (c.stamp_at.ensures e)) c.many_of_site.ensures.split)
