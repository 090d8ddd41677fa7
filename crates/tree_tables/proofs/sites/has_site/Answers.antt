use Rattle.std.proofs.Common.{◌==◌, ◌≤◌, ◌-◌, ◌<◌, sym, ap, arith}
use Rattle.std.proofs.lemmas.Nat.Bits.{bit_at_above}
use Rattle.locus_ids.specs.Sizes.{sites_max, set_span}
use Rattle.tree_tables.proofs.sites.has_site.Goals as goal

pub returns-then-place : goal.returns-then-place
returns-then-place c =
    let past : sites_max ≤ c.args.site - 1 = omega arith in
    let fits : c.args.sites.0 < set_span = omega arith in
    sym (ap (λ n. n == 1) (bit_at_above c.args.sites.0 sites_max (c.args.site - 1) fits past))
