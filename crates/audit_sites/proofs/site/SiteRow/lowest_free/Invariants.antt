use Rattle.std.proofs.Common.{◌≡◌, ◌-◌}
use Rattle.locus_ids.specs.Sizes.{descriptors_max}
use Rattle.call_rules.specs.Descriptors.{lowest_free, lowest_free_from}
use Rattle.audit_sites.specs.Rows.{named_at}
use Rattle.audit_sites.proofs.site.SiteRow.lowest_free.Given as goal

abbrev pub invariant-loop-fd : goal.invariant-loop-fd
invariant-loop-fd l = lowest_free (named_at l.self l.process) ≡ lowest_free_from (named_at l.self l.process) l.fd (descriptors_max - l.fd)
