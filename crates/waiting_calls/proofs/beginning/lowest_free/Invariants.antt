use Rattle.std.proofs.Common.{◌≡◌, ◌-◌}
use Rattle.locus_ids.specs.Sizes.{descriptors_max}
use Rattle.call_rules.specs.Descriptors.{lowest_free, lowest_free_from}
use Rattle.waiting_calls.specs.Numbered.{numbered}
use Rattle.waiting_calls.proofs.beginning.lowest_free.Given as goal

abbrev pub invariant-loop-fd : goal.invariant-loop-fd
invariant-loop-fd l = lowest_free (numbered l.rows l.process) ≡ lowest_free_from (numbered l.rows l.process) l.fd (descriptors_max - l.fd)
