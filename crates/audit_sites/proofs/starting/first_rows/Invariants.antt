use Rattle.std.proofs.Common.{◌≡◌, ◌+◌, ◌-◌, ◌++◌}
use Rattle.std.specs.Prelude.{map}
use Rattle.commit_graph.specs.Vectors.{numbers_from}
use Rattle.promises.specs.Past.{first_site}
use Rattle.audit_sites.proofs.starting.first_rows.Given as goal

abbrev pub invariant-loop-place : goal.invariant-loop-place
invariant-loop-place l =
    l.made.items ++ map (first_site l.config) (numbers_from (l.place + 1) ((l.config.sites + 1) - (l.place + 1)))
    ≡ map (first_site l.config) (numbers_from 1 l.config.sites)
