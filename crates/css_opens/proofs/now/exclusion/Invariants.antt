use Rattle.std.proofs.Common.{◌≡◌, drop, map, filter}
use Rattle.std.specs.Option.{option_map}
use Rattle.commit_graph.specs.Grants.{excluder}
use Rattle.css_opens.specs.OpenIndex.{opener_now, is_now_on, busy}
use Rattle.css_opens.proofs.now.exclusion.Given as goal

abbrev pub invariant-loop-one : goal.invariant-loop-one
invariant-loop-one l = option_map busy (excluder l.mode (map opener_now (filter (is_now_on l.file) (drop l.one-index l.instances)))) ≡ option_map busy (excluder l.mode (map opener_now (filter (is_now_on l.file) l.instances)))
