-- The lines that open the fixed cluster, and those of calls there.
use Rattle.std.proofs.Common.{◌≡◌, ℕ, List, [], ◌∷◌, ◌++◌, refl}
use Rattle.std.specs.List.{AllByRecursion, flat_map}
use Rattle.schedule_lines.specs.Cluster.{config_of}
use Rattle.schedule_lines.specs.Schedule.{AreInOrder}
use Rattle.schedule_lines.specs.declared.line.ScheduleLine.{ScheduleLine}
use Rattle.the_run.specs.Commands.{Asked, asked_lines, opening_lines, tree_lines}
use Rattle.the_run.specs.Asking.{tree_cluster}
use Rattle.input_order_laws.specs.Inputs.{IsSettled, IsOnCluster}
use Rattle.input_order_laws.proofs.Order.{AreEventsOf, events_follow, follow_both}

pub opening_in_order : (budget : ℕ) → IsSettled budget → AreInOrder (opening_lines budget)
opening_in_order budget settled = (refl, (refl, (refl, (refl, (refl, (settled, tt))))))

opening_cluster : (budget : ℕ) → config_of (opening_lines budget) ≡ tree_cluster
opening_cluster budget = refl

-- events of the cluster may follow its opening
pub opened_in_order : (budget : ℕ) (events : List ScheduleLine) → IsSettled budget → AreEventsOf tree_cluster.sites events → AreInOrder (opening_lines budget ++ events)
opened_in_order budget events settled all =
    follow_both [] (opening_lines budget) events (opening_in_order budget settled) (events_follow tree_cluster refl (opening_lines budget) events (opening_cluster budget) all)

asked_events : (budget : ℕ) → IsSettled budget → (calls : List Asked) → AllByRecursion IsOnCluster calls → AreEventsOf tree_cluster.sites (flat_map (asked_lines budget) calls)
asked_events budget settled [] all = tt
asked_events budget settled (a ∷ calls) all = (all.0, (settled, asked_events budget settled calls all.1))

pub tree_in_order : (calls : List Asked) → AllByRecursion IsOnCluster calls → AreInOrder (tree_lines calls)
tree_in_order calls all = opened_in_order 100000 (flat_map (asked_lines 100000) calls) refl (asked_events 100000 refl calls all)
