-- The lines of each input stand as those of a schedule may.
use Rattle.std.proofs.Common.{ℕ, List, [], ◌∷◌, Option, None, Some, sym, subst}
use Rattle.std.specs.List.{AllByRecursion}
use Rattle.schedule_lines.specs.Schedule.{AreInOrder}
use Rattle.schedule_lines.specs.declared.line.ScheduleLine.{ScheduleLine}
use Rattle.the_run.specs.Commands.{Asked}
use Rattle.the_run.specs.Asking.{Asks}
use Rattle.input_order_laws.specs.Inputs.{IsOnCluster}
use Rattle.input_order_laws.proofs.Order.{read_in_order}
use Rattle.input_order_laws.proofs.Trees.{tree_in_order}
use Rattle.input_run.specs.Inputs.{Input, before_calls, AskAll, StandsFor}
use Rattle.input_run.specs.Inputs.Input.{Schedule, Calls}

before_on_cluster : (bytes : List ℕ) (asked : Option Asked) (later : List Asked) → Asks bytes asked → AllByRecursion IsOnCluster later → AllByRecursion IsOnCluster (before_calls asked later)
before_on_cluster bytes None later asks all = all
before_on_cluster bytes (Some a) later asks all = (asks.1, all)

-- each call that lines ask is in range for the cluster
pub asked_on_cluster : (bytes : List (List ℕ)) (calls : List Asked) → AskAll bytes calls → AllByRecursion IsOnCluster calls
asked_on_cluster [] [] h = tt
asked_on_cluster [] (a ∷ calls) h = absurd h
asked_on_cluster (b ∷ bs) calls h = subst (AllByRecursion IsOnCluster) (sym h.4) (before_on_cluster b h.0 h.1 h.2 (asked_on_cluster bs h.1 h.3))

-- what lines of bytes stand for is in order
pub stands_in_order : (input : Input) (all : List (List ℕ)) (lines : List ScheduleLine) → StandsFor input all lines → AreInOrder lines
stands_in_order Schedule all lines h = read_in_order all lines h
stands_in_order Calls all lines h = subst AreInOrder (sym h.run) (tree_in_order h.calls (asked_on_cluster all h.calls h.asked))
