-- What the tree tells nothing of, however much memory is left. No lawful trace has it.
use Rattle.std.specs.Prelude.{◌≤◌, ◌⊎◌, List, length}
use Rattle.commit_graph.specs.declared.history.Version.{Version}
use Rattle.trace_book.specs.declared.record.Record.{Record}
use Rattle.trace_book.specs.declared.record.Record.TheVariants.{Act}
use Rattle.tree_model.specs.State.{TreeState, instance_in}
use Rattle.tree_acts.specs.Unfit.{IsUnfitAct}
use Rattle.tree_acts.specs.declared.fault.ActFault.{ActFault}
use Rattle.tree_acts.specs.declared.fault.ActFault.TheVariants as act
use Rattle.one_tree.specs.declared.applied.TreeFault.{TreeFault}
use Rattle.one_tree.specs.declared.applied.TreeFault.TheVariants as fault

-- the history has as many versions as a counter can number, or more
abbrev pub IsFull : List Version → Type 0
IsFull h = 4294967295 ≤ length h

-- the record is an act that the tree doesn't carry out on the open instance that it names
abbrev pub IsUnfitRecord : List Version → TreeState → Record → Type 0
IsUnfitRecord h t (Act e i n o result) = IsUnfitAct h t o (instance_in t i)
IsUnfitRecord h t _ = ⊥

abbrev pub IsUnfit : List Version → TreeState → Record → Type 0
IsUnfit h t r = IsFull h ⊎ IsUnfitRecord h t r

abbrev pub fault_of_act : ActFault → TreeFault
fault_of_act act.Unfit = fault.Unfit
fault_of_act act.NoMemory = fault.NoMemory
