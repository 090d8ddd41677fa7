-- How a tree stands to a record, and the tree after it.
use Rattle.std.specs.Prelude.{Bool, not, ◌&&◌, cond, List}
use Rattle.commit_graph.specs.declared.history.Version.{Version}
use Rattle.trace_book.specs.declared.record.Record.{Record}
use Rattle.tree_model.specs.State.{TreeState}
use Rattle.tree_model.specs.Given.{concerns, gives}
use Rattle.tree_model.specs.Tree.{next}
use Rattle.one_tree.specs.declared.applied.Applied.{Applied}
use Rattle.one_tree.specs.declared.applied.Applied.TheVariants.{Follows, Differs, Other}

-- a step of the tree follows or differs
abbrev pub told_of : Bool → Applied
told_of given = cond given Follows Differs

-- the record is a step of this tree that it gives, a step that it doesn't give, or no step of it
abbrev pub applied : List Version → TreeState → Record → Applied
applied h t r = cond (concerns t r) (told_of (gives h t r)) Other

-- the tree after a record, which stays where the record is a step that it doesn't give
abbrev pub tree_after : List Version → TreeState → Record → TreeState
tree_after h t r = cond (concerns t r && not (gives h t r)) t (next h r t)
