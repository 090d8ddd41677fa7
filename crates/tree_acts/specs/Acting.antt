-- What an act gives and leaves, as one value.
use Rattle.std.specs.Prelude.{ℕ, ◌+◌, ◌==◌, Bool, true, false, ◌&&◌, nat_le, List, Option, None, Some, cond}
use Rattle.locus_ids.specs.Sizes.{inodes_max}
use Rattle.commit_graph.specs.declared.history.Version.{Version}
use Rattle.trace_book.specs.declared.operation.Op.{Op}
use Rattle.trace_book.specs.declared.operation.Op.TheVariants as op
use Rattle.trace_book.specs.declared.operation.Outcome.{Outcome}
use Rattle.dir_reconcile.specs.declared.kept.KeptVector.{KeptVector}
use Rattle.file_effects.specs.Effects.{Effect}
use Rattle.file_effects.specs.Works.{operated, result_in}
use Rattle.file_effects.specs.declared.work.Work.{Work}
use Rattle.tree_model.specs.declared.instance.Instance.{Instance}
use Rattle.tree_model.specs.Same.{is_given, same_outcome}
use Rattle.tree_model.specs.State.{TreeState}
use Rattle.tree_model.specs.Working.{result_on, work_after}

-- what becomes of an instance by an operation of this effect that gives this result where so many pages are free, or none
-- where it doesn't give it
abbrev pub work_by : ℕ → Outcome → Work → Option Effect → Option Work
work_by free result w None = None
work_by free result w (Some e) = cond (same_outcome (result_in free w.changed e) result) (Some (operated e result w)) None

-- what becomes of an open instance by an operation that gives this result, or none where it doesn't give it
abbrev pub given_work : List Version → TreeState → Op → Outcome → Instance → Option Work
given_work h t o result x = cond (is_given (result_on h t o x) result) (Some (work_after h t o result x)) None

-- the same of the operation with this number, where the instance is open
abbrev pub acted_work : List Version → TreeState → ℕ → Op → Outcome → Option Instance → Option Work
acted_work h t n o result None = None
acted_work h t n o result (Some x) = cond (n == x.work.ops + 1) (given_work h t o result x) None

-- the operation gives what its words say of the content, with nothing added by the tree
abbrev pub IsPlain : Op → Type 0
IsPlain op.Commit = ⊥
IsPlain op.Abort = ⊥
IsPlain op.Mend = ⊥
IsPlain (op.Remove name ino) = ⊥
IsPlain _ = Unit {0}

-- an inode of this number can be in a directory
abbrev pub is_number : ℕ → Bool
is_number ino = nat_le 1 ino && nat_le ino inodes_max

-- the vector is one of a file that a directory can have
abbrev pub has_number : KeptVector → Bool
has_number kept = is_number kept.ino

-- the operation may change pages, for which there must be room
abbrev pub needs_room : Op → Bool
needs_room (op.Read at len) = false
needs_room (op.Cut len) = false
needs_room _ = true
