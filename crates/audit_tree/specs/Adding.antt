-- What the tree adds to the words of an operation, and what the operation gives and leaves with that.
use Rattle.std.specs.Prelude.{ℕ, ◌≤◌, List, length, Option, None, Some}
use Rattle.std.specs.List.{find}
use Rattle.locus_ids.specs.Sizes.{file_bytes_max}
use Rattle.locus_ids.specs.declared.ids.Mode.{Mode}
use Rattle.locus_ids.specs.declared.ids.Stamp.{Stamp}
use Rattle.commit_graph.specs.Vectors.{vector_of}
use Rattle.trace_book.specs.declared.operation.Op.{Op}
use Rattle.trace_book.specs.declared.operation.Op.TheVariants as op
use Rattle.trace_book.specs.declared.operation.Outcome.TheVariants as outcome
use Rattle.file_effects.specs.Effects.{As, Mends, Removes, effect}
use Rattle.file_effects.specs.Works.{aborted, commit_result}
use Rattle.file_effects.specs.declared.work.Work.{Work}
use Rattle.operation_effects.specs.Settling.{Worked, worked, worked_so}
use Rattle.tree_model.specs.Histories.{stamped_content}
use Rattle.tree_model.specs.Working.{are_several}
use Rattle.promises.specs.Past.{Epoch, Instance, Past, kept_in}
use Rattle.promises.specs.Tree.{is_spent, is_target, mended}
use Rattle.audit_tree.specs.Acting.{committed_so}
use Rattle.audit_tree.specs.declared.acting.Added.{Added}
use Rattle.audit_tree.specs.declared.acting.Added.TheVariants.{Nothing, Unseen, Seen, Join, Counter, Content}

-- a content that an abort goes back to is no longer than a content may be
abbrev pub IsShort : Added → Type 0
IsShort (Content bytes) = length bytes ≤ file_bytes_max
IsShort _ = Unit {0}

-- what a commit gives and leaves, and what an abort, a mend and a removal do
abbrev pub commits_with : Added → Work → Worked
commits_with (Counter spent) w = committed_so (commit_result spent w) w
commits_with _ w = worked_so None w

abbrev pub aborts_with : Added → Mode → Work → Worked
aborts_with (Content bytes) mode w = worked_so (Some outcome.Done) (aborted mode bytes w)
aborts_with _ mode w = worked_so None w

abbrev pub mends_with : Added → ℕ → Work → Worked
mends_with (Join several bytes) free w = worked free w (effect (Mends several bytes) w.content)
mends_with _ free w = worked_so None w

abbrev pub removes_with : Added → List ℕ → ℕ → ℕ → Work → Worked
removes_with (Seen vector) name ino free w = worked free w (effect (Removes name ino vector) w.content)
removes_with _ name ino free w = worked_so None w

-- what an operation gives on an instance of this mode where so many pages are free, and what it leaves
abbrev pub acted_with : Added → Op → ℕ → Mode → Work → Worked
acted_with added op.Commit free mode w = commits_with added w
acted_with added op.Abort free mode w = aborts_with added mode w
acted_with added op.Mend free mode w = mends_with added free w
acted_with added (op.Remove name ino) free mode w = removes_with added name ino free w
acted_with added o free mode w = worked free w (effect (As o) w.content)

-- What the tree of the epoch adds.

-- what a removal sees by the instance that the call has of the inode
abbrev pub seen_by : Past → Option Instance → Added
seen_by p None = Unseen
seen_by p (Some y) = seen_on y.work.last
  where
    seen_on : Option Stamp → Added
    seen_on None = Unseen
    seen_on (Some s) = Seen (vector_of p.history y.grant.file s)

abbrev pub added_on : Past → Epoch → Op → Instance → Added
added_on p t op.Commit x = Counter (is_spent p t x)
added_on p t op.Abort x = Content (stamped_content p.history x.grant.file x.work.last)
added_on p t op.Mend x = Join (are_several (kept_in p t x.grant.file)) (mended p t x.grant.file)
added_on p t (op.Remove name ino) x = seen_by p (find (is_target x ino) t.opened)
added_on p t o x = Nothing
