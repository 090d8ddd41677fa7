-- What the tree carries no act out on, however much memory is left. No lawful trace has it.
use Rattle.std.specs.Prelude.{◌<◌, ◌⊎◌, List, Option, None, Some, length, map}
use Rattle.locus_ids.specs.Sizes.{file_bytes_max}
use Rattle.locus_ids.specs.declared.ids.FileId.{FileId}
use Rattle.commit_graph.specs.declared.history.Version.{Version}
use Rattle.commit_graph.specs.Versions.{content_of}
use Rattle.trace_book.specs.declared.operation.Op.{Op}
use Rattle.trace_book.specs.declared.operation.Op.TheVariants as op
use Rattle.file_effects.specs.declared.work.Work.{Work}
use Rattle.operation_effects.specs.Joinable.{AreJoinable}
use Rattle.operation_effects.specs.declared.fault.EffectFault.{EffectFault}
use Rattle.operation_effects.specs.declared.fault.EffectFault.TheVariants as effect
use Rattle.tree_model.specs.declared.instance.Instance.{Instance}
use Rattle.tree_model.specs.State.{TreeState, kept_of}
use Rattle.tree_acts.specs.declared.fault.ActFault.{ActFault}
use Rattle.tree_acts.specs.declared.fault.ActFault.TheVariants as fault

-- the working content is longer than that of a file may be
abbrev pub IsTooLong : Work → Type 0
IsTooLong w = file_bytes_max < length w.content

-- the kept versions of the file can't be joined: an inode has one kind in one of them and the other in another, or one of
-- them is longer than a number of four bytes tells
abbrev pub HaveNoJoin : List Version → TreeState → FileId → Type 0
HaveNoJoin h t f = ¬ AreJoinable (map (content_of h f) (kept_of h t f))

-- the operation isn't carried out on the open instance: it works on a content that is too long, or mends versions that can't
-- be joined; a commit and an abort don't work on the content
abbrev pub IsUnfit : List Version → TreeState → Op → Instance → Type 0
IsUnfit h t op.Commit x = ⊥
IsUnfit h t op.Abort x = ⊥
IsUnfit h t op.Mend x = IsTooLong x.work ⊎ HaveNoJoin h t x.grant.file
IsUnfit h t _ x = IsTooLong x.work

-- the same where the instance is open
abbrev pub IsUnfitAct : List Version → TreeState → Op → Option Instance → Type 0
IsUnfitAct h t o None = ⊥
IsUnfitAct h t o (Some x) = IsUnfit h t o x

abbrev pub fault_of_effect : EffectFault → ActFault
fault_of_effect effect.Unfit = fault.Unfit
fault_of_effect effect.NoMemory = fault.NoMemory
