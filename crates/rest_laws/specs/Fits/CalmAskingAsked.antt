-- That what is asked of an open instance is done there: an operation on its content has an effect, and a commit an answer.
use Rattle.std.specs.Prelude.{ℕ, ◌≡◌, false, List, Some}
use Rattle.locus_ids.specs.declared.ids.Stamp.{Stamp}
use Rattle.trace_book.specs.declared.operation.Op.{Op}
use Rattle.trace_book.specs.declared.operation.Op.TheVariants as op
use Rattle.file_effects.specs.Effects.{Effect}
use Rattle.file_effects.specs.declared.work.Work.{Work}
use Rattle.role_steps.specs.OperationEffects.{Mending, effect_of}

-- A commit that owes nothing has a version to answer, and any other operation has an effect on the content, whatever a mend works on.
abbrev pub IsDoable : Op → List ℕ → Work → Type 0
IsDoable op.Commit seen w = w.owes ≡ false → (stamp : Stamp) × (w.last ≡ Some stamp)
IsDoable op.Abort seen w = Unit {0}
IsDoable o seen w = (m : Mending) → (e : Effect) × (effect_of o seen m w.content ≡ Some e)
