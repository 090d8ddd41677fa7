-- What an operation on an open instance gives and leaves, as one value.
use Rattle.std.specs.Prelude.{ℕ, Bool, false, cond, List, [], Option, None, Some}
use Rattle.locus_ids.specs.declared.ids.Stamp.{Stamp}
use Rattle.locus_ids.specs.declared.refusal.Refusal.TheVariants.{Spent}
use Rattle.trace_book.specs.declared.operation.Op.{Op}
use Rattle.trace_book.specs.declared.operation.Op.TheVariants as op
use Rattle.trace_book.specs.declared.operation.Outcome.{Outcome}
use Rattle.trace_book.specs.declared.operation.Outcome.TheVariants as outcome
use Rattle.call_rules.specs.declared.answer.Answer.{Answer}
use Rattle.call_rules.specs.declared.answer.Answer.TheVariants.{Ended, Refused}
use Rattle.role_steps.specs.OperationEffects.{Mending}
use Rattle.file_effects.specs.Effects.{Effect}
use Rattle.file_effects.specs.Works.{counted}
use Rattle.file_effects.specs.declared.work.Work.{Work}
use Rattle.operation_effects.specs.Settling.{Worked, worked_so}
use Rattle.promises.specs.Past.{Epoch, Instance, Past}
use Rattle.promises.specs.Tree.{result_on, work_after}

-- the operation gives what its words say of the content, with nothing added by the tree
abbrev pub IsPlain : Op → Type 0
IsPlain op.Commit = ⊥
IsPlain op.Abort = ⊥
IsPlain op.Mend = ⊥
IsPlain (op.Remove name ino) = ⊥
IsPlain _ = Unit {0}

-- an operation that isn't a mend works on no versions
abbrev pub nothing_mended : Mending
nothing_mended = record { contents = []; kept = [] }

-- a new content in the place of the old one, of which these pages are other
abbrev pub put_effect : List ℕ → List ℕ → Bool → Effect
put_effect new pages counts = record { result = outcome.Done; content = new; pages = pages; counts = counts; spent = false }

-- what a commit gives, and one operation more done; with none it does nothing
abbrev pub committed_so : Option Outcome → Work → Worked
committed_so None w = worked_so None w
committed_so (Some o) w = worked_so (Some o) (counted w)

-- what a close of an instance is answered of which this has become
abbrev pub closed_answer : Option Stamp → Work → Answer
closed_answer stamp w = cond w.owes (Refused Spent) (Ended (cond w.fresh stamp None))

-- what gives this, and leaves this by what it gives; with none it leaves the instance as it was
abbrev pub given_so : Option Outcome → (Outcome → Work) → Work → Worked
given_so None after w = worked_so None w
given_so (Some o) after w = worked_so (Some o) (after o)

-- what an operation gives on an open instance and leaves; where it isn't lawful it leaves the instance as it is
abbrev pub acted_on : Past → Epoch → Op → Instance → Worked
acted_on p t o x = given_so (result_on p t o x) (λ result. work_after p t o result x) x.work
