-- An operation that changes no page gives the same whatever room there is.
use Rattle.std.proofs.Common.{◌≡◌, ℕ, Bool, false, cond, List, Some, None, refl, sym, ap, arith}
use Rattle.std.specs.Prelude.{nat_lt}
use Rattle.trace_book.specs.declared.operation.Op.{Op}
use Rattle.trace_book.specs.declared.operation.Op.TheVariants as op
use Rattle.trace_book.specs.declared.operation.Outcome.{Outcome}
use Rattle.trace_book.specs.declared.operation.Outcome.TheVariants as outcome
use Rattle.locus_ids.specs.declared.refusal.Refusal.TheVariants.{NoSpace}
use Rattle.file_content.specs.Contents.{part}
use Rattle.file_effects.specs.Effects.{Effect, tells, cuts}
use Rattle.file_effects.specs.Works.{operated}
use Rattle.file_effects.specs.declared.work.Work.{Work}
use Rattle.role_steps.specs.OperationEffects.{Mending}
use Rattle.role_steps.specs.OperationEffects as role
use Rattle.tree_model.specs.Same.{same_outcome}
use Rattle.tree_acts.specs.Acting.{needs_room, work_by}

never_less : (n : ℕ) → nat_lt n 0 ≡ false
never_less n = grind arith

in_any_room : (free : ℕ) (result told : Outcome) (w : Work) (e : Effect)
    → cond (same_outcome (cond (nat_lt 0 0) (outcome.No (NoSpace 0 0)) told) result) (Some (operated e result w)) None
    ≡ cond (same_outcome (cond (nat_lt free 0) (outcome.No (NoSpace 0 free)) told) result) (Some (operated e result w)) None
in_any_room free result told w e = sym (ap (λ (b : Bool). cond (same_outcome (cond b (outcome.No (NoSpace 0 free)) told) result) (Some (operated e result w)) None) (never_less free))

pub roomless_so : (o : Op) (seen : List ℕ) (m : Mending) (w : Work) (free : ℕ) (result : Outcome)
    → work_by (cond (needs_room o) free 0) result w (role.effect_of o seen m w.content) ≡ work_by free result w (role.effect_of o seen m w.content)
roomless_so (op.Read at len) seen m w free result = in_any_room free result (outcome.Data (part w.content at len)) w (tells w.content (outcome.Data (part w.content at len)))
roomless_so (op.Cut len) seen m w free result = in_any_room free result outcome.Done w (cuts w.content len)
roomless_so (op.Probe name) seen m w free result = refl
roomless_so (op.Find component) seen m w free result = refl
roomless_so (op.Insert name ino kind) seen m w free result = refl
roomless_so (op.Remove name ino) seen m w free result = refl
roomless_so (op.Rename component name) seen m w free result = refl
roomless_so op.Empty seen m w free result = refl
roomless_so (op.Write at bytes) seen m w free result = refl
roomless_so op.Commit seen m w free result = refl
roomless_so op.Abort seen m w free result = refl
roomless_so op.Mend seen m w free result = refl
