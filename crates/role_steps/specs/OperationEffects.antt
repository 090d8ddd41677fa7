-- The effect of an operation at the storage site: that of the operation's words, and for a mend what it rescues.
use Rattle.std.specs.Prelude.{ℕ, Bool, true, false, List, [], ◌∷◌, Option, Some, None}
use Rattle.wire_messages.specs.of_trace_book.declared.operation.Op.{Op}
use Rattle.wire_messages.specs.of_trace_book.declared.operation.Op.TheVariants as op
use Rattle.dir_reconcile.specs.of_dir_format.declared.entry.Entry.{Entry}
use Rattle.dir_reconcile.specs.of_dir_format.Grammar.{dir_bytes}
use Rattle.dir_reconcile.specs.of_dir_format.Contents.{entries_of}
use Rattle.dir_reconcile.specs.declared.kept.KeptVector.{KeptVector}
use Rattle.dir_reconcile.specs.Joins.{joined_dirs}
use Rattle.dir_reconcile.specs.Rescues.{rescued, rescue_is_spent}
use Rattle.file_effects.specs.Effects.{As, Removes, Mends, Effect, effect}

-- what a mend works on, which is at the same site: the contents that its looks have brought, and the vectors of all kept
-- versions of the group
pub record Mending : Type 0 where
  pub contents : List (List ℕ)
  pub kept : List KeptVector

abbrev pub joined_contents : List (List ℕ) → List Entry
joined_contents [] = []
joined_contents (c ∷ cs) = joined_dirs (entries_of c) (joined_contents cs)

abbrev pub has_several : {A : Type 0} → List A → Bool
has_several [] = false
has_several (x ∷ []) = false
has_several (x ∷ y ∷ zs) = true

abbrev pub or_spent : Bool → Option Effect → Option Effect
or_spent spent None = None
or_spent spent (Some e) = Some (record e { spent = spent })

-- the rescue of the join of all kept contents
abbrev pub mend_effect : List Entry → Mending → List ℕ → Option Effect
mend_effect ds m content = or_spent (rescue_is_spent ds m.kept) (effect (Mends (has_several m.contents) (dir_bytes (rescued ds m.kept))) content)

abbrev pub effect_of : Op → List ℕ → Mending → List ℕ → Option Effect
effect_of (op.Remove name ino) seen m content = effect (Removes name ino seen) content
effect_of op.Mend seen m content = mend_effect (joined_contents m.contents) m content
effect_of o seen m content = effect (As o) content
