-- Contents that a mend can join.
use Rattle.std.specs.Prelude.{ℕ, ◌<◌, ◌^◌, List, [], ◌∷◌, length}
use Rattle.dir_format.specs.Contents.{entries_of}
use Rattle.dir_reconcile.specs.Joins.{AgreeOnKinds}
use Rattle.role_steps.specs.OperationEffects.{joined_contents}
use Rattle.trace_book.specs.declared.operation.Op.{Op}
use Rattle.trace_book.specs.declared.operation.Op.TheVariants as op
use Rattle.operation_effects.specs.declared.fault.EffectFault.{EffectFault}
use Rattle.operation_effects.specs.declared.fault.EffectFault.TheVariants as fault

-- no content is longer than a number of four bytes tells, and an inode that several have has one kind
abbrev pub AreJoinable : List (List ℕ) → Type 0
AreJoinable [] = Unit {0}
AreJoinable (c ∷ cs) = ((length c < 2 ^ 32) × AgreeOnKinds (entries_of c) (joined_contents cs)) × AreJoinable cs

-- a mend works on contents that can be joined; any other operation on none
abbrev pub CanWorkOn : Op → List (List ℕ) → Type 0
CanWorkOn op.Mend contents = AreJoinable contents
CanWorkOn _ contents = Unit {0}

abbrev pub IsMemory : EffectFault → Type 0
IsMemory fault.NoMemory = Unit {0}
IsMemory fault.Unfit = ⊥
