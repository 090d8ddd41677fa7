-- How a read comes to its bytes, by its script: by one operation, on the instance that its descriptor stands for, or on one that was opened
-- again with the version that the descriptor keeps.
use Rattle.std.specs.Prelude.{ℕ, ◌≡◌, ◌⊎◌, true, List, [], ◌∷◌}
use Rattle.locus_ids.specs.declared.ids.EpochId.{EpochId}
use Rattle.locus_ids.specs.declared.ids.Serial.{Serial}
use Rattle.commit_graph.specs.Versions.{same_stamp}
use Rattle.trace_book.specs.declared.descriptor.Beginning.{Beginning}
use Rattle.trace_book.specs.declared.descriptor.Beginning.TheVariants.{Uses, Reopens}
use Rattle.trace_book.specs.declared.descriptor.OneVersion.{OneVersion}
use Rattle.trace_book.specs.declared.operation.Op.{Op}
use Rattle.trace_book.specs.declared.operation.Op.TheVariants as op
use Rattle.trace_book.specs.declared.operation.Outcome.TheVariants as outcome
use Rattle.call_rules.specs.declared.answer.Answer.{Answer}
use Rattle.call_rules.specs.declared.answer.Answer.TheVariants.{Did, Reading}

pub record IsUsed (begins : Beginning) (answers : List Answer) (bytes : List ℕ) : Type 0 where
  pub epoch : EpochId
  pub inst : Serial
  pub begun : begins ≡ Uses epoch inst
  pub answered : answers ≡ Did (outcome.Data bytes) ∷ []

pub record IsReopened (begins : Beginning) (answers : List Answer) (bytes : List ℕ) : Type 0 where
  pub kept : OneVersion
  pub last : EpochId
  pub begun : begins ≡ Reopens kept last
  pub inst : Serial
  pub granted : OneVersion
  pub same : same_stamp granted.stamp kept.stamp ≡ true
  pub answered : answers ≡ Reading inst granted ∷ Did (outcome.Data bytes) ∷ []

abbrev pub IsRead : Beginning → List Answer → List ℕ → Type 0
IsRead begins answers bytes = IsUsed begins answers bytes ⊎ IsReopened begins answers bytes

-- What a read asks of an instance: that it be read, from the place and of the length that the call says.

pub record AsksUsed (begins : Beginning) (at len : ℕ) (answers : List Answer) (i : Serial) (o : Op) : Type 0 where
  pub epoch : EpochId
  pub begun : begins ≡ Uses epoch i
  pub read : o ≡ op.Read at len
  pub answered : answers ≡ []

pub record AsksAgain (begins : Beginning) (at len : ℕ) (answers : List Answer) (i : Serial) (o : Op) : Type 0 where
  pub kept : OneVersion
  pub last : EpochId
  pub begun : begins ≡ Reopens kept last
  pub granted : OneVersion
  pub same : same_stamp granted.stamp kept.stamp ≡ true
  pub read : o ≡ op.Read at len
  pub answered : answers ≡ Reading i granted ∷ []

abbrev pub AsksRead : Beginning → ℕ → ℕ → List Answer → Serial → Op → Type 0
AsksRead begins at len answers i o = AsksUsed begins at len answers i o ⊎ AsksAgain begins at len answers i o
