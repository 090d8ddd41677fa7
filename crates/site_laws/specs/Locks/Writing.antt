-- Which operations change a file, and which open a script must have asked for before it asks one.
use Rattle.std.specs.Prelude.{ℕ, ◌≡◌, ◌⊎◌, Bool, true, false, List, ◌∷◌, ◌++◌, Option}
use Rattle.locus_ids.specs.declared.ids.EpochId.{EpochId}
use Rattle.locus_ids.specs.declared.ids.Serial.{Serial}
use Rattle.locus_ids.specs.declared.config.Mount.{Mount}
use Rattle.trace_book.specs.declared.call.Call.{Call}
use Rattle.trace_book.specs.declared.call.Call.TheVariants as call
use Rattle.trace_book.specs.declared.call.OpenMode.{OpenMode}
use Rattle.trace_book.specs.declared.call.OpenMode.TheVariants as how
use Rattle.trace_book.specs.declared.operation.Op.{Op}
use Rattle.trace_book.specs.declared.operation.Op.TheVariants as op
use Rattle.trace_book.specs.declared.descriptor.Beginning.{Beginning}
use Rattle.trace_book.specs.declared.descriptor.Beginning.TheVariants as begins
use Rattle.call_rules.specs.declared.answer.Answer.{Answer}
use Rattle.call_rules.specs.declared.answer.Answer.TheVariants as answer
use Rattle.call_rules.specs.declared.want.Want.{Want}
use Rattle.call_rules.specs.declared.want.Want.TheVariants as want
use Rattle.call_rules.specs.Scripts.{named_wants}

-- the operation may change the content of its file
abbrev pub changes : Op → Bool
changes (op.Insert name ino kind) = true
changes (op.Remove name ino) = true
changes (op.Rename component name) = true
changes (op.Write at bytes) = true
changes (op.Cut len) = true
changes op.Mend = true
changes _ = false

-- an open that isn't for reading alone
abbrev pub ToWrite : OpenMode → Type 0
ToWrite how.Read = ⊥
ToWrite how.Steady = ⊥
ToWrite _ = Unit {0}

abbrev pub OpensToWrite : Want → Type 0
OpensToWrite (want.Open file m) = ToWrite m
OpensToWrite (want.OpenToMend file) = Unit {0}
OpensToWrite (want.Make group kind sites) = Unit {0}
OpensToWrite _ = ⊥

-- the answer opens this instance
abbrev pub Opens : Serial → Answer → Type 0
Opens i (answer.Opened inst ino) = inst ≡ i
Opens i (answer.Merging inst kept) = inst ≡ i
Opens i _ = ⊥

-- among its answers is one that opened the instance, where the script asked an open that isn't for reading alone
pub record IsOpenedToWrite (script : List Answer → Want) (answers : List Answer) (i : Serial) : Type 0 where
  pub before : List Answer
  pub opening : Answer
  pub after : List Answer
  pub answers_are : answers ≡ before ++ opening ∷ after
  pub asked : OpensToWrite (script before)
  pub opened : Opens i opening

-- the call uses the instance of its descriptor, and is a write or a cut
abbrev pub IsWrite : Call → Type 0
IsWrite (call.Write fd at bytes) = Unit {0}
IsWrite (call.Cut fd len) = Unit {0}
IsWrite _ = ⊥

pub record IsWriteOn (words : Call) (b : Beginning) (i : Serial) : Type 0 where
  pub epoch : EpochId
  pub begins_so : b ≡ begins.Uses epoch i
  pub is_write : IsWrite words

-- an operation that changes its file is asked of an instance that this call opened to write, or, by a write or a cut, of the
-- one that its descriptor names
abbrev pub ScriptsOpenWhatTheyChange : Type 0
ScriptsOpenWhatTheyChange =
    (mounts : List Mount) (free : Option ℕ) (words : Call) (b : Beginning) (answers : List Answer) (i : Serial) (o : Op) →
    named_wants mounts free words b answers ≡ want.Do i o → changes o ≡ true →
    IsWriteOn words b i ⊎ IsOpenedToWrite (named_wants mounts free words b) answers i
