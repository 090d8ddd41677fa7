-- A version is committed only in a step of a call that commits.
use Rattle.std.specs.Prelude.{ℕ, ◌≡◌, ◌⊎◌, Bool, true, false, [], ◌∷◌, filter, Some}
use Rattle.locus_ids.specs.declared.config.Config.{Config}
use Rattle.locus_ids.specs.declared.ids.CallId.{CallId}
use Rattle.locus_ids.specs.declared.ids.EpochId.{EpochId}
use Rattle.locus_ids.specs.declared.ids.FileId.{FileId}
use Rattle.locus_ids.specs.declared.ids.Serial.{Serial}
use Rattle.trace_book.specs.declared.entry.Entry.{Entry}
use Rattle.trace_book.specs.declared.record.Record.{Record}
use Rattle.trace_book.specs.declared.record.Record.TheVariants.{Act, Commit}
use Rattle.trace_book.specs.declared.call.Call.{Call}
use Rattle.trace_book.specs.declared.call.Call.TheVariants as call
use Rattle.trace_book.specs.declared.operation.Op.TheVariants as op
use Rattle.call_rules.specs.declared.want.Want.TheVariants as asks
use Rattle.tree_model.specs.declared.accepted.Waiting.{Waiting}
use Rattle.tree_model.specs.declared.instance.Instance.{Instance}
use Rattle.tree_model.specs.Folds.{Trace}
use Rattle.tree_model.specs.Epochs.{epoch_of}
use Rattle.tree_model.specs.Calls.{call_named}
use Rattle.tree_model.specs.State.{held_at, instance_in}
use Rattle.tree_model.specs.Tree.{tree_of}
use Rattle.lawful_trace.specs.Progress.{wants_next}
use Rattle.lawful_trace.specs.TreeRows.{granted_group, is_writing}
use Rattle.row_laws.specs.Shown.{EachRecord}

-- the calls that commit
abbrev pub commits : Call → Bool
commits (call.Commit fd) = true
commits (call.Close fd) = true
commits (call.Create path sites) = true
commits (call.MakeDir path) = true
commits (call.Mail path bytes) = true
commits (call.Unlink path) = true
commits (call.RemoveDir path) = true
commits (call.Rename path name) = true
commits (call.Mend file) = true
commits _ = false

-- a call of the epoch, one that commits, asks next that the instance be committed or closed
pub record IsCommitAsked (c : Config) (before : Trace) (e : EpochId) (i : Serial) : Type 0 where
  pub call : CallId
  pub accepted : Waiting
  pub named : call_named before call ≡ Some accepted
  pub made_in : accepted.epoch ≡ Some e
  pub kind : commits accepted.words ≡ true
  pub asked : (wants_next c before call ≡ asks.Do i op.Commit) ⊎ (wants_next c before call ≡ asks.Close i)

-- So it is with the one open instance of the file that may commit it, in the epoch of the site that commits.
pub record CommitsAsAsked (c : Config) (before : Trace) (f : FileId) (site : ℕ) : Type 0 where
  pub epoch : EpochId
  pub inside : epoch_of before site ≡ Some epoch
  pub instance : Instance
  pub one : filter (is_writing f) (tree_of c epoch f.group before).instances ≡ instance ∷ []
  pub at : instance.grant.ss ≡ site
  pub asked : IsCommitAsked c before epoch instance.grant.inst

abbrev pub IsAskedFor : Config → Trace → Record → Type 0
IsAskedFor c before (Commit f site stamp parents content) = CommitsAsAsked c before f site
IsAskedFor c before _ = Unit {0}

-- each commit record stands in a step of a call that commits
abbrev pub CommitsAreAsked : Config → Trace → Type 0
CommitsAreAsked c trace = EachRecord (λ before (r : Entry). IsAskedFor c before r.what) trace

-- what its storage site has in the epoch, the last version of the file that it committed or adopted there, is the last version of the
-- instance
pub record DropsUncommitted (c : Config) (before : Trace) (e : EpochId) (i : Serial) : Type 0 where
  pub instance : Instance
  pub found : instance_in (tree_of c e (granted_group before e i) before) i ≡ Some instance
  pub last_is : held_at (tree_of c e instance.grant.file.group before) instance.grant.ss instance.grant.file.ino ≡ instance.work.last

abbrev pub IsUncommitted : Config → Trace → Record → Type 0
IsUncommitted c before (Act e i n op.Abort result) = DropsUncommitted c before e i
IsUncommitted c before _ = Unit {0}

-- What is aborted was never committed: what the instance has changed since its last version, and an abort drops, is in no version.
abbrev pub AbortsDropUncommitted : Config → Trace → Type 0
AbortsDropUncommitted c trace = EachRecord (λ before (r : Entry). IsUncommitted c before r.what) trace
