-- One delivery after another of a round: which of them leave a version on its way, and what is left to show of that.
use Rattle.std.specs.Prelude.{ℕ, ◌≡◌, ◌≢◌, true, false, List, [], ◌∷◌, Some}
use Rattle.locus_ids.specs.declared.config.Config.{Config}
use Rattle.locus_ids.specs.declared.ids.FileId.{FileId}
use Rattle.wire_messages.specs.declared.body.Body.{Body}
use Rattle.wire_messages.specs.declared.body.Body.TheVariants as body
use Rattle.role_steps.specs.Adoption.{table_group}
use Rattle.role_steps.specs.Storage.{copy_of}
use Rattle.role_steps.specs.Tables.{row}
use Rattle.role_steps.specs.Versions.{is_below, holders_of, is_among}
use Rattle.role_steps.specs.Views.{SiteView, file_key}
use Rattle.role_steps.specs.declared.instances.Instance.{Instance}
use Rattle.role_steps.specs.declared.instances.Stage.{Stage}
use Rattle.role_steps.specs.declared.instances.Stage.TheVariants as stage
use Rattle.role_steps.specs.declared.pulls.Pull.{Pull}
use Rattle.role_steps.specs.declared.rounds.InEpoch.{InEpoch}
use Rattle.role_steps.specs.declared.synchronizing.FileRow.{FileRow}
use Rattle.role_steps.specs.declared.synchronizing.SyncTable.{SyncTable}
use Rattle.role_steps.specs.declared.synchronizing.VersionRow.{VersionRow}
use Rattle.the_run.specs.Kept.{Among}
use Rattle.the_run.specs.Worlds.{Running, Numbered}
use Rattle.run_laws.specs.Epochs.Known.{Places}
use Rattle.calm_laws.specs.Carrying.{IsMember}
use Rattle.calm_laws.specs.Convergence.Copies.{Knows}
use Rattle.calm_laws.specs.Convergence.Offers.{Offer, named, is_above}

-- no version of the file above this one is named by a notice under way to the site, or is pulled there
pub record NoneAbove (e : InEpoch) (at : Places) (under : List Numbered) (s : ℕ) (file : FileId) (v : VersionRow) : Type 0 where
  pub notices : (d : Offer) → Among d (named e s under) → file_key d.file ≡ file_key file → is_below v.vector d.vector ≡ false
  pub pulls : (view : SiteView) (p : Pull) → at s ≡ Some (Running view) → Among p view.pulls → file_key p.file ≡ file_key file → is_below v.vector p.vector ≡ false

-- ---- kinds of packets about copies ----

abbrev pub IsNotify : Body → Type 0
IsNotify (body.Notify file kind set size stamp vector holder) = Unit {0}
IsNotify _ = ⊥

abbrev pub IsPage : Body → Type 0
IsPage (body.Page file stamp page bytes) = Unit {0}
IsPage (body.Delta file wanted pages) = Unit {0}
IsPage _ = ⊥

abbrev pub IsPull : Body → Type 0
IsPull (body.Pull file stamp page) = Unit {0}
IsPull (body.Want file wanted own) = Unit {0}
IsPull _ = ⊥

abbrev pub IsHave : Body → Type 0
IsHave (body.Have file stamp) = Unit {0}
IsHave _ = ⊥

-- it leaves copies, pulls and what is known of files: a look, an open, an answer
abbrev pub IsPlain : Body → Type 0
IsPlain (body.ReportOk group) = Unit {0}
IsPlain (body.Open serial call process request file how) = Unit {0}
IsPlain (body.OpenSs inst file mode set kind base vector parents) = Unit {0}
IsPlain (body.OpenDone serial answer) = Unit {0}
IsPlain (body.OpDone serial n result) = Unit {0}
IsPlain (body.AsHeld serial n len) = Unit {0}
IsPlain (body.ClosedOk inst) = Unit {0}
IsPlain (body.CloseDone serial answer) = Unit {0}
IsPlain (body.Look call process request take file what) = Unit {0}
IsPlain (body.LookSs us call process request take file what stamp) = Unit {0}
IsPlain (body.LookDone call request take answer) = Unit {0}
IsPlain _ = ⊥

abbrev pub IsReport : Body → Type 0
IsReport (body.Report group copies) = Unit {0}
IsReport _ = ⊥

abbrev pub IsOpened : Body → Type 0
IsOpened (body.Opened inst answer) = Unit {0}
IsOpened _ = ⊥

-- its storage site may commit
abbrev pub MayCommit : Body → Type 0
MayCommit (body.Op serial n o seen) = Unit {0}
MayCommit (body.ReadHeld serial n at len) = Unit {0}
MayCommit (body.Close serial) = Unit {0}
MayCommit _ = ⊥

-- its synchronization site may publish
abbrev pub MayPublish : Body → Type 0
MayPublish (body.Closed inst made) = Unit {0}
MayPublish _ = ⊥

abbrev pub FormsEpochs : Body → Type 0
FormsEpochs body.Poll = Unit {0}
FormsEpochs (body.Promise reach) = Unit {0}
FormsEpochs (body.Refuse promised) = Unit {0}
FormsEpochs (body.Install members) = Unit {0}
FormsEpochs body.Joined = Unit {0}
FormsEpochs _ = ⊥

-- ---- what stands in a round after another one ----

-- each group that a member synchronizes has started
abbrev pub GroupsHaveStarted : InEpoch → Places → Type 0
GroupsHaveStarted e at = (s group : ℕ) (v : SiteView) (t : SyncTable) → IsMember e s → at s ≡ Some (Running v) → row table_group group v.tables ≡ Some t → t.started ≡ true

-- the table of a file with one kept version names a holder of it, and no member whose copy is below it
pub record TellsHolders (e : InEpoch) (at : Places) (file : FileId) (r : FileRow) (v : VersionRow) : Type 0 where
  pub some_holder : holders_of r v.stamp ≢ []
  pub hold : (s : ℕ) (view : SiteView) → IsMember e s → is_among s (holders_of r v.stamp) ≡ true → at s ≡ Some (Running view) → is_above v.vector (copy_of view.store file) ≡ false

abbrev pub TablesTell : Config → InEpoch → Places → Type 0
TablesTell c e at = (file : FileId) (r : FileRow) (v : VersionRow) → Knows c e at file r → r.kept ≡ v ∷ [] → TellsHolders e at file r v

-- ---- instances that are closing ----

-- the close of the instance has begun, and its synchronization site hasn't answered
abbrev pub IsClosing : Stage → Type 0
IsClosing stage.Running = ⊥
IsClosing (stage.Closing made a) = Unit {0}
IsClosing (stage.Closed a) = ⊥

-- the site is closing no instance of the file
abbrev pub NoneCloses : Places → ℕ → FileId → Type 0
NoneCloses at s file = (v : SiteView) (i : Instance) → at s ≡ Some (Running v) → Among i v.store.instances → i.file ≡ file → IsClosing i.stage → ⊥
