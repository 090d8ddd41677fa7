-- What a synchronization site serves by: its table by the lines told so far, its frame, and what the laws of processes and of the
-- order of versions give.
use Rattle.std.specs.Prelude.{ℕ, ◌≡◌, ◌⊎◌, ◌<◌, true, List, [], ◌∷◌, None, Some, ◌+◌}
use Rattle.locus_ids.specs.declared.config.Config.{Config}
use Rattle.locus_ids.specs.declared.ids.CallId.{CallId}
use Rattle.locus_ids.specs.declared.ids.EpochId.{EpochId}
use Rattle.locus_ids.specs.declared.ids.FileId.{FileId}
use Rattle.locus_ids.specs.declared.ids.Serial.{Serial}
use Rattle.locus_ids.specs.declared.ids.Stamp.{Stamp}
use Rattle.locus_ids.specs.Sizes.{sites_max}
use Rattle.commit_graph.specs.Grants.{is_read}
use Rattle.trace_book.specs.declared.operation.What.TheVariants as what
use Rattle.call_rules.specs.declared.want.Want.TheVariants as want
use Rattle.wire_messages.specs.declared.body.Opening.{Opening}
use Rattle.wire_messages.specs.declared.body.Opening.TheVariants as how
use Rattle.role_steps.specs.Views.{Frame, Told}
use Rattle.role_steps.specs.declared.synchronizing.SyncTable.{SyncTable}
use Rattle.the_run.specs.Worlds.{Line}
use Rattle.tree_model.specs.declared.accepted.Waiting.{Waiting}
use Rattle.tree_model.specs.declared.instance.Instance.{Instance}
use Rattle.tree_model.specs.Calls.{call_named}
use Rattle.tree_model.specs.Epochs.{has_joined}
use Rattle.tree_model.specs.Opening.{site_named}
use Rattle.tree_model.specs.Packs.{sync_site}
use Rattle.tree_model.specs.State.{has_stamp}
use Rattle.tree_model.specs.Tree.{kept_in}
use Rattle.lawful_trace.specs.TreeRows.{IsCallIn}
use Rattle.tree_laws.specs.Calls.{Asks}
use Rattle.tree_laws.specs.Doing.{FrameFact, IsOfTable}
use Rattle.tree_laws.specs.Following.{MayTell, IsFollowed}
use Rattle.tree_laws.specs.Instances.{AsksOpen, HasAtLeast, held_in, instance_now}
use Rattle.tree_laws.specs.Printed.{entries}
use Rattle.tree_laws.specs.Processes.{OnlyMends}
use Rattle.tree_laws.specs.Tables.{IsAhead, TableFact}
use Rattle.tree_laws.specs.Syncs.Opening.{IsPlainOpening}
use Rattle.tree_laws.specs.Syncs.Staying.{FilesStay}

-- what is known of the calls that ask
pub record CallsAreKnown (c : Config) (trace : List Line) : Type 0 where
  -- their processes have numbers of one byte
  pub small : (d : CallId) (w : Waiting) → call_named (entries trace) d ≡ Some w → w.process < 256
  -- and their sites are some of the sixteen
  pub narrow : (d : CallId) (w : Waiting) → call_named (entries trace) d ≡ Some w → d.site < sites_max + 1
  -- process 0 is that of the system, which makes nothing but mends
  pub only : OnlyMends trace
  -- a file that is opened has a number: only one that is to be made has none yet
  pub numbered : (e : EpochId) (d : CallId) (request serial : ℕ) (f : FileId) (q : Opening) → AsksOpen c trace e d request serial f q → IsPlainOpening q → f.ino ≡ 0 → ⊥
  -- a resolution is asked as the words of its call say
  pub resolves : (e : EpochId) (d : CallId) (request serial : ℕ) (f : FileId) (site : ℕ) → AsksOpen c trace e d request serial f (how.Resolve site) → (w : Waiting) → call_named (entries trace) d ≡ Some w → site_named (Some w.words) ≡ Some site
  -- whole contents are asked of kept versions alone
  pub wholes : (e : EpochId) (d : CallId) (f : FileId) (stamp : Stamp) → IsCallIn (entries trace) e d → Asks c trace d (want.Look f (what.Whole stamp)) → has_stamp (kept_in c (entries trace) e f) stamp ≡ true

-- the site of the frame serves the group of the table
pub record Serving (c : Config) (n : ℕ) (trace : List Line) (f : Frame) (t : SyncTable) : Type 0 where
  pub followed : IsFollowed c trace
  pub frame : FrameFact c trace f
  pub serves : sync_site c t.group (Some f.members) ≡ Some f.me
  pub table : TableFact c trace f t
  pub calls : CallsAreKnown c trace
  -- a line of the table leaves what stands of files
  pub stay : (x : Told) → MayTell c trace x → IsOfTable f t.group x → FilesStay c trace (record { number = n; told = x } ∷ trace) x

-- what the order of versions gives of the files of an epoch
pub record FilesAreOrdered (c : Config) (trace : List Line) (e : EpochId) : Type 0 where
  -- who has the only kept version at least has it, or a writer there is ahead
  pub only : (f : FileId) (site : ℕ) (v : Stamp) → kept_in c (entries trace) e f ≡ v ∷ [] → HasAtLeast c trace e site f v → (held_in c (entries trace) e site f ≡ Some v) ⊎ IsAhead c trace e site f
  -- an instance that only reads has committed nothing
  pub reads : (i : Serial) (x : Instance) → instance_now c trace e i ≡ Some x → is_read x.grant.mode ≡ true → x.work.committed ≡ None
  -- who has something in the epoch has joined it
  pub joined : (site : ℕ) (f : FileId) (stamp : Stamp) → held_in c (entries trace) e site f ≡ Some stamp → has_joined (entries trace) site e ≡ true
