-- What the storage site's steps want of a trace beside the facts of the store: laws of every run, and of files and their
-- versions.
use Rattle.std.specs.Prelude.{ℕ, ◌≡◌, ◌⊎◌, ◌≤◌, ◌<◌, true, false, List, [], ◌∷◌, Option, Some, map}
use Rattle.locus_ids.specs.declared.config.Config.{Config}
use Rattle.locus_ids.specs.declared.ids.CallId.{CallId}
use Rattle.locus_ids.specs.declared.ids.EpochId.{EpochId}
use Rattle.locus_ids.specs.declared.ids.FileId.{FileId}
use Rattle.locus_ids.specs.declared.ids.Mode.{Mode}
use Rattle.locus_ids.specs.declared.ids.Mode.TheVariants as mode
use Rattle.locus_ids.specs.declared.ids.Serial.{Serial}
use Rattle.locus_ids.specs.declared.ids.Stamp.{Stamp}
use Rattle.locus_ids.specs.declared.sites.Members.{Members}
use Rattle.locus_ids.specs.declared.refusal.Refusal.TheVariants as refusal
use Rattle.locus_ids.specs.Sizes.{inode_span, sites_max}
use Rattle.commit_graph.specs.Grants.{is_read}
use Rattle.file_effects.specs.Works.{begun}
use Rattle.role_steps.specs.Storage.{is_spent}
use Rattle.role_steps.specs.Views.{Frame, Told, Shown, boot_in}
use Rattle.role_steps.specs.declared.instances.Instance.{Instance}
use Rattle.the_run.specs.Worlds.{Line}
use Rattle.tree_model.specs.declared.instance.Instance.{Instance as Open}
use Rattle.tree_model.specs.Epochs.{epoch_of, has_joined, members_of}
use Rattle.commit_graph.specs.Versions.{content_of}
use Rattle.trace_book.specs.declared.operation.Op.{Op}
use Rattle.trace_book.specs.declared.operation.Op.TheVariants as op
use Rattle.trace_book.specs.declared.operation.Outcome.{Outcome}
use Rattle.trace_book.specs.declared.operation.Outcome.TheVariants as outcome
use Rattle.trace_book.specs.declared.record.Record.{Record}
use Rattle.trace_book.specs.declared.record.Record.TheVariants as says
use Rattle.call_rules.specs.declared.want.Want.TheVariants as want
use Rattle.role_steps.specs.OperationEffects.{Mending}
use Rattle.lawful_trace.specs.Tables.{call_of_act}
use Rattle.commit_graph.specs.Vectors.{vector_of}
use Rattle.commit_graph.specs.Versions.{is_proper_ancestor}
use Rattle.role_steps.specs.Versions.{is_below}
use Rattle.role_steps.specs.declared.pulls.Pull.{Pull}
use Rattle.the_run.specs.Kept.{Among}
use Rattle.lawful_trace.specs.TreeRows.{is_above, is_stored_at}
use Rattle.tree_model.specs.Mending.{kept_vectors}
use Rattle.tree_model.specs.State.{instance_in, is_granted_here, kept_of}
use Rattle.tree_model.specs.Tree.{tree_of}
use Rattle.tree_laws.specs.Calls.{Asks}
use Rattle.tree_laws.specs.Past.{WasDone}
use Rattle.tree_model.specs.Files.{first_call}
use Rattle.tree_model.specs.Histories.{history, held, stamped_content}
use Rattle.tree_model.specs.Opening.{is_given_by}
use Rattle.lawful_trace.specs.TreeRows.{IsCallIn}
use Rattle.tree_laws.specs.Printed.{entries}
use Rattle.tree_laws.specs.Following.{MayTell}
use Rattle.tree_laws.specs.Frames.{AllStay}
use Rattle.tree_laws.specs.Instances.{held_in, instance_now, IsOpenAt, Stands}
use Rattle.tree_laws.specs.Past.{WasGranted, WasReleased, WasBegun}
use Rattle.store_laws.specs.Works.Working.{Works}

-- nobody has begun the instance
abbrev pub IsUnbegun : List Line → EpochId → Serial → Type 0
IsUnbegun trace e i = (site : ℕ) (f : FileId) → WasBegun trace site e i f → ⊥

-- The instance is open as it was granted: its work is that of its beginning, and its storage site has the version on which it was
-- granted.
pub record IsAsGranted (c : Config) (trace : List Line) (e : EpochId) (i : Serial) (m : Mode) (f : FileId) (stamp : Option Stamp) (ss : ℕ) : Type 0 where
  pub at : Open
  pub open_at : IsOpenAt c trace e i ss at
  pub file_is : at.grant.file ≡ f
  pub mode_is : at.grant.mode ≡ m
  pub work_is : at.work ≡ begun m stamp (stamped_content (history c (entries trace)) f stamp)
  pub holds : held_in c (entries trace) e ss f ≡ stamp

-- An open instance stands on what its storage site has: that is its last version, and what it has committed is the last.
pub record StandsOnHeld (c : Config) (trace : List Line) (e : EpochId) (x : Open) : Type 0 where
  pub last_is : x.work.last ≡ held_in c (entries trace) e x.grant.ss x.grant.file
  pub made : (stamp : Stamp) → x.work.committed ≡ Some stamp → x.work.last ≡ Some stamp

pub record StoreRests (c : Config) (trace : List Line) : Type 0 where
  -- the inode numbers of files have 16 bits
  pub narrow : (f : FileId) (stamp : Stamp) → Stands c trace f stamp → f.ino < inode_span
  -- who is in an epoch is one of sites 1 to 16
  pub places : (e : EpochId) (site : ℕ) → epoch_of (entries trace) site ≡ Some e → (1 ≤ site) × (site ≤ sites_max)
  -- calls are of sites 1 to 16
  pub sites : (e : EpochId) (d : CallId) → IsCallIn (entries trace) e d → d.site ≤ sites_max
  -- a call of an epoch is of the boot in which its site is a member
  pub boots : (e : EpochId) (d : CallId) (members : Members) → IsCallIn (entries trace) e d → members_of (entries trace) e ≡ Some members → boot_in members.boot d.site ≡ d.boot
  -- who is inside an epoch has in it what it has now
  pub inside : (e : EpochId) (site : ℕ) (f : FileId) → epoch_of (entries trace) site ≡ Some e → held_in c (entries trace) e site f ≡ held c (entries trace) site f
  -- a file that stands is held at the site in whose range its number is
  pub homes : (site : ℕ) (f : FileId) (stamp : Stamp) → Stands c trace f stamp → is_given_by site f.ino ≡ true → (now : Stamp) × (held c (entries trace) site f ≡ Some now)
  -- what was granted is begun by its storage site, or open as it was granted
  pub granted : (e : EpochId) (d : CallId) (request : ℕ) (i : Serial) (m : Mode) (f : FileId) (stamp : Option Stamp) (ss : ℕ) →
      WasGranted trace e d request i m f stamp ss → WasBegun trace ss e i f ⊎ IsAsGranted c trace e i m f stamp ss
  -- what was released isn't open
  pub released : (e : EpochId) (i : Serial) (x : Open) → WasReleased trace e i → instance_now c trace e i ≡ Some x → ⊥
  pub stands : (e : EpochId) (i : Serial) (x : Open) → instance_now c trace e i ≡ Some x → StandsOnHeld c trace e x
  -- and works over that version
  pub works : (e : EpochId) (i : Serial) (x : Open) → instance_now c trace e i ≡ Some x → Works (history c (entries trace)) x
  -- while the storage site of a make is in the epoch, what it makes has no version, or its call was the first to commit it
  pub first : (e : EpochId) (i : Serial) (x : Open) → instance_now c trace e i ≡ Some x → x.grant.mode ≡ mode.Make → epoch_of (entries trace) x.grant.ss ≡ Some e →
      ((stamp : Stamp) → Stands c trace x.grant.file stamp → ⊥) ⊎ (first_call c (entries trace) x.grant.file ≡ Some x.grant.call)

-- for each line that is told, where it may be told, packet facts stay
abbrev pub AllStays : Config → ℕ → List Line → List Told → Type 0
AllStays c n trace [] = Unit {0}
AllStays c n trace (x ∷ xs) = MayTell c trace x → AllStay c trace (record { number = n; told = x } ∷ trace) x × AllStays c n (record { number = n; told = x } ∷ trace) xs

-- An instance that owes a version isn't open only to read, and the counter of its site can rise.
pub record MayWrite (f : Frame) (i : Instance) : Type 0 where
  pub writes : i.work.owes ≡ true → is_read i.mode ≡ false
  pub unspent : is_spent f i ≡ false

-- What operations want beside.
pub record OpRests (c : Config) (trace : List Line) : Type 0 where
  -- who is in an epoch has joined it
  pub joined : (e : EpochId) (site : ℕ) → epoch_of (entries trace) site ≡ Some e → has_joined (entries trace) site e ≡ true
  -- what is open in a tree was granted in its group
  pub here : (e : EpochId) (group : ℕ) (i : Serial) (x : Open) → instance_in (tree_of c e group (entries trace)) i ≡ Some x → is_granted_here (tree_of c e group (entries trace)) i ≡ true
  -- operations of what is open are done up to its number
  pub done : (e : EpochId) (i : Serial) (number : ℕ) (o : Op) (r : Outcome) (x : Open) → WasDone trace e i number o r → instance_now c trace e i ≡ Some x → number ≤ x.work.ops
  -- who removes a name is the call that opened its directory
  pub removers : (e : EpochId) (i : Serial) (x : Open) (d : CallId) (number : ℕ) (name : List ℕ) (ino : ℕ) → instance_now c trace e i ≡ Some x → call_of_act (entries trace) e i number ≡ Some d → Asks c trace d (want.Do i (op.Remove name ino)) → d ≡ x.grant.call
  -- the inode numbers of what is open, at a site that is in the epoch, have 16 bits
  pub numbers : (e : EpochId) (i : Serial) (x : Open) → instance_now c trace e i ≡ Some x → epoch_of (entries trace) x.grant.ss ≡ Some e → x.grant.file.ino < inode_span

-- A mend here works on what the tree has kept: the contents of the kept versions of the directory, and the vectors of all that are kept
-- in the group.
pub record MendsAs (c : Config) (trace : List Line) (f : Frame) (file : FileId) (m : Mending) : Type 0 where
  pub contents : m.contents ≡ map (content_of (history c (entries trace)) file) (kept_of (history c (entries trace)) (tree_of c f.epoch file.group (entries trace)) file)
  pub kept : m.kept ≡ kept_vectors (history c (entries trace)) (tree_of c f.epoch file.group (entries trace))

-- a mend is refused for a count of its rescue that is at its end
abbrev pub IsSpentMend : Op → Outcome → Type 0
IsSpentMend op.Mend (outcome.No refusal.Spent) = Unit {0}
IsSpentMend o r = ⊥

abbrev pub UnspentRecord : Record → Type 0
UnspentRecord (says.Act e inst n o r) = IsSpentMend o r → ⊥
UnspentRecord _ = Unit {0}

-- no mend is told to be refused so
abbrev pub UnspentTold : Told → Type 0
UnspentTold (Shown r) = UnspentRecord r
UnspentTold _ = Unit {0}

-- What an adoption wants beside: a version that has a lower vector is an ancestor; and where an instance of the file is open at this
-- site, the version isn't above what the site has.
pub record AdoptRests (c : Config) (trace : List Line) (f : Frame) (p : Pull) : Type 0 where
  pub below : (old : Stamp) → Stands c trace p.file old → is_below (vector_of (history c (entries trace)) p.file old) (vector_of (history c (entries trace)) p.file p.stamp) ≡ true → is_proper_ancestor (history c (entries trace)) p.file old p.stamp ≡ true
  pub open_on : (x : Open) → Among x (tree_of c f.epoch p.file.group (entries trace)).instances → is_stored_at f.me p.file x ≡ true → is_above (history c (entries trace)) p.file (held c (entries trace) f.me p.file) p.stamp ≡ true → ⊥
