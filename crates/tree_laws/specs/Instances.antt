-- Instances as the one tree has them: open at a storage site, with their work; and the numbers that makes reserve.
use Rattle.std.specs.Prelude.{ℕ, ◌≡◌, ◌⊎◌, true, List, Option, Some}
use Rattle.locus_ids.specs.declared.config.Config.{Config}
use Rattle.locus_ids.specs.declared.ids.CallId.{CallId}
use Rattle.locus_ids.specs.declared.ids.EpochId.{EpochId}
use Rattle.locus_ids.specs.declared.ids.FileId.{FileId}
use Rattle.locus_ids.specs.declared.ids.Serial.{Serial}
use Rattle.locus_ids.specs.declared.ids.Stamp.{Stamp}
use Rattle.commit_graph.specs.Versions.{is_ancestor, is_in}
use Rattle.call_rules.specs.declared.want.Want.{Want}
use Rattle.call_rules.specs.declared.want.Want.TheVariants as want
use Rattle.the_run.specs.of_wire_messages.declared.body.Opening.{Opening}
use Rattle.the_run.specs.of_wire_messages.declared.body.Opening.TheVariants as how
use Rattle.the_run.specs.of_role_steps.Requests.{opening_of, made_for}
use Rattle.the_run.specs.Worlds.{Line}
use Rattle.lawful_trace.specs.of_tree_model.declared.instance.Instance.{Instance}
use Rattle.lawful_trace.specs.of_tree_model.Files.{HeldVersion, version_of}
use Rattle.lawful_trace.specs.of_tree_model.Histories.{history}
use Rattle.lawful_trace.specs.of_tree_model.Opening.{is_given_by}
use Rattle.lawful_trace.specs.of_tree_model.State.{instance_in, has_stamp, held_at}
use Rattle.lawful_trace.specs.of_tree_model.Folds.{Trace}
use Rattle.lawful_trace.specs.of_tree_model.Tree.{tree_of, candidates}
use Rattle.lawful_trace.specs.TreeRows.{IsCallIn, granted_group}
use Rattle.tree_laws.specs.Printed.{entries}
use Rattle.tree_laws.specs.Calls.{Asks, request_number}
use Rattle.tree_laws.specs.Past.{WasReserved}
use Rattle.tree_laws.specs.Serials.{serial_asked}

-- the open instance of the epoch under this serial number, in whichever group it was granted
abbrev pub instance_now : Config → List Line → EpochId → Serial → Option Instance
instance_now c trace e i = instance_in (tree_of c e (granted_group (entries trace) e i) (entries trace)) i

-- it is open at this storage site
pub record IsOpenAt (c : Config) (trace : List Line) (e : EpochId) (i : Serial) (ss : ℕ) (x : Instance) : Type 0 where
  pub found : instance_now c trace e i ≡ Some x
  pub place : x.grant.ss ≡ ss

-- ---- what calls ask of instances ----

-- the request is this open
abbrev pub IsOpening : Config → Want → FileId → Opening → Type 0
IsOpening c (want.Open file m) f it = (f ≡ file) × (it ≡ opening_of m)
IsOpening c (want.OpenToMend file) f it = (f ≡ file) × (it ≡ how.Mend)
IsOpening c (want.Make group kind sites) f it = (f.group ≡ group) × (f.ino ≡ 0) × (it ≡ how.Make (made_for c group sites) kind)
IsOpening c _ f it = ⊥

-- The call asks this open now, in an epoch, under this serial number.
pub record AsksOpen (c : Config) (trace : List Line) (e : EpochId) (d : CallId) (request serial : ℕ) (f : FileId) (it : Opening) : Type 0 where
  pub wanted : Want
  pub asks : Asks c trace d wanted
  pub opening_is : IsOpening c wanted f it
  pub inside : IsCallIn (entries trace) e d
  pub request_is : request ≡ request_number trace d
  pub serial_is : serial ≡ serial_asked c trace d

-- ---- versions ----

-- the version that the site has of the file in the epoch: it stays what it was when the site left
abbrev pub held_in : Config → Trace → EpochId → ℕ → FileId → Option Stamp
held_in c before e site f = held_at (tree_of c e f.group before) site f.ino

-- the file has a version with this stamp
abbrev pub Stands : Config → List Line → FileId → Stamp → Type 0
Stands c trace f stamp = is_in (history c (entries trace)) f stamp ≡ true

-- The file has this version, and these are its kind, its set, its written vector and its content.
pub record IsVersion (c : Config) (trace : List Line) (f : FileId) (v : HeldVersion) : Type 0 where
  pub stands : Stands c trace f v.stamp
  pub same : v ≡ version_of c (entries trace) f v.stamp

-- it was brought to the epoch or published in it
abbrev pub IsKnown : Config → List Line → EpochId → FileId → Stamp → Type 0
IsKnown c trace e f stamp = has_stamp (candidates c (entries trace) e f) stamp ≡ true

-- what the site has in the epoch is this version or one above it
pub record HasAtLeast (c : Config) (trace : List Line) (e : EpochId) (site : ℕ) (f : FileId) (stamp : Stamp) : Type 0 where
  pub now : Stamp
  pub held : held_in c (entries trace) e site f ≡ Some now
  pub above : is_ancestor (history c (entries trace)) f stamp now ≡ true

abbrev pub IsStarted : Config → List Line → EpochId → ℕ → Type 0
IsStarted c trace e group = (tree_of c e group (entries trace)).started ≡ true

-- ---- numbers of new files ----

-- the number is one that the site may give, and it is held there in the epoch, or reserved there
abbrev pub IsUsed : Config → List Line → EpochId → ℕ → FileId → Type 0
IsUsed c trace e ss f = ((stamp : Stamp) × (held_in c (entries trace) e ss f ≡ Some stamp)) ⊎ ((i : Serial) × WasReserved trace ss e i f)

-- all numbers of the site are used, but for that of a root, which no make gets
abbrev pub IsFull : Config → List Line → EpochId → ℕ → ℕ → Type 0
IsFull c trace e ss group = (f : FileId) → f.group ≡ group → is_given_by ss f.ino ≡ true → IsUsed c trace e ss f
