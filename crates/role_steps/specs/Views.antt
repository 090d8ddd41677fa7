-- What a site has in memory and on its disk, and what an event of it gives.
use Rattle.std.specs.Prelude.{ℕ, zero, suc, ◌+◌, ◌*◌, ◌==◌, not, Bool, List, [], ◌∷◌, ◌++◌, Option, Some, None, get_or, filter, slice_index_or, ◌&&◌}
use Rattle.locus_ids.specs.Sites.{has}
use Rattle.locus_ids.specs.declared.ids.EpochId.{EpochId}
use Rattle.locus_ids.specs.declared.ids.FileId.{FileId}
use Rattle.locus_ids.specs.declared.ids.Serial.{Serial}
use Rattle.locus_ids.specs.declared.ids.CallId.{CallId}
use Rattle.locus_ids.specs.declared.ids.Stamp.{Stamp}
use Rattle.locus_ids.specs.declared.sites.Members.{Members}
use Rattle.locus_ids.specs.declared.sites.Sites.{Sites}
use Rattle.locus_ids.specs.declared.config.Config.{Config}
use Rattle.locus_ids.specs.Sizes.{inode_span}
use Rattle.wire_messages.specs.of_trace_book.declared.call.Call.{Call}
use Rattle.wire_messages.specs.of_trace_book.declared.record.Record.{Record}
use Rattle.call_rules.specs.declared.answer.Answer.{Answer}
use Rattle.wire_messages.specs.declared.packet.Packet.{Packet}
use Rattle.wire_messages.specs.declared.body.Body.{Body}
use Rattle.page_cache.specs.Cached.{CachedPages}
use Rattle.role_steps.specs.declared.copies.FileCopy.{FileCopy}
use Rattle.role_steps.specs.declared.copies.Step.{Step}
use Rattle.role_steps.specs.declared.instances.Instance.{Instance}
use Rattle.role_steps.specs.declared.pulls.Pull.{Pull}
use Rattle.role_steps.specs.declared.rounds.InEpoch.{InEpoch}
use Rattle.role_steps.specs.declared.rounds.Round.{Round}
use Rattle.role_steps.specs.declared.synchronizing.SyncTable.{SyncTable}
use Rattle.role_steps.specs.declared.users.UserInstance.{UserInstance}
use Rattle.role_steps.specs.declared.users.WaitingCall.{WaitingCall}
use Rattle.role_steps.specs.declared.users.DescriptorRow.{DescriptorRow}
pub use Rattle.call_rules.specs.of_commit_graph.Vectors.{all_sites}

-- the last commits and adoptions of a file at a site, the latest first
pub record FileSteps : Type 0 where
  pub file : FileId
  pub steps : List Step

-- what the storage site of a site has: its copies are durable, its instances and what it remembers are of the epoch that it is in
pub record Store : Type 0 where
  pub copies : List FileCopy
  pub instances : List Instance
  pub steps : List FileSteps

-- what the using site has; the numbers and the descriptors last through all epochs of one boot
pub record Users : Type 0 where
  pub calls : ℕ  -- calls accepted
  pub serials : ℕ  -- opens asked
  pub waiting : List WaitingCall
  pub instances : List UserInstance
  pub descriptors : List DescriptorRow
  pub hopeless : List FileId  -- directories whose mend was refused for want of room in this epoch
  pub cache : CachedPages  -- pages of versions that were read in this boot

pub record SiteView : Type 0 where
  pub boot : ℕ
  pub promised : EpochId
  pub installed : Bool  -- the promised id was joined or is the first one
  pub round : Option Round
  pub epoch : Option InEpoch
  pub installs : List ℕ  -- members that haven't answered Joined
  pub reports : List ℕ  -- groups whose report isn't answered
  pub tables : List SyncTable
  pub store : Store
  pub users : Users
  pub pulls : List Pull

-- What is told: a printed record, or one that only the laws see. The site comes first.
pub data Told : Type 0 where
  Shown : Record → Told
  -- the site promises the id, with what it reaches
  Promises : ℕ → EpochId → Sites → Told
  -- the process takes the answer to this request and take of its call
  Takes : ℕ → CallId → ℕ → ℕ → Answer → Told
  -- the version was there no more, and the process asks its look again with this take
  LooksAgain : ℕ → CallId → ℕ → ℕ → Told
  -- the storage site opens an instance of the file
  Begins : ℕ → EpochId → Serial → FileId → Told
  -- the storage site begins to close the instance
  Shuts : ℕ → EpochId → Serial → Told
  -- the storage site reserves the number of the file for the instance that makes it
  Reserves : ℕ → EpochId → Serial → FileId → Told

-- a version that is written to the disk: the new copy, the pages of it that are written, ascending, and the record of it
pub record DiskWrite : Type 0 where
  pub copy : FileCopy
  pub pages : List ℕ
  pub says : Record

-- what an event, or a part of it, gives: the view after it, packets, what is told, and what is written
pub record Outcome (V : Type 0) : Type 0 where
  pub view : V
  pub sent : List Packet
  pub told : List Told
  pub written : Option DiskWrite

-- an event of a site; packets are those that its frame lets through
pub data Event : Type 0 where
  Calls : ℕ → Call → Event
  Receives : Packet → Event
  Ticks : Event
  Parts : Event
  Merges : Event
  GivesUp : Event

-- ---- how outcomes are made ----

abbrev pub quiet : {V : Type 0} → V → Outcome V
quiet v = record { view = v; sent = []; told = []; written = None }

abbrev pub sends : {V : Type 0} → List Packet → V → Outcome V
sends ps v = record { view = v; sent = ps; told = []; written = None }

abbrev pub tells : {V : Type 0} → List Told → V → Outcome V
tells told v = record { view = v; sent = []; told = told; written = None }

abbrev pub first_written : Option DiskWrite → Option DiskWrite → Option DiskWrite
first_written None later = later
first_written (Some w) later = Some w

abbrev pub joined_to : {V W : Type 0} → Outcome V → Outcome W → Outcome W
joined_to o p = record { view = p.view; sent = o.sent ++ p.sent; told = o.told ++ p.told; written = first_written o.written p.written }

-- one thing, and then another
abbrev pub and_then : {V W : Type 0} → Outcome V → (V → Outcome W) → Outcome W
and_then o f = joined_to o (f o.view)

-- the outcome of a part, as that of the whole around it
abbrev pub within : {V W : Type 0} → (V → W) → Outcome V → Outcome W
within whole o = record { view = whole o.view; sent = o.sent; told = o.told; written = o.written }

-- ---- sites and groups ----

-- what a role sends in an epoch: the cluster, the site with its boot number, the epoch and its members
pub record Frame : Type 0 where
  pub config : Config
  pub me : ℕ
  pub boot : ℕ
  pub epoch : EpochId
  pub members : Members

-- the boot number of a site in a list of members; 0 for none
abbrev pub boot_in : List ℕ → ℕ → ℕ
boot_in boots zero = 0
boot_in boots (suc place) = get_or boots place 0

abbrev pub is_member : Members → ℕ → Bool
is_member members site = not (boot_in members.boot site == 0)

abbrev pub all_groups : List ℕ
all_groups = 0 ∷ 1 ∷ 2 ∷ 3 ∷ []

-- the sites that have a pack of the group
abbrev pub pack_sites : Config → ℕ → Sites
pack_sites c group = slice_index_or c.packs group (record { 0 = 0 })

-- the members of a set of sites, ascending
abbrev pub members_of : Members → Sites → List ℕ
members_of members set = filter (λ s. has set s && is_member members s) all_sites

abbrev pub first_site : List ℕ → Option ℕ
first_site [] = None
first_site (s ∷ ss) = Some s

-- the synchronization site of a group is the lowest-numbered member that has a pack of it
abbrev pub sync_site : Config → Members → ℕ → Option ℕ
sync_site c members group = first_site (members_of members (pack_sites c group))

-- a packet to a member
abbrev pub packet : Frame → ℕ → Body → Packet
packet f to body = record { from = f.me; from_boot = f.boot; to = to; to_boot = boot_in f.members.boot to; epoch = f.epoch; body = body }

abbrev pub to_some : Frame → Body → Option ℕ → List Packet
to_some f body None = []
to_some f body (Some to) = packet f to body ∷ []

-- a packet to the synchronization site of a group
abbrev pub to_sync : Frame → ℕ → Body → List Packet
to_sync f group body = to_some f body (sync_site f.config f.members group)

-- ---- keys of tables ----

abbrev pub file_key : FileId → ℕ
file_key file = file.group * inode_span + file.ino

abbrev pub stamp_key : Stamp → ℕ
stamp_key stamp = stamp.site * 4294967296 + stamp.n

abbrev pub serial_key : Serial → ℕ
serial_key inst = inst.serial * 256 + inst.us

-- a site and a process
abbrev pub process_key : ℕ → ℕ → ℕ
process_key site process = site * 256 + process
