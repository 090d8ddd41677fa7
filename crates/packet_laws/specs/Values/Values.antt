-- What a site has, as far as packets may carry it: each value is of its format, and each site that is named is a member.
use Rattle.std.specs.Prelude.{is_some, ℕ, ◌≡◌, Bool, true, false, ◌≤◌, ◌<◌, ◌^◌, ◌+◌, List, [], ◌∷◌, length, Option, None, Some}
use Rattle.locus_ids.specs.Sites.{has}
use Rattle.locus_ids.specs.declared.ids.Stamp.{Stamp}
use Rattle.locus_ids.specs.declared.config.Config.{Config}
use Rattle.locus_ids.specs.declared.sites.Members.{Members}
use Rattle.locus_ids.specs.Sizes.{file_bytes_max}
use Rattle.trace_book.specs.Messages.{message_name}
use Rattle.trace_book.specs.Names.{is_name}
use Rattle.trace_book.specs.declared.call.Call.{Call}
use Rattle.trace_book.specs.declared.call.Call.TheVariants as call
use Rattle.trace_book.specs.declared.operation.Op.{Op}
use Rattle.trace_book.specs.declared.operation.Op.TheVariants as op
use Rattle.trace_book.specs.declared.operation.Outcome.{Outcome as Result}
use Rattle.trace_book.specs.declared.operation.Outcome.TheVariants as result
use Rattle.trace_book.specs.declared.descriptor.OneVersion.{OneVersion}
use Rattle.trace_book.specs.declared.descriptor.Beginning.{Beginning}
use Rattle.trace_book.specs.declared.descriptor.Beginning.TheVariants as begins
use Rattle.schedule_lines.specs.Ranges.{fits_call}
use Rattle.call_rules.specs.Scripts.{wants}
use Rattle.call_rules.specs.declared.answer.Answer.{Answer}
use Rattle.call_rules.specs.declared.answer.Answer.TheVariants as answer
use Rattle.call_rules.specs.declared.want.Want.{Want}
use Rattle.call_rules.specs.declared.want.Want.TheVariants as want
use Rattle.dir_format.specs.Entries.{IsEntry, nothing_seen}
use Rattle.dir_format.specs.Lookups.{shown_names}
use Rattle.dir_format.specs.declared.entry.Entry.{Entry}
use Rattle.wire_fields.specs.Parts.{components, processes, inodes, sizes, files, files_or_new, some_set, stamps, ascending_stamps, vectors}
use Rattle.wire_fields.specs.declared.asked.Asked.TheVariants as asked
use Rattle.wire_fields.specs.declared.asked.Gave.TheVariants as gave
use Rattle.wire_fields.specs.Operations.{ops, outcomes, whats}
use Rattle.wire_fields.specs.Refusals.{refusals}
use Rattle.wire_messages.specs.Answers.{is_new, openings, versions, made_answers, close_answers}
use Rattle.wire_messages.specs.declared.body.Body.{Body}
use Rattle.wire_messages.specs.declared.body.Body.TheVariants as body
use Rattle.wire_messages.specs.declared.body.Granted.TheVariants as granted
use Rattle.wire_messages.specs.declared.packet.Packet.{Packet}
use Rattle.role_steps.specs.Adoption.{table_group}
use Rattle.role_steps.specs.Own.{Every}
use Rattle.role_steps.specs.Reports.{with_report}
use Rattle.role_steps.specs.Tables.{row}
use Rattle.role_steps.specs.Opens.{stamp_or_none}
use Rattle.role_steps.specs.Requests.{made_for, opening_of}
use Rattle.role_steps.specs.Storage.{copy_key}
use Rattle.role_steps.specs.Pulling.{wanted_pages}
use Rattle.role_steps.specs.Versions.{stamps_of}
use Rattle.role_steps.specs.Views.{boot_in, pack_sites, sync_site, SiteView, Store, Users}
use Rattle.role_steps.specs.declared.copies.FileCopy.{FileCopy}
use Rattle.role_steps.specs.declared.instances.Instance.{Instance}
use Rattle.role_steps.specs.declared.instances.Stage.{Stage}
use Rattle.role_steps.specs.declared.instances.Stage.TheVariants as stage
use Rattle.role_steps.specs.declared.pulls.Pull.{Pull}
use Rattle.role_steps.specs.declared.rounds.InEpoch.{InEpoch}
use Rattle.role_steps.specs.declared.synchronizing.Early.{Early}
use Rattle.role_steps.specs.declared.synchronizing.FileRow.{FileRow}
use Rattle.role_steps.specs.declared.synchronizing.Holding.{Holding}
use Rattle.role_steps.specs.declared.synchronizing.LastLook.{LastLook}
use Rattle.role_steps.specs.declared.synchronizing.OpenRow.{OpenRow}
use Rattle.role_steps.specs.declared.synchronizing.OpenStage.{OpenStage}
use Rattle.role_steps.specs.declared.synchronizing.OpenStage.TheVariants as state
use Rattle.role_steps.specs.declared.synchronizing.SyncTable.{SyncTable}
use Rattle.role_steps.specs.declared.synchronizing.VersionRow.{VersionRow}
use Rattle.role_steps.specs.declared.users.Asking.{Asking}
use Rattle.role_steps.specs.declared.users.Asking.TheVariants as asking
use Rattle.role_steps.specs.declared.users.UserInstance.{UserInstance}
use Rattle.role_steps.specs.declared.users.DescriptorRow.{DescriptorRow}
use Rattle.role_steps.specs.declared.users.WaitingCall.{WaitingCall}
use Rattle.packet_laws.specs.Values.Bodies.{IsNamed, FitsBut, IsListed, NamesListed}

-- ---- packets ----

-- the packet is for a member, its body is of the format but for its counts, and names members
pub record SentFits (boots : List ℕ) (p : Packet) : Type 0 where
  pub to : IsListed boots p.to
  pub boot : p.to_boot ≡ boot_in boots p.to
  pub body : FitsBut p.body
  pub names : NamesListed boots p.body

-- ---- the storage site ----

pub record CopyFits (x : FileCopy) : Type 0 where
  pub file : files.Fits x.file
  pub set : some_set.Fits x.set
  pub size : sizes.Fits (length x.content)
  pub version : versions.Fits (x.stamp, x.vector)

-- the copies stand by ascending files, each file once, from this key on
abbrev pub RisesFrom : ℕ → List FileCopy → Type 0
RisesFrom least [] = Unit {0}
RisesFrom least (x ∷ xs) = (least ≤ copy_key x) × RisesFrom (copy_key x + 1) xs

pub record CopiesFit (xs : List FileCopy) : Type 0 where
  pub each : Every CopyFits xs
  pub rise : RisesFrom 0 xs

abbrev pub StampIfAny : Option Stamp → Type 0
StampIfAny None = Unit {0}
StampIfAny (Some s) = stamps.Fits s

abbrev pub VersionIfAny : Option Stamp → List ℕ → Type 0
VersionIfAny None vector = Unit {0}
VersionIfAny (Some s) vector = versions.Fits (s, vector)

abbrev pub ResultIfAny : Option Result → Type 0
ResultIfAny None = Unit {0}
ResultIfAny (Some r) = outcomes.Fits (gave.Outcome r)

abbrev pub StageFits : Stage → Type 0
StageFits stage.Running = Unit {0}
StageFits (stage.Closing made a) = made_answers.Fits made × close_answers.Fits a
StageFits (stage.Closed a) = close_answers.Fits a

pub record InstanceFits (boots : List ℕ) (i : Instance) : Type 0 where
  pub named : IsNamed i.inst
  pub listed : IsListed boots i.inst.us
  pub file : files.Fits i.file
  pub set : some_set.Fits i.set
  pub vector : vectors.Fits i.vector
  pub size : sizes.Fits i.size
  pub content : sizes.Fits (length i.work.content)
  pub last : StampIfAny i.work.last
  pub committed : VersionIfAny i.work.committed i.vector
  pub answered : ResultIfAny i.answered
  pub stage : StageFits i.stage

pub record StoreFits (boots : List ℕ) (s : Store) : Type 0 where
  pub copies : CopiesFit s.copies
  pub instances : Every (InstanceFits boots) s.instances

-- ---- the using site ----

-- The words of a call with what it began on: those of a line, or a mend of some file. A write on a descriptor doesn't end past the
-- greatest size, and the name of a message is one.
abbrev pub CallFits : Config → Call → Beginning → Type 0
CallFits c (call.Mend file) b = files.Fits file
CallFits c (call.Write fd at bytes) (begins.Uses e inst) = (1 ≤ length bytes) × (length bytes ≤ 4096) × (at + length bytes ≤ file_bytes_max)
CallFits c (call.Read fd at len) (begins.Reopens kept last) = (fits_call c.sites (call.Read fd at len) ≡ true) × files.Fits kept.file
CallFits c (call.Mail path bytes) (begins.Walks id) = (fits_call c.sites (call.Mail path bytes) ≡ true) × (is_name (message_name id) ≡ true)
CallFits c words b = fits_call c.sites words ≡ true

-- what a call has been answered
abbrev pub AnswerFits : Answer → Type 0
AnswerFits (answer.Entered ino kind) = inodes.Fits ino
AnswerFits (answer.Opened inst ino) = inodes.Fits ino
AnswerFits (answer.Reading inst version) = files.Fits version.file
AnswerFits (answer.Merging inst kept) = Every stamps.Fits kept
AnswerFits (answer.Did (result.Found ino kind)) = inodes.Fits ino
AnswerFits _ = Unit {0}

-- a remove has seen a vector, and each other operation nothing
abbrev pub OpFits : Op → Type 0
OpFits (op.Remove name ino) = (vector : List ℕ) → vectors.Fits vector → ops.Fits (asked.Op (op.Remove name ino) vector)
OpFits o = ops.Fits (asked.Op o nothing_seen)

-- what a call may want
abbrev pub WantFits : Config → Want → Type 0
WantFits c (want.Look file what) = files.Fits file × whats.Fits what
WantFits c (want.Open file mode) = files.Fits file × (openings false).Fits (opening_of mode)
WantFits c (want.OpenToMend file) = files.Fits file
WantFits c (want.Make group kind set) = (group < 2 ^ 8) × some_set.Fits (made_for c group set)
WantFits c (want.Do inst o) = OpFits o
WantFits c _ = Unit {0}

-- a group of which some site has a pack
abbrev pub PackFits : Config → ℕ → Type 0
PackFits c group = (group < 2 ^ 8) × some_set.Fits (pack_sites c group)

-- each group of which some member has a pack is such
abbrev pub PacksFit : Config → Type 0
PacksFit c = (members : Members) (group : ℕ) → is_some (sync_site c members group) ≡ true → PackFits c group

-- whatever a call wants is of the format
abbrev pub ScriptsFit : Config → Type 0
ScriptsFit c = (packed : ℕ → Bool) (free : Option ℕ) (words : Call) (b : Beginning) (answers : List Answer) → ((group : ℕ) → packed group ≡ true → PackFits c group) → CallFits c words b → Every AnswerFits answers → WantFits c (wants c.mounts packed free words b answers)

abbrev pub AskingFits : List ℕ → Asking → Type 0
AskingFits boots (asking.Look file what take) = files.Fits file × whats.Fits what
AskingFits boots (asking.Open serial file it) = (1 ≤ serial) × files_or_new.Fits file × (openings (is_new file)).Fits it
AskingFits boots (asking.Op serial ss number o seen) = (1 ≤ serial) × IsListed boots ss × ops.Fits (asked.Op o seen)
AskingFits boots (asking.Close serial ss) = (1 ≤ serial) × IsListed boots ss

pub record WaitingFits (c : Config) (boots : List ℕ) (w : WaitingCall) : Type 0 where
  pub process : processes.Fits w.process
  pub words : CallFits c w.words w.begins
  pub answers : Every AnswerFits w.answers
  pub asking : AskingFits boots w.asking

pub record HasOpen (boots : List ℕ) (i : UserInstance) : Type 0 where
  pub serial : 1 ≤ i.serial
  pub ss : IsListed boots i.ss
  pub vector : vectors.Fits i.vector

-- the version that a steady descriptor keeps is of a file
abbrev pub KeptFits : Option OneVersion → Type 0
KeptFits None = Unit {0}
KeptFits (Some version) = files.Fits version.file

abbrev pub DescriptorFits : DescriptorRow → Type 0
DescriptorFits d = KeptFits d.descriptor.steady

pub record UsersFit (c : Config) (boots : List ℕ) (u : Users) : Type 0 where
  pub waiting : Every (WaitingFits c boots) u.waiting
  pub instances : Every (HasOpen boots) u.instances
  pub descriptors : Every DescriptorFits u.descriptors

-- the names that a directory shows are components
abbrev pub ShownFit : Type 0
ShownFit = (ds : List Entry) → Every IsEntry ds → Every components.Fits (shown_names ds)

-- ---- the synchronization site ----

pub record VersionFits (v : VersionRow) : Type 0 where
  pub version : versions.Fits (v.stamp, v.vector)
  pub size : sizes.Fits v.size

abbrev pub HolderFits : List ℕ → Holding → Type 0
HolderFits boots h = IsListed boots h.site × stamps.Fits h.stamp

pub record FileFits (boots : List ℕ) (r : FileRow) : Type 0 where
  pub ino : inodes.Fits r.ino
  pub set : some_set.Fits r.set
  pub versions : Every VersionFits r.versions
  pub keeps : Every VersionFits r.kept
  pub holders : Every (HolderFits boots) r.holders

-- what the storage site is asked, and what the using site is answered
abbrev pub OpenFits : List ℕ → OpenRow → OpenStage → Type 0
OpenFits boots r state.Asked = IsListed boots r.ss × FitsBut (body.OpenSs r.inst r.file r.mode r.set r.kind (stamp_or_none r.stamp) r.vector r.parents)
OpenFits boots r state.Granted = IsListed boots r.ss × some_set.Fits r.set × FitsBut (body.OpenDone r.inst.serial (granted.Open r.ss r.file.ino r.size (stamp_or_none r.stamp) r.vector))
OpenFits boots r (state.Refused why) = refusals.Fits why
OpenFits boots r state.Ended = Unit {0}

pub record OpenRowFits (boots : List ℕ) (r : OpenRow) : Type 0 where
  pub named : IsNamed r.inst
  pub listed : IsListed boots r.inst.us
  pub process : processes.Fits r.process
  pub stage : OpenFits boots r r.stage

pub record LookFits (boots : List ℕ) (l : LastLook) : Type 0 where
  pub to : IsListed boots l.to
  pub body : FitsBut l.body
  pub names : NamesListed boots l.body

pub record EarlyFits (boots : List ℕ) (e : Early) : Type 0 where
  pub site : IsListed boots e.site
  pub body : FitsBut e.body

pub record TableFits (boots : List ℕ) (t : SyncTable) : Type 0 where
  pub group : t.group < 2 ^ 8
  pub early : Every (EarlyFits boots) t.early
  pub files : Every (FileFits boots) t.files
  pub opens : Every (OpenRowFits boots) t.opens
  pub looks : Every (LookFits boots) t.looks

-- the stamps of the versions that are kept of a file ascend, and there are fewer than 256
abbrev pub KeptFit : SyncTable → Type 0
KeptFit t = Every (λ (r : FileRow). ascending_stamps.Fits (stamps_of r.kept)) t.files

-- ---- a site that pulls ----

-- the number of a page that a Pull may ask
abbrev pub IsPage : ℕ → Type 0
IsPage page = page < 2 ^ 8

pub record PullFits (boots : List ℕ) (p : Pull) : Type 0 where
  pub file : files.Fits p.file
  pub set : some_set.Fits p.set
  pub size : sizes.Fits p.size
  pub version : versions.Fits (p.stamp, p.vector)
  pub holder : IsListed boots p.holder
  pub base : StampIfAny p.base
  pub pages : Every IsPage (wanted_pages p)

-- ---- the site ----

-- the boots of the members of the epoch, none outside
abbrev pub boots_in : Option InEpoch → List ℕ
boots_in None = []
boots_in (Some e) = e.members.boot

pub record SiteValues (c : Config) (boots : List ℕ) (v : SiteView) : Type 0 where
  pub store : StoreFits boots v.store
  pub users : UsersFit c boots v.users
  pub tables : Every (TableFits boots) v.tables
  pub pulls : Every (PullFits boots) v.pulls
  pub reports : Every (λ (g : ℕ). g < 2 ^ 8) v.reports

-- ---- what is premised of the cluster, its calls and its directories ----

pub record Grounds (c : Config) : Type 0 where
  pub scripts : ScriptsFit c
  pub packs : PacksFit c
  pub shown : ShownFit

-- the versions that are kept where the site takes this packet
abbrev pub KeptAt : SiteView → ℕ → Body → Type 0
KeptAt v from (body.Report group copies) = (t : SyncTable) → row table_group group v.tables ≡ Some t → has t.reported from ≡ false → KeptFit (with_report from copies t)
KeptAt v from (body.Open serial call process request file it) = (t : SyncTable) → row table_group file.group v.tables ≡ Some t → KeptFit t
KeptAt v from _ = Unit {0}
