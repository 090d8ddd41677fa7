-- What packets, views and the trace carry of instances, over a book.
use Rattle.std.specs.Prelude.{ℕ, ◌≡◌, ◌≤◌, ◌+◌, ◌⊎◌, true, List, [], ◌∷◌, Option, Some, None}
use Rattle.locus_ids.specs.declared.ids.EpochId.{EpochId}
use Rattle.locus_ids.specs.declared.ids.FileId.{FileId}
use Rattle.locus_ids.specs.declared.ids.Serial.{Serial}
use Rattle.locus_ids.specs.declared.ids.Mode.{Mode}
use Rattle.locus_ids.specs.declared.ids.Mode.TheVariants as mode
use Rattle.locus_ids.specs.declared.sites.Members.{Members}
use Rattle.locus_ids.specs.declared.config.Config.{Config}
use Rattle.locus_ids.specs.Sizes.{sites_max}
use Rattle.trace_book.specs.declared.record.Record.{Record}
use Rattle.trace_book.specs.declared.record.Record.TheVariants as says
use Rattle.wire_messages.specs.declared.packet.Packet.{Packet}
use Rattle.wire_messages.specs.declared.body.Body.{Body}
use Rattle.wire_messages.specs.declared.body.Body.TheVariants as body
use Rattle.wire_messages.specs.declared.body.Opening.{Opening}
use Rattle.wire_messages.specs.declared.body.OpenedAs.{OpenedAs}
use Rattle.wire_messages.specs.declared.body.OpenedAs.TheVariants as opened
use Rattle.role_steps.specs.Own.{Every}
use Rattle.role_steps.specs.Views.{Frame, Store, Users, SiteView, Told, Shown, Begins, Outcome, boot_in, serial_key, sync_site}
use Rattle.role_steps.specs.Epochs.{is_epoch_below, frame_in}
use Rattle.role_steps.specs.Opens.{mode_of, open_row}
use Rattle.role_steps.specs.Storage.{instance_of}
use Rattle.role_steps.specs.declared.instances.Instance.{Instance}
use Rattle.role_steps.specs.declared.rounds.InEpoch.{InEpoch}
use Rattle.role_steps.specs.declared.rounds.Round.{Round}
use Rattle.role_steps.specs.declared.synchronizing.SyncTable.{SyncTable}
use Rattle.role_steps.specs.declared.synchronizing.OpenRow.{OpenRow}
use Rattle.role_steps.specs.declared.synchronizing.OpenStage.{OpenStage}
use Rattle.role_steps.specs.declared.synchronizing.OpenStage.TheVariants as stage
use Rattle.role_steps.specs.declared.synchronizing.LastLook.{LastLook}
use Rattle.role_steps.specs.declared.synchronizing.Early.{Early}
use Rattle.role_steps.specs.declared.users.Asking.{Asking}
use Rattle.role_steps.specs.declared.users.Asking.TheVariants as asking
use Rattle.role_steps.specs.declared.users.WaitingCall.{WaitingCall}
use Rattle.the_run.specs.Kept.{Among}
use Rattle.the_run.specs.Laws.{boot_number}
use Rattle.the_run.specs.Worlds.{World, Place, Running, Numbered, place_at}
use Rattle.site_laws.specs.Vectors.Written.{past_of}
use Rattle.site_laws.specs.Packs.InstanceBook.{Note, Listed, Asked, Placed, Began, Book, IsOf, AskedBy, IsFor, Sound, Grown}

-- ---- packets ----

-- the receiver was chosen for an open that was asked of this file
pub record OpenSsFact (book : Book) (e : EpochId) (to to_boot : ℕ) (inst : Serial) (file : FileId) (m : Mode) : Type 0 where
  pub members : Members
  pub listed : Among (Listed e members) book
  pub how : Opening
  pub asked : AskedBy book members inst file how
  pub mode_is : mode_of how ≡ m
  pub css : ℕ
  pub css_boot : ℕ
  pub placed : Among (Placed e inst file.group css css_boot to) book
  pub boot_is : to_boot ≡ boot_in members.boot to

-- an instance of this key was begun on a file with this inode
pub record OpenedFact (book : Book) (e : EpochId) (inst : Serial) (ino : ℕ) : Type 0 where
  pub ss : ℕ
  pub boot : ℕ
  pub file : FileId
  pub began : Among (Began e inst ss boot file) book
  pub ino_is : file.ino ≡ ino

-- an instance of this key was asked to be made
pub record MakeAsked (book : Book) (e : EpochId) (inst : Serial) : Type 0 where
  pub members : Members
  pub listed : Among (Listed e members) book
  pub file : FileId
  pub how : Opening
  pub asked : AskedBy book members inst file how
  pub make : mode_of how ≡ mode.Make

-- only a make finds that it can't be begun
abbrev pub AnswerFact : Book → EpochId → Serial → OpenedAs → Type 0
AnswerFact book e inst (opened.Open ino size) = OpenedFact book e inst ino
AnswerFact book e inst (opened.No why) = MakeAsked book e inst

abbrev pub BodyFact : Book → Packet → Body → Type 0
BodyFact book p (body.Install members) = Among (Listed p.epoch members) book
BodyFact book p (body.Open serial call process request file how) = Among (Asked p.from p.from_boot serial file how) book
BodyFact book p (body.OpenSs inst file mode set kind base vector parents) = OpenSsFact book p.epoch p.to p.to_boot inst file mode
BodyFact book p (body.Opened inst answer) = AnswerFact book p.epoch inst answer
BodyFact book p _ = Unit {0}

abbrev pub PacketFact : Book → Packet → Type 0
PacketFact book p = BodyFact book p p.body

-- the body carries nothing of instances
abbrev pub NoFact : Body → Type 0
NoFact (body.Install members) = ⊥
NoFact (body.Open serial call process request file how) = ⊥
NoFact (body.OpenSs inst file mode set kind base vector parents) = ⊥
NoFact (body.Opened inst answer) = ⊥
NoFact _ = Unit {0}

abbrev pub Factless : Packet → Type 0
Factless p = NoFact p.body

-- ---- what is told ----

-- what a make is granted was begun
abbrev pub MadeFact : Book → EpochId → Serial → FileId → Mode → Type 0
MadeFact book e inst file mode.Make = (ss : ℕ) × (boot : ℕ) × (other : Serial) × (serial_key other ≡ serial_key inst) × Among (Began e other ss boot file) book
MadeFact book e inst file _ = Unit {0}

-- a grant is for an open that was asked of this file
pub record GrantFact (book : Book) (e : EpochId) (inst : Serial) (m : Mode) (file : FileId) : Type 0 where
  pub members : Members
  pub listed : Among (Listed e members) book
  pub file_asked : FileId
  pub how : Opening
  pub asked : AskedBy book members inst file_asked how
  pub mode_is : mode_of how ≡ m
  pub is_for : IsFor m file file_asked
  pub made : MadeFact book e inst file m

-- a synchronization site placed the instance at this storage site
pub record WasPlaced (book : Book) (e : EpochId) (inst : Serial) (ss : ℕ) : Type 0 where
  pub group : ℕ
  pub css : ℕ
  pub boot : ℕ
  pub placed : Among (Placed e inst group css boot ss) book

-- an open that is denied as it is taken is placed nowhere, which is noted as site 0
abbrev pub WasDenied : Book → EpochId → Serial → Type 0
WasDenied book e inst = WasPlaced book e inst 0

-- a refusal is of an open that was asked in this mode; it was denied as it was taken, or is a make
pub record RefuseFact (book : Book) (e : EpochId) (inst : Serial) (m : Mode) : Type 0 where
  pub members : Members
  pub listed : Among (Listed e members) book
  pub file_asked : FileId
  pub how : Opening
  pub asked : AskedBy book members inst file_asked how
  pub mode_is : mode_of how ≡ m
  pub denied : (m ≡ mode.Make) ⊎ WasDenied book e inst

-- a site joins an epoch with its members
abbrev pub RecordFact : Book → Record → Type 0
RecordFact book (says.Join s e members) = Among (Listed e members) book
RecordFact book (says.Grant e call request inst mode file stamp ss) = GrantFact book e inst mode file × WasPlaced book e inst ss
RecordFact book (says.Refuse e call request inst mode file why) = RefuseFact book e inst mode
RecordFact book _ = Unit {0}

abbrev pub ToldFact : Book → Told → Type 0
ToldFact book (Shown r) = RecordFact book r
ToldFact book (Begins s e inst file) = (boot : ℕ) × Among (Began e inst s boot file) book
ToldFact book _ = Unit {0}

-- ---- the using site ----

abbrev pub AskingFact : Book → ℕ → ℕ → Asking → Type 0
AskingFact book me boot (asking.Open serial file how) = Among (Asked me boot serial file how) book
AskingFact book me boot _ = Unit {0}

abbrev pub WaitingFact : Book → ℕ → ℕ → WaitingCall → Type 0
WaitingFact book me boot w = AskingFact book me boot w.asking

pub record UsersFact (book : Book) (me boot : ℕ) (u : Users) : Type 0 where
  pub waiting : Every (WaitingFact book me boot) u.waiting
  -- the serial numbers that were used are counted
  pub counted : (serial : ℕ) (file : FileId) (how : Opening) → Among (Asked me boot serial file how) book → serial ≤ u.serials

-- ---- the storage site ----

abbrev pub InstanceFact : Book → EpochId → ℕ → ℕ → Instance → Type 0
InstanceFact book e me boot i = Among (Began e i.inst me boot i.file) book

-- the store has an instance under this key
abbrev pub HasInstance : Store → Serial → Type 0
HasInstance s inst = (i : Instance) × (instance_of s inst ≡ Some i)

pub record StoreFact (book : Book) (e : EpochId) (me boot : ℕ) (s : Store) : Type 0 where
  pub instances : Every (InstanceFact book e me boot) s.instances
  pub has : (inst : Serial) (file : FileId) → Among (Began e inst me boot file) book → HasInstance s inst

-- ---- the synchronization site ----

-- the open that waits for its storage site is placed there
abbrev pub StageFact : Book → Frame → OpenRow → FileId → OpenStage → Type 0
StageFact book f r file stage.Asked = (r.file ≡ file) × Among (Placed f.epoch r.inst file.group f.me f.boot r.ss) book
StageFact book f r file _ = Unit {0}

pub record OpenFact (book : Book) (f : Frame) (group : ℕ) (r : OpenRow) : Type 0 where
  pub file : FileId
  pub how : Opening
  pub asked : AskedBy book f.members r.inst file how
  pub mode_is : mode_of how ≡ r.mode
  pub group_is : file.group ≡ group
  pub is_for : IsFor r.mode r.file file
  pub placed : StageFact book f r file r.stage

abbrev pub own_serial : ℕ → ℕ → Serial
own_serial us serial = record { us = us; serial = serial }

-- an open that waits for the start
abbrev pub EarlyOf : Book → Frame → ℕ → ℕ → Body → Type 0
EarlyOf book f group us (body.Open serial call process request file how) = AskedBy book f.members (own_serial us serial) file how × (file.group ≡ group)
EarlyOf book f group us _ = Unit {0}

abbrev pub EarlyFact : Book → Frame → ℕ → Early → Type 0
EarlyFact book f group x = EarlyOf book f group x.site x.body

abbrev pub LookFact : LastLook → Type 0
LookFact l = NoFact l.body

-- the table has a row under this key
abbrev pub HasRow : SyncTable → Serial → Type 0
HasRow t inst = (r : OpenRow) × (open_row t inst ≡ Some r)

pub record TableFact (book : Book) (f : Frame) (t : SyncTable) : Type 0 where
  pub css_is : sync_site f.config f.members t.group ≡ Some f.me
  pub boot_is : boot_in f.members.boot f.me ≡ f.boot
  pub opens : Every (OpenFact book f t.group) t.opens
  pub looks : Every LookFact t.looks
  pub early : Every (EarlyFact book f t.group) t.early
  -- each instance of the group that was placed here has its row
  pub has : (inst : Serial) (ss : ℕ) → Among (Placed f.epoch inst t.group f.me f.boot ss) book → HasRow t inst

-- one table a group, the groups ascending
abbrev pub TablesFact : Book → Frame → ℕ → List SyncTable → Type 0
TablesFact book f low [] = Unit {0}
TablesFact book f low (t ∷ ts) = (low ≤ t.group) × TableFact book f t × TablesFact book f (t.group + 1) ts

-- ---- the site ----

-- the site has joined the epoch and promised no other since, or has promised a greater id
abbrev pub Passed : SiteView → EpochId → Type 0
Passed v e = ((e ≡ v.promised) × (v.installed ≡ true)) ⊎ (is_epoch_below e v.promised ≡ true)

abbrev pub PassedNote : SiteView → Note → Type 0
PassedNote v (Listed e members) = Passed v e
PassedNote v (Asked us b serial file how) = Unit {0}
PassedNote v (Placed e inst group css b ss) = Passed v e
PassedNote v (Began e inst ss b file) = Passed v e

pub record InsideFact (c : Config) (book : Book) (me : ℕ) (v : SiteView) (e : InEpoch) : Type 0 where
  pub listed : Among (Listed e.id e.members) book
  pub here : Passed v e.id
  pub store : StoreFact book e.id me v.boot v.store
  pub tables : TablesFact book (frame_in c me v.boot e) 0 v.tables

abbrev pub InEpochFact : Config → Book → ℕ → SiteView → Option InEpoch → Type 0
InEpochFact c book me v None = v.store.instances ≡ []
InEpochFact c book me v (Some e) = InsideFact c book me v e

-- a round is of an id of this boot
abbrev pub RoundFact : ℕ → ℕ → Option Round → Type 0
RoundFact me boot None = Unit {0}
RoundFact me boot (Some r) = (r.id.site ≡ me) × (r.id.boot ≡ boot)

pub record ViewFact (c : Config) (book : Book) (me : ℕ) (v : SiteView) : Type 0 where
  pub users : UsersFact book me v.boot v.users
  pub round : RoundFact me v.boot v.round
  -- what this boot did is of epochs that it has joined
  pub passed : (n : Note) → Among n book → IsOf me v.boot n → PassedNote v n
  pub inside : InEpochFact c book me v v.epoch

-- ---- outcomes ----

-- what an outcome owes: a book that has grown by such notes, and its facts
pub record Fine {V : Type 0} (New : Note → Type 0) (F : Book → V → Type 0) (c : Config) (old : Book) (o : Outcome V) : Type 0 where
  pub book : Book
  pub grown : Grown New old book
  pub sound : Sound c book
  pub view : F book o.view
  pub sent : Every (PacketFact book) o.sent
  pub told : Every (ToldFact book) o.told

-- ---- the world ----

-- the note is of a boot that its site has had
abbrev pub OfABoot : World → Note → Type 0
OfABoot w (Listed e members) = e.boot ≤ boot_number w e.site
OfABoot w (Asked us b serial file how) = b ≤ boot_number w us
OfABoot w (Placed e inst group css b ss) = b ≤ boot_number w css
OfABoot w (Began e inst ss b file) = b ≤ boot_number w ss

abbrev pub NumberedFact : Book → Numbered → Type 0
NumberedFact book x = PacketFact book x.packet

pub record WorldFact (c : Config) (book : Book) (w : World) : Type 0 where
  pub sound : Sound c book
  pub boots : (n : Note) → Among n book → OfABoot w n
  pub told : Every (ToldFact book) (past_of w.trace)
  pub sites : (s : ℕ) (p : Place) → place_at w s ≡ Some p → s ≤ sites_max
  pub views : (s : ℕ) (v : SiteView) → place_at w s ≡ Some (Running v) → ViewFact c book s v
  pub packets : Every (NumberedFact book) w.sent
  pub underway : Every (NumberedFact book) w.underway

abbrev pub Booked : Config → World → Type 0
Booked c w = (book : Book) × WorldFact c book w
