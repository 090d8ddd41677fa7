-- A using site asks an operation that changes a file only of what it has asked to open otherwise than for reading.
use Rattle.std.specs.Prelude.{ℕ, ◌≡◌, true, false, List, [], ◌∷◌, Option}
use Rattle.locus_ids.specs.declared.ids.FileId.{FileId}
use Rattle.locus_ids.specs.declared.ids.Serial.{Serial}
use Rattle.locus_ids.specs.declared.config.Config.{Config}
use Rattle.commit_graph.specs.Grants.{is_read}
use Rattle.call_rules.specs.Scripts.{named_wants}
use Rattle.call_rules.specs.declared.answer.Answer.{Answer}
use Rattle.call_rules.specs.declared.answer.Answer.TheVariants as answer
use Rattle.call_rules.specs.declared.want.Want.{Want}
use Rattle.wire_messages.specs.declared.packet.Packet.{Packet}
use Rattle.wire_messages.specs.declared.body.Body.{Body}
use Rattle.wire_messages.specs.declared.body.Body.TheVariants as body
use Rattle.wire_messages.specs.declared.body.Opening.{Opening}
use Rattle.wire_messages.specs.declared.body.Opening.TheVariants as how
use Rattle.role_steps.specs.Own.{Every}
use Rattle.role_steps.specs.Views.{Users, SiteView, Outcome}
use Rattle.role_steps.specs.declared.synchronizing.SyncTable.{SyncTable}
use Rattle.role_steps.specs.declared.synchronizing.LastLook.{LastLook}
use Rattle.role_steps.specs.declared.users.Asking.{Asking}
use Rattle.role_steps.specs.declared.users.Asking.TheVariants as asking
use Rattle.role_steps.specs.declared.users.WaitingCall.{WaitingCall}
use Rattle.role_steps.specs.declared.users.DescriptorRow.{DescriptorRow}
use Rattle.the_run.specs.Kept.{Among}
use Rattle.the_run.specs.Worlds.{World, Numbered}
use Rattle.site_laws.specs.Packs.InstanceLaws.{AsksOpen}
use Rattle.site_laws.specs.Locks.Writing.{changes, OpensToWrite, IsWriteOn}

-- ---- the laws ----

-- an open that isn't for reading alone
abbrev pub NotToRead : Opening → Type 0
NotToRead how.Read = ⊥
NotToRead _ = Unit {0}

-- the packet asks such an open, under this serial number
abbrev pub AsksToWrite : ℕ → Body → Type 0
AsksToWrite serial (body.Open number call process request file opening) = (number ≡ serial) × NotToRead opening
AsksToWrite serial _ = ⊥

-- among the packets is one of this boot of this site that asks it
pub record IsAskedToWrite (packets : List Numbered) (site boot serial : ℕ) : Type 0 where
  pub opening : Numbered
  pub was_sent : Among opening packets
  pub site_is : opening.packet.from ≡ site
  pub boot_is : opening.packet.from_boot ≡ boot
  pub asks : AsksToWrite serial opening.packet.body

-- the packet asks an operation that changes a file, of the instance with this serial number
abbrev pub AsksChange : ℕ → Body → Type 0
AsksChange serial (body.Op number n o seen) = (number ≡ serial) × (changes o ≡ true)
AsksChange serial _ = ⊥

-- for each such packet its sender has asked in the same boot to open the instance otherwise than for reading
abbrev pub ChangesAreAskedToWrite : World → Type 0
ChangesAreAskedToWrite w = (x : Numbered) (serial : ℕ) → Among x w.sent → AsksChange serial x.packet.body → IsAskedToWrite w.sent x.packet.from x.packet.from_boot serial

-- and none of its opens under that serial number was for reading
abbrev pub ReadersChangeNothing : World → Type 0
ReadersChangeNothing w = (x y : Numbered) (serial : ℕ) (file : FileId) (opening : Opening) → Among x w.sent → Among y w.sent → x.packet.from ≡ y.packet.from → x.packet.from_boot ≡ y.packet.from_boot →
    AsksChange serial x.packet.body → AsksOpen serial file opening y.packet.body → NotToRead opening

-- ---- what a using site carries, by the serial numbers that it has asked to write ----

abbrev pub Serials : Type 1
Serials = ℕ → Type 0

-- the answer brings this instance, to write it or to read
abbrev pub Brings : Serial → Answer → Type 0
Brings i (answer.Opened inst ino) = inst ≡ i
Brings i (answer.Reading inst version) = inst ≡ i
Brings i (answer.Merging inst kept) = inst ≡ i
Brings i _ = ⊥

-- what was opened by an answer to an open that isn't for reading was asked to write
abbrev pub AnswersFact : Serials → (List Answer → Want) → List Answer → Type 0
AnswersFact G script [] = Unit {0}
AnswersFact G script (a ∷ xs) = ((i : Serial) → OpensToWrite (script []) → Brings i a → G i.serial) × AnswersFact G (λ (ys : List Answer). script (a ∷ ys)) xs

-- so is what a call asks now
abbrev pub AskingFact : Serials → Want → Asking → Type 0
AskingFact G x (asking.Open serial file how) = OpensToWrite x → G serial
AskingFact G x (asking.Op serial ss n o seen) = changes o ≡ true → G serial
AskingFact G x _ = Unit {0}

-- the script of a call, by the lowest free descriptor of its process
abbrev pub script_of : Config → WaitingCall → Option ℕ → List Answer → Want
script_of c w free = named_wants c.mounts free w.words w.begins

-- what a call has come to
pub record CallFact (c : Config) (G : Serials) (w : WaitingCall) : Type 0 where
  pub begins : (i : Serial) → IsWriteOn w.words w.begins i → G i.serial
  pub answers : (free : Option ℕ) → AnswersFact G (script_of c w free) w.answers

pub record WaitingFact (c : Config) (G : Serials) (w : WaitingCall) : Type 0 where
  pub call_so : CallFact c G w
  pub asking : (free : Option ℕ) → AskingFact G (script_of c w free w.answers) w.asking

-- a descriptor that may write is of what was asked to write
abbrev pub DescriptorFact : Serials → DescriptorRow → Type 0
DescriptorFact G d = is_read d.descriptor.mode ≡ false → G d.descriptor.inst.serial

pub record UsersFact (c : Config) (G : Serials) (u : Users) : Type 0 where
  pub waiting : Every (WaitingFact c G) u.waiting
  pub descriptors : Every (DescriptorFact G) u.descriptors

-- ---- packets ----

-- the opens to write that are sent are counted among them
abbrev pub NotedBody : Serials → Body → Type 0
NotedBody G (body.Open serial call process request file opening) = NotToRead opening → G serial
NotedBody G _ = Unit {0}

abbrev pub Noted : Serials → Packet → Type 0
Noted G p = NotedBody G p.body

abbrev pub BodyFact : Serials → Body → Type 0
BodyFact G (body.Op serial n o seen) = changes o ≡ true → G serial
BodyFact G _ = Unit {0}

abbrev pub PacketFact : Serials → Packet → Type 0
PacketFact G p = BodyFact G p.body

-- the body asks neither an open nor an operation
abbrev pub NoAsk : Body → Type 0
NoAsk (body.Open serial call process request file opening) = ⊥
NoAsk (body.Op serial n o seen) = ⊥
NoAsk _ = Unit {0}

abbrev pub Askless : Packet → Type 0
Askless p = NoAsk p.body

abbrev pub LookOk : LastLook → Type 0
LookOk l = NoAsk l.body

abbrev pub TableOk : SyncTable → Type 0
TableOk t = Every LookOk t.looks

-- ---- a site ----

pub record ViewFact (c : Config) (G : Serials) (v : SiteView) : Type 0 where
  pub users : UsersFact c G v.users
  pub tables : Every TableOk v.tables

pub record Fine (c : Config) (G : Serials) (o : Outcome SiteView) : Type 0 where
  pub view : ViewFact c G o.view
  pub sent : Every (PacketFact G) o.sent
