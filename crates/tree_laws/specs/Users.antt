-- What a using site has, by the trace alone: its waiting calls as far as their processes have taken answers, and the packet of
-- each current request with its fact; its instances; its descriptors.
use Rattle.std.specs.Prelude.{ℕ, ◌≡◌, ◌⊎◌, ◌+◌, ◌==◌, ◌<◌, not, cond, List, [], ◌∷◌, length, map, filter, take, drop, Option, None, Some}
use Rattle.std.specs.List.{find, list_any}
use Rattle.std.specs.Option.{is_some}
use Rattle.locus_ids.specs.declared.config.Config.{Config}
use Rattle.locus_ids.specs.declared.ids.CallId.{CallId}
use Rattle.locus_ids.specs.declared.ids.FileId.{FileId}
use Rattle.locus_ids.specs.declared.ids.Mode.{Mode}
use Rattle.locus_ids.specs.declared.ids.Mode.TheVariants as mode
use Rattle.locus_ids.specs.declared.ids.Stamp.{Stamp}
use Rattle.locus_ids.specs.Sizes.{descriptor_span}
use Rattle.commit_graph.specs.Versions.{content_of, is_in, same_file}
use Rattle.trace_book.specs.declared.call.Call.{Call}
use Rattle.trace_book.specs.declared.call.Call.TheVariants as call
use Rattle.trace_book.specs.declared.descriptor.Beginning.{Beginning}
use Rattle.trace_book.specs.declared.descriptor.Beginning.TheVariants as begins
use Rattle.trace_book.specs.declared.record.Record.{Record}
use Rattle.trace_book.specs.declared.record.Record.TheVariants as says
use Rattle.tree_laws.specs.Caches.Right.{AreRight}
use Rattle.call_rules.specs.declared.answer.Answer.{Answer}
use Rattle.call_rules.specs.declared.answer.Answer.TheVariants as answer
use Rattle.call_rules.specs.declared.want.Want.{Want}
use Rattle.call_rules.specs.declared.want.Want.TheVariants as want
use Rattle.the_run.specs.of_role_steps.Own.{Every}
use Rattle.the_run.specs.of_role_steps.Requests.{waiting_key, instance_serial, descriptor_key, user_instance, descriptors_of, request_packets}
use Rattle.the_run.specs.of_role_steps.Views.{Users, Frame, Told, Shown, Takes}
use Rattle.the_run.specs.of_role_steps.declared.users.Asking.{Asking}
use Rattle.the_run.specs.of_role_steps.declared.users.Asking.TheVariants as asking
use Rattle.the_run.specs.of_role_steps.declared.users.UserInstance.{UserInstance}
use Rattle.the_run.specs.of_role_steps.declared.users.VersionRead.{VersionRead}
use Rattle.the_run.specs.of_role_steps.declared.users.WaitingCall.{WaitingCall}
use Rattle.the_run.specs.Kept.{Among}
use Rattle.the_run.specs.Worlds.{Line}
use Rattle.lawful_trace.specs.of_tree_model.declared.accepted.Waiting.{Waiting}
use Rattle.lawful_trace.specs.of_tree_model.Calls.{call_named, waiting}
use Rattle.lawful_trace.specs.of_tree_model.Epochs.{boot_of, calls_accepted, members_of}
use Rattle.lawful_trace.specs.of_tree_model.Histories.{history}
use Rattle.lawful_trace.specs.of_tree_model.Packs.{sync_site}
use Rattle.lawful_trace.specs.of_tree_model.State.{has_number}
use Rattle.lawful_trace.specs.CallRows.{has_lost_mend, is_this}
use Rattle.lawful_trace.specs.Tables.{begun, descriptor}
use Rattle.tree_laws.specs.Printed.{entries}
use Rattle.tree_laws.specs.Calls.{log, tries, script, Waits, Asks}
use Rattle.tree_laws.specs.Serials.{asked_now, opens_asked, ops_asked, serial_asked}
use Rattle.tree_laws.specs.Past.{WasGranted}
use Rattle.tree_laws.specs.Instances.{IsOpening, Stands}
use Rattle.tree_laws.specs.Packets.{PacketFact, SeesVersion, serial_of}
use Rattle.tree_laws.specs.Stores.{Ascends}

abbrev pub own_call : ℕ → ℕ → ℕ → CallId
own_call me boot n = record { site = me; boot = boot; n = n }

-- ---- one call ----

-- what the current request asks is what the script wants
abbrev pub AskingIs : Config → List Line → ℕ → CallId → Want → Asking → Type 0
AskingIs c trace me d (want.Look file w) (asking.Look f asked times) = (f ≡ file) × (asked ≡ w) × (times ≡ tries trace d)
AskingIs c trace me d (want.Do inst o) (asking.Op serial ss n it seen) = (serial_of me serial ≡ inst) × (it ≡ o) × (n ≡ ops_asked c trace inst)
AskingIs c trace me d (want.Close inst) (asking.Close serial ss) = serial_of me serial ≡ inst
AskingIs c trace me d w (asking.Open serial f it) = IsOpening c w f it × (serial ≡ serial_asked c trace d)
AskingIs c trace me d w _ = ⊥

-- it is asked still, or its answer waits
abbrev pub IsAnswered : Config → List Line → CallId → Want → Type 0
IsAnswered c trace d w = Asks c trace d w ⊎ ((a : Answer) × Waits c trace d a)

-- the contents that a mend has brought: of the versions that its looks named, which the process has taken
pub record Brings (c : Config) (trace : List Line) (f : FileId) (stamps : List Stamp) (contents : List (List ℕ)) : Type 0 where
  pub stand : Every (Stands c trace f) stamps
  pub contents_are : contents ≡ map (content_of (history c (entries trace)) f) stamps

-- of the stamps that the open told, as many as looks have brought
abbrev pub brought_of : List Stamp → List Answer → List Stamp
brought_of (s ∷ ss) (answer.Brought ∷ rest) = s ∷ brought_of ss rest
brought_of ss answers = []

-- the versions whose contents a mend has taken
abbrev pub taken_whole : List Answer → List Stamp
taken_whole (answer.Merging inst kept ∷ rest) = brought_of kept rest
taken_whole answers = []

abbrev pub BringsFor : Config → List Line → CallId → Call → List (List ℕ) → Type 0
BringsFor c trace d (call.Mend file) contents = Brings c trace file (taken_whole (log trace d)) contents
BringsFor c trace d _ contents = contents ≡ []

-- A read of an instance that was granted to read: these are the bytes that the version has there on which it was granted.
pub record CopiesBytes (c : Config) (trace : List Line) (f : Frame) (serial at len : ℕ) (bytes : List ℕ) : Type 0 where
  pub call : CallId
  pub request : ℕ
  pub file : FileId
  pub stamp : Stamp
  pub ss : ℕ
  pub was_granted : WasGranted trace f.epoch call request (serial_of f.me serial) mode.Read file (Some stamp) ss
  pub stands : Stands c trace file stamp
  pub bytes_are : bytes ≡ take len (drop at (content_of (history c (entries trace)) file stamp))

-- a call that has bytes in memory reads them by a descriptor that is held
abbrev pub CopiedFact : Config → List Line → Frame → Call → Beginning → Option (List ℕ) → Type 0
CopiedFact c trace f words b None = Unit {0}
CopiedFact c trace f (call.Read fd at len) (begins.Uses e inst) (Some bytes) = CopiesBytes c trace f inst.serial at len bytes
CopiedFact c trace f words b (Some bytes) = ⊥

-- a waiting call is as the trace has it
pub record WaitingFact (c : Config) (trace : List Line) (f : Frame) (w : WaitingCall) : Type 0 where
  pub caller : Waiting
  pub named : call_named (entries trace) (own_call f.me f.boot w.call) ≡ Some caller
  pub caller_is : caller ≡ record { site = f.me; process = w.process; call = own_call f.me f.boot w.call; words = w.words; epoch = Some f.epoch }
  pub waits : find (is_this f.me w.process (own_call f.me f.boot w.call)) (waiting (entries trace)) ≡ Some caller
  pub begins_is : begun (entries trace) (own_call f.me f.boot w.call) ≡ Some w.begins
  pub answers_are : w.answers ≡ log trace (own_call f.me f.boot w.call)
  pub request_is : w.request ≡ length w.answers + 1
  pub wanted : Want
  pub script_is : script c (entries trace) (own_call f.me f.boot w.call) None w.answers ≡ wanted
  pub asking_is : AskingIs c trace f.me (own_call f.me f.boot w.call) wanted w.asking
  pub answered : IsAnswered c trace (own_call f.me f.boot w.call) wanted
  pub sent : Every (PacketFact c trace) (request_packets f w w.asking)
  pub brings : BringsFor c trace (own_call f.me f.boot w.call) w.words w.brought
  pub copied : CopiedFact c trace f w.words w.begins w.copied

-- ---- instances and descriptors ----

-- the version that an instance reads is the one on which it was granted to read, with all its bytes
pub record ReadsVersion (c : Config) (trace : List Line) (m : Mode) (f : FileId) (stamp : Option Stamp) (r : VersionRead) : Type 0 where
  pub mode_is : m ≡ mode.Read
  pub file_is : f ≡ r.file
  pub stamp_is : stamp ≡ Some r.stamp
  pub stands : Stands c trace r.file r.stamp
  pub size_is : length (content_of (history c (entries trace)) r.file r.stamp) ≡ r.size

abbrev pub ReadsFact : Config → List Line → Mode → FileId → Option Stamp → Option VersionRead → Type 0
ReadsFact c trace m f stamp None = Unit {0}
ReadsFact c trace m f stamp (Some r) = ReadsVersion c trace m f stamp r

-- an instance of the site was granted so, and its operations are counted
pub record UserInstanceFact (c : Config) (trace : List Line) (f : Frame) (i : UserInstance) : Type 0 where
  pub call : CallId
  pub request : ℕ
  pub mode : Mode
  pub file : FileId
  pub stamp : Option Stamp
  pub was_granted : WasGranted trace f.epoch call request (serial_of f.me i.serial) mode file stamp i.ss
  pub sees : SeesVersion c trace file mode stamp i.vector
  pub reads : ReadsFact c trace mode file stamp i.reads
  pub ops : i.ops ≡ ops_asked c trace (serial_of f.me i.serial)

abbrev pub without_closed : Want → List ℕ → List ℕ
without_closed (want.Close inst) old = filter (λ n. not (n == inst.serial)) old
without_closed _ old = old

abbrev pub had_by : Want → Answer → List ℕ → List ℕ
had_by w (answer.Opened inst ino) old = inst.serial ∷ old
had_by w (answer.Reading inst version) old = inst.serial ∷ old
had_by w (answer.Merging inst kept) old = inst.serial ∷ old
had_by w _ old = without_closed w old

abbrev pub had_record : Record → ℕ → List ℕ → List ℕ
had_record (says.Leave s e) me old = cond (s == me) [] old
had_record (says.Stopped s cause) me old = cond (s == me) [] old
had_record (says.Up s boot) me old = cond (s == me) [] old
had_record _ me old = old

abbrev pub had_told : Config → List Line → Told → ℕ → List ℕ → List ℕ
had_told c older (Shown r) me old = had_record r me old
had_told c older (Takes s d request times a) me old = cond (s == me) (had_by (asked_now c older d) a old) old
had_told c older _ me old = old

-- the serial numbers of the instances that the site has: opened by an answer that it took, and not closed by one
abbrev pub had : Config → List Line → ℕ → List ℕ
had c [] me = []
had c (x ∷ older) me = had_told c older x.told me (had c older me)

-- ---- the whole ----

-- in an epoch
pub record InsideUsers (c : Config) (trace : List Line) (f : Frame) (u : Users) : Type 0 where
  pub calls : Every (WaitingFact c trace f) u.waiting
  -- both tables stand in ascending order
  pub ascends : Ascends waiting_key u.waiting
  pub numbered : Ascends instance_serial u.instances
  pub instances : Every (UserInstanceFact c trace f) u.instances
  pub has : (serial : ℕ) → is_some (user_instance u serial) ≡ has_number (had c trace f.me) serial
  -- each call of the site that waits is among them
  pub all : (d : CallId) (process : ℕ) (caller : Waiting) → find (is_this f.me process d) (waiting (entries trace)) ≡ Some caller → (w : WaitingCall) × Among w u.waiting × (d ≡ own_call f.me f.boot w.call)
  -- of the groups that it synchronizes it knows which mends were refused for good
  pub hopeless : (file : FileId) → sync_site c file.group (members_of (entries trace) f.epoch) ≡ Some f.me → list_any (same_file file) u.hopeless ≡ has_lost_mend (entries trace) f.epoch file

-- which list is the content of a version of a file that stands
abbrev pub contents_in : Config → List Line → FileId → Stamp → Option (List ℕ)
contents_in c trace f stamp = cond (is_in (history c (entries trace)) f stamp) (Some (content_of (history c (entries trace)) f stamp)) None

-- in and out of epochs
pub record UsersFact (c : Config) (trace : List Line) (me boot : ℕ) (u : Users) : Type 0 where
  pub boot_is : boot ≡ boot_of (entries trace) me
  pub calls : u.calls ≡ calls_accepted (entries trace) me
  pub serials : u.serials ≡ opens_asked c trace me
  -- the table's key tells process and number apart up to the greatest number that a line can name
  pub descriptors : (process fd : ℕ) → fd < descriptor_span → descriptors_of u process fd ≡ descriptor (entries trace) me process fd
  pub ascends : Ascends descriptor_key u.descriptors
  -- the pages in memory are those of versions that stand
  pub cache : AreRight (contents_in c trace) u.cache
