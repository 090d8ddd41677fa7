-- What each packet carries, by the trace alone: that something stands, or that it is asked now. Each fact stays when a lawful
-- record is added.
use Rattle.std.specs.Prelude.{ℕ, ◌≡◌, ◌⊎◌, ◌+◌, max, true, false, List, [], ◌∷◌, length, Option, None, Some}
use Rattle.std.specs.List.{find}
use Rattle.locus_ids.specs.Sites.{has}
use Rattle.locus_ids.specs.declared.config.Config.{Config}
use Rattle.locus_ids.specs.declared.ids.CallId.{CallId}
use Rattle.locus_ids.specs.declared.ids.EpochId.{EpochId}
use Rattle.locus_ids.specs.declared.ids.FileId.{FileId}
use Rattle.locus_ids.specs.declared.ids.Kind.{Kind}
use Rattle.locus_ids.specs.declared.ids.Mode.{Mode}
use Rattle.locus_ids.specs.declared.ids.Mode.TheVariants as mode
use Rattle.locus_ids.specs.declared.ids.Serial.{Serial}
use Rattle.locus_ids.specs.declared.sites.Members.{Members}
use Rattle.locus_ids.specs.declared.sites.Sites.{Sites}
use Rattle.locus_ids.specs.declared.ids.Stamp.{Stamp}
use Rattle.locus_ids.specs.declared.refusal.Refusal.{Refusal}
use Rattle.locus_ids.specs.declared.refusal.Refusal.TheVariants as refusal
use Rattle.locus_ids.specs.Sizes.{sites_max}
use Rattle.version_vector.specs.Counters.{part}
use Rattle.commit_graph.specs.Versions.{content_of}
use Rattle.commit_graph.specs.Vectors.{vector_of}
use Rattle.tree_model.specs.of_file_content.Pages.{page_of}
use Rattle.trace_book.specs.declared.operation.Op.{Op}
use Rattle.trace_book.specs.declared.operation.Op.TheVariants as op
use Rattle.trace_book.specs.declared.operation.Outcome.{Outcome}
use Rattle.trace_book.specs.declared.operation.Outcome.TheVariants as outcome
use Rattle.trace_book.specs.declared.operation.Served.{Served}
use Rattle.trace_book.specs.declared.operation.Served.TheVariants as served
use Rattle.trace_book.specs.declared.operation.What.{What}
use Rattle.trace_book.specs.declared.operation.What.TheVariants as what
use Rattle.call_rules.specs.declared.answer.Answer.{Answer}
use Rattle.call_rules.specs.declared.want.Want.TheVariants as want
use Rattle.the_run.specs.of_wire_messages.declared.body.Body.{Body}
use Rattle.the_run.specs.of_wire_messages.declared.body.Body.TheVariants as body
use Rattle.the_run.specs.of_wire_messages.declared.body.CloseAnswer.{CloseAnswer}
use Rattle.the_run.specs.of_wire_messages.declared.body.Granted.{Granted}
use Rattle.the_run.specs.of_wire_messages.declared.body.Granted.TheVariants as granted
use Rattle.the_run.specs.of_wire_messages.declared.body.LookAnswer.{LookAnswer}
use Rattle.the_run.specs.of_wire_messages.declared.body.LookAnswer.TheVariants as looked
use Rattle.the_run.specs.of_wire_messages.declared.body.MadeVersion.{MadeVersion}
use Rattle.the_run.specs.of_wire_messages.declared.body.OpenedAs.{OpenedAs}
use Rattle.the_run.specs.of_wire_messages.declared.body.OpenedAs.TheVariants as opened
use Rattle.the_run.specs.of_wire_messages.declared.body.Opening.{Opening}
use Rattle.the_run.specs.of_wire_messages.declared.body.Opening.TheVariants as how
use Rattle.the_run.specs.of_wire_messages.declared.body.ReportedCopy.{ReportedCopy}
use Rattle.the_run.specs.of_wire_messages.declared.packet.Packet.{Packet}
use Rattle.dir_format.specs.Entries.{nothing_seen}
use Rattle.the_run.specs.of_role_steps.Opens.{stamp_or_none}
use Rattle.the_run.specs.of_role_steps.Own.{Every}
use Rattle.the_run.specs.of_role_steps.Reports.{stamp_made}
use Rattle.the_run.specs.of_role_steps.Storage.{served_content}
use Rattle.the_run.specs.of_role_steps.Using.{close_answer}
use Rattle.the_run.specs.Kept.{Among}
use Rattle.the_run.specs.Worlds.{Line}
use Rattle.lawful_trace.specs.of_tree_model.declared.accepted.Waiting.{Waiting}
use Rattle.lawful_trace.specs.of_tree_model.declared.instance.Instance.{Instance}
use Rattle.lawful_trace.specs.of_tree_model.Calls.{call_named}
use Rattle.lawful_trace.specs.of_tree_model.Epochs.{has_joined, members_of}
use Rattle.lawful_trace.specs.of_tree_model.Files.{HeldVersion, kind_of_file, set_of_file}
use Rattle.lawful_trace.specs.of_tree_model.Histories.{history}
use Rattle.lawful_trace.specs.of_tree_model.Packs.{has_pack, is_good_set, making_site_in}
use Rattle.lawful_trace.specs.of_tree_model.Tree.{tree_of, kept_in}
use Rattle.lawful_trace.specs.of_tree_model.Working.{is_target, list_of, merges}
use Rattle.lawful_trace.specs.Tables.{call_of_act, call_of_release}
use Rattle.lawful_trace.specs.TreeRows.{IsCallIn}
use Rattle.tree_laws.specs.Printed.{entries}
use Rattle.tree_laws.specs.Calls.{tries, Asks, request_number}
use Rattle.tree_laws.specs.Past.{WasLooked, WasGranted, WasRefused, WasNamedIn, WasDone, WasReleasedWith, WasReleased, WasBegun, WasShut}
use Rattle.tree_laws.specs.Instances.{held_in, instance_now, IsOpenAt, AsksOpen, Stands, IsVersion, IsKnown, HasAtLeast, IsStarted, IsFull}
use Rattle.tree_laws.specs.Deltas.{WantFact, AnswerFact}

-- ---- reports ----

abbrev pub file_in : ℕ → ℕ → FileId
file_in group ino = record { group = group; ino = ino }

-- what a site reports that has this version of the inode
abbrev pub reported_version : ℕ → HeldVersion → ReportedCopy
reported_version ino v = record { ino = ino; kind = v.kind; set = v.set; size = length v.content; stamp = v.stamp; vector = v.vector }

-- the copy is what the site has in the epoch
pub record ReportedNow (c : Config) (trace : List Line) (e : EpochId) (site group : ℕ) (x : ReportedCopy) : Type 0 where
  pub version : HeldVersion
  pub is_version : IsVersion c trace (file_in group x.ino) version
  pub held : held_in c (entries trace) e site (file_in group x.ino) ≡ Some version.stamp
  pub same : x ≡ reported_version x.ino version

-- these are the copies of the group that the site, which has joined the epoch, has in it
pub record ReportsNow (c : Config) (trace : List Line) (e : EpochId) (site group : ℕ) (copies : List ReportedCopy) : Type 0 where
  pub joined : has_joined (entries trace) site e ≡ true
  pub each : Every (ReportedNow c trace e site group) copies
  pub all : (ino : ℕ) (stamp : Stamp) → held_in c (entries trace) e site (file_in group ino) ≡ Some stamp → (x : ReportedCopy) × Among x copies × (x.ino ≡ ino)

-- the site reports of the group: it has joined the epoch, and has a pack of the group
pub record IsReporter (c : Config) (trace : List Line) (e : EpochId) (site group : ℕ) : Type 0 where
  pub joined : has_joined (entries trace) site e ≡ true
  pub packed : has_pack c group site ≡ true

-- the group has started, or these are the copies that the site has
abbrev pub ReportFact : Config → List Line → EpochId → ℕ → ℕ → List ReportedCopy → Type 0
ReportFact c trace e site group copies = IsStarted c trace e group ⊎ ReportsNow c trace e site group copies

-- ---- looks ----

-- the call of the site with this number
pub record IsCallOf (trace : List Line) (e : EpochId) (us n process : ℕ) (d : CallId) : Type 0 where
  pub site_is : d.site ≡ us
  pub number_is : d.n ≡ n
  pub inside : IsCallIn (entries trace) e d
  pub caller : Waiting
  pub named : call_named (entries trace) d ≡ Some caller
  pub process_is : caller.process ≡ process

-- the process asks this look now, for the so-manieth time
pub record LooksNow (c : Config) (trace : List Line) (d : CallId) (request times : ℕ) (f : FileId) (w : What) : Type 0 where
  pub asks : Asks c trace d (want.Look f w)
  pub request_is : request ≡ request_number trace d
  pub tries_are : times ≡ tries trace d

pub record LookFact (c : Config) (trace : List Line) (e : EpochId) (us n process request times : ℕ) (f : FileId) (w : What) : Type 0 where
  pub call : CallId
  pub is_call : IsCallOf trace e us n process call
  pub stands : ((result : Served) × WasLooked trace e call request times f w result) ⊎ LooksNow c trace call request times f w

-- the look stands, and was served this version
pub record ServeFact (trace : List Line) (e : EpochId) (us n process request times : ℕ) (f : FileId) (w : What) (stamp : Stamp) : Type 0 where
  pub call : CallId
  pub is_call : IsCallOf trace e us n process call
  pub looked_so : WasLooked trace e call request times f w (served.At stamp)

-- what a look is answered whose version is there
abbrev pub LookGives : Config → List Line → FileId → What → Stamp → LookAnswer → Type 0
LookGives c trace f w stamp looked.Moved = Unit {0}
LookGives c trace f w stamp (looked.Stat kind size at) = (w ≡ what.Stat) × (kind ≡ kind_of_file c (entries trace) f) × (size ≡ length (content_of (history c (entries trace)) f stamp)) × (at ≡ stamp)
LookGives c trace f w stamp a = a ≡ served_content w (content_of (history c (entries trace)) f stamp)

-- or refused
abbrev pub LookDenies : Refusal → LookAnswer → Type 0
LookDenies why a = a ≡ looked.No why

abbrev pub LookAnswers : Config → List Line → FileId → What → Served → LookAnswer → Type 0
LookAnswers c trace f w (served.At stamp) a = Stands c trace f stamp × LookGives c trace f w stamp a
LookAnswers c trace f w (served.No why) a = LookDenies why a

-- the look stands, and this is its answer
pub record LookDoneFact (c : Config) (trace : List Line) (e : EpochId) (us boot n request times : ℕ) (a : LookAnswer) : Type 0 where
  pub call : CallId
  pub call_is : call ≡ record { site = us; boot = boot; n = n }
  pub file : FileId
  pub what : What
  pub result : Served
  pub looked_so : WasLooked trace e call request times file what result
  pub answer : LookAnswers c trace file what result a

-- ---- opens ----

abbrev pub serial_of : ℕ → ℕ → Serial
serial_of us serial = record { us = us; serial = serial }

pub record OpenFact (c : Config) (trace : List Line) (e : EpochId) (us serial n process request : ℕ) (f : FileId) (it : Opening) : Type 0 where
  pub call : CallId
  pub is_call : IsCallOf trace e us n process call
  pub stands : WasNamedIn trace e f.group (serial_of us serial) ⊎ AsksOpen c trace e call request serial f it

-- The vector that a storage site begins from: that of the version for reading and writing, and counter by counter the
-- greatest of all parents for a merge. It has a counter for each of the sixteen sites.
abbrev pub JoinsParents : Config → List Line → FileId → List Stamp → List ℕ → Type 0
JoinsParents c trace f [] vector = ((s : ℕ) → part vector s ≡ 0) × (length vector ≡ sites_max)
JoinsParents c trace f (p ∷ ps) vector = (rest : List ℕ) × Stands c trace f p × JoinsParents c trace f ps rest × ((s : ℕ) → part vector s ≡ max (part (vector_of (history c (entries trace)) f p) s) (part rest s)) × (length vector ≡ sites_max)

-- an open of a file that stands: it was granted to this site; its first commit follows the version on which it was granted, or of
-- a merge what is kept until it is begun
pub record PlainOpenSs (c : Config) (trace : List Line) (e : EpochId) (ss : ℕ) (i : Serial) (f : FileId) (m : Mode) (set : Sites) (k : Kind) (base : Stamp) (vector : List ℕ) (parents : List Stamp) : Type 0 where
  pub call : CallId
  pub request : ℕ
  pub stamp : Option Stamp
  pub was_granted : WasGranted trace e call request i m f stamp ss
  pub base_is : base ≡ stamp_or_none stamp
  pub some : (s : Stamp) × Stands c trace f s
  pub set_is : set ≡ set_of_file c (entries trace) f
  pub kind_is : k ≡ kind_of_file c (entries trace) f
  pub alone : merges m ≡ false → parents ≡ list_of stamp
  pub vector_is : JoinsParents c trace f parents vector
  pub parents_are : ((site : ℕ) × WasBegun trace site e i f) ⊎ (parents ≡ kept_in c (entries trace) e f)

-- a make that is asked now in a group that has started, and whose file this site is to store
pub record MakesNow (c : Config) (trace : List Line) (e : EpochId) (ss : ℕ) (i : Serial) (group : ℕ) (set : Sites) (k : Kind) : Type 0 where
  pub call : CallId
  pub request : ℕ
  pub file : FileId
  pub asks : AsksOpen c trace e call request i.serial file (how.Make set k)
  pub user_is : i.us ≡ call.site
  pub group_is : file.group ≡ group
  pub started : IsStarted c trace e group
  pub good : is_good_set c group (members_of (entries trace) e) set ≡ true
  pub at : making_site_in c group (members_of (entries trace) e) call.site set ≡ Some ss

-- a make that was refused since no number is left, that nobody has begun, and whose file this site was to store
pub record RefusedFull (c : Config) (trace : List Line) (e : EpochId) (ss : ℕ) (i : Serial) (group : ℕ) : Type 0 where
  pub call : CallId
  pub request : ℕ
  pub was_refused : WasRefused trace e call request i mode.Make refusal.NoInode
  pub full : IsFull c trace e ss group
  pub unbegun : (site : ℕ) (f : FileId) → WasBegun trace site e i f → ⊥
  pub members : Option Members
  pub own : ℕ
  pub set : Sites
  pub good : is_good_set c group members set ≡ true
  pub at : making_site_in c group members own set ≡ Some ss

-- a make: begun here, or refused for good, or asked now
abbrev pub MakeOpenSs : Config → List Line → EpochId → ℕ → Serial → ℕ → Sites → Kind → Type 0
MakeOpenSs c trace e ss i group set k = ((f : FileId) × WasBegun trace ss e i f) ⊎ (RefusedFull c trace e ss i group ⊎ MakesNow c trace e ss i group set k)

abbrev pub OpenSsFact : Config → List Line → EpochId → ℕ → Serial → FileId → Mode → Sites → Kind → Stamp → List ℕ → List Stamp → Type 0
OpenSsFact c trace e ss i f mode.Make set k base vector parents = MakeOpenSs c trace e ss i f.group set k × (parents ≡ []) × JoinsParents c trace f [] vector
OpenSsFact c trace e ss i f m set k base vector parents = PlainOpenSs c trace e ss i f m set k base vector parents

-- no number of the site is left for a make of the group
pub record NoNumber (c : Config) (trace : List Line) (e : EpochId) (ss : ℕ) (i : Serial) : Type 0 where
  pub group : ℕ
  pub set : Sites
  pub kind : Kind
  pub full : IsFull c trace e ss group
  pub unbegun : (site : ℕ) (f : FileId) → WasBegun trace site e i f → ⊥
  pub make : RefusedFull c trace e ss i group ⊎ MakesNow c trace e ss i group set kind

-- what is opened to read is a version of so many bytes
abbrev pub HasSize : Config → List Line → FileId → Mode → Option Stamp → ℕ → Type 0
HasSize c trace f mode.Read stamp size = (s : Stamp) × (stamp ≡ Some s) × Stands c trace f s × (length (content_of (history c (entries trace)) f s) ≡ size)
HasSize c trace f _ stamp size = Unit {0}

-- so it is where the instance was granted to read
abbrev pub BegunSize : Config → List Line → EpochId → Serial → ℕ → Type 0
BegunSize c trace e i size = (call : CallId) (request : ℕ) (f : FileId) (stamp : Option Stamp) (site : ℕ) → WasGranted trace e call request i mode.Read f stamp site → HasSize c trace f mode.Read stamp size

-- the storage site has begun it, on a file of this number, and found so many bytes; or it has no number for it
abbrev pub OpenedFact : Config → List Line → EpochId → ℕ → Serial → OpenedAs → Type 0
OpenedFact c trace e ss i (opened.Open ino size) = (f : FileId) × WasBegun trace ss e i f × (f.ino ≡ ino) × BegunSize c trace e i size
OpenedFact c trace e ss i (opened.No why) = (why ≡ refusal.NoInode) × NoNumber c trace e ss i

-- the version on which a file is opened, as its user sees it
abbrev pub SeesVersion : Config → List Line → FileId → Mode → Option Stamp → List ℕ → Type 0
SeesVersion c trace f mode.Write (Some stamp) vector = Stands c trace f stamp × (vector ≡ vector_of (history c (entries trace)) f stamp)
SeesVersion c trace f _ stamp vector = Unit {0}

pub record GrantedFact (c : Config) (trace : List Line) (e : EpochId) (us serial ss ino size : ℕ) (told : Stamp) (vector : List ℕ) : Type 0 where
  pub call : CallId
  pub request : ℕ
  pub mode : Mode
  pub file : FileId
  pub stamp : Option Stamp
  pub was_granted : WasGranted trace e call request (serial_of us serial) mode file stamp ss
  pub number_is : file.ino ≡ ino
  pub told_is : told ≡ stamp_or_none stamp
  pub sees : SeesVersion c trace file mode stamp vector
  pub sized : HasSize c trace file mode stamp size

abbrev pub OpenDoneFact : Config → List Line → EpochId → ℕ → ℕ → Granted → Type 0
OpenDoneFact c trace e us serial (granted.Open ss ino size stamp vector) = GrantedFact c trace e us serial ss ino size stamp vector
OpenDoneFact c trace e us serial (granted.No why) = (call : CallId) × (request : ℕ) × (m : Mode) × WasRefused trace e call request (serial_of us serial) m why

-- ---- operations ----

-- a remove has seen the version on which its call has the target open, of which nothing is owed
pub record SeesTarget (c : Config) (trace : List Line) (e : EpochId) (d : CallId) (i : Serial) (ino : ℕ) (seen : List ℕ) : Type 0 where
  pub at : Instance
  pub found : instance_now c trace e i ≡ Some at
  pub target : Instance
  pub is_target : find (is_target d ino) (tree_of c e at.grant.file.group (entries trace)).instances ≡ Some target
  pub owes : target.work.owes ≡ false
  pub stamp : Stamp
  pub last : target.work.last ≡ Some stamp
  pub stands : Stands c trace target.grant.file stamp
  pub seen_is : seen ≡ vector_of (history c (entries trace)) target.grant.file stamp

abbrev pub SeesFor : Config → List Line → EpochId → CallId → Serial → Op → List ℕ → Type 0
SeesFor c trace e d i (op.Remove name ino) seen = SeesTarget c trace e d i ino seen
SeesFor c trace e d i _ seen = Unit {0}

-- the process asks this operation now, of an instance that is open at the storage site, and it is the next
pub record OpsNow (c : Config) (trace : List Line) (e : EpochId) (ss : ℕ) (i : Serial) (n : ℕ) (o : Op) (seen : List ℕ) : Type 0 where
  pub call : CallId
  pub owner : call_of_act (entries trace) e i n ≡ Some call
  pub inside : IsCallIn (entries trace) e call
  pub asks : Asks c trace call (want.Do i o)
  pub at : Instance
  pub open_at : IsOpenAt c trace e i ss at
  pub next : n ≡ at.work.ops + 1
  pub sees : SeesFor c trace e call i o seen

-- the operation was done, or is asked now
abbrev pub OpFact : Config → List Line → EpochId → ℕ → Serial → ℕ → Op → List ℕ → Type 0
OpFact c trace e ss i n o seen = ((result : Outcome) × WasDone trace e i n o result) ⊎ OpsNow c trace e ss i n o seen

abbrev pub OpDoneFact : List Line → EpochId → Serial → ℕ → Outcome → Type 0
OpDoneFact trace e i n result = (o : Op) × WasDone trace e i n o result

-- a read was done that gave so many bytes
abbrev pub HeldFact : List Line → EpochId → Serial → ℕ → ℕ → Type 0
HeldFact trace e i n len = (bytes : List ℕ) × (length bytes ≡ len) × OpDoneFact trace e i n (outcome.Data bytes)

-- ---- closes ----

-- the process asks to close the instance now, which is open at the storage site
pub record ClosesNow (c : Config) (trace : List Line) (e : EpochId) (ss : ℕ) (i : Serial) (at : Instance) : Type 0 where
  pub call : CallId
  pub owner : call_of_release (entries trace) e i ≡ Some call
  pub inside : IsCallIn (entries trace) e call
  pub asks : Asks c trace call (want.Close i)
  pub open_at : IsOpenAt c trace e i ss at

abbrev pub CloseFact : Config → List Line → EpochId → ℕ → Serial → Type 0
CloseFact c trace e ss i = WasReleased trace e i ⊎ ((at : Instance) × ClosesNow c trace e ss i at)

-- the storage site has begun to close it, and owes nothing
pub record EndsNow (c : Config) (trace : List Line) (e : EpochId) (ss : ℕ) (i : Serial) (last : Option Stamp) : Type 0 where
  pub at : Instance
  pub closes : ClosesNow c trace e ss i at
  pub shut : WasShut trace ss e i
  pub owes : at.work.owes ≡ false
  pub committed : at.work.committed ≡ last

-- the version of some file on which a storage site has begun the instance
pub record MadeFact (c : Config) (trace : List Line) (e : EpochId) (ss : ℕ) (i : Serial) (v : MadeVersion) : Type 0 where
  pub file : FileId
  pub begun : WasBegun trace ss e i file
  pub version : HeldVersion
  pub is_version : IsVersion c trace file version
  pub same : v ≡ record { stamp = version.stamp; vector = version.vector; size = length version.content }

abbrev pub MaybeMade : Config → List Line → EpochId → ℕ → Serial → Option MadeVersion → Type 0
MaybeMade c trace e ss i None = Unit {0}
MaybeMade c trace e ss i (Some v) = MadeFact c trace e ss i v

pub record ClosedFact (c : Config) (trace : List Line) (e : EpochId) (ss : ℕ) (i : Serial) (made : Option MadeVersion) : Type 0 where
  pub ends : ((a : Answer) × WasReleasedWith c trace e i (stamp_made made) a) ⊎ EndsNow c trace e ss i (stamp_made made)
  pub version : MaybeMade c trace e ss i made

abbrev pub CloseDoneFact : Config → List Line → EpochId → Serial → CloseAnswer → Type 0
CloseDoneFact c trace e i a = (last : Option Stamp) × WasReleasedWith c trace e i last (close_answer a)

-- ---- versions ----

-- the group has started, this version of the file is known in the epoch, and one version of the file is kept there; who is told of it
-- is one of the file's sites
pub record NotifyFact (c : Config) (trace : List Line) (e : EpochId) (to : ℕ) (f : FileId) (k : Kind) (set : Sites) (size : ℕ) (stamp : Stamp) (vector : List ℕ) (holder : ℕ) : Type 0 where
  pub started : IsStarted c trace e f.group
  pub known : IsKnown c trace e f stamp
  pub single : length (kept_in c (entries trace) e f) ≡ 1
  pub version : HeldVersion
  pub is_version : IsVersion c trace f version
  pub stamp_is : version.stamp ≡ stamp
  pub kind_is : version.kind ≡ k
  pub set_is : version.set ≡ set
  pub vector_is : version.vector ≡ vector
  pub size_is : length version.content ≡ size
  pub wanted : has set to ≡ true
  pub holds : HasAtLeast c trace e holder f stamp

pub record PageFact (c : Config) (trace : List Line) (f : FileId) (stamp : Stamp) (page : ℕ) (bytes : List ℕ) : Type 0 where
  pub version : HeldVersion
  pub is_version : IsVersion c trace f version
  pub stamp_is : version.stamp ≡ stamp
  pub bytes_are : bytes ≡ page_of version.content page

-- the group has started, and the site has the version at least
pub record HaveFact (c : Config) (trace : List Line) (e : EpochId) (site : ℕ) (f : FileId) (stamp : Stamp) : Type 0 where
  pub started : IsStarted c trace e f.group
  pub has : HasAtLeast c trace e site f stamp

-- ---- every packet ----

abbrev pub BodyFact : Config → List Line → Packet → Body → Type 0
BodyFact c trace p (body.Report group copies) = IsReporter c trace p.epoch p.from group × ReportFact c trace p.epoch p.from group copies
BodyFact c trace p (body.Open serial call process request file it) = OpenFact c trace p.epoch p.from serial call process request file it
BodyFact c trace p (body.OpenSs inst file m set kind base vector parents) = OpenSsFact c trace p.epoch p.to inst file m set kind base vector parents
BodyFact c trace p (body.Opened inst a) = OpenedFact c trace p.epoch p.from inst a
BodyFact c trace p (body.OpenDone serial a) = OpenDoneFact c trace p.epoch p.to serial a
BodyFact c trace p (body.Op serial n o seen) = OpFact c trace p.epoch p.to (serial_of p.from serial) n o seen
BodyFact c trace p (body.ReadHeld serial n at len) = OpFact c trace p.epoch p.to (serial_of p.from serial) n (op.Read at len) nothing_seen
BodyFact c trace p (body.OpDone serial n result) = OpDoneFact trace p.epoch (serial_of p.to serial) n result
BodyFact c trace p (body.AsHeld serial n len) = HeldFact trace p.epoch (serial_of p.to serial) n len
BodyFact c trace p (body.Close serial) = CloseFact c trace p.epoch p.to (serial_of p.from serial)
BodyFact c trace p (body.Closed inst made) = ClosedFact c trace p.epoch p.from inst made
BodyFact c trace p (body.ClosedOk inst) = WasReleased trace p.epoch inst
BodyFact c trace p (body.CloseDone serial a) = CloseDoneFact c trace p.epoch (serial_of p.to serial) a
BodyFact c trace p (body.Look call process request times file w) = LookFact c trace p.epoch p.from call process request times file w
BodyFact c trace p (body.LookSs us call process request times file w serve) = ServeFact trace p.epoch us call process request times file w serve
BodyFact c trace p (body.LookDone call request times a) = LookDoneFact c trace p.epoch p.to p.to_boot call request times a
BodyFact c trace p (body.Notify file kind set size stamp vector holder) = NotifyFact c trace p.epoch p.to file kind set size stamp vector holder
BodyFact c trace p (body.Pull file stamp page) = Stands c trace file stamp
BodyFact c trace p (body.Want file wanted own) = WantFact c trace p.epoch p.from file wanted own
BodyFact c trace p (body.Page file stamp page bytes) = PageFact c trace file stamp page bytes
BodyFact c trace p (body.Delta file wanted pages) = AnswerFact c trace p.epoch p.to file wanted
BodyFact c trace p (body.Have file stamp) = HaveFact c trace p.epoch p.from file stamp
BodyFact c trace p _ = Unit {0}

abbrev pub PacketFact : Config → List Line → Packet → Type 0
PacketFact c trace p = BodyFact c trace p p.body
