-- What a synchronization site has, by the trace alone: what is brought, known, kept and held, the opens of its group, and the
-- last look of each process.
use Rattle.std.specs.Prelude.{ℕ, ◌≡◌, ◌⊎◌, ◌<◌, ◌≤◌, ◌==◌, Bool, true, false, not, ◌&&◌, cond, List, [], ◌∷◌, filter, length, map, Option, None, Some}
use Rattle.std.specs.Option.{is_some}
use Rattle.locus_ids.specs.Sites.{has}
use Rattle.locus_ids.specs.declared.config.Config.{Config}
use Rattle.locus_ids.specs.declared.ids.CallId.{CallId}
use Rattle.locus_ids.specs.declared.ids.EpochId.{EpochId}
use Rattle.locus_ids.specs.declared.ids.FileId.{FileId}
use Rattle.locus_ids.specs.declared.ids.Mode.{Mode}
use Rattle.locus_ids.specs.declared.ids.Mode.TheVariants as mode
use Rattle.locus_ids.specs.declared.ids.Serial.{Serial}
use Rattle.locus_ids.specs.declared.ids.Stamp.{Stamp}
use Rattle.commit_graph.specs.Grants.{Opener}
use Rattle.commit_graph.specs.Versions.{same_file}
use Rattle.trace_book.specs.Same.{same_epoch}
use Rattle.trace_book.specs.declared.record.Record.{Record}
use Rattle.trace_book.specs.declared.record.Record.TheVariants as says
use Rattle.the_run.specs.of_wire_messages.declared.body.Body.{Body}
use Rattle.the_run.specs.of_wire_messages.declared.body.Body.TheVariants as body
use Rattle.the_run.specs.of_wire_messages.declared.packet.Packet.{Packet}
use Rattle.the_run.specs.of_role_steps.Looks.{look_key}
use Rattle.the_run.specs.of_role_steps.Opens.{is_open_on, open_key, open_row, opener_of, stamp_or_none}
use Rattle.the_run.specs.of_role_steps.Own.{Every}
use Rattle.the_run.specs.of_role_steps.Reports.{have_all_reported}
use Rattle.the_run.specs.of_role_steps.Tables.{row}
use Rattle.the_run.specs.of_role_steps.Versions.{file_row, holding_of, holding_site, is_below_some, kept, version_key, version_of}
use Rattle.the_run.specs.of_role_steps.Views.{Frame, Told, Shown, packet, process_key}
use Rattle.the_run.specs.of_role_steps.declared.synchronizing.Early.{Early}
use Rattle.the_run.specs.of_role_steps.declared.synchronizing.FileRow.{FileRow}
use Rattle.the_run.specs.of_role_steps.declared.synchronizing.Holding.{Holding}
use Rattle.the_run.specs.of_role_steps.declared.synchronizing.LastLook.{LastLook}
use Rattle.the_run.specs.of_role_steps.declared.synchronizing.OpenRow.{OpenRow}
use Rattle.the_run.specs.of_role_steps.declared.synchronizing.OpenStage.{OpenStage}
use Rattle.the_run.specs.of_role_steps.declared.synchronizing.OpenStage.TheVariants as stage
use Rattle.the_run.specs.of_role_steps.declared.synchronizing.SyncTable.{SyncTable}
use Rattle.the_run.specs.of_role_steps.declared.synchronizing.VersionRow.{VersionRow}
use Rattle.the_run.specs.Kept.{Among}
use Rattle.the_run.specs.Worlds.{Line}
use Rattle.lawful_trace.specs.of_tree_model.declared.accepted.Waiting.{Waiting}
use Rattle.lawful_trace.specs.of_tree_model.declared.instance.Instance.{Instance}
use Rattle.lawful_trace.specs.of_tree_model.Calls.{call_named}
use Rattle.lawful_trace.specs.of_tree_model.Epochs.{has_joined}
use Rattle.lawful_trace.specs.of_tree_model.Files.{HeldVersion, kind_made, kind_of_file, set_of_file, words_named}
use Rattle.lawful_trace.specs.of_tree_model.Opening.{sites_made}
use Rattle.lawful_trace.specs.of_tree_model.Packs.{packs_of}
use Rattle.lawful_trace.specs.of_tree_model.State as state
use Rattle.lawful_trace.specs.of_tree_model.Tree.{tree_of, candidates, kept_in}
use Rattle.tree_laws.specs.Printed.{entries}
use Rattle.tree_laws.specs.Calls.{tries}
use Rattle.tree_laws.specs.Past.{WasNamedIn, WasGranted, WasRefused, WasReleased}
use Rattle.tree_laws.specs.Instances.{held_in, IsOpenAt, IsVersion, HasAtLeast, Stands}
use Rattle.tree_laws.specs.Packets.{file_in, HasSize, IsCallOf, PacketFact, JoinsParents, MakesNow, PlainOpenSs, SeesVersion}
use Rattle.tree_laws.specs.Stores.{AreApart, Ascends}

-- ---- versions ----

-- the row is of this version of the file
pub record VersionFact (c : Config) (trace : List Line) (f : FileId) (v : VersionRow) : Type 0 where
  pub version : HeldVersion
  pub is_version : IsVersion c trace f version
  pub same : v ≡ record { stamp = version.stamp; vector = version.vector; size = length version.content }

abbrev pub row_stamp : VersionRow → Stamp
row_stamp v = v.stamp

-- the open instance that may have committed above what was told last: it writes the file at this site
pub record IsAhead (c : Config) (trace : List Line) (e : EpochId) (site : ℕ) (f : FileId) : Type 0 where
  pub inst : Serial
  pub at : Instance
  pub open_at : IsOpenAt c trace e inst site at
  pub file_is : at.grant.file ≡ f
  pub committed : is_some at.work.committed ≡ true

-- a member that is noted to hold a version has it at least
abbrev pub HoldingFact : Config → List Line → EpochId → FileId → Holding → Type 0
HoldingFact c trace e f h = HasAtLeast c trace e h.site f h.stamp

-- Nothing of the file is adopted at the site without the table: several versions are kept, or it is the table's own site.
abbrev pub IsStill : ℕ → FileRow → ℕ → Type 0
IsStill me r site = (site ≡ me) ⊎ (length r.kept ≡ 1 → ⊥)

-- the site is noted to hold this version
abbrev pub IsNoted : FileRow → ℕ → Stamp → Type 0
IsNoted r site stamp = (h : Holding) × (holding_of r site ≡ Some h) × (h.stamp ≡ stamp)

-- there the table of holders is exact, but for a writer that is ahead
abbrev pub ExactFact : Config → List Line → Frame → ℕ → FileRow → Type 0
ExactFact c trace frame group r = (site : ℕ) (stamp : Stamp) → IsStill frame.me r site → held_in c (entries trace) frame.epoch site (file_in group r.ino) ≡ Some stamp → IsNoted r site stamp ⊎ IsAhead c trace frame.epoch site (file_in group r.ino)

-- a holder of the version is noted
abbrev pub HasHolder : FileRow → VersionRow → Type 0
HasHolder r v = (h : Holding) × Among h r.holders × (h.stamp ≡ v.stamp)

-- the version that the member is noted to hold is one of those of the file
abbrev pub HasVersion : FileRow → Holding → Type 0
HasVersion r h = (v : VersionRow) × (version_of r h.stamp ≡ Some v) × (v.stamp ≡ h.stamp)

-- the versions that are below no other
abbrev pub highest : List VersionRow → List VersionRow
highest vs = filter (λ (v : VersionRow). not (is_below_some v vs)) vs

-- Versions stand by ascending stamps, each once; those are kept that are below no other; and members that hold, by ascending sites,
-- each hold one of them.
pub record IsOrderly (r : FileRow) : Type 0 where
  pub ascends : Ascends version_key r.versions
  pub keeps : r.kept ≡ highest r.versions
  pub names : Every (HasVersion r) r.holders
  pub sites : Ascends holding_site r.holders

pub record FileFact (c : Config) (trace : List Line) (e : EpochId) (group : ℕ) (r : FileRow) : Type 0 where
  pub some : Stamp
  pub stands : Stands c trace (file_in group r.ino) some
  pub kind_is : r.kind ≡ kind_of_file c (entries trace) (file_in group r.ino)
  pub set_is : r.set ≡ set_of_file c (entries trace) (file_in group r.ino)
  pub versions : Every (VersionFact c trace (file_in group r.ino)) r.versions
  pub keeps : Every (VersionFact c trace (file_in group r.ino)) r.kept
  pub holders : Every (HoldingFact c trace e (file_in group r.ino)) r.holders
  pub held : Every (HasHolder r) r.kept
  pub orderly : IsOrderly r

-- the rows of a table stand by ascending numbers, each number once
abbrev pub AreRising : List FileRow → Type 0
AreRising [] = Unit {0}
AreRising (r ∷ rs) = Every (λ (q : FileRow). r.ino < q.ino) rs × AreRising rs

abbrev pub known_stamps : Option FileRow → List Stamp
known_stamps None = []
known_stamps (Some r) = map row_stamp r.versions

-- once the group has started: what is known and kept is what the tree has known and kept
pub record StartedFiles (c : Config) (trace : List Line) (frame : Frame) (t : SyncTable) : Type 0 where
  pub known : (ino : ℕ) → known_stamps (file_row t ino) ≡ candidates c (entries trace) frame.epoch (file_in t.group ino)
  pub kept_is : (ino : ℕ) → map row_stamp (kept (file_row t ino)) ≡ kept_in c (entries trace) frame.epoch (file_in t.group ino)
  pub exact : (ino : ℕ) (r : FileRow) → file_row t ino ≡ Some r → ExactFact c trace frame t.group r

-- the site, one of those from 1 on, has reported
abbrev pub HasReported : SyncTable → ℕ → Type 0
HasReported t site = (1 ≤ site) × (has t.reported site ≡ true)

-- the member has reported, and what it is noted to hold is what it has
abbrev pub HoldsJust : Config → List Line → Frame → SyncTable → FileRow → Holding → Type 0
HoldsJust c trace frame t r h = HasReported t h.site × (held_in c (entries trace) frame.epoch h.site (file_in t.group r.ino) ≡ Some h.stamp)

-- before: what the members brought that have reported, and still have
pub record ReportedFiles (c : Config) (trace : List Line) (frame : Frame) (t : SyncTable) : Type 0 where
  pub joined : (site : ℕ) → HasReported t site → has_joined (entries trace) site frame.epoch ≡ true
  pub brought : (site ino : ℕ) (stamp : Stamp) → HasReported t site → held_in c (entries trace) frame.epoch site (file_in t.group ino) ≡ Some stamp →
      (r : FileRow) × (file_row t ino ≡ Some r) × IsNoted r site stamp
  pub known : Every (λ (r : FileRow). Every (λ (v : VersionRow). (site : ℕ) × HasReported t site × (held_in c (entries trace) frame.epoch site (file_in t.group r.ino) ≡ Some v.stamp)) r.versions) t.files
  pub holds : Every (λ (r : FileRow). Every (HoldsJust c trace frame t r) r.holders) t.files

abbrev pub FilesFact : Config → List Line → Frame → SyncTable → Bool → Type 0
FilesFact c trace frame t true = StartedFiles c trace frame t
FilesFact c trace frame t false = ReportedFiles c trace frame t

-- ---- opens ----

-- granted so, and not over
pub record IsGrantedNow (trace : List Line) (e : EpochId) (r : OpenRow) (d : CallId) : Type 0 where
  pub was_granted : WasGranted trace e d r.request r.inst r.mode r.file r.stamp r.ss
  pub unreleased : WasReleased trace e r.inst → ⊥

-- the make of the row is asked now, by its call
pub record MakeAsked (c : Config) (trace : List Line) (e : EpochId) (r : OpenRow) (d : CallId) : Type 0 where
  pub make : MakesNow c trace e r.ss r.inst r.file.group r.set r.kind
  pub call_is : make.call ≡ d
  pub request_is : make.request ≡ r.request
  pub file_is : make.file ≡ r.file
  pub parents_are : r.parents ≡ []
  pub stamp_is : r.stamp ≡ None

-- a make waits for its number, any other open is granted from the start; what its storage site was asked is so
abbrev pub AskedFact : Config → List Line → EpochId → OpenRow → CallId → Mode → Type 0
AskedFact c trace e r d mode.Make = MakeAsked c trace e r d
AskedFact c trace e r d m = IsGrantedNow trace e r d × PlainOpenSs c trace e r.ss r.inst r.file m r.set r.kind (stamp_or_none r.stamp) r.vector r.parents

-- kind and set of the row are those of its file, or, of a make, what its call's words say
abbrev pub AsItsFile : Config → List Line → OpenRow → CallId → Mode → Type 0
AsItsFile c trace r d mode.Make = (r.set ≡ sites_made (packs_of c r.file.group) (words_named (entries trace) (Some d))) × (r.kind ≡ kind_made (words_named (entries trace) (Some d)))
AsItsFile c trace r d m = (s : Stamp) × Stands c trace r.file s × (r.set ≡ set_of_file c (entries trace) r.file) × (r.kind ≡ kind_of_file c (entries trace) r.file)

-- how far the open is: asked of its storage site, granted, refused or over
abbrev pub StageFact : Config → List Line → EpochId → OpenRow → CallId → OpenStage → Type 0
StageFact c trace e r d stage.Asked = AskedFact c trace e r d r.mode
StageFact c trace e r d stage.Granted = IsGrantedNow trace e r d × AsItsFile c trace r d r.mode × HasSize c trace r.file r.mode r.stamp r.size
StageFact c trace e r d (stage.Refused why) = WasRefused trace e d r.request r.inst r.mode why
StageFact c trace e r d stage.Ended = WasGranted trace e d r.request r.inst r.mode r.file r.stamp r.ss × WasReleased trace e r.inst

pub record RowFact (c : Config) (trace : List Line) (e : EpochId) (group : ℕ) (r : OpenRow) : Type 0 where
  pub call : CallId
  pub is_call : IsCallOf trace e r.inst.us r.call r.process call
  pub group_is : r.file.group ≡ group
  pub stage : StageFact c trace e r call r.stage
  pub vector_is : JoinsParents c trace r.file r.parents r.vector
  pub sees : SeesVersion c trace r.file r.mode r.stamp r.vector

-- who has a file open, by name, the earliest granted first: at the table,
abbrev pub named_row : OpenRow → Serial × Opener
named_row r = (r.inst, opener_of r)

abbrev pub named_openers : SyncTable → FileId → List (Serial × Opener)
named_openers t file = map named_row (filter (is_open_on file) t.opens)

-- and in the tree
abbrev pub named_instance : Instance → Serial × Opener
named_instance x = (x.grant.inst, state.opener_of x)

abbrev pub tree_openers : state.TreeState → FileId → List (Serial × Opener)
tree_openers s file = map named_instance (filter (λ (x : Instance). same_file x.grant.file file) s.instances)

-- ---- looks ----

-- the last look of a process in the group
pub record Turn : Type 0 where
  pub call : ℕ
  pub request : ℕ
  pub times : ℕ

abbrev pub is_look_of : List Line → EpochId → ℕ → ℕ → EpochId → CallId → FileId → Option Waiting → ℕ → Bool
is_look_of older e group us at d f None process = false
is_look_of older e group us at d f (Some w) process = same_epoch at e && ((f.group == group) && ((d.site == us) && (w.process == process)))

abbrev pub turn_record : List Line → EpochId → ℕ → ℕ → ℕ → Record → Option Turn → Option Turn
turn_record older e group us process (says.Look at d request f w result) old = cond (is_look_of older e group us at d f (call_named (entries older) d) process) (Some (record { call = d.n; request = request; times = tries older d })) old
turn_record older e group us process _ old = old

abbrev pub turn_told : List Line → EpochId → ℕ → ℕ → ℕ → Told → Option Turn → Option Turn
turn_told older e group us process (Shown r) old = turn_record older e group us process r old
turn_told older e group us process _ old = old

abbrev pub last_turn : List Line → EpochId → ℕ → ℕ → ℕ → Option Turn
last_turn [] e group us process = None
last_turn (x ∷ older) e group us process = turn_told older e group us process x.told (last_turn older e group us process)

abbrev pub turn_of : Option LastLook → Option Turn
turn_of None = None
turn_of (Some l) = Some (record { call = l.call; request = l.request; times = l.take })

-- ---- the whole ----

-- a request that came before the start carries the fact of its packet
abbrev pub early_packet : Frame → Early → Packet
early_packet f x = record { from = x.site; from_boot = 0; to = f.me; to_boot = f.boot; epoch = f.epoch; body = x.body }

-- the request is for a file of the group
abbrev pub IsRequestIn : ℕ → Body → Type 0
IsRequestIn group (body.Open serial call process request file it) = group ≡ file.group
IsRequestIn group (body.Look call process request take file w) = group ≡ file.group
IsRequestIn group _ = Unit {0}

abbrev pub WaitsIn : ℕ → Early → Type 0
WaitsIn group x = IsRequestIn group x.body

pub record TableFact (c : Config) (trace : List Line) (f : Frame) (t : SyncTable) : Type 0 where
  pub started : t.started ≡ (tree_of c f.epoch t.group (entries trace)).started
  pub early : Every (λ (x : Early). PacketFact c trace (early_packet f x)) t.early
  pub early_here : Every (WaitsIn t.group) t.early
  pub early_only : t.started ≡ true → t.early ≡ []
  -- it has started once each member with a pack of the group has reported
  pub all : t.started ≡ true → have_all_reported f t ≡ true
  pub rows : Every (FileFact c trace f.epoch t.group) t.files
  pub rise : AreRising t.files
  pub files : FilesFact c trace f t t.started
  pub opens : Every (RowFact c trace f.epoch t.group) t.opens
  pub apart : AreApart open_key t.opens
  -- each open of the group that was named has its row
  pub has : (i : Serial) → WasNamedIn trace f.epoch t.group i → is_some (open_row t i) ≡ true
  -- and they stand in the order of the tree's; a make that waits for its number has number 0
  pub openers_are : (ino : ℕ) → (ino ≡ 0 → ⊥) → named_openers t (file_in t.group ino) ≡ tree_openers (tree_of c f.epoch t.group (entries trace)) (file_in t.group ino)
  -- (keys of processes are one to one for processes of one byte)
  pub turns : (us process : ℕ) → process < 256 → turn_of (row look_key (process_key us process) t.looks) ≡ last_turn trace f.epoch t.group us process
  pub looks : Every (λ (l : LastLook). PacketFact c trace (packet f l.to l.body)) t.looks
