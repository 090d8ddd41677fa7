-- Calm rounds, world by world: which deliveries they have, what carries on through each of them, and what is left to show of that.
use Rattle.std.specs.Prelude.{ℕ, ◌≡◌, ◌≤◌, ◌⊎◌, true, false, List, length, take, Option, Some, None, ◌+◌}
use Rattle.locus_ids.specs.Sites.{has}
use Rattle.locus_ids.specs.declared.config.Config.{Config}
use Rattle.schedule_lines.specs.declared.line.Line.TheVariants as line
use Rattle.schedule_lines.specs.declared.line.ScheduleLine.{ScheduleLine}
use Rattle.schedule_lines.specs.declared.line.ScheduleLine.TheVariants.{Event}
use Rattle.wire_messages.specs.declared.body.Body.{Body}
use Rattle.wire_messages.specs.declared.body.Body.TheVariants as body
use Rattle.role_steps.specs.Views.{SiteView, pack_sites, sync_site, all_sites, packet, process_key}
use Rattle.role_steps.specs.declared.rounds.InEpoch.{InEpoch}
use Rattle.role_steps.specs.declared.users.Asking.{Asking}
use Rattle.role_steps.specs.declared.users.Asking.TheVariants as asking
use Rattle.role_steps.specs.declared.users.WaitingCall.{WaitingCall}
use Rattle.the_run.specs.Kept.{Among}
use Rattle.the_run.specs.Runs.{arrives, next_packet, ticks_to, run_in}
use Rattle.the_run.specs.Steps.{is_dropped, is_opened_in}
use Rattle.the_run.specs.Worlds.{World, Running, Numbered, place_at}
use Rattle.lawful_trace.specs.Places.{line_at, lines_before}
use Rattle.row_laws.specs.Voids.{LinesFit}
use Rattle.rest_laws.specs.of_tree_laws.Orders.Joining.{PacksAreOfSites}
use Rattle.row_laws.specs.Orderly.Calm.{AreTogether, delivered}
use Rattle.calm_laws.specs.SentCalm.Standing.{IsGrantedStage}
use Rattle.calm_laws.specs.Carrying.{IsMember, HasReported, IsAllCarried, Goes, own_serial, frame_of, look_body, held_request, PassesLook, AnswersLook}
use Rattle.calm_laws.specs.Calming.{ReachThemselves, NobodyWaits}
use Rattle.locus_ids.specs.declared.ids.Serial.{Serial}
use Rattle.wire_messages.specs.declared.body.MadeVersion.{MadeVersion}
use Rattle.role_steps.specs.Opens.{open_row}
use Rattle.role_steps.specs.Tables.{first_that, row}
use Rattle.role_steps.specs.declared.synchronizing.OpenRow.{OpenRow}
use Rattle.role_steps.specs.declared.synchronizing.OpenStage.TheVariants as stage
use Rattle.role_steps.specs.declared.synchronizing.SyncTable.{SyncTable}
use Rattle.run_laws.specs.Epochs.Known.{Places}
use Rattle.locus_ids.specs.declared.ids.FileId.{FileId}
use Rattle.trace_book.specs.declared.operation.What.{What}
use Rattle.role_steps.specs.Adoption.{table_group}
use Rattle.role_steps.specs.Looks.{LookRequest, look_key, is_look_before, is_same_look}
use Rattle.role_steps.specs.Own.{Every}
use Rattle.role_steps.specs.Reports.{is_early_of}
use Rattle.role_steps.specs.Versions.{file_row}
use Rattle.role_steps.specs.declared.synchronizing.Early.{Early}
use Rattle.role_steps.specs.declared.synchronizing.FileRow.{FileRow}
use Rattle.role_steps.specs.declared.synchronizing.Holding.{Holding}
use Rattle.role_steps.specs.declared.synchronizing.LastLook.{LastLook}
use Rattle.trace_book.specs.declared.operation.Op.{Op}
use Rattle.role_steps.specs.Mends.{mending}
use Rattle.role_steps.specs.Storage.{instance_of}
use Rattle.role_steps.specs.declared.instances.Instance.{Instance}
use Rattle.role_steps.specs.declared.instances.Stage.TheVariants as running
use Rattle.tree_laws.specs.Packets.{OpsNow}
use Rattle.trace_book.specs.declared.operation.Op.TheVariants as op
use Rattle.file_effects.specs.Effects.{Effect}
use Rattle.role_steps.specs.OperationEffects.{Mending, effect_of}
use Rattle.locus_ids.specs.declared.ids.Stamp.{Stamp}

-- ---- the worlds of a round ----

-- as the round of this line stands after all ticks and so many deliveries
abbrev pub after : Config → List ScheduleLine → ℕ → ℕ → World
after c lines n k = delivered c n k (ticks_to c n all_sites (run_in c (lines_before lines n)))

-- The line with this number is a round, and the world stands so in it after all ticks and some deliveries. The lines are in range for the
-- cluster, whose packs, of four groups at most, are at some of the sixteen sites.
pub record IsInRound (c : Config) (lines : List ScheduleLine) (n : ℕ) (w : World) : Type 0 where
  pub fit : LinesFit c lines
  pub packs : PacksAreOfSites c
  pub groups : length c.packs ≤ 4
  pub most : ℕ
  pub settles : line_at lines n ≡ Event (line.Settle most)
  pub deliveries : ℕ
  pub few : deliveries ≤ most
  pub is_world : w ≡ after c lines n deliveries

-- ---- what stands in each of them ----

-- the request goes to a member
abbrev pub GoesToMember : Config → InEpoch → Asking → Type 0
GoesToMember c e (asking.Look file w take) = (css : ℕ) × (sync_site c e.members file.group ≡ Some css)
GoesToMember c e (asking.Open serial file how) = (css : ℕ) × (sync_site c e.members file.group ≡ Some css)
GoesToMember c e (asking.Op serial ss n o seen) = IsMember e ss
GoesToMember c e (asking.Close serial ss) = IsMember e ss

-- so does that of each waiting call of a member
abbrev pub RequestsGoToMembers : Config → InEpoch → World → Type 0
RequestsGoToMembers c e w = (s : ℕ) (v : SiteView) (x : WaitingCall) → IsMember e s → place_at w s ≡ Some (Running v) → Among x v.users.waiting → GoesToMember c e x.asking

-- a member that doesn't report a pack again has reported it
abbrev pub ReportsAreKnown : Config → InEpoch → World → Type 0
ReportsAreKnown c e w = (group css s : ℕ) (v : SiteView) → sync_site c e.members group ≡ Some css → IsMember e s → has (pack_sites c group) s ≡ true → place_at w s ≡ Some (Running v) →
    Among group v.reports ⊎ HasReported (place_at w) css group s

-- what a waiting call of a member has open is stored at a member
abbrev pub IsStoredAtMember : InEpoch → Asking → Type 0
IsStoredAtMember e (asking.Op serial ss n o seen) = IsMember e ss
IsStoredAtMember e (asking.Close serial ss) = IsMember e ss
IsStoredAtMember e _ = Unit {0}

abbrev pub StorageIsMember : InEpoch → World → Type 0
StorageIsMember e w = (s : ℕ) (v : SiteView) (x : WaitingCall) → IsMember e s → place_at w s ≡ Some (Running v) → Among x v.users.waiting → IsStoredAtMember e x.asking

-- the site has granted the instance: it has heard that its storage site has opened it
pub record HasGranted (at : Places) (css : ℕ) (inst : Serial) : Type 0 where
  pub view : SiteView
  pub here : at css ≡ Some (Running view)
  pub table : SyncTable
  pub found : first_that (is_opened_in inst) view.tables ≡ Some table
  pub row : OpenRow
  pub is_row : open_row table inst ≡ Some row
  pub heard : IsGrantedStage row.stage

-- a Closed that is under way for what a call asks to close comes to a site that has granted it
abbrev pub ClosesAreGranted : Config → InEpoch → World → Type 0
ClosesAreGranted c e w = (x : Numbered) (s serial ss css : ℕ) (made : Option MadeVersion) (v : SiteView) (y : WaitingCall) → Among x w.underway → Goes c e ss css (body.Closed (own_serial s serial) made) x.packet → IsMember e s → place_at w s ≡ Some (Running v) → Among y v.users.waiting → y.asking ≡ asking.Close serial ss →
    HasGranted (place_at w) css (own_serial s serial)

-- ---- looks at a synchronization site ----

abbrev pub look_of : WaitingCall → FileId → What → ℕ → LookRequest
look_of y file w take = record { call = y.call; process = y.process; request = y.request; take = take; file = file; what = w }

-- what the site has kept to send again answers the look, or asks a member that holds the version
abbrev pub AnswersAgain : Config → InEpoch → ℕ → ℕ → WaitingCall → FileId → What → ℕ → LastLook → Type 0
AnswersAgain c e css s y file w take l = PassesLook c e s y file w take (packet (frame_of c e css) l.to l.body) ⊎ AnswersLook c e s y w take (packet (frame_of c e css) l.to l.body)

-- The table knows no later look of the process, and this one by its answer; holders are members; and where a request of the process is
-- held, it is this one.
pub record KnowsLook (c : Config) (e : InEpoch) (css s : ℕ) (y : WaitingCall) (file : FileId) (w : What) (take : ℕ) (t : SyncTable) : Type 0 where
  pub last : (l : LastLook) → row look_key (process_key s y.process) t.looks ≡ Some l → (is_look_before (look_of y file w take) l ≡ false) × (is_same_look (look_of y file w take) l ≡ true → AnswersAgain c e css s y file w take l)
  pub holders : (r : FileRow) → file_row t file.ino ≡ Some r → Every (λ (h : Holding). IsMember e h.site) r.holders
  pub held : (x : Early) → Among x t.early → is_early_of s y.process x ≡ true → x ≡ held_request s y.process (look_body y file w take)

-- so does the table for each look that a waiting call of a member asks
abbrev pub LooksAreKnown : Config → InEpoch → World → Type 0
LooksAreKnown c e w = (s css : ℕ) (v u : SiteView) (y : WaitingCall) (file : FileId) (what : What) (take : ℕ) → IsMember e s → place_at w s ≡ Some (Running v) → Among y v.users.waiting → y.asking ≡ asking.Look file what take → sync_site c e.members file.group ≡ Some css → place_at w css ≡ Some (Running u) →
    (t : SyncTable) → row table_group file.group u.tables ≡ Some t → KnowsLook c e css s y file what take t

-- ---- operations at a storage site ----

-- a commit that owes nothing has a version to answer, and any other operation has an effect on the content
abbrev pub IsLawful : Mending → Instance → Op → List ℕ → Type 0
IsLawful m i op.Commit seen = i.work.owes ≡ false → (stamp : Stamp) × (i.work.last ≡ Some stamp)
IsLawful m i op.Abort seen = Unit {0}
IsLawful m i o seen = (e : Effect) × (effect_of o seen m i.work.content ≡ Some e)

-- so it is of what a call asks of a running instance of a member as its next operation
abbrev pub OperationsAreLawful : Config → InEpoch → World → Type 0
OperationsAreLawful c e w = (m : ℕ) (v : SiteView) → IsMember e m → place_at w m ≡ Some (Running v) → (i : Instance) → instance_of v.store i.inst ≡ Some i → i.stage ≡ running.Running → (n : ℕ) (o : Op) (seen : List ℕ) → OpsNow c w.trace e.id m i.inst n o seen → n ≡ i.work.ops + 1 → IsLawful (mending v i.file.group) i o seen

-- ---- a delivery ----

-- A packet comes to a member that takes it, while all members are together, and they are so after it. No limit is passed.
pub record Delivery (c : Config) (lines : List ScheduleLine) (n : ℕ) (e : InEpoch) (x : Numbered) (w : World) : Type 0 where
  pub round : IsInRound c lines n w
  pub next : next_packet w ≡ Some x
  pub follows : IsInRound c lines n (arrives c n x w)
  pub member : IsMember e x.packet.to
  pub view : SiteView
  pub here : place_at w x.packet.to ≡ Some (Running view)
  pub taken : is_dropped x.packet view ≡ false
  pub before : AreTogether w e
  pub after : AreTogether (arrives c n x w) e
  pub within : (arrives c n x w).over ≡ None

-- where a packet of this kind comes, all stays carried
abbrev pub CarriesOn : Config → (Body → Type 0) → Type 0
CarriesOn c kind = (lines : List ScheduleLine) (n : ℕ) (e : InEpoch) (x : Numbered) (w : World) → Delivery c lines n e x w → kind x.packet.body → IsAllCarried c e w → IsAllCarried c e (arrives c n x w)

-- ---- a round ----

-- A round that comes to its end after so many deliveries, since no packet can come any more: from the world that its line finds to the
-- last one all members are together, no limit is passed, and no member is cut off from itself.
pub record IsCalm (c : Config) (lines : List ScheduleLine) (n : ℕ) (e : InEpoch) (k : ℕ) : Type 0 where
  pub fit : LinesFit c lines
  pub packs : PacksAreOfSites c
  pub groups : length c.packs ≤ 4
  pub most : ℕ
  pub few : k ≤ most
  pub settles : line_at lines n ≡ Event (line.Settle most)
  pub first : AreTogether (run_in c (lines_before lines n)) e
  pub each : (j : ℕ) → j ≤ k → AreTogether (after c lines n j) e
  pub sites : (s : ℕ) → IsMember e s → Among s all_sites
  pub reach : ReachThemselves e (after c lines n k)
  pub within : (after c lines n k).over ≡ None
  pub ended : next_packet (after c lines n k) ≡ None

-- then no call of a member waits
abbrev pub CalmRoundsLeaveNobody : Config → Type 0
CalmRoundsLeaveNobody c = (lines : List ScheduleLine) (n : ℕ) (e : InEpoch) (k : ℕ) → IsCalm c lines n e k → NobodyWaits e (after c lines n k)

-- ---- kinds of packets ----

abbrev pub IsReport : Body → Type 0
IsReport (body.Report group copies) = Unit {0}
IsReport _ = ⊥

abbrev pub IsOpen : Body → Type 0
IsOpen (body.Open serial call process request file how) = Unit {0}
IsOpen _ = ⊥

abbrev pub IsOpenSs : Body → Type 0
IsOpenSs (body.OpenSs inst file mode set kind base vector parents) = Unit {0}
IsOpenSs _ = ⊥

abbrev pub IsOpened : Body → Type 0
IsOpened (body.Opened inst answer) = Unit {0}
IsOpened _ = ⊥

abbrev pub IsOpenDone : Body → Type 0
IsOpenDone (body.OpenDone serial answer) = Unit {0}
IsOpenDone _ = ⊥

abbrev pub IsOp : Body → Type 0
IsOp (body.Op serial n o seen) = Unit {0}
IsOp (body.ReadHeld serial n at len) = Unit {0}
IsOp _ = ⊥

abbrev pub IsOpDone : Body → Type 0
IsOpDone (body.OpDone serial n result) = Unit {0}
IsOpDone (body.AsHeld serial n len) = Unit {0}
IsOpDone _ = ⊥

abbrev pub IsClose : Body → Type 0
IsClose (body.Close serial) = Unit {0}
IsClose _ = ⊥

abbrev pub IsClosed : Body → Type 0
IsClosed (body.Closed inst made) = Unit {0}
IsClosed _ = ⊥

abbrev pub IsClosedOk : Body → Type 0
IsClosedOk (body.ClosedOk inst) = Unit {0}
IsClosedOk _ = ⊥

abbrev pub IsCloseDone : Body → Type 0
IsCloseDone (body.CloseDone serial answer) = Unit {0}
IsCloseDone _ = ⊥

abbrev pub IsLook : Body → Type 0
IsLook (body.Look call process request take file what) = Unit {0}
IsLook _ = ⊥

abbrev pub IsLookSs : Body → Type 0
IsLookSs (body.LookSs us call process request take file what stamp) = Unit {0}
IsLookSs _ = ⊥

abbrev pub IsLookDone : Body → Type 0
IsLookDone (body.LookDone call request take answer) = Unit {0}
IsLookDone _ = ⊥

-- none of these: it forms an epoch, answers a report, or is about copies
abbrev pub IsOther : Body → Type 0
IsOther (body.Report group copies) = ⊥
IsOther (body.Open serial call process request file how) = ⊥
IsOther (body.OpenSs inst file mode set kind base vector parents) = ⊥
IsOther (body.Opened inst answer) = ⊥
IsOther (body.OpenDone serial answer) = ⊥
IsOther (body.Op serial n o seen) = ⊥
IsOther (body.ReadHeld serial n at len) = ⊥
IsOther (body.OpDone serial n result) = ⊥
IsOther (body.AsHeld serial n len) = ⊥
IsOther (body.Close serial) = ⊥
IsOther (body.Closed inst made) = ⊥
IsOther (body.ClosedOk inst) = ⊥
IsOther (body.CloseDone serial answer) = ⊥
IsOther (body.Look call process request take file what) = ⊥
IsOther (body.LookSs us call process request take file what stamp) = ⊥
IsOther (body.LookDone call request take answer) = ⊥
IsOther _ = Unit {0}

-- ---- what is so in every round: proofs/CalmAnswerAnswered has it (calm_left) ----

pub record CalmLeft (c : Config) : Type 0 where
  -- what stands in each world of a round in which all members are together
  pub looks : (lines : List ScheduleLine) (n : ℕ) (e : InEpoch) (w : World) → IsInRound c lines n w → AreTogether w e → LooksAreKnown c e w
  pub operations : (lines : List ScheduleLine) (n : ℕ) (e : InEpoch) (w : World) → IsInRound c lines n w → AreTogether w e → OperationsAreLawful c e w
  -- each kind of packet that comes hands on what it carries
  pub report : CarriesOn c IsReport
  pub open_request : CarriesOn c IsOpen
