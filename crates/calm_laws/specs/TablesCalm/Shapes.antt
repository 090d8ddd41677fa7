-- What each table of a synchronization site is like: the requests that it holds, the packets that it has kept to send again, who is
-- noted to hold a version, and its opens. All are of members, by the epoch that the site is in.
use Rattle.std.specs.Prelude.{ℕ, ◌≡◌, ◌≢◌, ◌⊎◌, List, Option, Some, None}
use Rattle.locus_ids.specs.declared.config.Config.{Config}
use Rattle.locus_ids.specs.declared.ids.EpochId.{EpochId}
use Rattle.locus_ids.specs.declared.ids.FileId.{FileId}
use Rattle.locus_ids.specs.declared.ids.Mode.TheVariants as mode
use Rattle.locus_ids.specs.declared.ids.Serial.{Serial}
use Rattle.trace_book.specs.declared.operation.What.{What}
use Rattle.trace_book.specs.declared.operation.What.TheVariants as what
use Rattle.trace_book.specs.declared.record.Record.{Record}
use Rattle.trace_book.specs.declared.record.Record.TheVariants as says
use Rattle.wire_messages.specs.declared.body.Body.{Body}
use Rattle.wire_messages.specs.declared.body.Body.TheVariants as body
use Rattle.wire_messages.specs.declared.body.LookAnswer.{LookAnswer}
use Rattle.wire_messages.specs.declared.body.LookAnswer.TheVariants as looked
use Rattle.role_steps.specs.Own.{Every}
use Rattle.role_steps.specs.Views.{SiteView, Told, Shown, boot_in, sync_site}
use Rattle.role_steps.specs.declared.rounds.InEpoch.{InEpoch}
use Rattle.role_steps.specs.declared.synchronizing.Early.{Early}
use Rattle.role_steps.specs.declared.synchronizing.FileRow.{FileRow}
use Rattle.role_steps.specs.declared.synchronizing.Holding.{Holding}
use Rattle.role_steps.specs.declared.synchronizing.LastLook.{LastLook}
use Rattle.role_steps.specs.declared.synchronizing.OpenRow.{OpenRow}
use Rattle.role_steps.specs.declared.synchronizing.OpenStage.TheVariants as stage
use Rattle.role_steps.specs.declared.synchronizing.SyncTable.{SyncTable}
use Rattle.the_run.specs.Kept.{Among}
use Rattle.the_run.specs.Worlds.{World, Running, Numbered, Line, place_at}

-- the list of the epoch has the site
abbrev pub IsListed : InEpoch → ℕ → Type 0
IsListed e s = boot_in e.members.boot s ≢ 0

-- ---- requests ----

-- the site has sent a packet with this body in the epoch
abbrev pub CameIn : List Numbered → EpochId → ℕ → Body → Type 0
CameIn sent e from b = (x : Numbered) × Among x sent × (x.packet.epoch ≡ e) × (x.packet.from ≡ from) × (x.packet.body ≡ b)

-- an open or a look of the process, of a file of the group
abbrev pub IsRequestOf : ℕ → ℕ → Body → Type 0
IsRequestOf group process (body.Open serial call who request file how) = (who ≡ process) × (file.group ≡ group)
IsRequestOf group process (body.Look call who request take file w) = (who ≡ process) × (file.group ≡ group)
IsRequestOf group process _ = ⊥

-- what is held has come
abbrev pub IsRequest : InEpoch → (EpochId → ℕ → Body → Type 0) → ℕ → Early → Type 0
IsRequest e came group x = IsRequestOf group x.process x.body × came e.id x.site x.body

-- ---- the last look of a process ----

-- the synchronization site itself answers by a refusal or a stat
abbrev pub IsOwnAnswer : LookAnswer → Type 0
IsOwnAnswer (looked.Stat kind size stamp) = Unit {0}
IsOwnAnswer (looked.No why) = Unit {0}
IsOwnAnswer _ = ⊥

abbrev pub IsStat : What → Type 0
IsStat what.Stat = Unit {0}
IsStat _ = ⊥

-- the kept packet is the answer to that look, or passes it to a member, where it isn't of a stat
abbrev pub AnswersLast : InEpoch → LastLook → Body → Type 0
AnswersLast e l (body.LookDone call request take a) = (l.to ≡ l.site) × (call ≡ l.call) × (request ≡ l.request) × (take ≡ l.take) × IsOwnAnswer a
AnswersLast e l (body.LookSs us call process request take file w stamp) = IsListed e l.to × (us ≡ l.site) × (call ≡ l.call) × (process ≡ l.process) × (request ≡ l.request) × (take ≡ l.take) × (IsStat w → ⊥)
AnswersLast e l _ = ⊥

-- so it is, and that look has come
abbrev pub IsAnswered : InEpoch → (EpochId → ℕ → Body → Type 0) → LastLook → Type 0
IsAnswered e came l = AnswersLast e l l.body × (file : FileId) × (w : What) × came e.id l.site (body.Look l.call l.process l.request l.take file w)

-- ---- holders ----

abbrev pub HoldsListed : InEpoch → Holding → Type 0
HoldsListed e h = IsListed e h.site

abbrev pub FileListed : InEpoch → FileRow → Type 0
FileListed e r = Every (HoldsListed e) r.holders

-- ---- opens ----

-- the record grants or refuses the instance, on a file of this group
abbrev pub NamesRecord : EpochId → ℕ → Serial → Record → Type 0
NamesRecord e group i (says.Grant at call number inst m file stamp ss) = (at ≡ e) × (inst ≡ i) × (file.group ≡ group)
NamesRecord e group i (says.Refuse at call number inst m file why) = (at ≡ e) × (inst ≡ i) × (file.group ≡ group)
NamesRecord e group i _ = ⊥

abbrev pub NamesTold : EpochId → ℕ → Serial → Told → Type 0
NamesTold e group i (Shown r) = NamesRecord e group i r
NamesTold e group i _ = ⊥

-- so one of the lines told does
abbrev pub IsNamedIn : List Line → EpochId → ℕ → Serial → Type 0
IsNamedIn trace e group i = (x : Line) × Among x trace × NamesTold e group i x.told

-- a make that waits for its number
abbrev pub IsMaking : OpenRow → Type 0
IsMaking r = (r.stage ≡ stage.Asked) × (r.mode ≡ mode.Make)

-- The open is of the table's group. While its storage site is asked, that is a member; and the open was named, unless it is a make that
-- waits for its number.
pub record RowShape (e : InEpoch) (named : Serial → Type 0) (group : ℕ) (r : OpenRow) : Type 0 where
  pub group_is : r.file.group ≡ group
  pub asked : r.stage ≡ stage.Asked → IsListed e r.ss
  pub was_named : IsMaking r ⊎ named r.inst

-- ---- the whole ----

-- the table of a group that the site synchronizes in the epoch, where these instances were named and these packets came
pub record TableShape (c : Config) (me : ℕ) (e : InEpoch) (named : EpochId → ℕ → Serial → Type 0) (came : EpochId → ℕ → Body → Type 0) (t : SyncTable) : Type 0 where
  pub synced : sync_site c e.members t.group ≡ Some me
  pub own : IsListed e me
  pub early : Every (IsRequest e came t.group) t.early
  pub looks : Every (IsAnswered e came) t.looks
  pub holders : Every (FileListed e) t.files
  pub opens : Every (RowShape e (named e.id t.group) t.group) t.opens

abbrev pub ShapeIn : Config → ℕ → (EpochId → ℕ → Serial → Type 0) → (EpochId → ℕ → Body → Type 0) → Option InEpoch → SyncTable → Type 0
ShapeIn c me named came None t = Unit {0}
ShapeIn c me named came (Some e) t = TableShape c me e named came t

abbrev pub AreShaped : Config → ℕ → (EpochId → ℕ → Serial → Type 0) → (EpochId → ℕ → Body → Type 0) → Option InEpoch → List SyncTable → Type 0
AreShaped c me named came o ts = Every (ShapeIn c me named came o) ts

-- so are all tables of each site that runs
abbrev pub TablesAreShaped : Config → World → Type 0
TablesAreShaped c w = (s : ℕ) (v : SiteView) → place_at w s ≡ Some (Running v) → AreShaped c s (IsNamedIn w.trace) (CameIn w.sent) v.epoch v.tables
