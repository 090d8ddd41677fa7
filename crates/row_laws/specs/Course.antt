-- What each record of a run meets as it is told, and how the sites stand by the records so far.
use Rattle.std.specs.Prelude.{ℕ, ◌≡◌, ◌≤◌, ◌≢◌, ◌+◌, ◌⊎◌, true, false, List, [], ◌∷◌, Some}
use Rattle.locus_ids.specs.declared.ids.EpochId.{EpochId}
use Rattle.locus_ids.specs.declared.sites.Members.{Members}
use Rattle.locus_ids.specs.Sizes.{sites_max}
use Rattle.locus_ids.specs.declared.config.Config.{Config}
use Rattle.trace_book.specs.declared.call.Call.{Call}
use Rattle.trace_book.specs.declared.record.Record.{Record}
use Rattle.trace_book.specs.declared.record.Record.TheVariants as says
use Rattle.schedule_lines.specs.declared.line.ScheduleLine.{ScheduleLine}
use Rattle.role_steps.specs.Own.{Every}
use Rattle.role_steps.specs.Views.{Told, Shown, Promises}
use Rattle.lawful_trace.specs.of_tree_model.Folds.{Trace, before_line}
use Rattle.lawful_trace.specs.of_tree_model.Epochs.{is_up, boot_of}
use Rattle.lawful_trace.specs.of_tree_model.Packs.{boot_in}
use Rattle.site_laws.specs.of_the_run.Worlds.{World, Place, Running, Stopped, Numbered, Line, place_at, is_cut}
use Rattle.lawful_trace.specs.Places.{line_at, initiator}
use Rattle.lawful_trace.specs.SiteRows.{MayBoot, StopRow, makes_leave}
use Rattle.lawful_trace.specs.CallRows.{CallLine}
use Rattle.row_laws.specs.Shown.{shown, trace_of}
use Rattle.row_laws.specs.Events.{IsShort, Causes, FormingPacket, ViewForms}
use Rattle.row_laws.specs.Rows.{AskedRecord}
use Rattle.row_laws.specs.Voids.{CutsNoSelf}

-- the site started a protocol by a line up to this number, in this boot
pub record Started (lines : List ScheduleLine) (now : Trace) (n site boot : ℕ) : Type 0 where
  pub line : ℕ
  pub from : 1 ≤ line
  pub to : line ≤ n
  pub starter : initiator lines now line ≡ Some site
  pub boot_is : boot_of (before_line now line) site ≡ boot

-- another site started one by an earlier line
pub record Polled (lines : List ScheduleLine) (now : Trace) (n site : ℕ) : Type 0 where
  pub by : ℕ
  pub boot : ℕ
  pub last : ℕ
  pub started : Started lines now last by boot
  pub early : last + 1 ≤ n
  pub other : by ≢ site

-- ---- records ----

-- the list has the site with its boot, unless sites were cut off from themselves
abbrev pub HasItself : List ScheduleLine → Trace → ℕ → Members → Type 0
HasItself lines before site members = CutsNoSelf lines → boot_in members site ≡ boot_of before site

-- as asked for, apart from a join, whose cause is its promise: its list has sites 1 to 16 alone, and itself
abbrev pub AskedHere : List ScheduleLine → ℕ → Trace → Record → Type 0
AskedHere lines n before (says.Join site epoch members) = HasItself lines before site members × IsShort members
AskedHere lines n before r = AskedRecord lines n before r

-- a stopped site boots; a running one stops, leaves and joins
abbrev pub UpRecord : Config → Trace → Record → Type 0
UpRecord c before (says.Up site boot) = MayBoot c before site boot
UpRecord c before (says.Stopped site why) = StopRow c before site why
UpRecord c before (says.Leave site epoch) = is_up c before site ≡ true
UpRecord c before (says.Join site epoch members) = is_up c before site ≡ true
UpRecord c before _ = Unit {0}

-- what is promised is an id of a site that started a protocol in that boot
abbrev pub ToldRow : Config → List ScheduleLine → ℕ → Trace → Told → Type 0
ToldRow c lines n before (Shown r) = AskedHere lines n before r × UpRecord c before r
ToldRow c lines n before (Promises site id reach) = Started lines before n id.site id.boot
ToldRow c lines n before _ = Unit {0}

abbrev pub EachTold : Config → List ScheduleLine → List Line → Type 0
EachTold c lines [] = Unit {0}
EachTold c lines (x ∷ older) = ToldRow c lines x.number (shown older) x.told × EachTold c lines older

-- the numbers of lines ascend from 1, and none is above this one
abbrev pub Ascends : ℕ → List Line → Type 0
Ascends n [] = Unit {0}
Ascends n (x ∷ older) = (1 ≤ x.number) × (x.number ≤ n) × Ascends x.number older

-- ---- sites ----

-- a number that may be a site's
abbrev pub IsOfSite : ℕ → Type 0
IsOfSite s = (1 ≤ s) × (s ≤ sites_max)

-- a site stands as the records say
abbrev pub StandsAs : Config → Trace → ℕ → Place → Type 0
StandsAs c now s (Running v) = (is_up c now s ≡ true) × (boot_of now s ≡ v.boot) × ViewForms s v × IsOfSite s
StandsAs c now s (Stopped d) = (is_up c now s ≡ false) × (boot_of now s ≤ d.label.boot) × IsOfSite s

-- ---- the world, where the line with this number is the last one that has begun ----

pub record InCourse (c : Config) (lines : List ScheduleLine) (n : ℕ) (w : World) : Type 0 where
  pub ascends : Ascends n w.trace
  pub rows : EachTold c lines w.trace
  pub places : (s : ℕ) (p : Place) → place_at w s ≡ Some p → StandsAs c (trace_of w) s p
  pub circuits : CutsNoSelf lines → (s : ℕ) → is_cut w s s ≡ false
  pub polls : Every (λ (x : Numbered). FormingPacket x.packet) w.sent
  pub underway : Every (λ (x : Numbered). FormingPacket x.packet) w.underway

-- ---- an event of a running site, whose causes are there ----

pub record Caused (c : Config) (lines : List ScheduleLine) (n s : ℕ) (k : Causes) (now : Trace) : Type 0 where
  pub up : is_up c now s ≡ true
  pub leave : k.leave → (makes_leave (line_at lines n) s ≡ true) ⊎ Polled lines now n s
  pub promise : (id : EpochId) → k.promise id → Started lines now n id.site id.boot
  pub join : (members : Members) → k.join members → HasItself lines now s members × IsShort members
  pub accept : (process : ℕ) (words : Call) → k.accept process words → CallLine lines n s process words
