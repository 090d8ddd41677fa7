-- What other laws of every run give of each line that is told: the rows of boots, stops and joins; new stamps; files where packs
-- are; and the ranges of sites, processes and inode numbers.
use Rattle.std.specs.Prelude.{ℕ, ◌≡◌, ◌<◌, ◌≤◌, ◌^◌, true, List, [], ◌∷◌}
use Rattle.locus_ids.specs.declared.config.Config.{Config}
use Rattle.locus_ids.specs.declared.ids.CallId.{CallId}
use Rattle.locus_ids.specs.declared.refusal.Refusal.TheVariants as refusal
use Rattle.locus_ids.specs.Sizes.{inode_span}
use Rattle.schedule_lines.specs.Ranges.{fits_call}
use Rattle.trace_book.specs.declared.call.Call.{Call}
use Rattle.trace_book.specs.declared.call.Call.TheVariants as call
use Rattle.trace_book.specs.declared.operation.Op.{Op}
use Rattle.trace_book.specs.declared.operation.Op.TheVariants as op
use Rattle.trace_book.specs.declared.operation.Outcome.{Outcome as Result}
use Rattle.trace_book.specs.declared.operation.Outcome.TheVariants as result
use Rattle.trace_book.specs.declared.record.Record.{Record}
use Rattle.trace_book.specs.declared.record.Record.TheVariants as says
use Rattle.role_steps.specs.Views.{Told, Shown}
use Rattle.the_run.specs.Worlds.{Line}
use Rattle.site_laws.specs.Vectors.Written.{NumberedTold, past_of}
use Rattle.site_laws.specs.Vectors.HistoryCommits.{IsSite, SitedTold, StampsAreOnce}
use Rattle.site_laws.specs.Packs.Packs.{ToldPacked}
use Rattle.site_laws.specs.Kept.Roots.{RootTold}
use Rattle.tree_laws.specs.of_lawful_trace.Lawful.{MayCome}
use Rattle.tree_laws.specs.Following.{IsFollowed, MayTell}
use Rattle.tree_laws.specs.Frames.{IsFresh}
use Rattle.tree_laws.specs.Printed.{entries}
use Rattle.tree_laws.specs.Orders.Joining.{PacksAreOfSites}

-- ---- one line ----

abbrev pub RowRecord : Config → List Line → Record → Type 0
RowRecord c older (says.Up s boot) = MayCome c (entries older) (says.Up s boot)
RowRecord c older (says.Stopped s cause) = MayCome c (entries older) (says.Stopped s cause)
RowRecord c older (says.Join s e members) = MayCome c (entries older) (says.Join s e members)
RowRecord c older _ = Unit {0}

-- a boot, a stop or a join comes as the lawful trace has it
abbrev pub RowTold : Config → List Line → Told → Type 0
RowTold c older (Shown r) = RowRecord c older r
RowTold c older _ = Unit {0}

-- a call that a line asked: of one of the sites, of a process from 1 on with a number of one byte, with words that a line may have
pub record AskedCall (c : Config) (s process : ℕ) (words : Call) : Type 0 where
  pub site : IsSite s
  pub process_low : 1 ≤ process
  pub process_high : process < 256
  pub fits : fits_call c.sites words ≡ true

-- a mend is asked by no line: its row says whose it is
abbrev pub RangeCall : Config → ℕ → ℕ → Call → Type 0
RangeCall c s process (call.Mend file) = Unit {0}
RangeCall c s process words = AskedCall c s process words

-- the numbers of a call's name have 32 bits; of a mend, which names nothing, it isn't asked
pub record HasLowName (call : CallId) : Type 0 where
  pub boot : call.boot < 2 ^ 32
  pub n : call.n < 2 ^ 32

abbrev pub IsNumberedLow : CallId → Call → Type 0
IsNumberedLow id (call.Mend file) = Unit {0}
IsNumberedLow id _ = HasLowName id

-- a mend that is refused since a count is at its end
abbrev pub IsSpentMend : Op → Result → Type 0
IsSpentMend op.Mend (result.No refusal.Spent) = Unit {0}
IsSpentMend o r = ⊥

abbrev pub RangeRecord : Config → Record → Type 0
RangeRecord c (says.Join s e members) = IsSite s
RangeRecord c (says.Accept s process call words) = RangeCall c s process words × IsNumberedLow call words
RangeRecord c (says.Commit f s stamp parents content) = (f.ino < inode_span) × (stamp.n < 4294967295)
RangeRecord c (says.Act e inst n o r) = IsSpentMend o r → ⊥
RangeRecord c _ = Unit {0}

-- sites are those from 1 to 16, lines ask calls of processes of one byte, of which none is 0, whose names have numbers of 32 bits, inodes
-- have numbers of two bytes, and no counter of versions is at its end, nor a count of those that a mend rescues
abbrev pub RangeTold : Config → Told → Type 0
RangeTold c (Shown r) = RangeRecord c r
RangeTold c _ = Unit {0}

pub record RestTold (c : Config) (older : List Line) (x : Told) : Type 0 where
  pub row : RowTold c older x
  pub range : RangeTold c x
  -- a version is made, adopted and granted, an instance begun and a number reserved where a pack is
  pub packed : ToldPacked c x
  -- what is committed is a new version of its file
  pub fresh : IsFresh c older x
  pub once : StampsAreOnce (x ∷ past_of older)
  -- a commit has the next number of its site, is at one of the sixteen, and one of a root directory has parents
  pub numbered : NumberedTold (past_of older) x
  pub sited : SitedTold x
  pub rooted : RootTold x

-- ---- all lines ----

abbrev pub EachRest : Config → List Line → Type 0
EachRest c [] = Unit {0}
EachRest c (x ∷ older) = RestTold c older x.told × EachRest c older

-- so it is of all lines of a trace, and the packs of each group are at some of the sixteen sites
pub record IsRest (c : Config) (trace : List Line) : Type 0 where
  pub each : EachRest c trace
  pub packs : PacksAreOfSites c

-- of what an event of line n tells
abbrev pub AllRest : Config → ℕ → List Line → List Told → Type 0
AllRest c n trace [] = Unit {0}
AllRest c n trace (x ∷ xs) = RestTold c trace x × AllRest c n (record { number = n; told = x } ∷ trace) xs

-- ---- so far ----

-- all that was told so far came as it may, and other laws give the rest of it
pub record Past (c : Config) (trace : List Line) : Type 0 where
  pub followed : IsFollowed c trace
  pub rest : IsRest c trace

-- a line that may be told as the next one
pub record Comes (c : Config) (older : List Line) (x : Told) : Type 0 where
  pub past : Past c older
  pub may : MayTell c older x
  pub rest : RestTold c older x

abbrev pub more : ℕ → Told → List Line → List Line
more n x older = record { number = n; told = x } ∷ older
