-- Which answers fit a request, and what a script may want where each answer has fitted its request.
use Rattle.std.specs.Prelude.{ℕ, ◌≡◌, ◌⊎◌, ◌≤◌, List, [], ◌∷◌, Option, Some}
use Rattle.locus_ids.specs.declared.refusal.Refusal.{Refusal}
use Rattle.locus_ids.specs.declared.refusal.Refusal.TheVariants as refusal
use Rattle.trace_book.specs.declared.call.Call.{Call}
use Rattle.trace_book.specs.declared.call.Call.TheVariants as call
use Rattle.trace_book.specs.declared.call.OpenMode.{OpenMode}
use Rattle.trace_book.specs.declared.call.OpenMode.TheVariants as opens
use Rattle.trace_book.specs.declared.operation.Op.{Op}
use Rattle.trace_book.specs.declared.operation.Op.TheVariants as op
use Rattle.trace_book.specs.declared.operation.Outcome.{Outcome}
use Rattle.trace_book.specs.declared.operation.Outcome.TheVariants as outcome
use Rattle.trace_book.specs.declared.operation.What.{What}
use Rattle.trace_book.specs.declared.operation.What.TheVariants as what
use Rattle.trace_book.specs.declared.reply.Reply.{Reply}
use Rattle.trace_book.specs.declared.reply.Reply.TheVariants as reply
use Rattle.call_rules.specs.declared.answer.Answer.{Answer}
use Rattle.call_rules.specs.declared.answer.Answer.TheVariants as answer
use Rattle.call_rules.specs.declared.want.Want.{Want}
use Rattle.call_rules.specs.declared.want.Want.TheVariants as want
use Rattle.tree_model.specs.Opening.{site_named}

-- ---- answers ----

-- it doesn't say that the epoch was left
abbrev pub NotChanged : Refusal → Type 0
NotChanged (refusal.Changed e) = ⊥
NotChanged _ = Unit {0}

-- what an operation gives that isn't refused: a number found in a directory is at least 1
abbrev pub ResultFits : Op → Outcome → Type 0
ResultFits o (outcome.No why) = ⊥
ResultFits (op.Find component) (outcome.Found ino kind) = 1 ≤ ino
ResultFits (op.Find component) _ = ⊥
ResultFits _ _ = Unit {0}

abbrev pub LookFits : What → Answer → Type 0
LookFits w (answer.Refused why) = NotChanged why
LookFits (what.Name component) (answer.Entered ino kind) = 1 ≤ ino
LookFits what.List (answer.Showed names) = Unit {0}
LookFits what.Stat (answer.Described kind size stamp) = Unit {0}
LookFits (what.Whole stamp) answer.Brought = Unit {0}
LookFits _ _ = ⊥

-- an open to read is told its version, another one the number of its file
abbrev pub IsToRead : OpenMode → Type 0
IsToRead opens.Read = Unit {0}
IsToRead opens.Steady = Unit {0}
IsToRead _ = ⊥

abbrev pub IsToChange : OpenMode → Type 0
IsToChange opens.Write = Unit {0}
IsToChange (opens.Resolve site) = Unit {0}
IsToChange _ = ⊥

abbrev pub OpenFits : Answer → OpenMode → Type 0
OpenFits (answer.Refused why) m = NotChanged why
OpenFits (answer.Reading i version) m = IsToRead m
OpenFits (answer.Opened i ino) m = IsToChange m
OpenFits _ m = ⊥

abbrev pub MakeFits : Answer → Type 0
MakeFits (answer.Refused why) = NotChanged why
MakeFits (answer.Opened i ino) = Unit {0}
MakeFits _ = ⊥

abbrev pub MendFits : Answer → Type 0
MendFits (answer.Refused why) = NotChanged why
MendFits (answer.Merging i kept) = Unit {0}
MendFits _ = ⊥

abbrev pub DoFits : Op → Answer → Type 0
DoFits o (answer.Refused why) = NotChanged why
DoFits o (answer.Did result) = ResultFits o result
DoFits o _ = ⊥

abbrev pub CloseFits : Answer → Type 0
CloseFits (answer.Refused why) = NotChanged why
CloseFits (answer.Ended stamp) = Unit {0}
CloseFits _ = ⊥

-- the answer is of the sort that the request gets
abbrev pub Fits : Want → Answer → Type 0
Fits (want.Look f w) a = LookFits w a
Fits (want.Open f m) a = OpenFits a m
Fits (want.OpenToMend f) a = MendFits a
Fits (want.Make group kind sites) a = MakeFits a
Fits (want.Do i o) a = DoFits o a
Fits (want.Close i) a = CloseFits a
Fits (want.Give r) a = ⊥
Fits want.Never a = ⊥

-- ---- wants ----

-- a resolution is as the words of the call say
abbrev pub OpensAs : Call → OpenMode → Type 0
OpensAs words (opens.Resolve site) = site_named (Some words) ≡ Some site
OpensAs words _ = Unit {0}

-- the call reads
abbrev pub ReadWords : Call → Type 0
ReadWords (call.Read fd at len) = Unit {0}
ReadWords _ = ⊥

-- the call is on a descriptor
abbrev pub UsesWords : Call → Type 0
UsesWords (call.Read fd at len) = Unit {0}
UsesWords (call.Write fd at bytes) = Unit {0}
UsesWords (call.Cut fd len) = Unit {0}
UsesWords (call.Commit fd) = Unit {0}
UsesWords (call.Abort fd) = Unit {0}
UsesWords (call.Close fd) = Unit {0}
UsesWords _ = ⊥

-- the call opens
abbrev pub OpensWords : Call → Type 0
OpensWords (call.Open path m) = Unit {0}
OpensWords _ = ⊥

-- the reply doesn't say that the epoch was left, has no descriptor but the free one, of an open, and has bytes for calls on descriptors alone
abbrev pub GivesRight : Call → Option ℕ → Reply → Type 0
GivesRight words free (reply.No why) = NotChanged why
GivesRight words free (reply.Opened fd) = (free ≡ Some fd) × OpensWords words
GivesRight words free (reply.Data bytes) = UsesWords words
GivesRight words free _ = Unit {0}

-- a call with these words wants this rightly, where this is the free descriptor of its process: what it opens has a number, or a read opens
-- what its descriptor keeps
abbrev pub IsSound : Call → Option ℕ → Want → Type 0
IsSound words free (want.Open f m) = ((1 ≤ f.ino) × OpensAs words m) ⊎ (ReadWords words × (m ≡ opens.Read))
IsSound words free (want.OpenToMend f) = words ≡ call.Mend f
IsSound words free (want.Give r) = GivesRight words free r
IsSound words free want.Never = ⊥
IsSound words free _ = Unit {0}

-- ---- scripts ----

abbrev pub Script : Type 0
Script = List Answer → Want

-- each of the answers fits what the script wants before it
abbrev pub AllFit : Script → List Answer → Type 0
AllFit k [] = Unit {0}
AllFit k (a ∷ xs) = Fits (k []) a × AllFit (λ ys. k (a ∷ ys)) xs

-- after answers that fit, the script wants something rightly
abbrev pub Sound : Call → Option ℕ → Script → List Answer → Type 0
Sound words free k [] = IsSound words free (k [])
Sound words free k (a ∷ xs) = Fits (k []) a → Sound words free (λ ys. k (a ∷ ys)) xs

-- a script that is sound, after answers that have fitted
pub sound_where : (words : Call) (free : Option ℕ) (k : Script) (xs : List Answer) → Sound words free k xs → AllFit k xs → IsSound words free (k xs)
sound_where words free k [] s fit = s
sound_where words free k (a ∷ xs) s fit = sound_where words free (λ ys. k (a ∷ ys)) xs (s fit.0) fit.1
