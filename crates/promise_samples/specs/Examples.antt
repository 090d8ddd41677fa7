-- Schedules with traces in printed order, and how the promises judge them.
use Rattle.std.specs.Prelude.{ℕ, ◌≡◌, ◌-◌, Bool, true, false, ◌&&◌, List, [], ◌∷◌, ◌++◌, length, take, drop, Option, None, Some}
use Rattle.locus_ids.specs.declared.config.Config.{Config}
use Rattle.trace_book.specs.declared.entry.Entry.{Entry}
use Rattle.trace_book.specs.declared.record.Record.{Record}
use Rattle.schedule_lines.specs.declared.line.ScheduleLine.{ScheduleLine}
use Rattle.schedule_lines.specs.Cluster.{config_of}
use Rattle.lawful_trace.specs.Samples.{Sample}
use Rattle.promises.specs.Past.{Past, nothing_yet}
use Rattle.promises.specs.Rows.{may_follow}
use Rattle.promises.specs.Traces.{first_wrong, each}
use Rattle.promises.specs.Lines.{IsAskedBy, IsAskedFor}
use Rattle.promises.specs.Beside.{commits_when_asked, comes_promptly, refusals_change_nothing}
use Rattle.promises.specs.Headline.{Headline, always, has_whole_files, serves_whole_files, keeps_acknowledged, loses_nothing, flags_rightly}

pub record Example : Type 0 where
  pub lines : List ScheduleLine
  -- the earliest record first
  pub trace : List Entry

abbrev pub earliest_first : List Entry → List Entry
earliest_first [] = []
earliest_first (r ∷ before) = earliest_first before ++ r ∷ []

-- a sample whose trace has the latest record first
abbrev pub printed : Sample → Example
printed s = record { lines = s.lines; trace = earliest_first s.trace }

-- the first so many records of an example, and these
abbrev pub first_of : ℕ → Example → List Entry → Example
first_of n x more = record x { trace = take n x.trace ++ more }

-- the number of the first record that doesn't pass, by those before it
abbrev pub wrong_in : (Config → Past → Record → Bool) → Example → Option ℕ
wrong_in passes x = first_wrong (passes (config_of x.lines)) (config_of x.lines) 1 (nothing_yet (config_of x.lines)) x.trace

-- each record may follow
abbrev pub Follows : Example → Type 0
Follows x = wrong_in may_follow x ≡ None

-- each record may follow but the last
abbrev pub FailsAtLast : Example → Type 0
FailsAtLast x = wrong_in may_follow x ≡ Some (length x.trace)

-- the phrases of the headline that the rows imply
abbrev pub keeps_phrases : Config → List Entry → Bool
keeps_phrases c trace =
    always has_whole_files c trace
    && (each serves_whole_files c (nothing_yet c) trace
    && (keeps_acknowledged c (nothing_yet c) [] trace
    && (always loses_nothing c trace
    && each flags_rightly c (nothing_yet c) trace)))

abbrev pub KeepsPhrases : Example → Type 0
KeepsPhrases x = keeps_phrases (config_of x.lines) x.trace ≡ true

-- the lines up to this one
abbrev pub until_line : ℕ → Example → Example
until_line n x = record x { lines = take n x.lines }

-- the example with another line in the place of this one
abbrev pub with_line : ℕ → ScheduleLine → Example → Example
with_line n l x = record x { lines = take (n - 1) x.lines ++ l ∷ drop n x.lines }

-- the lines don't ask for the trace
abbrev pub IsNotAsked : Example → Type 0
IsNotAsked x = IsAskedFor (config_of x.lines) x.lines x.trace → ⊥

-- the lines ask for the trace, whatever adoptions wrote: no disk is armed where one writes
abbrev pub IsAsked : Example → Type 0
IsAsked x = IsAskedBy (λ k. []) (config_of x.lines) x.lines x.trace

-- they ask for it, if each adoption wrote the first page
abbrev pub IsAskedByFirstPages : Example → Type 0
IsAskedByFirstPages x = IsAskedBy (λ k. 0 ∷ []) (config_of x.lines) x.lines x.trace

-- no refused call changes a named file
abbrev pub ChangesNothingRefused : Example → Type 0
ChangesNothingRefused x = each refusals_change_nothing (config_of x.lines) (nothing_yet (config_of x.lines)) x.trace ≡ true

-- the last record refuses a call that has changed one
abbrev pub ChangesRefused : Example → Type 0
ChangesRefused x = each refusals_change_nothing (config_of x.lines) (nothing_yet (config_of x.lines)) x.trace ≡ false

-- each record passes what stands beside the headline
abbrev pub KeepsBeside : Example → Type 0
KeepsBeside x = (wrong_in commits_when_asked x ≡ None) × (wrong_in comes_promptly x ≡ None) × ChangesNothingRefused x

-- the record with this number is the first commit that nobody asks for
abbrev pub CommitsUnaskedAt : ℕ → Example → Type 0
CommitsUnaskedAt n x = wrong_in commits_when_asked x ≡ Some n

-- the record with this number is the first before which a reply was owed
abbrev pub IsLateAt : ℕ → Example → Type 0
IsLateAt n x = wrong_in comes_promptly x ≡ Some n

-- the phrases, one by one

abbrev pub IsNotWhole : Example → Type 0
IsNotWhole x = always has_whole_files (config_of x.lines) x.trace ≡ false

abbrev pub ServesNoCommit : Example → Type 0
ServesNoCommit x = wrong_in serves_whole_in x ≡ Some (length x.trace)
  where
    serves_whole_in : Config → Past → Record → Bool
    serves_whole_in c = serves_whole_files

abbrev pub ForgetsAcknowledged : Example → Type 0
ForgetsAcknowledged x = keeps_acknowledged (config_of x.lines) (nothing_yet (config_of x.lines)) [] x.trace ≡ false

abbrev pub LosesCommits : Example → Type 0
LosesCommits x = always loses_nothing (config_of x.lines) x.trace ≡ false

abbrev pub FlagsWrongly : Example → Type 0
FlagsWrongly x = wrong_in flags_rightly_in x ≡ Some (length x.trace)
  where
    flags_rightly_in : Config → Past → Record → Bool
    flags_rightly_in c = flags_rightly

-- the headline holds of its lines, its trace and the text of that
abbrev pub IsHeadline : Example → Type 0
IsHeadline x = Headline x.lines x.trace
