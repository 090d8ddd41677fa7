-- Traces, and how the law of boxes judges them.
use Rattle.std.specs.Prelude.{ℕ, ◌≡◌, List, ◌++◌, reverse, take}
use Rattle.locus_ids.specs.declared.config.Config.{Config}
use Rattle.locus_ids.specs.declared.ids.FileId.{FileId}
use Rattle.locus_ids.specs.declared.ids.Stamp.{Stamp}
use Rattle.commit_graph.specs.Versions.{content_of}
use Rattle.trace_book.specs.Messages.{messages}
use Rattle.trace_book.specs.declared.entry.Entry.{Entry}
use Rattle.schedule_lines.specs.Cluster.{config_of}
use Rattle.schedule_lines.specs.declared.line.ScheduleLine.{ScheduleLine}
use Rattle.dir_format.specs.Contents.{entries_of}
use Rattle.dir_format.specs.Lookups.{shown_names}
use Rattle.tree_model.specs.Folds.{Trace}
use Rattle.tree_model.specs.Histories.{history}
use Rattle.headline_laws.specs.Boxes.Boxes.{AreBoxes, KeepsToMail, boxed, makings}

pub record Sample : Type 0 where
  pub lines : List ScheduleLine
  -- the earliest record first
  pub trace : List Entry

abbrev pub cluster : Sample → Config
cluster x = config_of x.lines

-- the latest record first, as folds take it
abbrev pub told : Sample → Trace
told x = reverse x.trace

-- the first so many records of a sample, and these
abbrev pub first_of : ℕ → Sample → List Entry → Sample
first_of n x more = record x { trace = take n x.trace ++ more }

-- the law speaks of the trace
abbrev pub IsSpokenOf : Sample → Type 0
IsSpokenOf x = KeepsToMail (cluster x) (told x)

-- the version of the directory shows these messages, and these are they that it must show
abbrev pub Shows : Sample → FileId → Stamp → List (List ℕ) → Type 0
Shows x f s names = (messages (shown_names (entries_of (content_of (history (cluster x) (told x)) f s))) ≡ names) × (boxed (makings (cluster x) (told x)) f s ≡ names)

-- the law speaks of the trace, and is false of it: the version shows these messages, and these others are they that it must show
abbrev pub ShowsWrongly : Sample → FileId → Stamp → List (List ℕ) → List (List ℕ) → Type 0
ShowsWrongly x f s names others = IsSpokenOf x × (messages (shown_names (entries_of (content_of (history (cluster x) (told x)) f s))) ≡ names) × (boxed (makings (cluster x) (told x)) f s ≡ others) × (AreBoxes (cluster x) (told x) → ⊥)

-- the law doesn't speak of the trace
abbrev pub IsLeftOut : Sample → Type 0
IsLeftOut x = IsSpokenOf x → ⊥
