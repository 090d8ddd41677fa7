-- Traces, and how the law of one version judges them.
use Rattle.std.specs.Prelude.{ℕ, ◌≡◌, List, ◌++◌, Option, reverse, take}
use Rattle.locus_ids.specs.declared.config.Config.{Config}
use Rattle.trace_book.specs.declared.descriptor.OneVersion.{OneVersion}
use Rattle.trace_book.specs.declared.entry.Entry.{Entry}
use Rattle.schedule_lines.specs.Cluster.{config_of}
use Rattle.schedule_lines.specs.declared.line.ScheduleLine.{ScheduleLine}
use Rattle.tree_model.specs.Folds.{Trace}
use Rattle.steady_laws.specs.OneVersion.{ReadsOneVersion, kept_version}

pub record Sample : Type 0 where
  pub lines : List ScheduleLine
  -- the earliest record first
  pub trace : List Entry

abbrev pub cluster : Sample → Config
cluster x = config_of x.lines

-- the latest record first, as folds take it
abbrev pub told : Sample → Trace
told x = reverse x.trace

-- the first so many records of a sample, and these
abbrev pub first_of : ℕ → Sample → List Entry → Sample
first_of n x more = record x { trace = take n x.trace ++ more }

-- the law holds of it
abbrev pub IsLawful : Sample → Type 0
IsLawful x = ReadsOneVersion (cluster x) (told x)

-- after the first so many records that number of process 1 at site 2 keeps this version
abbrev pub Keeps : ℕ → Sample → ℕ → Option OneVersion → Type 0
Keeps n x fd version = kept_version (reverse (take n x.trace)) 2 1 fd ≡ version

-- the first so many records are as the law has it, and the whole trace isn't
abbrev pub BreaksAfter : ℕ → Sample → Type 0
BreaksAfter n x = ReadsOneVersion (cluster x) (reverse (take n x.trace)) × (IsLawful x → ⊥)
