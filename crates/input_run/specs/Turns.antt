-- What one turn of a run, for one line, does and writes.
use Rattle.std.specs.Prelude.{ℕ, ◌≡◌, ◌⊎◌, Bool, true, false, List, [], ◌∷◌, ◌++◌}
use Rattle.std.specs.declared.option.Option.{Option}
use Rattle.std.specs.Io.KnownBytes.{Appends, Keeps}
use Rattle.locus_io.specs.Causes.{AppendsFront}
use Rattle.schedule_lines.specs.declared.line.ScheduleLine.{ScheduleLine}
use Rattle.the_run.specs.Worlds.{Limit}
use Rattle.the_run.specs.Runs.{run}
use Rattle.input_run.specs.declared.status.Status.{Status}
use Rattle.input_run.specs.declared.status.Status.TheVariants as status
use Rattle.input_run.specs.declared.status.Limited.TheVariants.{Line, Lines}
use Rattle.input_run.specs.Inputs.{Input, StandsFor}
use Rattle.input_run.specs.Runs.{output_of}

-- a turn may end a run so
abbrev pub ends_turn : Status → Bool
ends_turn status.Ok = false
ends_turn status.BadWords = false
ends_turn (status.BadLine line) = true
ends_turn status.ReadFault = false
ends_turn status.WriteFault = true
ends_turn status.NoMemory = true
ends_turn (status.Limit Line) = false
ends_turn (status.Limit Lines) = false
ends_turn (status.Limit _) = true

-- telling what is fresh may end a run so
abbrev pub ends_telling : Status → Bool
ends_telling (status.BadLine line) = false
ends_telling s = ends_turn s

-- What runs lines: after these lines of bytes, which stand for these lines of a run, and with these bytes of the output taken.
abbrev pub Standing : Type 0 → Type 1
Standing R = List (List ℕ) → List ScheduleLine → List ℕ → R → Type 0

-- these lines are run, and all their output was taken
abbrev pub HasTold : {R : Type 0} → Standing R → Input → List (List ℕ) → List ScheduleLine → R → Type 0
HasTold stands input all lines r = stands all lines (output_of input lines) r

-- with these bytes as their last line the lines stand for some lines of a run, and these are run
pub record RunsOn {R : Type 0} (stands : Standing R) (input : Input) (all : List (List ℕ)) (bytes taken : List ℕ) (new : R) : Type 0 where
  pub longer : List ScheduleLine
  pub next : StandsFor input (all ++ bytes ∷ []) longer
  pub ran : stands (all ++ bytes ∷ []) longer taken new

-- The rest of the output is taken and written. The run passes this limit, or none.
pub record Tells {R : Type 0} (stands : Standing R) (input : Input) (all : List (List ℕ)) (lines : List ScheduleLine) (taken : List ℕ) (limit : Option Limit) (new : R) (before after : Option (List ℕ)) : Type 0 where
  pub told : HasTold stands input all lines new
  pub passes : (run lines).over ≡ limit
  pub fresh : List ℕ
  pub rest : output_of input lines ≡ taken ++ fresh
  pub written : Appends before after fresh

-- a front of the rest of the output is written
pub record TellsFront (input : Input) (lines : List ScheduleLine) (taken : List ℕ) (before after : Option (List ℕ)) : Type 0 where
  pub fresh : List ℕ
  pub rest : output_of input lines ≡ taken ++ fresh
  pub written : AppendsFront before after fresh

-- With these bytes as their last line the lines are run, and the rest of the output is told.
pub record Goes {R : Type 0} (stands : Standing R) (input : Input) (all : List (List ℕ)) (lines : List ScheduleLine) (bytes : List ℕ) (limit : Option Limit) (new : R) (before after : Option (List ℕ)) : Type 0 where
  pub longer : List ScheduleLine
  pub next : StandsFor input (all ++ bytes ∷ []) longer
  pub tells : Tells stands input (all ++ bytes ∷ []) longer (output_of input lines) limit new before after

-- with these bytes as their last line the lines are run, and a front of the rest of the output is told
pub record GoesInPart (input : Input) (all : List (List ℕ)) (lines : List ScheduleLine) (bytes : List ℕ) (before after : Option (List ℕ)) : Type 0 where
  pub longer : List ScheduleLine
  pub next : StandsFor input (all ++ bytes ∷ []) longer
  pub tells : TellsFront input longer (output_of input lines) before after

-- nothing is written, or a front of the rest of the output
abbrev pub IsCutShort : Input → List (List ℕ) → List ScheduleLine → List ℕ → Option (List ℕ) → Option (List ℕ) → Type 0
IsCutShort input all lines bytes before after = Keeps before after ⊎ GoesInPart input all lines bytes before after
