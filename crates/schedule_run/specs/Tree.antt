-- Where the runner of a tree stands, and how it goes on.
use Rattle.std.specs.Prelude.{ℕ, ◌≡◌, List, [], ◌∷◌, ◌++◌, Option, None, Some}
use Rattle.schedule_lines.specs.Cluster.{header_of}
use Rattle.run_book.specs.declared.writing.Writing.TheVariants.{Replies}
use Rattle.the_run.specs.Asking.{tree_cluster, Asks}
use Rattle.the_run.specs.Commands.{Asked, tree_lines}
use Rattle.world.specs.Shown.{Taken}
use Rattle.schedule_run.specs.Opened.{HasDone}
use Rattle.schedule_run.specs.declared.tree.TreeRunner.{TreeRunner}

-- these bytes of the replies were taken
abbrev pub replies_taken : List ℕ → Taken
replies_taken bytes = record { writing = Replies; bytes = bytes }

-- the runner after these calls, where these bytes of the replies were taken
pub record HasRun (calls : List Asked) (taken : List ℕ) (r : TreeRunner) : Type 0 where
  pub header : r.header ≡ header_of tree_cluster
  pub done : HasDone (tree_lines calls) (replies_taken taken) r.run

abbrev pub with_asked : List Asked → Option Asked → List Asked
with_asked calls None = calls
with_asked calls (Some a) = calls ++ a ∷ []

-- the bytes are a line of the input, and the runner has run what it asks too
pub record RunsNext (calls : List Asked) (bytes taken : List ℕ) (new : TreeRunner) : Type 0 where
  pub asked : Option Asked
  pub asks : Asks bytes asked
  pub ran : HasRun (with_asked calls asked) taken new
