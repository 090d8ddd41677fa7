-- The printed trace is one, by whichever name the laws call it.
use Rattle.std.specs.Prelude.{◌≡◌, reverse}
use Rattle.tree_model.specs.Folds.{told}
use Rattle.the_run.specs.Runs.{entries_of_run, printed}
use Rattle.the_run.specs.Worlds.{World}
use Rattle.row_laws.specs.Shown.{trace_of}
use Rattle.tree_laws.specs.Printed.{entries}
use Rattle.site_laws.specs.Kept.Printed.{printed as printed_lines}

-- Whatever a command writes, its text, its replies or its counts, is of these records, the earliest first; the laws speak of just
-- these, the latest first.
pub record TraceIsOne (w : World) : Type 0 where
  pub records : entries_of_run w ≡ reverse (trace_of w)
  pub text : printed w ≡ told (trace_of w)
  pub of_trees : entries w.trace ≡ trace_of w
  pub of_versions : printed_lines w.trace ≡ trace_of w
