-- Which records stand first at their line, and which alone.
use Rattle.std.specs.Prelude.{◌≡◌, true, false, not, ◌||◌}
use Rattle.trace_book.specs.declared.entry.Entry.{Entry}
use Rattle.tree_model.specs.Folds.{Trace}
use Rattle.lawful_trace.specs.Prompt.{comes_first_at, is_first_at, is_over}

-- That a line is void, a call that it asks and a boot stand first at their line; and after a record that the line is void comes no
-- other of it. So a record that a line is void is its only one.
pub record StandsAlone (before : Trace) (r : Entry) : Type 0 where
  pub first : not (comes_first_at r.what) || is_first_at r.line before ≡ true
  pub alone : is_over before r.line ≡ false
