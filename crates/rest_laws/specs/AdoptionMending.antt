-- A mend that waits while its instance is open.
use Rattle.std.specs.Prelude.{◌≡◌, List}
use Rattle.trace_book.specs.declared.call.Call.TheVariants as call
use Rattle.the_run.specs.Kept.{Among}
use Rattle.the_run.specs.Worlds.{Line}
use Rattle.tree_model.specs.declared.accepted.Waiting.{Waiting}
use Rattle.tree_model.specs.declared.instance.Instance.{Instance}
use Rattle.tree_model.specs.Calls.{waiting}
use Rattle.tree_laws.specs.Printed.{entries}

-- the call that has the instance is a mend of its file, and waits at the instance's storage site
pub record MendWaits (trace : List Line) (x : Instance) : Type 0 where
  pub caller : Waiting
  pub call_is : caller.call ≡ x.grant.call
  pub waits : Among caller (waiting (entries trace))
  pub site_is : caller.site ≡ x.grant.ss
  pub words_are : caller.words ≡ call.Mend x.grant.file
