-- What a call that asks to mend is, and what it has brought.
use Rattle.std.specs.Prelude.{ℕ, ◌≡◌, List, Option, Some}
use Rattle.locus_ids.specs.declared.config.Config.{Config}
use Rattle.locus_ids.specs.declared.ids.CallId.{CallId}
use Rattle.locus_ids.specs.declared.ids.EpochId.{EpochId}
use Rattle.locus_ids.specs.declared.ids.FileId.{FileId}
use Rattle.locus_ids.specs.declared.ids.Mode.TheVariants as mode
use Rattle.locus_ids.specs.declared.ids.Serial.{Serial}
use Rattle.locus_ids.specs.declared.ids.Stamp.{Stamp}
use Rattle.trace_book.specs.declared.call.Call.TheVariants as call
use Rattle.tree_laws.specs.of_the_run.Worlds.{Line}
use Rattle.tree_model.specs.declared.accepted.Waiting.{Waiting}
use Rattle.tree_model.specs.Calls.{call_named}
use Rattle.tree_model.specs.Tree.{kept_in}
use Rattle.tree_laws.specs.Calls.{log}
use Rattle.tree_laws.specs.Past.{WasGranted, WasReleased}
use Rattle.tree_laws.specs.Printed.{entries}
use Rattle.tree_laws.specs.Users.{taken_whole}

-- The call is a mend of this file, to which the instance was granted to mend, and which isn't released; and the versions whose
-- contents it has taken are those that are kept of the file, in order.
pub record MendsNow (c : Config) (trace : List Line) (e : EpochId) (d : CallId) (i : Serial) : Type 0 where
  pub caller : Waiting
  pub named : call_named (entries trace) d ≡ Some caller
  pub file : FileId
  pub words_are : caller.words ≡ call.Mend file
  pub request : ℕ
  pub stamp : Option Stamp
  pub place : ℕ
  pub was : WasGranted trace e d request i mode.Mend file stamp place
  pub unreleased : WasReleased trace e i → ⊥
  pub taken_is : taken_whole (log trace d) ≡ kept_in c (entries trace) e file
