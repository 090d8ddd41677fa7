-- What is still to be known of the opens that scripts ask.
use Rattle.std.specs.Prelude.{ℕ, ◌≡◌, List, Some}
use Rattle.locus_ids.specs.declared.config.Config.{Config}
use Rattle.locus_ids.specs.declared.ids.CallId.{CallId}
use Rattle.locus_ids.specs.declared.ids.EpochId.{EpochId}
use Rattle.locus_ids.specs.declared.ids.FileId.{FileId}
use Rattle.wire_messages.specs.declared.body.Opening.{Opening}
use Rattle.wire_messages.specs.declared.body.Opening.TheVariants as how
use Rattle.the_run.specs.Worlds.{Line}
use Rattle.tree_model.specs.declared.accepted.Waiting.{Waiting}
use Rattle.tree_model.specs.Calls.{call_named}
use Rattle.tree_model.specs.Opening.{site_named}
use Rattle.tree_laws.specs.Instances.{AsksOpen}
use Rattle.tree_laws.specs.Printed.{entries}
use Rattle.store_laws.specs.of_tree_laws.Syncs.Opening.{IsPlainOpening}

pub record OpensAreSaid (c : Config) (trace : List Line) : Type 0 where
  -- a file that is opened has a number: no entry of a directory names number 0
  pub numbered : (e : EpochId) (d : CallId) (request serial : ℕ) (f : FileId) (q : Opening) → AsksOpen c trace e d request serial f q → IsPlainOpening q → f.ino ≡ 0 → ⊥
  -- a resolution is asked as the words of its call say
  pub resolves : (e : EpochId) (d : CallId) (request serial : ℕ) (f : FileId) (site : ℕ) → AsksOpen c trace e d request serial f (how.Resolve site) → (w : Waiting) → call_named (entries trace) d ≡ Some w → site_named (Some w.words) ≡ Some site
