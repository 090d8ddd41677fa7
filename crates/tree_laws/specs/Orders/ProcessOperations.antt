-- How many operations a site has asked of an open instance: those that were done on it, and the one that is asked still.
use Rattle.std.specs.Prelude.{◌≡◌, ◌⊎◌, ◌+◌, List}
use Rattle.locus_ids.specs.declared.config.Config.{Config}
use Rattle.locus_ids.specs.declared.ids.CallId.{CallId}
use Rattle.locus_ids.specs.declared.ids.EpochId.{EpochId}
use Rattle.locus_ids.specs.declared.ids.Serial.{Serial}
use Rattle.trace_book.specs.declared.operation.Op.{Op}
use Rattle.call_rules.specs.declared.want.Want.TheVariants as want
use Rattle.the_run.specs.Worlds.{Line}
use Rattle.tree_model.specs.declared.instance.Instance.{Instance}
use Rattle.lawful_trace.specs.TreeRows.{IsCallIn}
use Rattle.tree_laws.specs.Printed.{entries}
use Rattle.tree_laws.specs.Calls.{Asks}
use Rattle.tree_laws.specs.Serials.{ops_asked}

-- no call of the epoch asks an operation of it
abbrev pub Nobody : Config → List Line → EpochId → Serial → Type 0
Nobody c t e i = (d : CallId) (o : Op) → IsCallIn (entries t) e d → Asks c t d (want.Do i o) → ⊥

-- one call does
pub record Somebody (c : Config) (t : List Line) (e : EpochId) (i : Serial) : Type 0 where
  pub call : CallId
  pub operation : Op
  pub inside : IsCallIn (entries t) e call
  pub asks : Asks c t call (want.Do i operation)

-- what is asked is what is done, or one more
pub record AllDone (c : Config) (t : List Line) (e : EpochId) (i : Serial) (at : Instance) : Type 0 where
  pub count : ops_asked c t i ≡ at.work.ops
  pub nobody : Nobody c t e i

pub record OneMore (c : Config) (t : List Line) (e : EpochId) (i : Serial) (at : Instance) : Type 0 where
  pub count : ops_asked c t i ≡ at.work.ops + 1
  pub somebody : Somebody c t e i

abbrev pub OpsAre : Config → List Line → EpochId → Serial → Instance → Type 0
OpsAre c t e i at = AllDone c t e i at ⊎ OneMore c t e i at
