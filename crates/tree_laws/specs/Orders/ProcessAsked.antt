-- What a call asks of an instance, and what the instance then is.
use Rattle.std.specs.Prelude.{ℕ, ◌≡◌, ◌⊎◌, List, Option, Some}
use Rattle.locus_ids.specs.declared.config.Config.{Config}
use Rattle.locus_ids.specs.declared.ids.CallId.{CallId}
use Rattle.locus_ids.specs.declared.ids.EpochId.{EpochId}
use Rattle.locus_ids.specs.declared.ids.FileId.{FileId}
use Rattle.locus_ids.specs.declared.ids.Mode.{Mode}
use Rattle.locus_ids.specs.declared.ids.Serial.{Serial}
use Rattle.locus_ids.specs.declared.ids.Stamp.{Stamp}
use Rattle.trace_book.specs.declared.operation.Op.{Op}
use Rattle.call_rules.specs.declared.want.Want.TheVariants as want
use Rattle.the_run.specs.Worlds.{Line}
use Rattle.tree_model.specs.declared.instance.Instance.{Instance}
use Rattle.tree_laws.specs.Calls.{Asks}
use Rattle.tree_laws.specs.Instances.{instance_now}
use Rattle.tree_laws.specs.Past.{WasGranted, WasReleased}

-- the call asks an operation of the instance, or its close
abbrev pub AsksOf : Config → List Line → CallId → Serial → Type 0
AsksOf c trace d i = ((o : Op) × Asks c trace d (want.Do i o)) ⊎ Asks c trace d (want.Close i)

-- the instance was granted so in the epoch, to a call of its site, and is open
pub record IsOpenOf (c : Config) (trace : List Line) (e : EpochId) (i : Serial) (site : ℕ) : Type 0 where
  pub us_is : i.us ≡ site
  pub granted : CallId
  pub request : ℕ
  pub mode : Mode
  pub file : FileId
  pub stamp : Option Stamp
  pub place : ℕ
  pub was_granted : WasGranted trace e granted request i mode file stamp place
  pub unreleased : WasReleased trace e i → ⊥
  pub at : Instance
  pub found : instance_now c trace e i ≡ Some at
  pub call_is : at.grant.call ≡ granted
  pub serial_is : at.grant.inst ≡ i
  pub mode_is : at.grant.mode ≡ mode
  pub file_is : at.grant.file ≡ file
  pub place_is : at.grant.ss ≡ place
