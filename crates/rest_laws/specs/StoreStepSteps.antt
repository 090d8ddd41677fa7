-- What the operations of storage sites rest on beside, of every trace so far: what mends bring.
use Rattle.std.specs.Prelude.{◌≡◌, ◌≤◌, List, Some}
use Rattle.locus_ids.specs.declared.config.Config.{Config}
use Rattle.locus_ids.specs.declared.ids.CallId.{CallId}
use Rattle.locus_ids.specs.declared.ids.Serial.{Serial}
use Rattle.locus_ids.specs.Sizes.{sites_max}
use Rattle.trace_book.specs.declared.operation.Op.TheVariants as op
use Rattle.call_rules.specs.declared.want.Want.TheVariants as want
use Rattle.role_steps.specs.Mends.{mending}
use Rattle.role_steps.specs.Storage.{instance_of}
use Rattle.role_steps.specs.Views.{Frame, SiteView}
use Rattle.role_steps.specs.declared.instances.Instance.{Instance}
use Rattle.the_run.specs.Steps.{group_of}
use Rattle.the_run.specs.Worlds.{Line}
use Rattle.lawful_trace.specs.TreeRows.{IsCallIn}
use Rattle.tree_laws.specs.Calls.{Asks}
use Rattle.tree_laws.specs.Printed.{entries}
use Rattle.store_laws.specs.Rests.{MendsAs}
use Rattle.store_laws.specs.OneTree.Places.{InsideFact}
use Rattle.store_laws.specs.OneTree.Roles.{Ready}

pub record MendsRest (c : Config) : Type 0 where
  -- a mend that a call asks of an instance now works on what the tree has kept
  pub mends : (trace : List Line) (f : Frame) (v : SiteView) → Ready c trace f → InsideFact c f trace v → (inst : Serial) → inst.us ≤ sites_max → (i : Instance) → instance_of v.store inst ≡ Some i → (d : CallId) → IsCallIn (entries trace) f.epoch d → Asks c trace d (want.Do inst op.Mend) →
      MendsAs c trace f i.file (mending v (group_of (instance_of v.store inst)))
