-- What a call asks to make, and what was begun for it.
use Rattle.std.specs.Prelude.{ℕ, ◌≡◌, List}
use Rattle.locus_ids.specs.declared.config.Config.{Config}
use Rattle.locus_ids.specs.declared.ids.CallId.{CallId}
use Rattle.locus_ids.specs.declared.ids.EpochId.{EpochId}
use Rattle.locus_ids.specs.declared.ids.FileId.{FileId}
use Rattle.locus_ids.specs.declared.ids.Kind.{Kind}
use Rattle.locus_ids.specs.declared.ids.Serial.{Serial}
use Rattle.locus_ids.specs.declared.sites.Sites.{Sites}
use Rattle.wire_messages.specs.declared.body.Opening.TheVariants as how
use Rattle.role_steps.specs.Views.{Told, Begins}
use Rattle.the_run.specs.Worlds.{Line}
use Rattle.tree_laws.specs.Instances.{AsksOpen}
use Rattle.tree_laws.specs.Past.{Was}

-- the call asks this make now, of a file of this group, with this set
pub record AsksMake (c : Config) (trace : List Line) (e : EpochId) (d : CallId) (i : Serial) (group : ℕ) (set : Sites) : Type 0 where
  pub request : ℕ
  pub file : FileId
  pub kind : Kind
  pub asks : AsksOpen c trace e d request i.serial file (how.Make set kind)
  pub user_is : i.us ≡ d.site
  pub group_is : file.group ≡ group

-- what is begun is a make that the call asks
abbrev pub MakesFor : Config → EpochId → CallId → Serial → List Line → Told → Type 0
MakesFor c e d i older (Begins s at inst f) = (at ≡ e) × (inst ≡ i) × ((set : Sites) × AsksMake c older e d i f.group set)
MakesFor c e d i older _ = ⊥

-- the instance was begun as a make of this call
abbrev pub WasMadeFor : Config → List Line → EpochId → CallId → Serial → Type 0
WasMadeFor c trace e d i = Was (MakesFor c e d i) trace
