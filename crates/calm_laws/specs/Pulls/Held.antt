-- What a site has of a file as more lines are told.
use Rattle.std.specs.Prelude.{ℕ, ◌≡◌, ◌⊎◌, true, List, ◌++◌, Some}
use Rattle.locus_ids.specs.declared.config.Config.{Config}
use Rattle.locus_ids.specs.declared.ids.EpochId.{EpochId}
use Rattle.locus_ids.specs.declared.ids.FileId.{FileId}
use Rattle.locus_ids.specs.declared.ids.Stamp.{Stamp}
use Rattle.role_steps.specs.Versions.{is_below}
use Rattle.the_run.specs.Worlds.{Line}
use Rattle.tree_laws.specs.Instances.{held_in}
use Rattle.tree_laws.specs.Printed.{entries}
use Rattle.store_laws.specs.OneTree.Rest.{Past}
use Rattle.calm_laws.specs.Pulls.Known.{written}

-- After more lines the site has this version, or one whose vector is above that of this one, which stays what it was.
pub record HasNoLower (c : Config) (new old : List Line) (e : EpochId) (site : ℕ) (f : FileId) (before : Stamp) : Type 0 where
  pub later : Stamp
  pub held : held_in c (entries (new ++ old)) e site f ≡ Some later
  pub same : written c (new ++ old) f before ≡ written c old f before
  pub rises : (later ≡ before) ⊎ (is_below (written c (new ++ old) f before) (written c (new ++ old) f later) ≡ true)

abbrev pub HeldNeverFalls : Config → List Line → List Line → Type 0
HeldNeverFalls c new old = Past c (new ++ old) → (e : EpochId) (site : ℕ) (f : FileId) (before : Stamp) → held_in c (entries old) e site f ≡ Some before → HasNoLower c new old e site f before
