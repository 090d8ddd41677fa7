-- What a site has of a file in an epoch, and how an open instance stands on it.
use Rattle.std.specs.Prelude.{ℕ, ◌≡◌, ◌⊎◌, true, List, None, Some}
use Rattle.locus_ids.specs.declared.config.Config.{Config}
use Rattle.locus_ids.specs.declared.ids.EpochId.{EpochId}
use Rattle.locus_ids.specs.declared.ids.FileId.{FileId}
use Rattle.locus_ids.specs.declared.ids.Stamp.{Stamp}
use Rattle.commit_graph.specs.Grants.{is_read}
use Rattle.commit_graph.specs.Versions.{is_ancestor}
use Rattle.tree_laws.specs.of_the_run.Worlds.{Line}
use Rattle.tree_model.specs.declared.instance.Instance.{Instance}
use Rattle.tree_model.specs.Epochs.{epoch_of, has_joined}
use Rattle.tree_model.specs.Folds.{Trace}
use Rattle.tree_model.specs.Histories.{held, history}
use Rattle.tree_model.specs.Packs.{has_pack}
use Rattle.tree_model.specs.State.{has_stamp}
use Rattle.tree_model.specs.Tree.{kept_in}
use Rattle.tree_laws.specs.Instances.{IsKnown, held_in}
use Rattle.tree_laws.specs.Tables.{IsAhead}

-- While a site is in an epoch it has there what it has now; a site that has something there has joined the epoch, and has a pack
-- of the group.
pub record SitesHold (c : Config) (before : Trace) : Type 0 where
  pub now : (e : EpochId) (site : ℕ) (f : FileId) → epoch_of before site ≡ Some e → held_in c before e site f ≡ held c before site f
  pub joined : (e : EpochId) (site : ℕ) (f : FileId) (stamp : Stamp) → held_in c before e site f ≡ Some stamp → has_joined before site e ≡ true
  pub packed : (e : EpochId) (site : ℕ) (f : FileId) (stamp : Stamp) → held_in c before e site f ≡ Some stamp → has_pack c f.group site ≡ true

-- An open instance stands on what its storage site has, which has joined the epoch: that is its last version, and what it has
-- committed is the last. One that only reads has committed nothing.
pub record StandsOnHeld (c : Config) (before : Trace) (e : EpochId) (x : Instance) : Type 0 where
  pub joined : has_joined before x.grant.ss e ≡ true
  pub last_is : x.work.last ≡ held_in c before e x.grant.ss x.grant.file
  pub made : (s : Stamp) → x.work.committed ≡ Some s → x.work.last ≡ Some s
  pub reads : is_read x.grant.mode ≡ true → x.work.committed ≡ None

-- one of the kept versions is this one or above it
pub record IsBelowKept (c : Config) (before : Trace) (e : EpochId) (f : FileId) (stamp : Stamp) : Type 0 where
  pub top : Stamp
  pub is_kept : has_stamp (kept_in c before e f) top ≡ true
  pub above : is_ancestor (history c before) f stamp top ≡ true

-- what the site has is known in the epoch, or a writer there is ahead
abbrev pub IsKnownOrAhead : Config → List Line → EpochId → ℕ → FileId → Stamp → Type 0
IsKnownOrAhead c trace e site f stamp = IsKnown c trace e f stamp ⊎ IsAhead c trace e site f
