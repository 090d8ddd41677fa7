-- Versions that the trees know stand in the history.
use Rattle.std.specs.Prelude.{ℕ, ◌≡◌, true, Some}
use Rattle.locus_ids.specs.declared.config.Config.{Config}
use Rattle.locus_ids.specs.declared.ids.EpochId.{EpochId}
use Rattle.locus_ids.specs.declared.ids.FileId.{FileId}
use Rattle.locus_ids.specs.declared.ids.Serial.{Serial}
use Rattle.locus_ids.specs.declared.ids.Stamp.{Stamp}
use Rattle.commit_graph.specs.Versions.{is_in}
use Rattle.tree_model.specs.declared.instance.Instance.{Instance}
use Rattle.tree_model.specs.Folds.{Trace}
use Rattle.tree_model.specs.Histories.{history}
use Rattle.tree_model.specs.State.{has_stamp, held_at, instance_in}
use Rattle.tree_model.specs.Tree.{candidates, tree_of}

-- Each version that was brought to an epoch or published in it, each that a site has of a file in an epoch, and each that an
-- open instance has committed, is one of the file's commits or the root of a freshly formatted pack.
pub record VersionsStand (c : Config) (trace : Trace) : Type 0 where
  pub known : (e : EpochId) (f : FileId) (s : Stamp) → has_stamp (candidates c trace e f) s ≡ true → is_in (history c trace) f s ≡ true
  pub held : (e : EpochId) (f : FileId) (site : ℕ) (s : Stamp) → held_at (tree_of c e f.group trace) site f.ino ≡ Some s → is_in (history c trace) f s ≡ true
  pub committed : (e : EpochId) (group : ℕ) (i : Serial) (x : Instance) (s : Stamp) → instance_in (tree_of c e group trace) i ≡ Some x → x.work.committed ≡ Some s → is_in (history c trace) x.grant.file s ≡ true
