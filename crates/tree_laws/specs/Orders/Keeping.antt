-- While an open instance may change a file, the kept versions of the file stay.
use Rattle.std.specs.Prelude.{ℕ, ◌≡◌, false, ◌∷◌, Some}
use Rattle.locus_ids.specs.declared.config.Config.{Config}
use Rattle.locus_ids.specs.declared.ids.EpochId.{EpochId}
use Rattle.locus_ids.specs.declared.ids.FileId.{FileId}
use Rattle.locus_ids.specs.declared.ids.Serial.{Serial}
use Rattle.commit_graph.specs.Grants.{is_read}
use Rattle.commit_graph.specs.Versions.{is_in}
use Rattle.trace_book.specs.declared.record.Record.{Record}
use Rattle.trace_book.specs.declared.record.Record.TheVariants as says
use Rattle.tree_model.specs.declared.instance.Instance.{Instance}
use Rattle.tree_model.specs.Folds.{Trace}
use Rattle.tree_model.specs.Histories.{history}
use Rattle.tree_model.specs.State.{instance_in}
use Rattle.tree_model.specs.Tree.{kept_in, tree_of}

-- an open instance of the epoch under this serial number, of this file, which isn't only read
pub record IsChanging (c : Config) (before : Trace) (e : EpochId) (f : FileId) (i : Serial) (x : Instance) : Type 0 where
  pub found : instance_in (tree_of c e f.group before) i ≡ Some x
  pub file_is : x.grant.file ≡ f
  pub writes : is_read x.grant.mode ≡ false

-- the record doesn't end that instance, and what it commits is a new version
abbrev pub PassesBy : Config → Trace → EpochId → FileId → Serial → Record → Type 0
PassesBy c before e f i (says.Commit g site stamp parents content) = is_in (history c before) g stamp ≡ false
PassesBy c before e f i (says.Release at inst g stamp) = at ≡ e → inst ≡ i → ⊥
PassesBy c before e f i _ = Unit {0}

-- then the versions of the file that are kept in the epoch are those of before
abbrev pub KeepsVersions : Config → ℕ → Record → Trace → Type 0
KeepsVersions c line r before =
    (e : EpochId) (f : FileId) (i : Serial) (x : Instance) → IsChanging c before e f i x → PassesBy c before e f i r → kept_in c (record { line = line; what = r } ∷ before) e f ≡ kept_in c before e f
