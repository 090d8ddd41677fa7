-- A member tells which version of a file it has.
use Rattle.std.proofs.Common.{◌≡◌, ℕ, List, [], Option, Some, None, refl, sym, ◌∙◌, ap, subst}
use Rattle.locus_ids.specs.declared.config.Config.{Config}
use Rattle.locus_ids.specs.declared.ids.EpochId.{EpochId}
use Rattle.locus_ids.specs.declared.ids.FileId.{FileId}
use Rattle.locus_ids.specs.declared.ids.Stamp.{Stamp}
use Rattle.wire_messages.specs.declared.body.Body.TheVariants as body
use Rattle.wire_messages.specs.declared.packet.Packet.{Packet}
use Rattle.role_steps.specs.Reports.{on_have, on_have_of}
use Rattle.role_steps.specs.Versions.{file_row, noted, row_ino}
use Rattle.role_steps.specs.Views.{Frame, quiet}
use Rattle.role_steps.specs.declared.synchronizing.FileRow.{FileRow}
use Rattle.role_steps.specs.declared.synchronizing.SyncTable.{SyncTable}
use Rattle.the_run.specs.Worlds.{Line}
use Rattle.tree_laws.specs.Doing.{TableFine}
use Rattle.tree_laws.specs.Instances.{HasAtLeast, IsStarted}
use Rattle.tree_laws.specs.Packets.{BodyFact, HaveFact, file_in}
use Rattle.tree_laws.specs.Tables.{FileFact, TableFact}
use Rattle.store_laws.proofs.of_tree_laws.Syncs.Looks.{sends_fine}
use Rattle.store_laws.proofs.of_tree_laws.Syncs.Rows.{row_every, row_key_is}
use Rattle.store_laws.specs.OneTree.Rest.{Past}
use Rattle.store_laws.specs.OneTree.Roles.{Came, Ready, TableHere}
use Rattle.rest_laws.proofs.TableFiling.{filed_table}
use Rattle.rest_laws.proofs.TableNoting.{noted_row, row_so}

module _ (c : Config) (n : ℕ) (trace : List Line) (f : Frame) (t : SyncTable) (past : Past c trace) (k : TableFact c trace f t) (from : ℕ) (ino : ℕ) (stamp : Stamp) (started : IsStarted c trace f.epoch t.group) (has : HasAtLeast c trace f.epoch from (file_in t.group ino) stamp) where
  noted_in : (o : Option FileRow) → file_row t ino ≡ o → TableFact c trace f (on_have_of from stamp o t)
  noted_in None at = k
  noted_in (Some r) at = filed_table c trace f t k (k.started ∙ started) r (noted from stamp r) (ap (λ (i : ℕ). file_row t i) is ∙ at)
      fact (noted_row c trace past f.epoch t.group r (row_so c trace f.epoch t.group r fact) from stamp (subst (λ (i : ℕ). HasAtLeast c trace f.epoch from (file_in t.group i) stamp) (sym is) has))
    where
      fact : FileFact c trace f.epoch t.group r
      fact = row_every (FileFact c trace f.epoch t.group) row_ino ino t.files r k.rows at

      is : r.ino ≡ ino
      is = row_key_is row_ino ino t.files r at

  same_group : (o : Option FileRow) → (on_have_of from stamp o t).group ≡ t.group
  same_group None = refl
  same_group (Some r) = refl

  have_fine : TableFine c n trace f t.group (quiet (on_have_of from stamp (file_row t ino) t))
  have_fine = sends_fine c n trace f t [] (on_have_of from stamp (file_row t ino) t) (same_group (file_row t ino)) (noted_in (file_row t ino) refl) tt

pub notes_fine : (c : Config) (n : ℕ) (trace : List Line) (f : Frame) (p : Packet) (file : FileId) (stamp : Stamp) (t : SyncTable) → Ready c trace f → TableHere c trace f t → Came c trace f p (body.Have file stamp) → t.group ≡ file.group → TableFine c n trace f file.group (on_have p.from file stamp t)
notes_fine c n trace f p file stamp t ready here came same =
    subst (λ (g : ℕ). TableFine c n trace f g (on_have p.from file stamp t)) same
    (have_fine c n trace f t ready.past here.fact p.from file.ino stamp (subst (IsStarted c trace f.epoch) (sym same) fact.started) (subst (λ (g : ℕ). HasAtLeast c trace f.epoch p.from (file_in g file.ino) stamp) (sym same) fact.has))
  where
    fact : HaveFact c trace f.epoch p.from file stamp
    fact = subst (λ (e : EpochId). HaveFact c trace e p.from file stamp) came.received.epoch_is (subst (BodyFact c trace p) came.body_is came.fact)
