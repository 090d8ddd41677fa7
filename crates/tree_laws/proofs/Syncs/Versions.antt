-- What a row of a version tells of it.
use Rattle.std.proofs.Common.{◌≡◌, List, length, sym, ap, ◌∙◌, subst}
use Rattle.locus_ids.specs.declared.config.Config.{Config}
use Rattle.locus_ids.specs.declared.ids.FileId.{FileId}
use Rattle.locus_ids.specs.declared.ids.Stamp.{Stamp}
use Rattle.commit_graph.specs.Vectors.{vector_of}
use Rattle.commit_graph.specs.Versions.{content_of}
use Rattle.role_steps.specs.declared.synchronizing.VersionRow.{VersionRow}
use Rattle.the_run.specs.Worlds.{Line}
use Rattle.tree_model.specs.Files.{HeldVersion}
use Rattle.tree_model.specs.Histories.{history}
use Rattle.tree_laws.specs.Instances.{Stands}
use Rattle.tree_laws.specs.Printed.{entries}
use Rattle.tree_laws.specs.Tables.{VersionFact}

module _ (c : Config) (trace : List Line) (f : FileId) (v : VersionRow) (k : VersionFact c trace f v) where
  stamp_is : v.stamp ≡ k.version.stamp
  stamp_is = ap (λ (x : VersionRow). x.stamp) k.same

  pub row_stands : Stands c trace f v.stamp
  row_stands = subst (λ (s : Stamp). Stands c trace f s) (sym stamp_is) k.is_version.stands

  pub row_size : v.size ≡ length (content_of (history c (entries trace)) f v.stamp)
  row_size = ap (λ (x : VersionRow). x.size) k.same ∙ (ap (λ (x : HeldVersion). length x.content) k.is_version.same ∙ ap (λ (s : Stamp). length (content_of (history c (entries trace)) f s)) (sym stamp_is))

  pub row_vector : v.vector ≡ vector_of (history c (entries trace)) f v.stamp
  row_vector = ap (λ (x : VersionRow). x.vector) k.same ∙ (ap (λ (x : HeldVersion). x.vector) k.is_version.same ∙ ap (λ (s : Stamp). vector_of (history c (entries trace)) f s) (sym stamp_is))
