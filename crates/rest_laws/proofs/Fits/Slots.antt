-- Each version that stands may stand in a slot.
use Rattle.locus_ids.specs.declared.config.Config.{Config}
use Rattle.locus_ids.specs.declared.ids.FileId.{FileId}
use Rattle.locus_ids.specs.declared.ids.Stamp.{Stamp}
use Rattle.std.proofs.Common.{List, length}
use Rattle.the_run.specs.Worlds.{Line}
use Rattle.tree_model.specs.Files.{version_of}
use Rattle.tree_laws.specs.Instances.{Stands}
use Rattle.tree_laws.specs.Printed.{entries}
use Rattle.store_laws.specs.OneTree.Rest.{Past}
use Rattle.rest_laws.specs.Fits.Versions.{FitsSlot}
use Rattle.rest_laws.proofs.Fits.Numbers.{stands_inode}
use Rattle.rest_laws.proofs.Fits.Sets.{set_some}
use Rattle.rest_laws.proofs.Fits.Versions.{stamp_slot, vector_slot}
use Rattle.store_laws.proofs.Works.Working.{holds_file, trace_works}
use Rattle.store_laws.proofs.OneTree.Staying.{rest_below}

pub version_slot : (c : Config) (t : List Line) → Past c t → (f : FileId) (s : Stamp) → Stands c t f s → FitsSlot f (version_of c (entries t) f s)
version_slot c t past f s stands = record {
  number = stands_inode c f s t past.rest.each stands;
  version = record { some = set_some c t past f s stands; most = holds_file (length (version_of c (entries t) f s).content) ((trace_works c t past.followed (rest_below c t past.rest)).0 f s); named = stamp_slot c t past f s stands; agrees = vector_slot c t past f s stands };
}
