use Rattle.std.proofs.Common.{◌≡◌, take}
use Rattle.std.specs.Prelude.{filter, map}
use Rattle.tree_model.specs.Mending.{file_in, is_kept, vector_kept}
use Rattle.tree_model.specs.State.{kept_of}
use Rattle.tree_acts.specs.Acting.{has_number}
use Rattle.tree_acts.proofs.mending.kept_vectors.Given as goal

abbrev pub invariant-loop-brought : goal.invariant-loop-brought
invariant-loop-brought l = record {
  kept : l.kept.stamps ≡ kept_of l.h l.tree (file_in l.tree l.kept.ino);
  made : l.made ≡ filter has_number (map (vector_kept l.h l.tree) (filter (is_kept l.h l.tree) (take l.brought-index l.brought-items)));
}
