-- How the making of each file stands: by its first commit, or as the root of a group.
use Rattle.std.specs.Prelude.{◌≡◌, ◌==◌, true, false, None, Some}
use Rattle.std.specs.List.{list_any}
use Rattle.locus_ids.specs.declared.config.Config.{Config}
use Rattle.locus_ids.specs.declared.ids.CallId.{CallId}
use Rattle.locus_ids.specs.declared.ids.FileId.{FileId}
use Rattle.tree_model.specs.Files.{first_call}
use Rattle.tree_model.specs.Folds.{Trace}
use Rattle.promises.specs.Past.{Past}
use Rattle.promises.specs.After.{is_id}
use Rattle.past_laws.specs.Made.{is_made}

-- It has none, a root has its own, and any other file that of the accepted call whose instance committed it first.
pub data First (c : Config) (trace : Trace) (p : Past) (f : FileId) : Type 0 where
  Unmade : is_made p.files f ≡ false → first_call c trace f ≡ None → First c trace p f
  Root : is_made p.files f ≡ true → (f.ino == 1) ≡ true → First c trace p f
  Called : (id : CallId) → is_made p.files f ≡ true → first_call c trace f ≡ Some id → list_any (is_id id) p.calls ≡ true → First c trace p f

abbrev pub FirstsStand : Config → Trace → Past → Type 0
FirstsStand c trace p = (f : FileId) → First c trace p f
