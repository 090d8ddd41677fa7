-- What a format makes of the packs of a site.
use Rattle.std.specs.Prelude.{◌≡◌, ℕ, List, [], ◌∷◌, map, filter}
use Rattle.locus_ids.specs.Sizes.{inodes_max}
use Rattle.locus_ids.specs.Sites.{has}
use Rattle.locus_ids.specs.declared.config.Config.{Config}
use Rattle.locus_ids.specs.declared.ids.Kind.TheVariants as kind
use Rattle.locus_ids.specs.declared.sites.Sites.{Sites}
use Rattle.role_steps.specs.of_dir_format.Entries.{nothing_seen}
use Rattle.pack_slots.specs.Mounting.{IsSound, losing_gates}
use Rattle.role_steps.specs.Views.{pack_sites}
use Rattle.role_steps.specs.declared.copies.FileCopy.{FileCopy}
use Rattle.site_packs.specs.Copies.{copies_in, copies_behind}
use Rattle.site_packs.specs.Mounting.{AreSoundBehind, root_copy, gates_behind}

-- the empty root directory of a group that these sites store
abbrev pub root_in : ℕ → Sites → FileCopy
root_in group set = record {
  file = record { group = group; ino = 1 };
  kind = kind.Dir;
  set = set;
  stamp = record { site = 0; n = 0 };
  vector = nothing_seen;
  content = [];
}

-- a pack that mounts, with the empty root directory and nothing else; no inode has two open slots
pub record HasRootAlone (base group site : ℕ) (set : Sites) (image : List ℕ) : Type 0 where
  pub copies : copies_in base group image ≡ root_in group set ∷ []
  pub sound : IsSound base group site image
  pub shut : losing_gates base inodes_max image ≡ 0

-- those of these groups that the site stores
abbrev pub stored_among : Config → ℕ → List ℕ → List ℕ
stored_among c site groups = filter (λ group. has (pack_sites c group) site) groups

-- each of the packs of these groups is so
pub record AreNew (nth : ℕ) (c : Config) (site : ℕ) (groups image : List ℕ) : Type 0 where
  pub copies : copies_behind nth groups image ≡ map (root_copy c) groups
  pub sound : AreSoundBehind nth site groups image
  pub shut : gates_behind nth groups image ≡ 0
