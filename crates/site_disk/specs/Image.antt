-- What an image of a site's disk holds: a label, and behind it the packs, whose copies are `copies_on` of site_packs.
use Rattle.std.specs.Prelude.{ℕ, false, List, length}
use Rattle.locus_ids.specs.declared.config.Config.{Config}
use Rattle.site_label.specs.Raising.{are_open}
use Rattle.site_label.specs.Image.{label_number}
use Rattle.site_label.specs.Cutting.{LabelState}
use Rattle.site_packs.specs.Packs.{groups_at, areas_end}

-- how many bytes the disk of a site has
abbrev pub disk_length : Config → ℕ → ℕ
disk_length c site = areas_end (length (groups_at c site))

-- the boot number that counts, and whether both halves are open
abbrev pub label_on : List ℕ → LabelState
label_on image = record { boot = label_number image; both_open = are_open image }

abbrev pub one_half : ℕ → LabelState
one_half boot = record { boot = boot; both_open = false }
