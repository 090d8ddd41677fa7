-- What the parts of a table of opens have to do with each other.
use Rattle.std.specs.Prelude.{◌≡◌, ℕ, List, map}
use Rattle.keyed_tables.specs.of_role_steps.Opens.{open_key}
use Rattle.keyed_tables.specs.of_role_steps.declared.synchronizing.OpenRow.{OpenRow}
use Rattle.css_opens.specs.OpenIndex.{open_from}
use Rattle.css_opens.specs.declared.now.OpenNow.{OpenNow}

-- the index has the keys of all rows, and those that are open stand at hand
pub record Indexed (rows : List OpenRow) (keys : List ℕ) (open_ones : List OpenNow) : Type 0 where
  pub same_keys : keys ≡ map open_key rows
  pub same_now : open_ones ≡ open_from 0 rows
