-- The room of packs.
use Rattle.std.specs.Prelude.{ℕ, ◌+◌, ◌≤◌}
use Rattle.locus_ids.specs.Sizes.{pack_pages}
use Rattle.role_steps.specs.Storage.{changed_pages, copy_pages}
use Rattle.role_steps.specs.Tables.{total}
use Rattle.role_steps.specs.Views.{Store}

-- In each group the copies of a site and the changed pages of its open instances take no more pages than a pack has.
abbrev pub RoomFits : Store → Type 0
RoomFits s = (group : ℕ) → total (copy_pages group) s.copies + total (changed_pages group) s.instances ≤ pack_pages
