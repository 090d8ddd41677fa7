-- The notices of a file by its kept versions and by the holder that they name.
use Rattle.std.specs.Prelude.{ℕ, List, [], ◌∷◌, map, Option, Some, None}
use Rattle.wire_messages.specs.declared.packet.Packet.{Packet}
use Rattle.role_steps.specs.Views.{Frame}
use Rattle.role_steps.specs.Versions.{holders_of, chosen_site}
use Rattle.role_steps.specs.Notices.{notice, lagging}
use Rattle.role_steps.specs.declared.synchronizing.FileRow.{FileRow}
use Rattle.role_steps.specs.declared.synchronizing.VersionRow.{VersionRow}

-- a notice for each member of the file's set that isn't among the holders
unfoldable pub notices_to : Frame → ℕ → FileRow → VersionRow → ℕ → List ℕ → List Packet
notices_to f group r v holder holders = map (notice f group r v holder) (lagging f r holders)

abbrev pub notices_from : Frame → ℕ → FileRow → VersionRow → Option ℕ → List ℕ → List Packet
notices_from f group r v None holders = []
notices_from f group r v (Some holder) holders = notices_to f group r v holder holders

-- a file with several kept versions isn't propagated
abbrev pub notices_kept : Frame → ℕ → FileRow → List VersionRow → List Packet
notices_kept f group r [] = []
notices_kept f group r (v ∷ []) = notices_from f group r v (chosen_site f.me f.me (holders_of r v.stamp)) (holders_of r v.stamp)
notices_kept f group r (v ∷ w ∷ others) = []
