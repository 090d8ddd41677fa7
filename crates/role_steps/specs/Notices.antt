-- Whom a synchronization site notifies of a version: every member in the file's set that doesn't hold the only kept one.
use Rattle.std.specs.Prelude.{ℕ, not, List, [], ◌∷◌, filter, map, Option, Some, None}
use Rattle.std.specs.List.{flat_map}
use Rattle.wire_messages.specs.declared.packet.Packet.{Packet}
use Rattle.wire_messages.specs.declared.body.Body.TheVariants as body
use Rattle.role_steps.specs.Views.{Frame, packet, members_of}
use Rattle.role_steps.specs.Versions.{holders_of, is_among, chosen_site}
use Rattle.role_steps.specs.declared.synchronizing.SyncTable.{SyncTable}
use Rattle.role_steps.specs.declared.synchronizing.FileRow.{FileRow}
use Rattle.role_steps.specs.declared.synchronizing.VersionRow.{VersionRow}

abbrev pub lagging : Frame → FileRow → List ℕ → List ℕ
lagging f r holders = filter (λ s. not (is_among s holders)) (members_of f.members r.set)

abbrev pub notice : Frame → ℕ → FileRow → VersionRow → ℕ → ℕ → Packet
notice f group r v holder to = packet f to (body.Notify (record { group = group; ino = r.ino }) r.kind r.set v.size v.stamp v.vector holder)

-- as holder the site names itself where it holds the version, else the lowest-numbered member that does
abbrev pub notices_of : Frame → ℕ → FileRow → VersionRow → Option ℕ → List Packet
notices_of f group r v None = []
notices_of f group r v (Some holder) = map (notice f group r v holder) (lagging f r (holders_of r v.stamp))

-- a flagged file isn't propagated
abbrev pub notices_by : Frame → ℕ → FileRow → List VersionRow → List Packet
notices_by f group r [] = []
notices_by f group r (v ∷ []) = notices_of f group r v (chosen_site f.me f.me (holders_of r v.stamp))
notices_by f group r (v ∷ w ∷ others) = []

abbrev pub file_notices : Frame → ℕ → FileRow → List Packet
file_notices f group r = notices_by f group r (r.kept)

-- the notices of all files of the group
abbrev pub notices : Frame → SyncTable → List Packet
notices f t = flat_map (file_notices f t.group) t.files

abbrev pub row_notices : Frame → ℕ → Option FileRow → List Packet
row_notices f group None = []
row_notices f group (Some r) = file_notices f group r
