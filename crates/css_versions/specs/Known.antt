-- What becomes of the row of a file.
use Rattle.std.specs.Prelude.{ℕ, List, Option, Some, None}
use Rattle.locus_ids.specs.declared.ids.Stamp.{Stamp}
use Rattle.locus_ids.specs.declared.ids.Kind.{Kind}
use Rattle.locus_ids.specs.declared.sites.Sites.{Sites}
use Rattle.wire_messages.specs.declared.body.ReportedCopy.{ReportedCopy}
use Rattle.wire_messages.specs.declared.body.MadeVersion.{MadeVersion}
use Rattle.role_steps.specs.Tables.{with_row}
use Rattle.role_steps.specs.Versions.{row_ino, unknown_file, known_or, with_version, with_holder, noted}
use Rattle.role_steps.specs.Reports.{version_reported}
use Rattle.role_steps.specs.declared.synchronizing.FileRow.{FileRow}
use Rattle.role_steps.specs.declared.synchronizing.VersionRow.{VersionRow}

-- a member's pack reports a copy of the file
abbrev pub reported_row : ℕ → ReportedCopy → Option FileRow → FileRow
reported_row from x known = with_holder from x.stamp (with_version (version_reported x) (known_or (unknown_file x.ino x.kind x.set) known))

abbrev pub version_made : MadeVersion → VersionRow
version_made v = record { stamp = v.stamp; vector = v.vector; size = v.size }

-- a storage site publishes a version of the file
abbrev pub published_row : ℕ → ℕ → Kind → Sites → MadeVersion → Option FileRow → FileRow
published_row ss ino kind set v known = noted ss v.stamp (with_version (version_made v) (known_or (unknown_file ino kind set) known))

-- a site tells which version of the file it holds
abbrev pub noted_rows : ℕ → Stamp → Option FileRow → List FileRow → List FileRow
noted_rows from stamp None rows = rows
noted_rows from stamp (Some r) rows = with_row row_ino (noted from stamp r) rows

-- the site holds the version of this stamp, or what is known stays
abbrev pub held_if : ℕ → FileRow → Option Stamp → FileRow
held_if site r None = r
held_if site r (Some stamp) = with_holder site stamp r
