-- What a storage site's answer and a close make of a table.
use Rattle.std.specs.Prelude.{ℕ, List, [], ◌∷◌, ◌++◌, Option, Some, None}
use Rattle.locus_ids.specs.declared.ids.FileId.{FileId}
use Rattle.locus_ids.specs.declared.ids.Serial.{Serial}
use Rattle.locus_ids.specs.declared.ids.Kind.{Kind}
use Rattle.locus_ids.specs.declared.sites.Sites.{Sites}
use Rattle.trace_book.specs.declared.record.Record.TheVariants as says
use Rattle.wire_messages.specs.declared.packet.Packet.{Packet}
use Rattle.wire_messages.specs.declared.body.MadeVersion.{MadeVersion}
use Rattle.role_steps.specs.Tables.{row, with_row}
use Rattle.role_steps.specs.Views.{Frame, Told, Shown, Outcome}
use Rattle.role_steps.specs.Versions.{row_ino, file_row}
use Rattle.role_steps.specs.Notices.{row_notices}
use Rattle.role_steps.specs.Opens.{open_row}
use Rattle.role_steps.specs.Reports.{closed_ok, stamp_made}
use Rattle.role_steps.specs.declared.synchronizing.SyncTable.{SyncTable}
use Rattle.role_steps.specs.declared.synchronizing.OpenRow.{OpenRow}
use Rattle.css_versions.specs.Known.{published_row}
use Rattle.css_opens.specs.Settled.{settled_rows, answer_sent, answer_told}
use Rattle.css_opens.specs.declared.entry.Settling.{Settling}

abbrev pub settled_table : Serial → Settling → SyncTable → SyncTable
settled_table inst s t = record t { opens = settled_rows s (open_row t inst) t.opens }

abbrev pub settled_sent : Frame → Option OpenRow → List Packet
settled_sent f None = []
settled_sent f (Some r) = answer_sent f r r.stage

abbrev pub settled_told : Frame → Option OpenRow → List Told
settled_told f None = []
settled_told f (Some r) = answer_told f r r.stage

-- ---- a close ----

abbrev pub published_as : ℕ → FileId → Kind → Sites → Option MadeVersion → SyncTable → SyncTable
published_as ss file kind set None t = t
published_as ss file kind set (Some v) t = record t { files = with_row row_ino (published_row ss file.ino kind set v (row row_ino file.ino t.files)) t.files }

abbrev pub notices_as : Frame → FileId → Option MadeVersion → SyncTable → List Packet
notices_as f file None t = []
notices_as f file (Some v) t = row_notices f t.group (file_row t file.ino)

abbrev pub closed_into : Frame → ℕ → Serial → FileId → Option MadeVersion → SyncTable → Outcome SyncTable
closed_into f ss inst file made t = record {
  view = t;
  sent = notices_as f file made t ++ closed_ok f ss inst;
  told = Shown (says.Release f.epoch inst file (stamp_made made)) ∷ [];
  written = None;
}
