-- Reports and the start of a group, requests that came before it, closes, and what is told of versions held.
use Rattle.std.specs.Prelude.{ℕ, ◌==◌, Bool, true, false, ◌&&◌, cond, List, [], ◌∷◌, ◌++◌, map, Option, Some, None}
use Rattle.std.specs.List.{list_any, list_all, flat_map}
use Rattle.locus_ids.specs.Sites.{has, with_site}
use Rattle.locus_ids.specs.declared.ids.FileId.{FileId}
use Rattle.locus_ids.specs.declared.ids.Serial.{Serial}
use Rattle.locus_ids.specs.declared.ids.Stamp.{Stamp}
use Rattle.locus_ids.specs.declared.ids.Brought.{Brought}
use Rattle.wire_messages.specs.of_trace_book.declared.record.Record.TheVariants as says
use Rattle.wire_messages.specs.declared.packet.Packet.{Packet}
use Rattle.wire_messages.specs.declared.body.Body.{Body}
use Rattle.wire_messages.specs.declared.body.Body.TheVariants as body
use Rattle.wire_messages.specs.declared.body.ReportedCopy.{ReportedCopy}
use Rattle.wire_messages.specs.declared.body.MadeVersion.{MadeVersion}
use Rattle.role_steps.specs.Views.{Frame, Shown, Outcome, quiet, sends, and_then, packet, members_of, pack_sites}
use Rattle.role_steps.specs.Versions.{file_row, with_file, unknown_file, known_or, with_version, with_holder, noted}
use Rattle.role_steps.specs.Notices.{notices, row_notices}
use Rattle.role_steps.specs.Opens.{OpenRequest, takes_open, open_row, with_open}
use Rattle.role_steps.specs.Looks.{LookRequest, takes_look}
use Rattle.role_steps.specs.declared.synchronizing.SyncTable.{SyncTable}
use Rattle.role_steps.specs.declared.synchronizing.FileRow.{FileRow}
use Rattle.role_steps.specs.declared.synchronizing.VersionRow.{VersionRow}
use Rattle.role_steps.specs.declared.synchronizing.Early.{Early}
use Rattle.role_steps.specs.declared.synchronizing.OpenRow.{OpenRow}
use Rattle.role_steps.specs.declared.synchronizing.OpenStage.{OpenStage}
use Rattle.role_steps.specs.declared.synchronizing.OpenStage.TheVariants as stage

-- the table of a group in a new epoch
abbrev pub new_table : ℕ → SyncTable
new_table group = record { group = group; reported = record { 0 = 0 }; started = false; early = []; files = []; opens = []; looks = [] }

-- ---- requests before the start ----

abbrev pub is_early_of : ℕ → ℕ → Early → Bool
is_early_of site process e = (e.site == site) && (e.process == process)

-- the first request of a site and process waits and keeps its place; its repeats change nothing
abbrev pub waits_early : ℕ → ℕ → Body → SyncTable → SyncTable
waits_early site process b t =
    cond (list_any (is_early_of site process) t.early) t (record t { early = t.early ++ record { site = site; process = process; body = b } ∷ [] })

abbrev pub on_open : Frame → ℕ → OpenRequest → SyncTable → Outcome SyncTable
on_open f us o t = elim t.started [
  | true ↦ takes_open f us o t
  | false ↦ quiet (waits_early us o.process (body.Open o.serial o.call o.process o.request o.file o.how) t)
]

abbrev pub on_look : Frame → ℕ → LookRequest → SyncTable → Outcome SyncTable
on_look f us l t = elim t.started [
  | true ↦ takes_look f us l t
  | false ↦ quiet (waits_early us l.process (body.Look l.call l.process l.request l.take l.file l.what) t)
]

abbrev pub takes_early : Frame → ℕ → Body → SyncTable → Outcome SyncTable
takes_early f us (body.Open serial call process request file how) t =
    takes_open f us (record { serial = serial; call = call; process = process; request = request; file = file; how = how }) t
takes_early f us (body.Look call process request take file what) t =
    takes_look f us (record { call = call; process = process; request = request; take = take; file = file; what = what }) t
takes_early f us _ t = quiet t

abbrev pub takes_all_early : Frame → List Early → SyncTable → Outcome SyncTable
takes_all_early f [] t = quiet t
takes_all_early f (e ∷ es) t = and_then (takes_early f e.site e.body t) (takes_all_early f es)

-- ---- the start ----

abbrev pub brought_of : ℕ → VersionRow → Brought
brought_of ino v = record { ino = ino; stamp = v.stamp }

abbrev pub brought_files : FileRow → List Brought
brought_files r = map (brought_of r.ino) r.versions

-- the group starts: each pair of inode and brought stamp, ascending, once; lagging members are notified; then the requests
-- that waited are served in the order in which they came
abbrev pub starts : Frame → SyncTable → Outcome SyncTable
starts f t = and_then (record {
  view = record t { started = true; early = [] };
  sent = notices f t;
  told = Shown (says.Start f.epoch t.group (flat_map brought_files t.files)) ∷ [];
  written = None;
}) (takes_all_early f t.early)

-- ---- a Report ----

abbrev pub version_reported : ReportedCopy → VersionRow
version_reported x = record { stamp = x.stamp; vector = x.vector; size = x.size }

abbrev pub with_reported : ℕ → ReportedCopy → SyncTable → SyncTable
with_reported from x t = with_file (with_holder from x.stamp (with_version (version_reported x) (known_or (unknown_file x.ino x.kind x.set) (file_row t x.ino)))) t

abbrev pub with_all_reported : ℕ → List ReportedCopy → SyncTable → SyncTable
with_all_reported from [] t = t
with_all_reported from (x ∷ xs) t = with_all_reported from xs (with_reported from x t)

abbrev pub with_report : ℕ → List ReportedCopy → SyncTable → SyncTable
with_report from xs t = with_all_reported from xs (record t { reported = with_site t.reported from })

-- each member that has a pack of the group has reported
abbrev pub have_all_reported : Frame → SyncTable → Bool
have_all_reported f t = list_all (has t.reported) (members_of f.members (pack_sites f.config t.group))

abbrev pub starts_if : Frame → SyncTable → Outcome SyncTable
starts_if f t = elim (have_all_reported f t) [
  | true ↦ starts f t
  | false ↦ quiet t
]

abbrev pub counts_report : Frame → ℕ → List ReportedCopy → SyncTable → Outcome SyncTable
counts_report f from xs t = elim (has t.reported from) [
  | true ↦ quiet t
  | false ↦ starts_if f (with_report from xs t)
]

-- each Report is answered, and the first of a member counts
abbrev pub on_report : Frame → ℕ → List ReportedCopy → SyncTable → Outcome SyncTable
on_report f from xs t = and_then (sends (packet f from (body.ReportOk t.group) ∷ []) t) (counts_report f from xs)

-- ---- the close of an instance ----

abbrev pub closed_ok : Frame → ℕ → Serial → List Packet
closed_ok f ss inst = packet f ss (body.ClosedOk inst) ∷ []

abbrev pub stamp_made : Option MadeVersion → Option Stamp
stamp_made None = None
stamp_made (Some v) = Some v.stamp

-- the version that an instance committed last is published: it is known, and its storage site holds it
abbrev pub published_row : ℕ → OpenRow → MadeVersion → Option FileRow → FileRow
published_row ss r v known = noted ss v.stamp (with_version (record { stamp = v.stamp; vector = v.vector; size = v.size }) (known_or (unknown_file r.file.ino r.kind r.set) known))

abbrev pub published : ℕ → OpenRow → Option MadeVersion → SyncTable → SyncTable
published ss r None t = t
published ss r (Some v) t = with_file (published_row ss r v (file_row t r.file.ino)) t

-- after a publishing the lagging members of that file are notified
abbrev pub published_notices : Frame → OpenRow → Option MadeVersion → SyncTable → List Packet
published_notices f r None t = []
published_notices f r (Some v) t = row_notices f t.group (file_row t r.file.ino)

abbrev pub releases_into : Frame → ℕ → OpenRow → Option MadeVersion → SyncTable → Outcome SyncTable
releases_into f ss r made t = record {
  view = t;
  sent = published_notices f r made t ++ closed_ok f ss r.inst;
  told = Shown (says.Release f.epoch r.inst r.file (stamp_made made)) ∷ [];
  written = None;
}

abbrev pub releases : Frame → ℕ → OpenRow → Option MadeVersion → SyncTable → Outcome SyncTable
releases f ss r made t = releases_into f ss r made (published ss r made (with_open (record r { stage = stage.Ended }) t))

-- a repeated Closed of an ended instance is answered again
abbrev pub closes_at : Frame → ℕ → OpenRow → Option MadeVersion → OpenStage → SyncTable → Outcome SyncTable
closes_at f ss r made stage.Granted t = releases f ss r made t
closes_at f ss r made stage.Ended t = sends (closed_ok f ss r.inst) t
closes_at f ss r made _ t = quiet t

abbrev pub on_closed_of : Frame → ℕ → Option MadeVersion → Option OpenRow → SyncTable → Outcome SyncTable
on_closed_of f ss made None t = quiet t
on_closed_of f ss made (Some r) t = closes_at f ss r made r.stage t

abbrev pub on_closed : Frame → ℕ → Serial → Option MadeVersion → SyncTable → Outcome SyncTable
on_closed f ss inst made t = on_closed_of f ss made (open_row t inst) t

-- ---- what a member tells that it holds ----

abbrev pub on_have_of : ℕ → Stamp → Option FileRow → SyncTable → SyncTable
on_have_of from stamp None t = t
on_have_of from stamp (Some r) t = with_file (noted from stamp r) t

abbrev pub on_have : ℕ → FileId → Stamp → SyncTable → Outcome SyncTable
on_have from file stamp t = quiet (on_have_of from stamp (file_row t file.ino) t)

-- ---- a tick ----

-- a Notify for each lagging member of each file that isn't flagged, once the group has started
abbrev pub sync_repeats : Frame → SyncTable → List Packet
sync_repeats f t = cond t.started (notices f t) []
