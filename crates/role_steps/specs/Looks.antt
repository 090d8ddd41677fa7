-- Looks at the synchronization site: what is served, by whom, and what a repeated one gets.
use Rattle.std.specs.Prelude.{ℕ, ◌==◌, nat_lt, Bool, true, false, ◌&&◌, ◌||◌, List, [], ◌∷◌, Option, Some, None}
use Rattle.locus_ids.specs.declared.ids.FileId.{FileId}
use Rattle.locus_ids.specs.declared.ids.Stamp.{Stamp}
use Rattle.locus_ids.specs.declared.refusal.Refusal.{Refusal}
use Rattle.locus_ids.specs.declared.refusal.Refusal.TheVariants as refusal
use Rattle.wire_messages.specs.of_trace_book.declared.operation.What.{What}
use Rattle.wire_messages.specs.of_trace_book.declared.operation.What.TheVariants as what
use Rattle.wire_messages.specs.of_trace_book.declared.operation.Served.{Served}
use Rattle.wire_messages.specs.of_trace_book.declared.operation.Served.TheVariants as served
use Rattle.wire_messages.specs.of_trace_book.declared.record.Record.TheVariants as says
use Rattle.call_rules.specs.of_commit_graph.Versions.{same_stamp}
use Rattle.wire_messages.specs.declared.body.Body.{Body}
use Rattle.wire_messages.specs.declared.body.Body.TheVariants as body
use Rattle.wire_messages.specs.declared.body.LookAnswer.{LookAnswer}
use Rattle.wire_messages.specs.declared.body.LookAnswer.TheVariants as answer
use Rattle.role_steps.specs.Tables.{row, with_row}
use Rattle.role_steps.specs.Views.{Frame, Told, Shown, Outcome, quiet, sends, packet, process_key}
use Rattle.role_steps.specs.Versions.{holders_of, chosen_site, file_row}
use Rattle.role_steps.specs.Opens.{call_id}
use Rattle.role_steps.specs.declared.synchronizing.SyncTable.{SyncTable}
use Rattle.role_steps.specs.declared.synchronizing.FileRow.{FileRow}
use Rattle.role_steps.specs.declared.synchronizing.VersionRow.{VersionRow}
use Rattle.role_steps.specs.declared.synchronizing.LastLook.{LastLook}

-- what a Look asks
pub record LookRequest : Type 0 where
  pub call : ℕ
  pub process : ℕ
  pub request : ℕ
  pub take : ℕ
  pub file : FileId
  pub what : What

abbrev pub look_key : LastLook → ℕ
look_key l = process_key l.site l.process

-- looks of a process are ordered by call, request and take
abbrev pub is_look_before : LookRequest → LastLook → Bool
is_look_before l last =
    nat_lt l.call last.call || ((l.call == last.call) && (nat_lt l.request last.request || ((l.request == last.request) && nat_lt l.take last.take)))

abbrev pub is_same_look : LookRequest → LastLook → Bool
is_same_look l last = (l.call == last.call) && ((l.request == last.request) && (l.take == last.take))

-- ---- what is served ----

pub data Service : Type 0 where
  Denies : Refusal → Service
  -- the version and the site that serves it
  Serves : VersionRow → ℕ → Service

abbrev pub served_by : VersionRow → Option ℕ → Service
served_by v None = Denies refusal.NoStorage
served_by v (Some site) = Serves v site

-- the only kept version, at a site that is chosen as a storage site is
abbrev pub only_kept : Frame → ℕ → FileRow → List VersionRow → Service
only_kept f us r [] = Denies refusal.NoStorage
only_kept f us r (v ∷ []) = served_by v (chosen_site us f.me (holders_of r v.stamp))
only_kept f us r (v ∷ w ∷ others) = Denies (refusal.Conflict v.stamp w.stamp)

-- for a whole content the asked kept version, at the synchronization site where it holds it, else the lowest-numbered holder
abbrev pub whole_kept : Frame → FileRow → Stamp → List VersionRow → Service
whole_kept f r stamp [] = Denies refusal.NoStorage
whole_kept f r stamp (v ∷ vs) = elim (same_stamp v.stamp stamp) [
  | true ↦ served_by v (chosen_site f.me f.me (holders_of r stamp))
  | false ↦ whole_kept f r stamp vs
]

abbrev pub service_on : Frame → ℕ → FileRow → What → Service
service_on f us r (what.Whole stamp) = whole_kept f r stamp (r.kept)
service_on f us r _ = only_kept f us r (r.kept)

abbrev pub service : Frame → ℕ → What → Option FileRow → Service
service f us w None = Denies refusal.NoStorage
service f us w (Some r) = service_on f us r w

-- ---- the answer ----

-- a packet's receiver and body
pub record Letter : Type 0 where
  pub to : ℕ
  pub body : Body

abbrev pub done_letter : ℕ → LookRequest → LookAnswer → Letter
done_letter us l a = record { to = us; body = body.LookDone l.call l.request l.take a }

abbrev pub holder_letter : ℕ → LookRequest → Stamp → ℕ → Letter
holder_letter us l stamp site = record { to = site; body = body.LookSs us l.call l.process l.request l.take l.file l.what stamp }

-- a stat is answered at once, anything else is passed on to the holder
abbrev pub serving_letter : ℕ → LookRequest → FileRow → VersionRow → ℕ → What → Letter
serving_letter us l r v site what.Stat = done_letter us l (answer.Stat r.kind v.size v.stamp)
serving_letter us l r v site _ = holder_letter us l v.stamp site

abbrev pub letter : ℕ → LookRequest → Option FileRow → Service → Letter
letter us l known (Denies why) = done_letter us l (answer.No why)
letter us l None (Serves v site) = done_letter us l (answer.No refusal.NoStorage)
letter us l (Some r) (Serves v site) = serving_letter us l r v site l.what

abbrev pub result_of : Service → Served
result_of (Denies why) = served.No why
result_of (Serves v site) = served.At v.stamp

abbrev pub look_record : Frame → ℕ → LookRequest → Service → Told
look_record f us l s = Shown (says.Look f.epoch (call_id f us l.call) l.request l.file l.what (result_of s))

abbrev pub last_look : ℕ → LookRequest → Letter → LastLook
last_look us l a = record { site = us; process = l.process; call = l.call; request = l.request; take = l.take; to = a.to; body = a.body }

abbrev pub answers_look : Frame → ℕ → LookRequest → Service → Letter → SyncTable → Outcome SyncTable
answers_look f us l s a t = record {
  view = record t { looks = with_row look_key (last_look us l a) t.looks };
  sent = packet f a.to a.body ∷ [];
  told = look_record f us l s ∷ [];
  written = None;
}

abbrev pub serves_look : Frame → ℕ → LookRequest → Option FileRow → Service → SyncTable → Outcome SyncTable
serves_look f us l known s t = answers_look f us l s (letter us l known s) t

abbrev pub new_look : Frame → ℕ → LookRequest → Option FileRow → SyncTable → Outcome SyncTable
new_look f us l known t = serves_look f us l known (service f us l.what known) t

-- a lower one than the last of its process is ignored, the same one is answered as before without a record, a higher one
-- is taken
abbrev pub after_last : Frame → ℕ → LookRequest → Option LastLook → SyncTable → Outcome SyncTable
after_last f us l None t = new_look f us l (file_row t l.file.ino) t
after_last f us l (Some last) t = elim (is_look_before l last) [
  | true ↦ quiet t
  | false ↦ elim (is_same_look l last) [
    | true ↦ sends (packet f last.to last.body ∷ []) t
    | false ↦ new_look f us l (file_row t l.file.ino) t
  ]
]

-- a Look, where the group has started
abbrev pub takes_look : Frame → ℕ → LookRequest → SyncTable → Outcome SyncTable
takes_look f us l t = after_last f us l (row look_key (process_key us l.process) t.looks) t
