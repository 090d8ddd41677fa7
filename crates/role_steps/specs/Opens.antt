-- Opens at the synchronization site: the decision on its own table, and the answer of the storage site.
use Rattle.std.specs.Prelude.{ℕ, ◌==◌, Bool, true, false, ◌&&◌, cond, List, [], ◌∷◌, filter, map, Option, Some, None}
use Rattle.locus_ids.specs.Sites.{both}
use Rattle.locus_ids.specs.declared.ids.FileId.{FileId}
use Rattle.locus_ids.specs.declared.ids.Serial.{Serial}
use Rattle.locus_ids.specs.declared.ids.CallId.{CallId}
use Rattle.locus_ids.specs.declared.ids.Stamp.{Stamp}
use Rattle.locus_ids.specs.declared.ids.Mode.{Mode}
use Rattle.locus_ids.specs.declared.ids.Mode.TheVariants as mode
use Rattle.locus_ids.specs.declared.ids.Kind.{Kind}
use Rattle.locus_ids.specs.declared.ids.Kind.TheVariants as kind
use Rattle.locus_ids.specs.declared.sites.Sites.{Sites}
use Rattle.locus_ids.specs.declared.refusal.Refusal.{Refusal}
use Rattle.locus_ids.specs.declared.refusal.Refusal.TheVariants as refusal
use Rattle.call_rules.specs.of_commit_graph.Versions.{same_file, same_stamp}
use Rattle.call_rules.specs.of_commit_graph.Grants.{Opener, grant_refusal}
use Rattle.dir_reconcile.specs.of_dir_format.Entries.{nothing_seen}
use Rattle.wire_messages.specs.of_trace_book.declared.record.Record.TheVariants as says
use Rattle.wire_messages.specs.declared.packet.Packet.{Packet}
use Rattle.wire_messages.specs.declared.body.Opening.{Opening}
use Rattle.wire_messages.specs.declared.body.Opening.TheVariants as how
use Rattle.wire_messages.specs.declared.body.OpenedAs.{OpenedAs}
use Rattle.wire_messages.specs.declared.body.OpenedAs.TheVariants as opened
use Rattle.wire_messages.specs.declared.body.Granted.{Granted}
use Rattle.wire_messages.specs.declared.body.Granted.TheVariants as granted
use Rattle.wire_messages.specs.declared.body.Body.TheVariants as body
use Rattle.role_steps.specs.Tables.{row, with_latest}
use Rattle.role_steps.specs.Views.{Frame, Told, Shown, Outcome, quiet, sends, packet, boot_in, members_of, pack_sites, serial_key}
use Rattle.role_steps.specs.Versions.{kept, stamps_of, joined_vectors, holders_of, holding_of, chosen_site, file_row}
use Rattle.role_steps.specs.declared.synchronizing.SyncTable.{SyncTable}
use Rattle.role_steps.specs.declared.synchronizing.FileRow.{FileRow}
use Rattle.role_steps.specs.declared.synchronizing.VersionRow.{VersionRow}
use Rattle.role_steps.specs.declared.synchronizing.Holding.{Holding}
use Rattle.role_steps.specs.declared.synchronizing.OpenRow.{OpenRow}
use Rattle.role_steps.specs.declared.synchronizing.OpenStage.{OpenStage}
use Rattle.role_steps.specs.declared.synchronizing.OpenStage.TheVariants as stage

-- what an Open asks
pub record OpenRequest : Type 0 where
  pub serial : ℕ
  pub call : ℕ
  pub process : ℕ
  pub request : ℕ
  pub file : FileId
  pub how : Opening

abbrev pub mode_of : Opening → Mode
mode_of how.Read = mode.Read
mode_of how.Write = mode.Write
mode_of (how.Resolve site) = mode.Resolve
mode_of how.Mend = mode.Mend
mode_of (how.Make set k) = mode.Make

abbrev pub open_key : OpenRow → ℕ
open_key r = serial_key r.inst

abbrev pub open_row : SyncTable → Serial → Option OpenRow
open_row t inst = row open_key (serial_key inst) t.opens

abbrev pub with_open : OpenRow → SyncTable → SyncTable
with_open r t = record t { opens = with_latest open_key r t.opens }

-- ---- what is sent and told of an open ----

abbrev pub call_id : Frame → ℕ → ℕ → CallId
call_id f us call = record { site = us; boot = boot_in f.members.boot us; n = call }

-- 0.0 stands where there is no stamp to name
abbrev pub stamp_or_none : Option Stamp → Stamp
stamp_or_none None = record { site = 0; n = 0 }
stamp_or_none (Some stamp) = stamp

-- the storage site is asked to open the instance
abbrev pub asks_storage : Frame → OpenRow → List Packet
asks_storage f r = packet f r.ss (body.OpenSs r.inst r.file r.mode r.set r.kind (stamp_or_none r.stamp) r.vector r.parents) ∷ []

abbrev pub tells_user : Frame → OpenRow → Granted → List Packet
tells_user f r answer = packet f r.inst.us (body.OpenDone r.inst.serial answer) ∷ []

abbrev pub grants_user : Frame → OpenRow → List Packet
grants_user f r = tells_user f r (granted.Open r.ss r.file.ino r.size (stamp_or_none r.stamp) r.vector)

abbrev pub grant_record : Frame → OpenRow → Told
grant_record f r = Shown (says.Grant f.epoch (call_id f r.inst.us r.call) r.request r.inst r.mode r.file r.stamp r.ss)

abbrev pub refuse_record : Frame → OpenRow → Refusal → Told
refuse_record f r why = Shown (says.Refuse f.epoch (call_id f r.inst.us r.call) r.request r.inst r.mode r.file why)

-- ---- the decision ----

-- an open is refused, or granted at a storage site: with the stamp to begin from, the vector and parents of its first
-- version, and the set and kind of the file
pub data Decision : Type 0 where
  Denies : Refusal → Decision
  Grants : ℕ → Option Stamp → List ℕ → List Stamp → Sites → Kind → Decision

-- an instance that isn't released excludes others, from where the Open was taken; that of a make once it has a number
abbrev pub is_open_stage : OpenStage → Bool
is_open_stage stage.Asked = true
is_open_stage stage.Granted = true
is_open_stage (stage.Refused why) = false
is_open_stage stage.Ended = false

abbrev pub is_open_on : FileId → OpenRow → Bool
is_open_on file r = same_file r.file file && is_open_stage r.stage

abbrev pub opener_of : OpenRow → Opener
opener_of r = record { site = r.inst.us; process = r.process; mode = r.mode }

-- the open instances of a file, the earliest granted first
abbrev pub openers : SyncTable → FileId → List Opener
openers t file = map opener_of (filter (is_open_on file) t.opens)

-- the storage site of a make is chosen among the members of its set; the set has a member, and packs alone
abbrev pub make_at : Sites → Kind → Option ℕ → Decision
make_at set k None = Denies refusal.NoStorage
make_at set k (Some ss) = Grants ss None nothing_seen [] set k

abbrev pub make_decision : Frame → ℕ → ℕ → Sites → Kind → Decision
make_decision f group us set k =
    cond ((both set (pack_sites f.config group)).0 == set.0) (make_at set k (chosen_site us f.me (members_of f.members set))) (Denies refusal.NoStorage)

-- reading and ordinary writing begin from the only kept version, at a site that holds it
abbrev pub plain_at : FileRow → VersionRow → Option ℕ → Decision
plain_at r v None = Denies refusal.NoStorage
plain_at r v (Some ss) = Grants ss (Some v.stamp) v.vector (v.stamp ∷ []) r.set r.kind

abbrev pub plain_decision : Frame → ℕ → FileRow → List VersionRow → Decision
plain_decision f us r [] = Denies refusal.NoStorage
plain_decision f us r (v ∷ others) = plain_at r v (chosen_site us f.me (holders_of r v.stamp))

-- a resolution begins from the version of the named site, which holds a kept one
abbrev pub is_stamp_among : Stamp → List Stamp → Bool
is_stamp_among stamp [] = false
is_stamp_among stamp (s ∷ ss) = cond (same_stamp s stamp) true (is_stamp_among stamp ss)

abbrev pub resolve_from : FileRow → List VersionRow → Option Holding → Decision
resolve_from r vs None = Denies refusal.NoStorage
resolve_from r vs (Some h) =
    cond (is_stamp_among h.stamp (stamps_of vs)) (Grants h.site (Some h.stamp) (joined_vectors vs) (stamps_of vs) r.set r.kind) (Denies refusal.NoStorage)

abbrev pub stamp_held : Option Holding → Option Stamp
stamp_held None = None
stamp_held (Some h) = Some h.stamp

-- a mend begins from what the synchronization site itself holds, if anything
abbrev pub grant_on : Frame → ℕ → FileRow → List VersionRow → Opening → Decision
grant_on f us r vs how.Read = plain_decision f us r vs
grant_on f us r vs how.Write = plain_decision f us r vs
grant_on f us r vs (how.Resolve site) = resolve_from r vs (holding_of r site)
grant_on f us r vs how.Mend = Grants f.me (stamp_held (holding_of r f.me)) (joined_vectors vs) (stamps_of vs) r.set r.kind
grant_on f us r vs (how.Make set k) = Denies refusal.NoStorage

abbrev pub unless_refused : Frame → ℕ → OpenRequest → Option FileRow → Option Refusal → Decision
unless_refused f us o known (Some why) = Denies why
unless_refused f us o None None = Denies refusal.NoStorage
unless_refused f us o (Some r) None = grant_on f us r (kept (Some r)) o.how

abbrev pub file_decision : Frame → SyncTable → ℕ → OpenRequest → Decision
file_decision f t us o =
    unless_refused f us o (file_row t o.file.ino) (grant_refusal (mode_of o.how) (openers t o.file) (stamps_of (kept (file_row t o.file.ino))))

abbrev pub decision : Frame → SyncTable → ℕ → OpenRequest → Opening → Decision
decision f t us o (how.Make set k) = make_decision f t.group us set k
decision f t us o _ = file_decision f t us o

-- ---- a new Open ----

abbrev pub no_sites : Sites
no_sites = record { 0 = 0 }

abbrev pub denied_row : ℕ → OpenRequest → Refusal → OpenRow
denied_row us o why = record {
  inst = record { us = us; serial = o.serial };
  call = o.call;
  process = o.process;
  request = o.request;
  mode = mode_of o.how;
  file = o.file;
  stage = stage.Refused why;
  ss = 0;
  stamp = None;
  vector = nothing_seen;
  parents = [];
  set = no_sites;
  kind = kind.File;
  size = 0;
}

abbrev pub asked_row : ℕ → OpenRequest → ℕ → Option Stamp → List ℕ → List Stamp → Sites → Kind → OpenRow
asked_row us o ss stamp vector parents set k = record {
  inst = record { us = us; serial = o.serial };
  call = o.call;
  process = o.process;
  request = o.request;
  mode = mode_of o.how;
  file = o.file;
  stage = stage.Asked;
  ss = ss;
  stamp = stamp;
  vector = vector;
  parents = parents;
  set = set;
  kind = k;
  size = 0;
}

abbrev pub refuses_row : Frame → OpenRow → Refusal → SyncTable → Outcome SyncTable
refuses_row f r why t = record { view = with_open r t; sent = tells_user f r (granted.No why); told = refuse_record f r why ∷ []; written = None }

-- the record of a grant stands where the Open is taken; only a make's waits for the number that the storage site gives
abbrev pub granted_at_once : Frame → OpenRow → Mode → List Told
granted_at_once f r mode.Make = []
granted_at_once f r _ = grant_record f r ∷ []

abbrev pub asks_row : Frame → OpenRow → SyncTable → Outcome SyncTable
asks_row f r t = record { view = with_open r t; sent = asks_storage f r; told = granted_at_once f r r.mode; written = None }

abbrev pub decides : Frame → SyncTable → ℕ → OpenRequest → Decision → Outcome SyncTable
decides f t us o (Denies why) = refuses_row f (denied_row us o why) why t
decides f t us o (Grants ss stamp vector parents set k) = asks_row f (asked_row us o ss stamp vector parents set k) t

-- ---- a repeated Open: sent on again while the storage site hasn't answered, answered again once granted or refused, and
-- nothing once ended ----

abbrev pub repeats_open : Frame → OpenRow → OpenStage → List Packet
repeats_open f r stage.Asked = asks_storage f r
repeats_open f r stage.Granted = grants_user f r
repeats_open f r (stage.Refused why) = tells_user f r (granted.No why)
repeats_open f r stage.Ended = []

abbrev pub on_open_of : Frame → SyncTable → ℕ → OpenRequest → Option OpenRow → Outcome SyncTable
on_open_of f t us o None = decides f t us o (decision f t us o o.how)
on_open_of f t us o (Some r) = sends (repeats_open f r r.stage) t

-- an Open, where the group has started
abbrev pub takes_open : Frame → ℕ → OpenRequest → SyncTable → Outcome SyncTable
takes_open f us o t = on_open_of f t us o (open_row t (record { us = us; serial = o.serial }))

-- ---- the storage site's answer ----

abbrev pub numbered_file : Mode → FileId → ℕ → FileId
numbered_file mode.Make file ino = record { group = file.group; ino = ino }
numbered_file _ file ino = file

abbrev pub granted_row : OpenRow → ℕ → ℕ → OpenRow
granted_row r ino size = record r { stage = stage.Granted; file = numbered_file r.mode r.file ino; size = size }

abbrev pub granted_at_last : Frame → OpenRow → Mode → List Told
granted_at_last f r mode.Make = grant_record f r ∷ []
granted_at_last f r _ = []

abbrev pub grants_row : Frame → OpenRow → SyncTable → Outcome SyncTable
grants_row f r t = record { view = with_open r t; sent = grants_user f r; told = granted_at_last f r r.mode; written = None }

abbrev pub answers_open : Frame → OpenRow → OpenedAs → SyncTable → Outcome SyncTable
answers_open f r (opened.Open ino size) t = grants_row f (granted_row r ino size) t
answers_open f r (opened.No why) t = refuses_row f (record r { stage = stage.Refused why }) why t

-- a repeated Opened is ignored
abbrev pub by_stage : Frame → OpenRow → OpenedAs → OpenStage → SyncTable → Outcome SyncTable
by_stage f r a stage.Asked t = answers_open f r a t
by_stage f r a _ t = quiet t

abbrev pub on_opened_of : Frame → OpenedAs → Option OpenRow → SyncTable → Outcome SyncTable
on_opened_of f a None t = quiet t
on_opened_of f a (Some r) t = by_stage f r a r.stage t

abbrev pub on_opened : Frame → Serial → OpenedAs → SyncTable → Outcome SyncTable
on_opened f inst a t = on_opened_of f a (open_row t inst) t
