-- The storage site: opens, closes, looks and pulls of what its packs hold.
use Rattle.std.specs.Prelude.{ℕ, zero, suc, ◌+◌, ◌-◌, ◌*◌, ◌==◌, nat_lt, Bool, true, false, ◌&&◌, cond, List, [], ◌∷◌, ◌++◌, length, filter, take, Option, Some, None, slice_index}
use Rattle.std.specs.List.{list_any, flat_map}
use Rattle.std.specs.Option.{option_map}
use Rattle.locus_ids.specs.declared.ids.FileId.{FileId}
use Rattle.locus_ids.specs.declared.ids.Serial.{Serial}
use Rattle.locus_ids.specs.declared.ids.Stamp.{Stamp}
use Rattle.locus_ids.specs.declared.ids.Mode.{Mode}
use Rattle.locus_ids.specs.declared.ids.Mode.TheVariants as mode
use Rattle.locus_ids.specs.declared.ids.Kind.{Kind}
use Rattle.locus_ids.specs.declared.sites.Sites.{Sites}
use Rattle.locus_ids.specs.declared.refusal.Refusal.TheVariants as refusal
use Rattle.locus_ids.specs.Sizes.{pack_pages, site_inodes}
use Rattle.call_rules.specs.of_commit_graph.Versions.{same_stamp, same_file}
use Rattle.dir_reconcile.specs.of_version_vector.Counters.{raised}
use Rattle.wire_messages.specs.of_trace_book.declared.operation.What.{What}
use Rattle.wire_messages.specs.of_trace_book.declared.operation.What.TheVariants as what
use Rattle.wire_messages.specs.of_trace_book.declared.record.Record.{Record}
use Rattle.wire_messages.specs.of_trace_book.declared.record.Record.TheVariants as says
use Rattle.dir_reconcile.specs.of_dir_format.declared.looking.LookResult.{LookResult}
use Rattle.dir_reconcile.specs.of_dir_format.declared.looking.LookResult.TheVariants as found
use Rattle.dir_reconcile.specs.of_dir_format.Contents.{entries_of}
use Rattle.dir_reconcile.specs.of_dir_format.Lookups.{lookup}
use Rattle.file_effects.specs.of_file_content.Pages.{pages_of, page_of, pages_from, has_page as is_among, ascending}
use Rattle.file_effects.specs.declared.work.Work.{Work}
use Rattle.file_effects.specs.Works.{begun, committed}
use Rattle.wire_messages.specs.declared.packet.Packet.{Packet}
use Rattle.wire_messages.specs.declared.body.Body.TheVariants as body
use Rattle.wire_messages.specs.declared.body.OpenedAs.TheVariants as opened
use Rattle.wire_messages.specs.declared.body.LookAnswer.{LookAnswer}
use Rattle.wire_messages.specs.declared.body.LookAnswer.TheVariants as answer
use Rattle.wire_messages.specs.declared.body.CloseAnswer.{CloseAnswer}
use Rattle.wire_messages.specs.declared.body.CloseAnswer.TheVariants as closing
use Rattle.wire_messages.specs.declared.body.MadeVersion.{MadeVersion}
use Rattle.wire_messages.specs.declared.body.ReportedCopy.{ReportedCopy}
use Rattle.role_steps.specs.Tables.{row, with_row, with_latest, total}
use Rattle.role_steps.specs.Views.{Frame, FileSteps, Store, Told, Shown, Begins, Shuts, Reserves, DiskWrite, Outcome, quiet, sends, and_then, packet, to_sync, file_key, serial_key}
use Rattle.role_steps.specs.Looks.{LookRequest}
use Rattle.role_steps.specs.declared.copies.FileCopy.{FileCopy}
use Rattle.role_steps.specs.declared.copies.Step.{Step}
use Rattle.role_steps.specs.declared.instances.Instance.{Instance}
use Rattle.role_steps.specs.declared.instances.Stage.{Stage}
use Rattle.role_steps.specs.declared.instances.Stage.TheVariants as stage

-- ---- copies and instances ----

abbrev pub copy_key : FileCopy → ℕ
copy_key x = file_key x.file

abbrev pub copy_of : Store → FileId → Option FileCopy
copy_of s file = row copy_key (file_key file) s.copies

abbrev pub content_of : Option FileCopy → List ℕ
content_of None = []
content_of (Some x) = x.content

abbrev pub stamp_of : Option FileCopy → Option Stamp
stamp_of None = None
stamp_of (Some x) = Some x.stamp

-- ---- what is remembered of the versions written here ----

-- how many commits and adoptions of a file are remembered
abbrev pub steps_kept : ℕ
steps_kept = 16

abbrev pub steps_key : FileSteps → ℕ
steps_key x = file_key x.file

abbrev pub steps_in : Option FileSteps → List Step
steps_in None = []
steps_in (Some x) = x.steps

abbrev pub steps_of : FileId → List FileSteps → List Step
steps_of file all = steps_in (row steps_key (file_key file) all)

-- a step of the file is remembered; one more than the last few is forgotten
abbrev pub with_step : FileId → Step → List FileSteps → List FileSteps
with_step file x all = with_row steps_key (record { file = file; steps = take steps_kept (x ∷ steps_of file all) }) all

-- this copy, of which these pages were written, over what was there
abbrev pub step_to : FileCopy → List ℕ → Option FileCopy → Step
step_to x pages before = record { before = stamp_of before; after = x.stamp; pages = pages }

-- a version is written: it takes the place of the copy, and the step is remembered
abbrev pub with_version : FileCopy → List ℕ → Store → Store
with_version x pages s = record s { copies = with_row copy_key x s.copies; steps = with_step x.file (step_to x pages (copy_of s x.file)) s.steps }

abbrev pub instance_key : Instance → ℕ
instance_key i = serial_key i.inst

abbrev pub instance_of : Store → Serial → Option Instance
instance_of s inst = row instance_key (serial_key inst) s.instances

abbrev pub with_instance : Instance → Store → Store
with_instance i s = record s { instances = with_latest instance_key i s.instances }

-- a closing instance is still open, until the synchronization site has answered
abbrev pub is_open : Stage → Bool
is_open stage.Running = true
is_open (stage.Closing made a) = true
is_open (stage.Closed a) = false

abbrev pub is_open_in : ℕ → Instance → Bool
is_open_in group i = is_open i.stage && (i.file.group == group)

abbrev pub is_open_of : FileId → Instance → Bool
is_open_of file i = is_open i.stage && same_file i.file file

-- the file has an open instance here
abbrev pub has_open : Store → FileId → Bool
has_open s file = list_any (is_open_of file) s.instances

-- ---- room ----

abbrev pub copy_pages : ℕ → FileCopy → ℕ
copy_pages group x = cond (x.file.group == group) (pages_of (length x.content)) 0

abbrev pub changed_pages : ℕ → Instance → ℕ
changed_pages group i = cond (is_open_in group i) (length i.work.changed) 0

-- the pages of the pack that neither a copy has nor an open instance of the group has changed
abbrev pub free_pages : Store → ℕ → ℕ
free_pages s group = pack_pages - (total (copy_pages group) s.copies + total (changed_pages group) s.instances)

-- ---- the report of a pack ----

abbrev pub reported : FileCopy → ReportedCopy
reported x = record { ino = x.file.ino; kind = x.kind; set = x.set; size = length x.content; stamp = x.stamp; vector = x.vector }

abbrev pub report_of : ℕ → List FileCopy → List ReportedCopy
report_of group [] = []
report_of group (x ∷ xs) = cond (x.file.group == group) (reported x ∷ report_of group xs) (report_of group xs)

-- ---- OpenSs ----

-- what an OpenSs asks
pub record StoreRequest : Type 0 where
  pub inst : Serial
  pub file : FileId
  pub mode : Mode
  pub set : Sites
  pub kind : Kind
  pub base : Stamp
  pub vector : List ℕ
  pub parents : List Stamp

abbrev pub opened_packets : Frame → Instance → List Packet
opened_packets f i = to_sync f i.file.group (body.Opened i.inst (opened.Open i.file.ino i.size))

-- a file that is made has no version yet, nor has one that a mend finds no copy of
abbrev pub base_of_mend : Option FileCopy → Stamp → Option Stamp
base_of_mend None base = None
base_of_mend (Some x) base = Some base

abbrev pub base_of : Mode → Option FileCopy → Stamp → Option Stamp
base_of mode.Make x base = None
base_of mode.Mend x base = base_of_mend x base
base_of _ x base = Some base

abbrev pub begun_instance : StoreRequest → FileId → Option FileCopy → Instance
begun_instance r file x = record {
  inst = r.inst;
  file = file;
  mode = r.mode;
  set = r.set;
  kind = r.kind;
  vector = r.vector;
  parents = r.parents;
  size = length (content_of x);
  work = begun r.mode (base_of r.mode x r.base) (content_of x);
  answered = None;
  stage = stage.Running;
}

abbrev pub begins : Frame → Instance → List Told → Store → Outcome Store
begins f i told s = record { view = with_instance i s; sent = opened_packets f i; told = told; written = None }

-- a number of the range of this site is in none of its slots and in no making instance
abbrev pub is_making : ℕ → ℕ → Instance → Bool
is_making group ino i = is_open_in group i && (i.file.ino == ino && is_make i.mode)
  where
    is_make : Mode → Bool
    is_make mode.Make = true
    is_make _ = false

abbrev pub is_held : ℕ → ℕ → FileCopy → Bool
is_held group ino x = (x.file.group == group) && (x.file.ino == ino)

abbrev pub is_used : Store → ℕ → ℕ → Bool
is_used s group ino = cond (list_any (is_held group ino) s.copies) true (list_any (is_making group ino) s.instances)

-- the least number from this one on that isn't used, where so many are left
abbrev pub next_ino : Store → ℕ → ℕ → ℕ → Option ℕ
next_ino s group ino zero = None
next_ino s group ino (suc left) = elim (is_used s group ino) [
  | true ↦ next_ino s group (ino + 1) left
  | false ↦ Some ino
]

-- the numbers of a site are 64 from 64 (site - 1) + 1 on
abbrev pub own_ino : Store → ℕ → ℕ → Option ℕ
own_ino s group site = next_ino s group (site_inodes * (site - 1) + 1) site_inodes

abbrev pub opens_made_at : Frame → StoreRequest → FileId → Store → Outcome Store
opens_made_at f r file s =
    begins f (begun_instance r file None) (Begins f.me f.epoch r.inst file ∷ Reserves f.me f.epoch r.inst file ∷ []) s

-- a make that finds no number leaves no instance
abbrev pub opens_made : Frame → StoreRequest → Option ℕ → Store → Outcome Store
opens_made f r None s = sends (to_sync f r.file.group (body.Opened r.inst (opened.No refusal.NoInode))) s
opens_made f r (Some ino) s = opens_made_at f r (record { group = r.file.group; ino = ino }) s

abbrev pub opens : Frame → StoreRequest → Mode → Store → Outcome Store
opens f r mode.Make s = opens_made f r (own_ino s r.file.group f.me) s
opens f r _ s = begins f (begun_instance r r.file (copy_of s r.file)) (Begins f.me f.epoch r.inst r.file ∷ []) s

-- a repeated OpenSs is answered again while the instance is open
abbrev pub on_open_ss_of : Frame → StoreRequest → Option Instance → Store → Outcome Store
on_open_ss_of f r None s = opens f r r.mode s
on_open_ss_of f r (Some i) s = sends (cond (is_open i.stage) (opened_packets f i) []) s

abbrev pub on_open_ss : Frame → StoreRequest → Store → Outcome Store
on_open_ss f r s = on_open_ss_of f r (instance_of s r.inst) s

-- ---- commits ----

-- the greatest counter
abbrev pub max_counter : ℕ
max_counter = 4294967295

-- the counter of this site can't rise
abbrev pub is_spent : Frame → Instance → Bool
is_spent f i = slice_index i.vector (f.me - 1) == max_counter

-- the vector and the stamp of the next version: this site's counter is one more
abbrev pub next_vector : Frame → Instance → List ℕ
next_vector f i = raised i.vector (f.me - 1)

abbrev pub next_stamp : Frame → List ℕ → Stamp
next_stamp f vector = record { site = f.me; n = slice_index vector (f.me - 1) }

abbrev pub copy_made : Instance → List ℕ → Stamp → FileCopy
copy_made i vector stamp = record { file = i.file; kind = i.kind; set = i.set; stamp = stamp; vector = vector; content = i.work.content }

abbrev pub instance_committed : Instance → List ℕ → Stamp → Instance
instance_committed i vector stamp = record i { vector = vector; parents = stamp ∷ []; work = committed stamp i.work }

abbrev pub commit_record : Frame → Instance → Stamp → Record
commit_record f i stamp = says.Commit i.file f.me stamp i.parents i.work.content

-- the version as it is written: of its pages those that the instance has changed
abbrev pub commit_write : Frame → Instance → List ℕ → Stamp → DiskWrite
commit_write f i vector stamp = record { copy = copy_made i vector stamp; pages = ascending i.work.changed; says = commit_record f i stamp }

-- its version stands on the disk
abbrev pub with_commit : Instance → List ℕ → Stamp → Store → Store
with_commit i vector stamp s = with_version (copy_made i vector stamp) (ascending i.work.changed) s

abbrev pub commits_as : Frame → Instance → List ℕ → Stamp → Store → Outcome Store
commits_as f i vector stamp s = record {
  view = with_instance (instance_committed i vector stamp) (with_commit i vector stamp s);
  sent = [];
  told = Shown (commit_record f i stamp) ∷ [];
  written = Some (commit_write f i vector stamp);
}

-- the working content becomes a version of the file
abbrev pub commits : Frame → Instance → Store → Outcome Store
commits f i s = commits_as f i (next_vector f i) (next_stamp f (next_vector f i)) s

-- ---- Close ----

abbrev pub closed_packets : Frame → Instance → Option MadeVersion → List Packet
closed_packets f i made = to_sync f i.file.group (body.Closed i.inst made)

abbrev pub close_done : Frame → Instance → CloseAnswer → List Packet
close_done f i a = packet f i.inst.us (body.CloseDone i.inst.serial a) ∷ []

-- the version that the instance committed last, if any
abbrev pub made_version : Instance → Option FileCopy → Option Stamp → Option MadeVersion
made_version i x None = None
made_version i x (Some stamp) = Some (record { stamp = stamp; vector = i.vector; size = length (content_of x) })

-- a close that is refused drops the changes
abbrev pub without_changes : Work → Work
without_changes w = record w { owes = false; changed = [] }

abbrev pub shut : Instance → Option MadeVersion → CloseAnswer → Instance
shut i made a = record i { work = without_changes i.work; stage = stage.Closing made a }

abbrev pub shuts_with : Frame → Instance → Option MadeVersion → CloseAnswer → Store → Outcome Store
shuts_with f i made a s = record {
  view = with_instance (shut i made a) s;
  sent = closed_packets f i made;
  told = Shuts f.me f.epoch i.inst ∷ [];
  written = None;
}

abbrev pub shuts : Frame → Instance → CloseAnswer → Store → Outcome Store
shuts f i a s = shuts_with f i (made_version i (copy_of s i.file) i.work.committed) a s

abbrev pub shuts_again : Frame → CloseAnswer → Option Instance → Store → Outcome Store
shuts_again f a None s = quiet s
shuts_again f a (Some i) s = shuts f i a s

-- what the instance owes is committed first
abbrev pub closes_owing : Frame → Instance → Store → Outcome Store
closes_owing f i s = elim (is_spent f i) [
  | true ↦ shuts f i (closing.No refusal.Spent) s
  | false ↦ and_then (commits f i s) (λ now. shuts_again f (closing.Made (next_stamp f (next_vector f i))) (instance_of now i.inst) now)
]

abbrev pub closes : Frame → Instance → Store → Outcome Store
closes f i s = elim i.work.owes [
  | true ↦ closes_owing f i s
  | false ↦ shuts f i closing.Nothing s
]

abbrev pub on_close_at : Frame → Instance → Stage → Store → Outcome Store
on_close_at f i stage.Running s = closes f i s
on_close_at f i (stage.Closing made a) s = sends (closed_packets f i made) s
on_close_at f i (stage.Closed a) s = sends (close_done f i a) s

abbrev pub on_close_of : Frame → Option Instance → Store → Outcome Store
on_close_of f None s = quiet s
on_close_of f (Some i) s = on_close_at f i i.stage s

-- a repeated Close sends Closed again while the synchronization site hasn't answered, and CloseDone again afterwards
abbrev pub on_close : Frame → Serial → Store → Outcome Store
on_close f inst s = on_close_of f (instance_of s inst) s

-- ---- ClosedOk ----

abbrev pub ends_at : Frame → Instance → Stage → Store → Outcome Store
ends_at f i (stage.Closing made a) s = sends (close_done f i a) (with_instance (record i { stage = stage.Closed a }) s)
ends_at f i _ s = quiet s

abbrev pub on_closed_ok_of : Frame → Option Instance → Store → Outcome Store
on_closed_ok_of f None s = quiet s
on_closed_ok_of f (Some i) s = ends_at f i i.stage s

abbrev pub on_closed_ok : Frame → Serial → Store → Outcome Store
on_closed_ok f inst s = on_closed_ok_of f (instance_of s inst) s

-- ---- LookSs ----

abbrev pub look_found : List ℕ → LookResult → LookAnswer
look_found component (found.Found ino kind) = answer.Found ino kind
look_found component found.Absent = answer.No (refusal.Absent component)
look_found component (found.Ambiguous a b) = answer.No (refusal.Ambiguous a b)

abbrev pub served_content : What → List ℕ → LookAnswer
served_content (what.Name component) content = look_found component (lookup (entries_of content) component)
served_content _ content = answer.Content content

-- a copy whose stamp isn't the asked one has moved on
abbrev pub served_copy : What → Stamp → Option FileCopy → LookAnswer
served_copy w stamp None = answer.Moved
served_copy w stamp (Some x) = elim (same_stamp x.stamp stamp) [
  | true ↦ served_content w x.content
  | false ↦ answer.Moved
]

abbrev pub on_look_ss : Frame → ℕ → LookRequest → Stamp → Store → Outcome Store
on_look_ss f us l stamp s = sends (packet f us (body.LookDone l.call l.request l.take (served_copy l.what stamp (copy_of s l.file))) ∷ []) s

-- ---- Pull ----

abbrev pub has_page : Stamp → ℕ → FileCopy → Bool
has_page stamp page x = same_stamp x.stamp stamp && nat_lt page (pages_of (length x.content))

-- a Pull is answered exactly where the asked version is committed here and has that page
abbrev pub pulled_page : Frame → ℕ → FileId → Stamp → ℕ → Option FileCopy → List Packet
pulled_page f from file stamp page None = []
pulled_page f from file stamp page (Some x) = cond (has_page stamp page x) (packet f from (body.Page file stamp page (page_of x.content page)) ∷ []) []

abbrev pub on_pull : Frame → ℕ → FileId → Stamp → ℕ → Store → Outcome Store
on_pull f from file stamp page s = sends (pulled_page f from file stamp page (copy_of s file)) s

-- ---- Want ----

-- the pages of a step, and of the steps before it, which lead back to the own version
abbrev pub pages_back : Stamp → Step → Option Stamp → (Stamp → Option (List ℕ)) → Option (List ℕ)
pages_back own x None earlier = None
pages_back own x (Some before) earlier = cond (same_stamp before own) (Some x.pages) (option_map (λ pages. x.pages ++ pages) (earlier before))

-- the pages that were written from the own version of a file to the wanted one, where its last steps lead from one to the other
abbrev pub pages_since : Stamp → Stamp → List Step → Option (List ℕ)
pages_since own wanted [] = None
pages_since own wanted (x ∷ xs) = cond (same_stamp x.after wanted) (pages_back own x x.before (λ before. pages_since own before xs)) None

-- those of so many pages that were written; all of them where that isn't known
abbrev pub delta_of : ℕ → Option (List ℕ) → List ℕ
delta_of count None = pages_from 0 count
delta_of count (Some pages) = filter (is_among pages) (pages_from 0 count)

-- a Want is answered exactly where the wanted version is committed here
abbrev pub wanted_delta : Frame → ℕ → FileId → Stamp → Stamp → Store → Option FileCopy → List Packet
wanted_delta f from file wanted own s None = []
wanted_delta f from file wanted own s (Some x) = cond (same_stamp x.stamp wanted)
    (packet f from (body.Delta file wanted (delta_of (pages_of (length x.content)) (pages_since own wanted (steps_of file s.steps)))) ∷ []) []

abbrev pub on_want : Frame → ℕ → FileId → Stamp → Stamp → Store → Outcome Store
on_want f from file wanted own s = sends (wanted_delta f from file wanted own s (copy_of s file)) s

-- ---- a tick: each Closed that the synchronization site hasn't answered ----

abbrev pub closed_again : Frame → Instance → Stage → List Packet
closed_again f i (stage.Closing made a) = closed_packets f i made
closed_again f i _ = []

abbrev pub store_repeats : Frame → Store → List Packet
store_repeats f s = flat_map (λ (i : Instance). closed_again f i i.stage) s.instances
