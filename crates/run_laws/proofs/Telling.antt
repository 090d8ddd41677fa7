-- What roles tell in an epoch: nothing of how their site stands, and of versions only what is written. Two laws by kinds.
use Rattle.std.proofs.Common.{ℕ, ◌≡◌, List, Option, None, refl}
use Rattle.locus_ids.specs.declared.ids.FileId.{FileId}
use Rattle.locus_ids.specs.declared.ids.Serial.{Serial}
use Rattle.locus_ids.specs.declared.ids.Stamp.{Stamp}
use Rattle.trace_book.specs.declared.record.Record.{Record}
use Rattle.trace_book.specs.declared.record.Record.TheVariants as says
use Rattle.wire_messages.specs.declared.body.OpenedAs.{OpenedAs}
use Rattle.wire_messages.specs.declared.body.MadeVersion.{MadeVersion}
use Rattle.wire_messages.specs.declared.body.ReportedCopy.{ReportedCopy}
use Rattle.the_run.specs.of_role_steps.Views.{Told, Shown, Promises, DiskWrite, Outcome, Frame}
use Rattle.the_run.specs.of_role_steps.Opens.{OpenRequest, on_opened}
use Rattle.the_run.specs.of_role_steps.Looks.{LookRequest}
use Rattle.the_run.specs.of_role_steps.Reports.{on_open, on_look, on_report, on_closed, on_have}
use Rattle.the_run.specs.of_role_steps.declared.synchronizing.SyncTable.{SyncTable}
use Rattle.run_laws.specs.Words.{InsideRecord, Inside, TalkRecord, Talk, Talks}
use Rattle.locus_ids.specs.declared.ids.EpochId.{EpochId}
use Rattle.trace_book.specs.declared.call.Call.{Call}
use Rattle.trace_book.specs.declared.operation.Outcome.{Outcome as Result}
use Rattle.wire_messages.specs.declared.body.CloseAnswer.{CloseAnswer}
use Rattle.wire_messages.specs.declared.body.LookAnswer.{LookAnswer}
use Rattle.wire_messages.specs.declared.body.Granted.{Granted}
use Rattle.the_run.specs.of_role_steps.Views.{Store, Users}
use Rattle.the_run.specs.of_role_steps.Storage.{StoreRequest, on_open_ss, on_closed_ok, on_look_ss, on_pull, on_want}
use Rattle.the_run.specs.of_role_steps.Pulling.{on_notify, on_page, on_delta}
use Rattle.the_run.specs.of_role_steps.Using.{on_call, on_open_done, on_op_done, on_as_held, on_close_done, on_look_done}
use Rattle.the_run.specs.of_role_steps.declared.copies.FileCopy.{FileCopy}
use Rattle.the_run.specs.of_role_steps.declared.pulls.Pull.{Pull}
use Rattle.run_laws.specs.Walks.Kinds.{IsVersion, IsPlainRecord, TellsPlain}
use Rattle.run_laws.specs.Walks.Laws.{Law, frame_law, TablesKeep, StoresKeep, UsersKeep, SiteAnswers, Part, TablePart}
use Rattle.run_laws.proofs.Walks.Premises.{every_unit, table_tells, store_tells, call_tells, frame_tables, frame_stores, frame_users, frame_answers}
use Rattle.run_laws.proofs.Walks.SyncWalks.{on_opened_walk, on_open_walk, on_look_walk, on_report_walk, on_closed_walk}
use Rattle.run_laws.proofs.Walks.RoleWalks.{on_open_ss_walk, on_closed_ok_walk, on_look_ss_walk, on_pull_walk, on_want_walk, on_notify_walk, on_page_walk, on_delta_walk, on_call_walk, on_open_done_walk, on_op_done_walk, on_as_held_walk, on_close_done_walk, on_look_done_walk}

-- ---- what is told without a version ----

plain_talks : (r : Record) → IsPlainRecord r → TalkRecord r
plain_talks (says.Commit file site stamp parents content) h = h
plain_talks (says.Adopt file site stamp) h = h
plain_talks (says.Up site boot) h = h
plain_talks (says.Stopped site cause) h = h
plain_talks (says.Join site epoch members) h = h
plain_talks (says.Leave site epoch) h = h
plain_talks _ h = tt

pub tells_talk : (t : Told) → TellsPlain t → Talk t
tells_talk (Shown r) h = plain_talks r h
tells_talk (Promises site id reach) h = h
tells_talk _ h = tt

-- ---- what is told with one ----

talk_record : (r : Record) → TalkRecord r → InsideRecord r
talk_record (says.Commit file site stamp parents content) h = tt
talk_record (says.Adopt file site stamp) h = tt
talk_record _ h = h

pub talk_inside : (t : Told) → Talk t → Inside t
talk_inside (Shown r) h = talk_record r h
talk_inside _ h = h

pub version_inside : (r : Record) → IsVersion r → InsideRecord r
version_inside (says.Commit file site stamp parents content) h = tt
version_inside (says.Adopt file site stamp) h = tt
version_inside _ h = absurd h

-- ---- roles that write nothing ----

abbrev IsUnwritten : Option DiskWrite → Type 0
IsUnwritten w = w ≡ None

abbrev talking : Law
talking = frame_law (λ p. Unit {0}) Talk IsUnwritten

tables : (f : Frame) → TablesKeep talking f
tables f = frame_tables (λ p. Unit {0}) Talk IsUnwritten f (λ to b. tt) (λ t h. tells_talk t (table_tells t h)) refl

stores : (f : Frame) → StoresKeep talking f
stores f = frame_stores (λ p. Unit {0}) Talk IsUnwritten f (λ to b. tt) (λ t h. tells_talk t (store_tells t h)) refl

users : (f : Frame) → UsersKeep talking f
users f = frame_users (λ p. Unit {0}) Talk IsUnwritten f (λ to b. tt) (λ t h. tells_talk t (call_tells t h)) refl

back : (f : Frame) (from : ℕ) → SiteAnswers talking f from
back f from = frame_answers (λ p. Unit {0}) Talk IsUnwritten f (λ to b. tt) from

part_talks : {V : Type 0} (o : Outcome V) → Part talking o → Talks o
part_talks o h = (h.1, h.2)

table_talks : (t : SyncTable) (o : Outcome SyncTable) → TablePart talking t o → Talks o
table_talks t o h = (h.1, h.2)

-- ---- the synchronization site ----

pub on_opened_talks : (f : Frame) (inst : Serial) (a : OpenedAs) (t : SyncTable) → Talks (on_opened f inst a t)
on_opened_talks f inst a t = table_talks t (on_opened f inst a t) (on_opened_walk talking f (tables f) inst a t (every_unit t.looks))

pub on_open_talks : (f : Frame) (us : ℕ) (o : OpenRequest) (t : SyncTable) → Talks (on_open f us o t)
on_open_talks f us o t = table_talks t (on_open f us o t) (on_open_walk talking f (tables f) us o t (every_unit t.looks))

pub on_look_talks : (f : Frame) (us : ℕ) (l : LookRequest) (t : SyncTable) → Talks (on_look f us l t)
on_look_talks f us l t = table_talks t (on_look f us l t) (on_look_walk talking f (tables f) us l t (every_unit t.looks))

pub on_report_talks : (f : Frame) (from : ℕ) (xs : List ReportedCopy) (t : SyncTable) → Talks (on_report f from xs t)
on_report_talks f from xs t = table_talks t (on_report f from xs t) (on_report_walk talking f (tables f) from xs t tt (every_unit t.looks))

pub on_closed_talks : (f : Frame) (ss : ℕ) (inst : Serial) (made : Option MadeVersion) (t : SyncTable) → Talks (on_closed f ss inst made t)
on_closed_talks f ss inst made t = table_talks t (on_closed f ss inst made t) (on_closed_walk talking f (tables f) ss (back f ss).tables inst made t (every_unit t.looks))

pub on_have_talks : (from : ℕ) (file : FileId) (stamp : Stamp) (t : SyncTable) → Talks (on_have from file stamp t)
on_have_talks from file stamp t = (tt, refl)

-- ---- the storage site, and a site that pulls ----

pub on_open_ss_talks : (f : Frame) (r : StoreRequest) (s : Store) → Talks (on_open_ss f r s)
on_open_ss_talks f r s = part_talks (on_open_ss f r s) (on_open_ss_walk talking f (stores f) r s)

pub on_closed_ok_talks : (f : Frame) (inst : Serial) (s : Store) → Talks (on_closed_ok f inst s)
on_closed_ok_talks f inst s = part_talks (on_closed_ok f inst s) (on_closed_ok_walk talking f (stores f) inst s)

pub on_look_ss_talks : (f : Frame) (us : ℕ) (l : LookRequest) (stamp : Stamp) (s : Store) → Talks (on_look_ss f us l stamp s)
on_look_ss_talks f us l stamp s = part_talks (on_look_ss f us l stamp s) (on_look_ss_walk talking f (stores f).reads us l stamp s)

pub on_pull_talks : (f : Frame) (from : ℕ) (file : FileId) (stamp : Stamp) (page : ℕ) (s : Store) → Talks (on_pull f from file stamp page s)
on_pull_talks f from file stamp page s = part_talks (on_pull f from file stamp page s) (on_pull_walk talking f (stores f).reads from file stamp page (λ bytes. tt) s)

pub on_want_talks : (f : Frame) (from : ℕ) (file : FileId) (wanted own : Stamp) (s : Store) → Talks (on_want f from file wanted own s)
on_want_talks f from file wanted own s = part_talks (on_want f from file wanted own s) (on_want_walk talking f (stores f).reads from file wanted own (λ pages. tt) s)

pub on_notify_talks : (f : Frame) (from : ℕ) (o : Option FileCopy) (p : Pull) (ps : List Pull) → Talks (on_notify f from o p ps)
on_notify_talks f from o p ps = part_talks (on_notify f from o p ps) (on_notify_walk talking f (stores f).reads from o p tt ps)

pub on_page_talks : (f : Frame) (file : FileId) (stamp : Stamp) (page : ℕ) (bytes : List ℕ) (ps : List Pull) → Talks (on_page f file stamp page bytes ps)
on_page_talks f file stamp page bytes ps = part_talks (on_page f file stamp page bytes ps) (on_page_walk talking f (stores f).reads file stamp page bytes ps)

pub on_delta_talks : (f : Frame) (own : Option FileCopy) (file : FileId) (stamp : Stamp) (pages : List ℕ) (ps : List Pull) → Talks (on_delta f own file stamp pages ps)
on_delta_talks f own file stamp pages ps = part_talks (on_delta f own file stamp pages ps) (on_delta_walk talking f (stores f).reads own file stamp pages ps)

-- ---- the using site ----

pub on_call_talks : (f : Frame) (now : Option EpochId) (process : ℕ) (words : Call) (u : Users) → Talks (on_call f now process words u)
on_call_talks f now process words u = part_talks (on_call f now process words u) (on_call_walk talking f (users f) now process words u (λ n. tt))

pub on_open_done_talks : (f : Frame) (kept : FileId → List Stamp) (serial : ℕ) (a : Granted) (u : Users) → Talks (on_open_done f kept serial a u)
on_open_done_talks f kept serial a u = part_talks (on_open_done f kept serial a u) (on_open_done_walk talking f (users f) kept serial a u)

pub on_op_done_talks : (f : Frame) (serial n : ℕ) (r : Result) (u : Users) → Talks (on_op_done f serial n r u)
on_op_done_talks f serial n r u = part_talks (on_op_done f serial n r u) (on_op_done_walk talking f (users f) serial n r u)

pub on_as_held_talks : (f : Frame) (serial n : ℕ) (u : Users) → Talks (on_as_held f serial n u)
on_as_held_talks f serial n u = part_talks (on_as_held f serial n u) (on_as_held_walk talking f (users f) serial n u)

pub on_close_done_talks : (f : Frame) (serial : ℕ) (a : CloseAnswer) (u : Users) → Talks (on_close_done f serial a u)
on_close_done_talks f serial a u = part_talks (on_close_done f serial a u) (on_close_done_walk talking f (users f) serial a u)

pub on_look_done_talks : (f : Frame) (n request take : ℕ) (a : LookAnswer) (u : Users) → Talks (on_look_done f n request take a u)
on_look_done_talks f n request take a u = part_talks (on_look_done f n request take a u) (on_look_done_walk talking f (users f) n request take a u)
