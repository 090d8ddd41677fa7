-- What the using site and a site that pulls send carries nothing of versions, and they tell no commit and write none: a law by kinds.
use Rattle.std.proofs.Common.{◌≡◌, ℕ, List, Option, None, refl}
use Rattle.locus_ids.specs.declared.ids.EpochId.{EpochId}
use Rattle.locus_ids.specs.declared.ids.FileId.{FileId}
use Rattle.locus_ids.specs.declared.ids.Stamp.{Stamp}
use Rattle.trace_book.specs.declared.call.Call.{Call}
use Rattle.trace_book.specs.declared.operation.Op.{Op}
use Rattle.trace_book.specs.declared.operation.Outcome.{Outcome as Result}
use Rattle.trace_book.specs.declared.record.Record.{Record}
use Rattle.trace_book.specs.declared.record.Record.TheVariants as says
use Rattle.run_laws.specs.of_wire_messages.declared.body.Body.{Body}
use Rattle.run_laws.specs.of_wire_messages.declared.body.CloseAnswer.{CloseAnswer}
use Rattle.run_laws.specs.of_wire_messages.declared.body.LookAnswer.{LookAnswer}
use Rattle.run_laws.specs.of_wire_messages.declared.body.Granted.{Granted}
use Rattle.run_laws.specs.of_wire_messages.declared.body.Body.TheVariants as body
use Rattle.run_laws.specs.of_role_steps.Own.{Every}
use Rattle.run_laws.specs.of_role_steps.Views.{Frame, Store, Users, Told, Shown, Outcome, sends}
use Rattle.run_laws.specs.of_role_steps.Looks.{LookRequest}
use Rattle.run_laws.specs.of_role_steps.Storage.{on_look_ss, on_pull, on_want}
use Rattle.run_laws.specs.of_role_steps.Pulling.{on_notify, on_page, on_delta, pull_repeats}
use Rattle.run_laws.specs.of_role_steps.Requests.{users_repeats}
use Rattle.run_laws.specs.of_role_steps.Using.{on_call, on_open_done, on_op_done, on_as_held, on_close_done, on_look_done}
use Rattle.run_laws.specs.of_role_steps.declared.copies.FileCopy.{FileCopy}
use Rattle.run_laws.specs.of_role_steps.declared.pulls.Pull.{Pull}
use Rattle.run_laws.specs.Walks.Kinds.{IsOfReader, IsStoreAnswer, IsUserRequest, IsOfUser, IsCallRecord, TellsCall}
use Rattle.run_laws.specs.Walks.Laws.{Law, body_law, ReadersKeep, UsersKeep}
use Rattle.run_laws.proofs.Walks.RoleWalks.{on_look_ss_walk, on_pull_walk, on_want_walk, on_notify_walk, on_page_walk, on_delta_walk, pull_repeats_walk, users_repeats_walk, on_call_walk, on_open_done_walk, on_op_done_walk, on_as_held_walk, on_close_done_walk, on_look_done_walk}
use Rattle.site_laws.specs.Vectors.Facts.{NoFact, Factless, NotCommitRecord, NotCommit}

-- all that the outcome sends is such
abbrev AllFactless : {V : Type 0} → Outcome V → Type 0
AllFactless o = Every Factless o.sent

-- ---- the law, kind by kind ----

request_factless : (b : Body) → IsUserRequest b → NoFact b
request_factless (body.Open serial call process request file how) h = tt
request_factless (body.Look call process request take file what) h = tt
request_factless _ h = absurd h

user_factless : (b : Body) → IsOfUser b → NoFact b
user_factless (body.Op serial n o seen) h = tt
user_factless (body.ReadHeld serial n at len) h = tt
user_factless (body.Close serial) h = tt
user_factless _ h = absurd h

reader_factless : (b : Body) → IsOfReader b → NoFact b
reader_factless (body.LookDone call request take answer) h = tt
reader_factless (body.Pull file stamp page) h = tt
reader_factless (body.Want file wanted own) h = tt
reader_factless _ h = absurd h

call_record : (r : Record) → IsCallRecord r → NotCommitRecord r
call_record (says.Commit file s stamp parents content) h = h
call_record _ h = tt

call_told : (t : Told) → TellsCall t → NotCommit t
call_told (Shown r) h = call_record r h
call_told _ h = tt

abbrev pub carrying : Law
carrying = body_law NoFact NotCommit (λ w. w ≡ None)

pub users : (f : Frame) → UsersKeep carrying f
users f = record { asks = λ group to b h e. request_factless b h; sends = λ to b h. user_factless b h; tells = call_told; unwritten = refl }

pub readers : (f : Frame) → ReadersKeep carrying f
readers f = record { sends = λ to b h. reader_factless b h; unwritten = refl }

pub back : (b : Body) → IsStoreAnswer b → NoFact b
back (body.Page file stamp page bytes) h = tt
back (body.Delta file wanted pages) h = tt
back (body.Have file stamp) h = tt
back _ h = absurd h

-- ---- roles ----

pub on_look_ss_factless : (f : Frame) (us : ℕ) (l : LookRequest) (stamp : Stamp) (s : Store) → AllFactless (on_look_ss f us l stamp s)
on_look_ss_factless f us l stamp s = (on_look_ss_walk carrying f (readers f) us l stamp s).0

pub on_pull_factless : (f : Frame) (from : ℕ) (file : FileId) (stamp : Stamp) (page : ℕ) (s : Store) → AllFactless (on_pull f from file stamp page s)
on_pull_factless f from file stamp page s = (on_pull_walk carrying f (readers f) from file stamp page (λ bytes. tt) s).0

pub on_want_factless : (f : Frame) (from : ℕ) (file : FileId) (wanted own : Stamp) (s : Store) → AllFactless (on_want f from file wanted own s)
on_want_factless f from file wanted own s = (on_want_walk carrying f (readers f) from file wanted own (λ pages. tt) s).0

pub on_notify_factless : (f : Frame) (from : ℕ) (o : Option FileCopy) (p : Pull) (ps : List Pull) → AllFactless (on_notify f from o p ps)
on_notify_factless f from o p ps = (on_notify_walk carrying f (readers f) from o p tt ps).0

pub on_page_factless : (f : Frame) (file : FileId) (stamp : Stamp) (page : ℕ) (bytes : List ℕ) (ps : List Pull) → AllFactless (on_page f file stamp page bytes ps)
on_page_factless f file stamp page bytes ps = (on_page_walk carrying f (readers f) file stamp page bytes ps).0

pub on_delta_factless : (f : Frame) (own : Option FileCopy) (file : FileId) (stamp : Stamp) (pages : List ℕ) (ps : List Pull) → AllFactless (on_delta f own file stamp pages ps)
on_delta_factless f own file stamp pages ps = (on_delta_walk carrying f (readers f) own file stamp pages ps).0

pub pull_repeats_factless : (f : Frame) (ps : List Pull) → Every Factless (pull_repeats f ps)
pull_repeats_factless f ps = pull_repeats_walk carrying f (readers f) ps

pub on_call_factless : (f : Frame) (now : Option EpochId) (process : ℕ) (words : Call) (u : Users) → AllFactless (on_call f now process words u)
on_call_factless f now process words u = (on_call_walk carrying f (users f) now process words u (λ n. tt)).0

pub on_open_done_factless : (f : Frame) (kept : FileId → List Stamp) (serial : ℕ) (a : Granted) (u : Users) → AllFactless (on_open_done f kept serial a u)
on_open_done_factless f kept serial a u = (on_open_done_walk carrying f (users f) kept serial a u).0

pub on_op_done_factless : (f : Frame) (serial n : ℕ) (r : Result) (u : Users) → AllFactless (on_op_done f serial n r u)
on_op_done_factless f serial n r u = (on_op_done_walk carrying f (users f) serial n r u).0

pub on_as_held_factless : (f : Frame) (serial n : ℕ) (u : Users) → AllFactless (on_as_held f serial n u)
on_as_held_factless f serial n u = (on_as_held_walk carrying f (users f) serial n u).0

pub on_close_done_factless : (f : Frame) (serial : ℕ) (a : CloseAnswer) (u : Users) → AllFactless (on_close_done f serial a u)
on_close_done_factless f serial a u = (on_close_done_walk carrying f (users f) serial a u).0

pub on_look_done_factless : (f : Frame) (n request take : ℕ) (a : LookAnswer) (u : Users) → AllFactless (on_look_done f n request take a u)
on_look_done_factless f n request take a u = (on_look_done_walk carrying f (users f) n request take a u).0

pub users_repeats_factless : (f : Frame) (u : Users) → Every Factless (users_repeats f u)
users_repeats_factless f u = users_repeats_walk carrying f (users f) u
