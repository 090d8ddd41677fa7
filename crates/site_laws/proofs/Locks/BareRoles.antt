-- What the using site and the storage site tell and write is no grant: a law by kinds.
use Rattle.std.proofs.Common.{◌≡◌, ℕ, List, Option, Some, None, refl}
use Rattle.locus_ids.specs.declared.ids.EpochId.{EpochId}
use Rattle.locus_ids.specs.declared.ids.FileId.{FileId}
use Rattle.locus_ids.specs.declared.ids.Serial.{Serial}
use Rattle.locus_ids.specs.declared.ids.Stamp.{Stamp}
use Rattle.trace_book.specs.declared.call.Call.{Call}
use Rattle.trace_book.specs.declared.operation.Op.{Op}
use Rattle.trace_book.specs.declared.operation.Outcome.{Outcome as Result}
use Rattle.trace_book.specs.declared.record.Record.{Record}
use Rattle.trace_book.specs.declared.record.Record.TheVariants as says
use Rattle.wire_messages.specs.declared.body.CloseAnswer.{CloseAnswer}
use Rattle.wire_messages.specs.declared.body.LookAnswer.{LookAnswer}
use Rattle.wire_messages.specs.declared.body.Granted.{Granted}
use Rattle.role_steps.specs.Own.{Every}
use Rattle.role_steps.specs.Views.{Frame, Store, Users, Told, Shown, DiskWrite, Outcome}
use Rattle.role_steps.specs.Storage.{StoreRequest, on_open_ss, on_close, on_closed_ok}
use Rattle.role_steps.specs.Operations.{on_op, on_read_held}
use Rattle.role_steps.specs.OperationEffects.{Mending}
use Rattle.role_steps.specs.Using.{on_call, on_open_done, on_op_done, on_as_held, on_close_done, on_look_done}
use Rattle.run_laws.specs.Walks.Kinds.{IsAct, TellsStore, IsCallRecord, TellsCall, IsVersion}
use Rattle.run_laws.specs.Walks.Laws.{Law, frame_law, StoresKeep, VersionsKeep, UsersKeep, Part}
use Rattle.run_laws.proofs.Walks.RoleWalks.{on_open_ss_walk, on_close_walk, on_closed_ok_walk, on_op_walk, on_read_held_walk, on_call_walk, on_open_done_walk, on_op_done_walk, on_as_held_walk, on_close_done_walk, on_look_done_walk}
use Rattle.site_laws.proofs.Locks.GrantTold.{BareRecord, Bare}

-- what is written is no grant either
abbrev pub BareWrite : Option DiskWrite → Type 0
BareWrite None = Unit {0}
BareWrite (Some d) = BareRecord d.says

abbrev pub Bares : Outcome Users → Type 0
Bares o = Every Bare o.told × (o.written ≡ None)

abbrev pub StoreBare : Outcome Store → Type 0
StoreBare o = Every Bare o.told × BareWrite o.written

-- ---- the law, kind by kind ----

act_bare : (r : Record) → IsAct r → BareRecord r
act_bare (says.Act e inst n o result) h = tt
act_bare _ h = absurd h

store_bare : (t : Told) → TellsStore t → Bare t
store_bare (Shown r) h = act_bare r h
store_bare _ h = tt

call_record_bare : (r : Record) → IsCallRecord r → BareRecord r
call_record_bare (says.Accept site process call words) h = tt
call_record_bare (says.Answer site process call r) h = tt
call_record_bare _ h = absurd h

call_bare : (t : Told) → TellsCall t → Bare t
call_bare (Shown r) h = call_record_bare r h
call_bare _ h = tt

version_bare : (r : Record) → IsVersion r → BareRecord r
version_bare (says.Commit file site stamp parents content) h = tt
version_bare (says.Adopt file site stamp) h = tt
version_bare _ h = absurd h

abbrev pub storing : Law
storing = frame_law (λ p. Unit {0}) Bare BareWrite

abbrev pub using : Law
using = frame_law (λ p. Unit {0}) Bare (λ w. w ≡ None)

pub stores : (f : Frame) → StoresKeep storing f
stores f = record { asks = λ group to b h e. tt; sends = λ to b h. tt; tells = store_bare; reads = record { sends = λ to b h. tt; unwritten = tt }; unwritten = tt }

pub versions : VersionsKeep storing
versions = record { tells = version_bare; writes = λ d h. version_bare d.says h }

pub users : (f : Frame) → UsersKeep using f
users f = record { asks = λ group to b h e. tt; sends = λ to b h. tt; tells = call_bare; unwritten = refl }

told_bare : (o : Outcome Users) → Part using o → Bares o
told_bare o h = (h.1, h.2)

stored_bare : (o : Outcome Store) → Part storing o → StoreBare o
stored_bare o h = (h.1, h.2)

-- ---- users ----

pub on_call_bare : (f : Frame) (now : Option EpochId) (process : ℕ) (words : Call) (u : Users) → Bares (on_call f now process words u)
on_call_bare f now process words u = told_bare (on_call f now process words u) (on_call_walk using f (users f) now process words u (λ n. tt))

pub on_open_done_bare : (f : Frame) (kept : FileId → List Stamp) (serial : ℕ) (a : Granted) (u : Users) → Bares (on_open_done f kept serial a u)
on_open_done_bare f kept serial a u = told_bare (on_open_done f kept serial a u) (on_open_done_walk using f (users f) kept serial a u)

pub on_op_done_bare : (f : Frame) (serial n : ℕ) (r : Result) (u : Users) → Bares (on_op_done f serial n r u)
on_op_done_bare f serial n r u = told_bare (on_op_done f serial n r u) (on_op_done_walk using f (users f) serial n r u)

pub on_as_held_bare : (f : Frame) (serial n : ℕ) (u : Users) → Bares (on_as_held f serial n u)
on_as_held_bare f serial n u = told_bare (on_as_held f serial n u) (on_as_held_walk using f (users f) serial n u)

pub on_close_done_bare : (f : Frame) (serial : ℕ) (a : CloseAnswer) (u : Users) → Bares (on_close_done f serial a u)
on_close_done_bare f serial a u = told_bare (on_close_done f serial a u) (on_close_done_walk using f (users f) serial a u)

pub on_look_done_bare : (f : Frame) (n request take : ℕ) (a : LookAnswer) (u : Users) → Bares (on_look_done f n request take a u)
on_look_done_bare f n request take a u = told_bare (on_look_done f n request take a u) (on_look_done_walk using f (users f) n request take a u)

-- ---- the store ----

pub on_open_ss_bare : (f : Frame) (r : StoreRequest) (s : Store) → StoreBare (on_open_ss f r s)
on_open_ss_bare f r s = stored_bare (on_open_ss f r s) (on_open_ss_walk storing f (stores f) r s)

pub on_close_bare : (f : Frame) (inst : Serial) (s : Store) → StoreBare (on_close f inst s)
on_close_bare f inst s = stored_bare (on_close f inst s) (on_close_walk storing f (stores f) versions inst s)

pub on_closed_ok_bare : (f : Frame) (inst : Serial) (s : Store) → StoreBare (on_closed_ok f inst s)
on_closed_ok_bare f inst s = stored_bare (on_closed_ok f inst s) (on_closed_ok_walk storing f (stores f) inst s)

pub on_op_bare : (f : Frame) (m : Mending) (inst : Serial) (n : ℕ) (o : Op) (seen : List ℕ) (s : Store) → StoreBare (on_op f m inst n o seen s)
on_op_bare f m inst n o seen s = stored_bare (on_op f m inst n o seen s) (on_op_walk storing f (stores f) versions m inst n o seen s)

pub on_read_held_bare : (f : Frame) (inst : Serial) (n at len : ℕ) (s : Store) → StoreBare (on_read_held f inst n at len s)
on_read_held_bare f inst n at len s = stored_bare (on_read_held f inst n at len s) (on_read_held_walk storing f (stores f) inst n at len s)
