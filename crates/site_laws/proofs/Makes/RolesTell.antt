-- What the using site and a site that pulls send and tell is neither of a table nor of a store: a law by kinds.
use Rattle.std.proofs.Common.{ℕ, List, Option}
use Rattle.locus_ids.specs.declared.ids.EpochId.{EpochId}
use Rattle.trace_book.specs.declared.call.Call.{Call}
use Rattle.trace_book.specs.declared.record.Record.{Record}
use Rattle.trace_book.specs.declared.record.Record.TheVariants as says
use Rattle.wire_messages.specs.declared.body.Body.{Body}
use Rattle.wire_messages.specs.declared.body.Body.TheVariants as body
use Rattle.role_steps.specs.Own.{Every}
use Rattle.role_steps.specs.Views.{Frame, Users, Outcome, Told, Shown, Takes, LooksAgain}
use Rattle.role_steps.specs.Pulling.{pull_repeats}
use Rattle.role_steps.specs.Requests.{users_repeats}
use Rattle.role_steps.specs.Using.{on_call}
use Rattle.role_steps.specs.declared.pulls.Pull.{Pull}
use Rattle.run_laws.specs.Walks.Kinds.{IsOfReader, IsStoreAnswer, IsUserRequest, IsOfUser, IsCallRecord, TellsCall}
use Rattle.run_laws.specs.Walks.Laws.{Law, body_law, ReadersKeep, UsersKeep, Part}
use Rattle.run_laws.proofs.Walks.RoleWalks.{pull_repeats_walk, users_repeats_walk, on_call_walk}
use Rattle.site_laws.proofs.Makes.Telling.{IdleRecord, Idle, BlandBody, Bland}

-- all that the outcome sends and tells is such
abbrev pub AllIdle : {V : Type 0} → Outcome V → Type 0
AllIdle o = Every Bland o.sent × Every Idle o.told

-- ---- the law, kind by kind ----

request_idle : (b : Body) → IsUserRequest b → BlandBody b
request_idle (body.Open serial call process request file how) h = tt
request_idle (body.Look call process request take file what) h = tt
request_idle _ h = absurd h

user_idle : (b : Body) → IsOfUser b → BlandBody b
user_idle (body.Op serial n o seen) h = tt
user_idle (body.ReadHeld serial n at len) h = tt
user_idle (body.Close serial) h = tt
user_idle _ h = absurd h

reader_idle : (b : Body) → IsOfReader b → BlandBody b
reader_idle (body.LookDone call request take answer) h = tt
reader_idle (body.Pull file stamp page) h = tt
reader_idle (body.Want file wanted own) h = tt
reader_idle _ h = absurd h

pub answer_idle : (b : Body) → IsStoreAnswer b → BlandBody b
answer_idle (body.Page file stamp page bytes) h = tt
answer_idle (body.Delta file wanted pages) h = tt
answer_idle (body.Have file stamp) h = tt
answer_idle _ h = absurd h

call_idle : (r : Record) → IsCallRecord r → IdleRecord r
call_idle (says.Accept site process call words) h = tt
call_idle (says.Answer site process call reply) h = tt
call_idle _ h = absurd h

tells_idle : (t : Told) → TellsCall t → Idle t
tells_idle (Shown r) h = call_idle r h
tells_idle (Takes site call request take a) h = tt
tells_idle (LooksAgain site call request take) h = tt
tells_idle _ h = absurd h

abbrev pub carrying : Law
carrying = body_law BlandBody Idle (λ w. Unit {0})

pub users : (f : Frame) → UsersKeep carrying f
users f = record { asks = λ group to b h e. request_idle b h; sends = λ to b h. user_idle b h; tells = tells_idle; unwritten = tt }

pub readers : (f : Frame) → ReadersKeep carrying f
readers f = record { sends = λ to b h. reader_idle b h; unwritten = tt }

both : {V : Type 0} (o : Outcome V) → Part carrying o → AllIdle o
both o h = (h.0, h.1)

-- ---- roles ----

pub pull_repeats_idle : (f : Frame) (ps : List Pull) → Every Bland (pull_repeats f ps)
pull_repeats_idle f ps = pull_repeats_walk carrying f (readers f) ps

pub on_call_idle : (f : Frame) (now : Option EpochId) (process : ℕ) (words : Call) (u : Users) → AllIdle (on_call f now process words u)
on_call_idle f now process words u = both (on_call f now process words u) (on_call_walk carrying f (users f) now process words u (λ n. tt))

pub users_repeats_idle : (f : Frame) (u : Users) → Every Bland (users_repeats f u)
users_repeats_idle f u = users_repeats_walk carrying f (users f) u
