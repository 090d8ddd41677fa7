-- What the using site and a site that pulls send names no file that is to be kept: a law by kinds.
use Rattle.std.proofs.Common.{ℕ, List, Option}
use Rattle.locus_ids.specs.declared.ids.EpochId.{EpochId}
use Rattle.trace_book.specs.declared.call.Call.{Call}
use Rattle.wire_messages.specs.declared.body.Body.{Body}
use Rattle.wire_messages.specs.declared.body.Body.TheVariants as body
use Rattle.role_steps.specs.Own.{Every}
use Rattle.role_steps.specs.Views.{Frame, Users, Outcome}
use Rattle.role_steps.specs.Pulling.{pull_repeats}
use Rattle.role_steps.specs.Requests.{users_repeats}
use Rattle.role_steps.specs.Using.{on_call}
use Rattle.role_steps.specs.declared.pulls.Pull.{Pull}
use Rattle.run_laws.specs.Walks.Kinds.{IsOfReader, IsStoreAnswer, IsUserRequest, IsOfUser}
use Rattle.run_laws.specs.Walks.Laws.{Law, body_law, ReadersKeep, UsersKeep}
use Rattle.run_laws.proofs.Walks.RoleWalks.{pull_repeats_walk, users_repeats_walk, on_call_walk}
use Rattle.site_laws.specs.Packs.InodeFits.{BodyFits, PacketFits}

-- all that the outcome sends is such
abbrev AllFits : {V : Type 0} → Outcome V → Type 0
AllFits o = Every PacketFits o.sent

-- ---- the law, kind by kind ----

request_fits : (b : Body) → IsUserRequest b → BodyFits b
request_fits (body.Open serial call process request file how) h = tt
request_fits (body.Look call process request take file what) h = tt
request_fits _ h = absurd h

user_fits : (b : Body) → IsOfUser b → BodyFits b
user_fits (body.Op serial n o seen) h = tt
user_fits (body.ReadHeld serial n at len) h = tt
user_fits (body.Close serial) h = tt
user_fits _ h = absurd h

reader_fits : (b : Body) → IsOfReader b → BodyFits b
reader_fits (body.LookDone call request take answer) h = tt
reader_fits (body.Pull file stamp page) h = tt
reader_fits (body.Want file wanted own) h = tt
reader_fits _ h = absurd h

pub answer_fits : (b : Body) → IsStoreAnswer b → BodyFits b
answer_fits (body.Page file stamp page bytes) h = tt
answer_fits (body.Delta file wanted pages) h = tt
answer_fits (body.Have file stamp) h = tt
answer_fits _ h = absurd h

abbrev pub carrying : Law
carrying = body_law BodyFits (λ t. Unit {0}) (λ w. Unit {0})

pub users : (f : Frame) → UsersKeep carrying f
users f = record { asks = λ group to b h e. request_fits b h; sends = λ to b h. user_fits b h; tells = λ t h. tt; unwritten = tt }

pub readers : (f : Frame) → ReadersKeep carrying f
readers f = record { sends = λ to b h. reader_fits b h; unwritten = tt }

-- ---- roles ----

pub pull_repeats_fits : (f : Frame) (ps : List Pull) → Every PacketFits (pull_repeats f ps)
pull_repeats_fits f ps = pull_repeats_walk carrying f (readers f) ps

pub on_call_fits : (f : Frame) (now : Option EpochId) (process : ℕ) (words : Call) (u : Users) → AllFits (on_call f now process words u)
on_call_fits f now process words u = (on_call_walk carrying f (users f) now process words u (λ n. tt)).0

pub users_repeats_fits : (f : Frame) (u : Users) → Every PacketFits (users_repeats f u)
users_repeats_fits f u = users_repeats_walk carrying f (users f) u
