-- What the using site and a site that pulls send and tell is as packs allow: a law by kinds.
use Rattle.std.proofs.Common.{ℕ, List, Option}
use Rattle.locus_ids.specs.declared.ids.EpochId.{EpochId}
use Rattle.locus_ids.specs.declared.ids.FileId.{FileId}
use Rattle.locus_ids.specs.declared.ids.Stamp.{Stamp}
use Rattle.locus_ids.specs.declared.config.Config.{Config}
use Rattle.trace_book.specs.declared.call.Call.{Call}
use Rattle.trace_book.specs.declared.record.Record.{Record}
use Rattle.trace_book.specs.declared.record.Record.TheVariants as says
use Rattle.wire_messages.specs.declared.body.Body.{Body}
use Rattle.wire_messages.specs.declared.body.Body.TheVariants as body
use Rattle.role_steps.specs.Own.{Every}
use Rattle.role_steps.specs.Views.{Frame, Store, Users, Outcome, Told, Shown, Takes, LooksAgain}
use Rattle.role_steps.specs.Storage.{on_pull, on_want}
use Rattle.role_steps.specs.Pulling.{pull_repeats}
use Rattle.role_steps.specs.Requests.{users_repeats}
use Rattle.role_steps.specs.Using.{on_call}
use Rattle.role_steps.specs.declared.pulls.Pull.{Pull}
use Rattle.run_laws.specs.Walks.Kinds.{IsOfReader, IsUserRequest, IsOfUser, IsCallRecord, TellsCall}
use Rattle.run_laws.specs.Walks.Laws.{Law, frame_law, ReadersKeep, UsersKeep, Part}
use Rattle.run_laws.proofs.Walks.RoleWalks.{on_pull_walk, on_want_walk, pull_repeats_walk, users_repeats_walk, on_call_walk}
use Rattle.site_laws.specs.Packs.Packs.{RecordPacked, ToldPacked}
use Rattle.site_laws.specs.Packs.Packed.{BodyPacked, PacketPacked}

-- all that the outcome sends and tells is such
abbrev pub AllPacked : {V : Type 0} → Config → Outcome V → Type 0
AllPacked c o = Every (PacketPacked c) o.sent × Every (ToldPacked c) o.told

-- ---- the law, kind by kind ----

request_packed : (c : Config) (from to : ℕ) (b : Body) → IsUserRequest b → BodyPacked c from to b
request_packed c from to (body.Open serial call process request file how) h = tt
request_packed c from to (body.Look call process request take file what) h = tt
request_packed c from to _ h = absurd h

user_packed : (c : Config) (from to : ℕ) (b : Body) → IsOfUser b → BodyPacked c from to b
user_packed c from to (body.Op serial n o seen) h = tt
user_packed c from to (body.ReadHeld serial n at len) h = tt
user_packed c from to (body.Close serial) h = tt
user_packed c from to _ h = absurd h

reader_packed : (c : Config) (from to : ℕ) (b : Body) → IsOfReader b → BodyPacked c from to b
reader_packed c from to (body.LookDone call request take answer) h = tt
reader_packed c from to (body.Pull file stamp page) h = tt
reader_packed c from to (body.Want file wanted own) h = tt
reader_packed c from to _ h = absurd h

call_packed : (c : Config) (r : Record) → IsCallRecord r → RecordPacked c r
call_packed c (says.Accept site process call words) h = tt
call_packed c (says.Answer site process call reply) h = tt
call_packed c _ h = absurd h

tells_packed : (c : Config) (t : Told) → TellsCall t → ToldPacked c t
tells_packed c (Shown r) h = call_packed c r h
tells_packed c (Takes site call request take a) h = tt
tells_packed c (LooksAgain site call request take) h = tt
tells_packed c _ h = absurd h

abbrev pub carrying : Config → Law
carrying c = frame_law (PacketPacked c) (ToldPacked c) (λ w. Unit {0})

pub users : (c : Config) (f : Frame) → UsersKeep (carrying c) f
users c f = record { asks = λ group to b h e. request_packed c f.me to b h; sends = λ to b h. user_packed c f.me to b h; tells = tells_packed c; unwritten = tt }

pub readers : (c : Config) (f : Frame) → ReadersKeep (carrying c) f
readers c f = record { sends = λ to b h. reader_packed c f.me to b h; unwritten = tt }

both : {V : Type 0} (c : Config) (o : Outcome V) → Part (carrying c) o → AllPacked c o
both c o h = (h.0, h.1)

-- ---- roles ----

pub on_pull_packed : (c : Config) (f : Frame) (from : ℕ) (file : FileId) (stamp : Stamp) (page : ℕ) (s : Store) → AllPacked c (on_pull f from file stamp page s)
on_pull_packed c f from file stamp page s = both c (on_pull f from file stamp page s) (on_pull_walk (carrying c) f (readers c f) from file stamp page (λ bytes. tt) s)

pub on_want_packed : (c : Config) (f : Frame) (from : ℕ) (file : FileId) (wanted own : Stamp) (s : Store) → AllPacked c (on_want f from file wanted own s)
on_want_packed c f from file wanted own s = both c (on_want f from file wanted own s) (on_want_walk (carrying c) f (readers c f) from file wanted own (λ pages. tt) s)

pub pull_repeats_packed : (c : Config) (f : Frame) (ps : List Pull) → Every (PacketPacked c) (pull_repeats f ps)
pull_repeats_packed c f ps = pull_repeats_walk (carrying c) f (readers c f) ps

pub on_call_packed : (c : Config) (f : Frame) (now : Option EpochId) (process : ℕ) (words : Call) (u : Users) → AllPacked c (on_call f now process words u)
on_call_packed c f now process words u = both c (on_call f now process words u) (on_call_walk (carrying c) f (users c f) now process words u (λ n. tt))

pub users_repeats_packed : (c : Config) (f : Frame) (u : Users) → Every (PacketPacked c) (users_repeats f u)
users_repeats_packed c f u = users_repeats_walk (carrying c) f (users c f) u
