-- The premises of laws that ask the same of many kinds.
use Rattle.std.proofs.Common.{◌≡◌, ℕ, List, [], ◌∷◌, Option, Some, None}
use Rattle.locus_ids.specs.declared.config.Config.{Config}
use Rattle.role_steps.specs.of_trace_book.declared.record.Record.{Record}
use Rattle.role_steps.specs.of_trace_book.declared.record.Record.TheVariants as says
use Rattle.role_steps.specs.of_wire_messages.declared.packet.Packet.{Packet}
use Rattle.role_steps.specs.of_wire_messages.declared.body.Body.{Body}
use Rattle.role_steps.specs.of_wire_messages.declared.body.Body.TheVariants as body
use Rattle.role_steps.specs.Own.{Every}
use Rattle.role_steps.specs.Views.{Frame, Told, Shown, Promises, DiskWrite, packet, all_groups}
use Rattle.role_steps.specs.Reports.{new_table}
use Rattle.role_steps.specs.declared.synchronizing.LastLook.{LastLook}
use Rattle.role_steps.specs.declared.synchronizing.SyncTable.{SyncTable}
use Rattle.role_steps.proofs.Sending.{OfFrame}
use Rattle.the_run.specs.Joins.{NoJoinRecord, NoJoin}
use Rattle.the_run.specs.Kinds.{IsInside, IsOfTable, IsStoreRequest, IsOfStore, IsOfReader, IsStoreAnswer, IsUserRequest, IsOfUser, IsTableRecord, TellsTable, IsAct, TellsStore, IsCallRecord, TellsCall, IsVersion, IsPlainRecord, TellsPlain}
use Rattle.the_run.specs.KindLaws.{Law, body_law, frame_law, table_law, EventsKeep, TablesKeep, StoresKeep, UsersKeep, SiteKeeps, SiteAnswers}

-- ---- what a role sends ----

pub of_table : (b : Body) → IsOfTable b → IsInside b
of_table body.Poll h = h
of_table (body.Promise reach) h = h
of_table (body.Refuse promised) h = h
of_table (body.Install members) h = h
of_table body.Joined h = h
of_table _ h = tt

pub store_request : (b : Body) → IsStoreRequest b → IsInside b
store_request body.Poll h = h
store_request (body.Promise reach) h = h
store_request (body.Refuse promised) h = h
store_request (body.Install members) h = h
store_request body.Joined h = h
store_request _ h = tt

pub of_store : (b : Body) → IsOfStore b → IsInside b
of_store body.Poll h = h
of_store (body.Promise reach) h = h
of_store (body.Refuse promised) h = h
of_store (body.Install members) h = h
of_store body.Joined h = h
of_store _ h = tt

pub of_reader : (b : Body) → IsOfReader b → IsInside b
of_reader body.Poll h = h
of_reader (body.Promise reach) h = h
of_reader (body.Refuse promised) h = h
of_reader (body.Install members) h = h
of_reader body.Joined h = h
of_reader _ h = tt

pub store_answer : (b : Body) → IsStoreAnswer b → IsInside b
store_answer body.Poll h = h
store_answer (body.Promise reach) h = h
store_answer (body.Refuse promised) h = h
store_answer (body.Install members) h = h
store_answer body.Joined h = h
store_answer _ h = tt

pub user_request : (b : Body) → IsUserRequest b → IsInside b
user_request body.Poll h = h
user_request (body.Promise reach) h = h
user_request (body.Refuse promised) h = h
user_request (body.Install members) h = h
user_request body.Joined h = h
user_request _ h = tt

pub of_user : (b : Body) → IsOfUser b → IsInside b
of_user body.Poll h = h
of_user (body.Promise reach) h = h
of_user (body.Refuse promised) h = h
of_user (body.Install members) h = h
of_user body.Joined h = h
of_user _ h = tt

-- ---- what a role tells ----

table_plain : (r : Record) → IsTableRecord r → IsPlainRecord r
table_plain (says.Start epoch group files) h = tt
table_plain (says.Look epoch call request file what result) h = tt
table_plain (says.Grant epoch call request inst mode file stamp ss) h = tt
table_plain (says.Refuse epoch call request inst mode file why) h = tt
table_plain (says.Release epoch inst file stamp) h = tt
table_plain _ h = absurd h

pub table_tells : (t : Told) → TellsTable t → TellsPlain t
table_tells (Shown r) h = table_plain r h
table_tells (Promises site id reach) h = h
table_tells _ h = tt

act_plain : (r : Record) → IsAct r → IsPlainRecord r
act_plain (says.Act epoch inst n op result) h = tt
act_plain _ h = absurd h

pub store_tells : (t : Told) → TellsStore t → TellsPlain t
store_tells (Shown r) h = act_plain r h
store_tells (Promises site id reach) h = h
store_tells _ h = tt

call_plain : (r : Record) → IsCallRecord r → IsPlainRecord r
call_plain (says.Accept site process call words) h = h
call_plain (says.Answer site process call reply) h = tt
call_plain _ h = absurd h

pub call_tells : (t : Told) → TellsCall t → TellsPlain t
call_tells (Shown r) h = call_plain r h
call_tells (Promises site id reach) h = h
call_tells _ h = tt

-- ---- a law that looks only at what packets say ----

pub body_tables : (says : Body → Type 0) (told : Told → Type 0) (written : Option DiskWrite → Type 0) (f : Frame) → ((b : Body) → IsOfTable b → says b) → ((t : Told) → TellsTable t → told t) → written None → TablesKeep (body_law says told written) f
body_tables says told written f sends tells unwritten = record {
  sends = λ to b h. sends b h;
  tells = tells;
  unwritten = unwritten;
  keeps = λ l h. sends l.body h;
  repeats = λ l h. h;
  looks = λ t h. h;
  tables = λ t u h e k. k;
}

pub body_stores : (says : Body → Type 0) (told : Told → Type 0) (written : Option DiskWrite → Type 0) (f : Frame) → ((b : Body) → IsStoreRequest b → says b) → ((b : Body) → IsOfStore b → says b) → ((b : Body) → IsOfReader b → says b) → ((t : Told) → TellsStore t → told t) → written None → StoresKeep (body_law says told written) f
body_stores says told written f asks sends reads tells unwritten = record {
  asks = λ group to b h e. asks b h;
  sends = λ to b h. sends b h;
  tells = tells;
  reads = record { sends = λ to b h. reads b h; unwritten = unwritten };
  unwritten = unwritten;
}

-- and asks the same of all that roles send
pub body_keeps : (says : Body → Type 0) (told : Told → Type 0) (written : Option DiskWrite → Type 0) (f : Frame) → ((b : Body) → IsInside b → says b) → ((t : Told) → TellsPlain t → told t) → ((r : Record) → IsVersion r → told (Shown r)) → written None → ((d : DiskWrite) → IsVersion d.says → written (Some d)) →
    SiteKeeps (body_law says told written) f
body_keeps says told written f sends tells versions unwritten writes = record {
  tables = body_tables says told written f (λ b h. sends b (of_table b h)) (λ t h. tells t (table_tells t h)) unwritten;
  stores = body_stores says told written f (λ b h. sends b (store_request b h)) (λ b h. sends b (of_store b h)) (λ b h. sends b (of_reader b h)) (λ t h. tells t (store_tells t h)) unwritten;
  versions = record { tells = versions; writes = writes };
  users = record { asks = λ group to b h e. sends b (user_request b h); sends = λ to b h. sends b (of_user b h); tells = λ t h. tells t (call_tells t h); unwritten = unwritten };
}

pub body_answers : (law : Law) (f : Frame) → ((to : ℕ) (b : Body) → IsInside b → law.sent (packet f to b)) → (from : ℕ) → SiteAnswers law f from
body_answers law f sends from = record { tables = record { reported = λ t h. sends from (body.ReportOk t.group) tt; closed = λ inst. sends from (body.ClosedOk inst) tt }; stores = λ b h. sends from b (store_answer b h) }

-- ---- a law that asks what all packets of a frame have ----

-- nothing is asked of these
pub every_unit : {A : Type 0} (xs : List A) → Every (λ (x : A). Unit {0}) xs
every_unit [] = tt
every_unit (x ∷ xs) = (tt, every_unit xs)

pub frame_tables : (sent : Packet → Type 0) (told : Told → Type 0) (written : Option DiskWrite → Type 0) (f : Frame) → OfFrame sent f → ((t : Told) → TellsTable t → told t) → written None → TablesKeep (frame_law sent told written) f
frame_tables sent told written f sends tells unwritten = record {
  sends = λ to b h. sends to b;
  tells = tells;
  unwritten = unwritten;
  keeps = λ l h. tt;
  repeats = λ l h. sends l.to l.body;
  looks = λ t h. every_unit t.looks;
  tables = λ t u h e k. tt;
}

pub frame_stores : (sent : Packet → Type 0) (told : Told → Type 0) (written : Option DiskWrite → Type 0) (f : Frame) → OfFrame sent f → ((t : Told) → TellsStore t → told t) → written None → StoresKeep (frame_law sent told written) f
frame_stores sent told written f sends tells unwritten = record { asks = λ group to b h e. sends to b; sends = λ to b h. sends to b; tells = tells; reads = record { sends = λ to b h. sends to b; unwritten = unwritten }; unwritten = unwritten }

pub frame_users : (sent : Packet → Type 0) (told : Told → Type 0) (written : Option DiskWrite → Type 0) (f : Frame) → OfFrame sent f → ((t : Told) → TellsCall t → told t) → written None → UsersKeep (frame_law sent told written) f
frame_users sent told written f sends tells unwritten = record { asks = λ group to b h e. sends to b; sends = λ to b h. sends to b; tells = tells; unwritten = unwritten }

pub frame_keeps : (sent : Packet → Type 0) (told : Told → Type 0) (written : Option DiskWrite → Type 0) (f : Frame) → OfFrame sent f → ((t : Told) → TellsPlain t → told t) → ((r : Record) → IsVersion r → told (Shown r)) → written None → ((d : DiskWrite) → IsVersion d.says → written (Some d)) →
    SiteKeeps (frame_law sent told written) f
frame_keeps sent told written f sends tells versions unwritten writes = record {
  tables = frame_tables sent told written f sends (λ t h. tells t (table_tells t h)) unwritten;
  stores = frame_stores sent told written f sends (λ t h. tells t (store_tells t h)) unwritten;
  versions = record { tells = versions; writes = writes };
  users = frame_users sent told written f sends (λ t h. tells t (call_tells t h)) unwritten;
}

pub frame_answers : (sent : Packet → Type 0) (told : Told → Type 0) (written : Option DiskWrite → Type 0) (f : Frame) → OfFrame sent f → (from : ℕ) → SiteAnswers (frame_law sent told written) f from
frame_answers sent told written f sends from = record { tables = record { reported = λ t h. sends from (body.ReportOk t.group); closed = λ inst. sends from (body.ClosedOk inst) }; stores = λ b h. sends from b }

-- ---- a law of tables alone ----

pub table_events : (look : LastLook → Type 0) (table : SyncTable → Type 0) (c : Config) (me : ℕ) → ((l : LastLook) → IsOfTable l.body → look l) → ((t : SyncTable) → table t → Every look t.looks) → ((t u : SyncTable) → table t → u.group ≡ t.group → Every look u.looks → table u) → Every (λ (g : ℕ). table (new_table g)) all_groups →
    EventsKeep (table_law look table) c me
table_events look table c me keeps looks tables fresh = record {
  unwritten = tt;
  inside = λ boot e. record {
    tables = record { sends = λ to b h. tt; tells = λ t h. tt; unwritten = tt; keeps = keeps; repeats = λ l h. tt; looks = looks; tables = tables };
    stores = record { asks = λ group to b h e. tt; sends = λ to b h. tt; tells = λ t h. tt; reads = record { sends = λ to b h. tt; unwritten = tt }; unwritten = tt };
    versions = record { tells = λ r h. tt; writes = λ d h. tt };
    users = record { asks = λ group to b h e. tt; sends = λ to b h. tt; tells = λ t h. tt; unwritten = tt };
  };
  answers = λ boot from e. record { tables = record { reported = λ t h. tt; closed = λ inst. tt }; stores = λ b h. tt };
  fresh = fresh;
}

-- ---- what tells no join ----

plain_joins_none : (r : Record) → IsPlainRecord r → NoJoinRecord r
plain_joins_none (says.Join site epoch members) h = h
plain_joins_none _ h = tt

pub plain_no_join : (t : Told) → TellsPlain t → NoJoin t
plain_no_join (Shown r) h = plain_joins_none r h
plain_no_join _ h = tt

pub version_no_join : (r : Record) → IsVersion r → NoJoinRecord r
version_no_join (says.Join site epoch members) h = h
version_no_join _ h = tt
