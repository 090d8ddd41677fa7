-- What a site tells and writes in an epoch, but for its store, no store tells: a law by kinds.
use Rattle.std.proofs.Common.{ℕ, List, Option, None}
use Rattle.locus_ids.specs.declared.ids.EpochId.{EpochId}
use Rattle.trace_book.specs.declared.call.Call.{Call}
use Rattle.trace_book.specs.declared.record.Record.{Record}
use Rattle.trace_book.specs.declared.record.Record.TheVariants as says
use Rattle.role_steps.specs.Own.{Every}
use Rattle.role_steps.specs.Views.{Frame, Users, Told, Shown, Begins, Shuts, Reserves}
use Rattle.role_steps.specs.Using.{on_call, reply_record, users_leave}
use Rattle.role_steps.specs.declared.users.WaitingCall.{WaitingCall}
use Rattle.role_steps.proofs.Sending.{every_map}
use Rattle.run_laws.specs.Walks.Kinds.{IsTableRecord, TellsTable, IsCallRecord, TellsCall}
use Rattle.run_laws.specs.Walks.Laws.{Law, frame_law, TablesKeep, TableAnswers, ReadersKeep, UsersKeep, Part}
use Rattle.run_laws.proofs.Walks.Premises.{frame_tables, frame_users}
use Rattle.run_laws.proofs.Walks.RoleWalks.{on_call_walk}
use Rattle.site_laws.proofs.Makes.RunningSpine.{FreeRecord, Free, FreeWrite}

table_record_free : (r : Record) → IsTableRecord r → FreeRecord r
table_record_free (says.Act e inst n o result) h = h
table_record_free (says.Commit file s stamp parents content) h = h
table_record_free _ h = tt

table_free : (x : Told) → TellsTable x → Free x
table_free (Shown r) h = table_record_free r h
table_free (Begins s e inst file) h = h
table_free (Shuts s e inst) h = h
table_free (Reserves s e inst file) h = h
table_free _ h = tt

call_record_free : (r : Record) → IsCallRecord r → FreeRecord r
call_record_free (says.Act e inst n o result) h = h
call_record_free (says.Commit file s stamp parents content) h = h
call_record_free _ h = tt

call_free : (x : Told) → TellsCall x → Free x
call_free (Shown r) h = call_record_free r h
call_free (Begins s e inst file) h = h
call_free (Shuts s e inst) h = h
call_free (Reserves s e inst file) h = h
call_free _ h = tt

abbrev pub freely : Law
freely = frame_law (λ p. Unit {0}) Free FreeWrite

pub tables : (f : Frame) → TablesKeep freely f
tables f = frame_tables (λ p. Unit {0}) Free FreeWrite f (λ to b. tt) table_free tt

pub back : (f : Frame) (from : ℕ) → TableAnswers freely f from
back f from = record { reported = λ t h. tt; closed = λ inst. tt }

pub readers : (f : Frame) → ReadersKeep freely f
readers f = record { sends = λ to b h. tt; unwritten = tt }

pub users : (f : Frame) → UsersKeep freely f
users f = frame_users (λ p. Unit {0}) Free FreeWrite f (λ to b. tt) call_free tt

pub call_part : (f : Frame) (now : Option EpochId) (process : ℕ) (words : Call) (u : Users) → Part freely (on_call f now process words u)
call_part f now process words u = on_call_walk freely f (users f) now process words u (λ n. tt)

pub left_free : (me boot : ℕ) (e : EpochId) (u : Users) → Every Free (users_leave me boot e u).told
left_free me boot e u = every_map Free (λ (w : WaitingCall). reply_record me boot w _) u.waiting (λ w. tt)
