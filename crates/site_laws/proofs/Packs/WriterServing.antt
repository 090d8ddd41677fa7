-- What the synchronization site and the storage site send in an epoch asks no open and no operation: a law by kinds.
use Rattle.std.proofs.Common.{ℕ, List, Option, Some, None}
use Rattle.locus_ids.specs.declared.ids.Stamp.{Stamp}
use Rattle.trace_book.specs.declared.operation.Op.{Op}
use Rattle.wire_messages.specs.declared.body.Body.{Body}
use Rattle.wire_messages.specs.declared.body.Body.TheVariants as body
use Rattle.role_steps.specs.Views.{Frame, to_sync, Store}
use Rattle.role_steps.specs.Own.{Every}
use Rattle.role_steps.specs.Reports.{on_have_of, sync_repeats}
use Rattle.role_steps.specs.declared.synchronizing.SyncTable.{SyncTable}
use Rattle.role_steps.specs.declared.synchronizing.FileRow.{FileRow}
use Rattle.role_steps.specs.Storage.{store_repeats}
use Rattle.role_steps.specs.Pulling.{pull_repeats}
use Rattle.role_steps.specs.declared.pulls.Pull.{Pull}
use Rattle.run_laws.specs.Walks.Kinds.{IsOfTable, IsStoreRequest, IsOfStore, IsOfReader, IsStoreAnswer}
use Rattle.run_laws.specs.Walks.Laws.{Law, body_law, TablesKeep, StoresKeep, VersionsKeep, TableAnswers}
use Rattle.run_laws.proofs.Walks.Premises.{body_tables, body_stores}
use Rattle.run_laws.proofs.Walks.SyncWalks.{sync_repeats_walk}
use Rattle.run_laws.proofs.Walks.RoleWalks.{asks_walk, store_repeats_walk, pull_repeats_walk}
use Rattle.site_laws.specs.Packs.WriterAsking.{NoAsk, Askless, TableOk}

-- ---- the law, kind by kind ----

table_asks_none : (b : Body) → IsOfTable b → NoAsk b
table_asks_none (body.Open serial call process request file how) h = h
table_asks_none (body.Op serial n o seen) h = h
table_asks_none _ h = tt

store_request_asks_none : (b : Body) → IsStoreRequest b → NoAsk b
store_request_asks_none (body.Open serial call process request file how) h = h
store_request_asks_none (body.Op serial n o seen) h = h
store_request_asks_none _ h = tt

store_asks_none : (b : Body) → IsOfStore b → NoAsk b
store_asks_none (body.Open serial call process request file how) h = h
store_asks_none (body.Op serial n o seen) h = h
store_asks_none _ h = tt

reader_asks_none : (b : Body) → IsOfReader b → NoAsk b
reader_asks_none (body.Open serial call process request file how) h = h
reader_asks_none (body.Op serial n o seen) h = h
reader_asks_none _ h = tt

pub answer_asks_none : (b : Body) → IsStoreAnswer b → NoAsk b
answer_asks_none (body.Open serial call process request file how) h = h
answer_asks_none (body.Op serial n o seen) h = h
answer_asks_none _ h = tt

abbrev pub asking : Law
asking = body_law NoAsk (λ t. Unit {0}) (λ w. Unit {0})

pub tables : (f : Frame) → TablesKeep asking f
tables f = body_tables NoAsk (λ t. Unit {0}) (λ w. Unit {0}) f table_asks_none (λ t h. tt) tt

pub stores : (f : Frame) → StoresKeep asking f
stores f = body_stores NoAsk (λ t. Unit {0}) (λ w. Unit {0}) f store_request_asks_none store_asks_none reader_asks_none (λ t h. tt) tt

pub versions : VersionsKeep asking
versions = record { tells = λ r h. tt; writes = λ d h. tt }

pub back : (f : Frame) (from : ℕ) → TableAnswers asking f from
back f from = record { reported = λ t h. tt; closed = λ inst. tt }

-- ---- the synchronization site ----

pub sync_repeats_plain : (f : Frame) (t : SyncTable) → Every Askless (sync_repeats f t)
sync_repeats_plain f t = sync_repeats_walk asking f (tables f) t

pub have_ok : (from : ℕ) (stamp : Stamp) (o : Option FileRow) (t : SyncTable) → TableOk t → TableOk (on_have_of from stamp o t)
have_ok from stamp None t h = h
have_ok from stamp (Some r) t h = h

-- ---- the storage site, and a site that pulls ----

pub sync_plain : (f : Frame) (group : ℕ) (b : Body) → IsStoreRequest b → Every Askless (to_sync f group b)
sync_plain f group b h = asks_walk asking f (stores f) group b h

pub store_repeats_plain : (f : Frame) (s : Store) → Every Askless (store_repeats f s)
store_repeats_plain f s = store_repeats_walk asking f (stores f) s

pub pull_repeats_plain : (f : Frame) (ps : List Pull) → Every Askless (pull_repeats f ps)
pull_repeats_plain f ps = pull_repeats_walk asking f (stores f).reads ps
