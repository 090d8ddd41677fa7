-- What a site does in its epoch forms none, and tells nothing of how sites stand: two laws by kinds.
use Rattle.std.proofs.Common.{◌≡◌, ℕ, ◌<◌, Option, Some, None, refl, sym, subst}
use Rattle.locus_ids.specs.declared.ids.EpochId.{EpochId}
use Rattle.locus_ids.specs.declared.ids.Stamp.{Stamp}
use Rattle.locus_ids.specs.declared.config.Config.{Config}
use Rattle.trace_book.specs.declared.call.Call.{Call}
use Rattle.trace_book.specs.declared.record.Record.{Record}
use Rattle.trace_book.specs.declared.record.Record.TheVariants as says
use Rattle.wire_messages.specs.declared.packet.Packet.{Packet}
use Rattle.wire_messages.specs.declared.body.Body.{Body}
use Rattle.wire_messages.specs.declared.body.Body.TheVariants as body
use Rattle.role_steps.specs.Own.{Every}
use Rattle.role_steps.specs.Views.{Frame, SiteView, Users, Told, Shown, Promises, DiskWrite, Outcome, quiet, to_some, to_sync, sync_site, first_written}
use Rattle.role_steps.specs.Reports.{on_have_of}
use Rattle.role_steps.specs.Requests.{waiting_span}
use Rattle.role_steps.specs.Using.{goes_on, counted_call, accepted_call}
use Rattle.role_steps.specs.Epochs.{frame_in}
use Rattle.role_steps.specs.declared.rounds.InEpoch.{InEpoch}
use Rattle.role_steps.specs.declared.synchronizing.SyncTable.{SyncTable}
use Rattle.role_steps.specs.declared.synchronizing.FileRow.{FileRow}
use Rattle.site_laws.specs.of_the_run.Steps.{takes_framed, adopts_of, tries_at, starts_mends_of, repeats_inside}
use Rattle.site_laws.specs.of_run_laws.Walks.Kinds.{IsInside, IsTableRecord, TellsTable, IsAct, TellsStore, IsVersion, IsPlainRecord, TellsPlain}
use Rattle.site_laws.specs.of_run_laws.Walks.Laws.{Law, TablesKeep, ReadersKeep, StoresKeep, VersionsKeep, SiteKeeps, SiteAnswers, Stays}
use Rattle.site_laws.proofs.of_run_laws.Walks.Premises.{of_table, store_request, of_store, of_reader, user_request, of_user, table_tells, store_tells, call_tells, body_answers}
use Rattle.site_laws.proofs.of_run_laws.Walks.RoleWalks.{goes_on_walk}
use Rattle.site_laws.proofs.of_run_laws.Walks.SiteWalks.{adopts_of_walk, tries_walk, mends_of_walk, framed_walk, repeats_inside_walk}
use Rattle.row_laws.specs.Inward.{Inward, InwardPacket, RoleRecord, RoleTold, ServedRecord, ServedTold, RoleWrite, Inwardly, LookInward, LooksInward, Indoors}

-- ---- what tables and stores tell is what roles may ----

pub served_role : (r : Record) → ServedRecord r → RoleRecord r
served_role (says.Accept site process id words) h = absurd h
served_role (says.Answer site process id r) h = absurd h
served_role (says.Up site boot) h = absurd h
served_role (says.Stopped site why) h = absurd h
served_role (says.Leave site id) h = absurd h
served_role (says.Join site id members) h = absurd h
served_role (says.Packet number from to kind) h = absurd h
served_role says.Void h = absurd h
served_role says.Budget h = absurd h
served_role _ h = tt

-- ---- the laws, kind by kind ----

inward : (b : Body) → IsInside b → Inward b
inward body.Poll h = h
inward (body.Promise reach) h = h
inward (body.Refuse theirs) h = h
inward (body.Install members) h = h
inward body.Joined h = h
inward _ h = tt

table_served : (r : Record) → IsTableRecord r → ServedRecord r
table_served (says.Start epoch group files) h = tt
table_served (says.Look epoch call request file what result) h = tt
table_served (says.Grant epoch call request inst mode file stamp ss) h = tt
table_served (says.Refuse epoch call request inst mode file why) h = tt
table_served (says.Release epoch inst file stamp) h = tt
table_served _ h = absurd h

table_tells_served : (t : Told) → TellsTable t → ServedTold t
table_tells_served (Shown r) h = table_served r h
table_tells_served _ h = absurd h

act_served : (r : Record) → IsAct r → ServedRecord r
act_served (says.Act epoch inst n op result) h = tt
act_served _ h = absurd h

store_tells_served : (t : Told) → TellsStore t → ServedTold t
store_tells_served (Shown r) h = act_served r h
store_tells_served (Promises site id reach) h = h
store_tells_served _ h = tt

plain_role : (r : Record) → IsPlainRecord r → RoleRecord r
plain_role (says.Up site boot) h = h
plain_role (says.Stopped site why) h = h
plain_role (says.Leave site id) h = h
plain_role (says.Join site id members) h = h
plain_role (says.Packet number from to kind) h = h
plain_role says.Void h = h
plain_role says.Budget h = h
plain_role (says.Accept site process id words) h = h
plain_role _ h = tt

tells_role : (t : Told) → TellsPlain t → RoleTold t
tells_role (Shown r) h = plain_role r h
tells_role (Promises site id reach) h = h
tells_role _ h = tt

version_served : (r : Record) → IsVersion r → ServedRecord r
version_served (says.Commit file site stamp parents content) h = tt
version_served (says.Adopt file site stamp) h = tt
version_served _ h = absurd h

abbrev inward_law : (Told → Type 0) → Law
inward_law told = record { sent = InwardPacket; told = told; written = RoleWrite; look = LookInward; table = LooksInward }

-- of tables and stores
abbrev pub servedly : Law
servedly = inward_law ServedTold

-- of the site
abbrev inwardly : Law
inwardly = inward_law RoleTold

-- a table of the same group
pub same_table : (t u : SyncTable) → LooksInward t → u.group ≡ t.group → Every LookInward u.looks → LooksInward u
same_table t u h e k = (k, subst (λ (g : ℕ). g < waiting_span) (sym e) h.1)

tables : (told : Told → Type 0) (f : Frame) → ((t : Told) → TellsTable t → told t) → TablesKeep (inward_law told) f
tables told f tells = record {
  sends = λ to b h. inward b (of_table b h);
  tells = tells;
  unwritten = tt;
  keeps = λ l h. inward l.body (of_table l.body h);
  repeats = λ l h. h;
  looks = λ t h. h.0;
  tables = same_table;
}

readers : (told : Told → Type 0) (f : Frame) → ReadersKeep (inward_law told) f
readers told f = record { sends = λ to b h. inward b (of_reader b h); unwritten = tt }

stores : (told : Told → Type 0) (f : Frame) → ((t : Told) → TellsStore t → told t) → StoresKeep (inward_law told) f
stores told f tells = record { asks = λ group to b h e. inward b (store_request b h); sends = λ to b h. inward b (of_store b h); tells = tells; reads = readers told f; unwritten = tt }

pub served_tables : (f : Frame) → TablesKeep servedly f
served_tables f = tables ServedTold f table_tells_served

pub served_stores : (f : Frame) → StoresKeep servedly f
served_stores f = stores ServedTold f store_tells_served

keeps : (f : Frame) → SiteKeeps inwardly f
keeps f = record {
  tables = tables RoleTold f (λ t h. tells_role t (table_tells t h));
  stores = stores RoleTold f (λ t h. tells_role t (store_tells t h));
  versions = record { tells = λ r h. served_role r (version_served r h); writes = λ d h. version_served d.says h };
  users = record { asks = λ group to b h e. inward b (user_request b h); sends = λ to b h. inward b (of_user b h); tells = λ t h. tells_role t (call_tells t h); unwritten = tt };
}

pub served_versions : VersionsKeep servedly
served_versions = record { tells = version_served; writes = λ d h. version_served d.says h }

pub back : (told : Told → Type 0) (f : Frame) (from : ℕ) → SiteAnswers (inward_law told) f from
back told f from = body_answers (inward_law told) f (λ to b h. inward b h) from

-- ---- parts ----

some_plain : (f : Frame) (b : Body) (o : Option ℕ) → Inward b → Every InwardPacket (to_some f b o)
some_plain f b None h = tt
some_plain f b (Some to) h = (h, tt)

pub sync_plain : (f : Frame) (group : ℕ) (b : Body) → Inward b → Every InwardPacket (to_sync f group b)
sync_plain f group b h = some_plain f b (sync_site f.config f.members group) h

pub no_first : (a b : Option DiskWrite) → RoleWrite a → RoleWrite b → RoleWrite (first_written a b)
no_first None b h g = g
no_first (Some d) b h g = h

pub inside_inward : (f : Frame) (e : InEpoch) (v : SiteView) → Every InwardPacket (repeats_inside f e v)
inside_inward f e v = repeats_inside_walk inwardly f (keeps f) e v

-- a call that is accepted, after the record of it
pub on_call_rest : (f : Frame) (now : Option EpochId) (process : ℕ) (words : Call) (u : Users) →
    Inwardly (goes_on f (accepted_call f now process words u) (counted_call f now process words u))
on_call_rest f now process words u = goes_on_walk inwardly f (keeps f).users (accepted_call f now process words u) (counted_call f now process words u)

-- ---- a table ----

pub have_ok : (from : ℕ) (stamp : Stamp) (o : Option FileRow) (t : SyncTable) → LooksInward t → LooksInward (on_have_of from stamp o t)
have_ok from stamp None t h = h
have_ok from stamp (Some r) t h = h

-- ---- the site ----

indoors : (v : SiteView) (o : Outcome SiteView) → Stays inwardly v o → Indoors v o
indoors v o h = record { boot = h.leaves.boot; round = h.leaves.round; promised = h.leaves.promised; epoch = h.leaves.epoch; tables = h.tables; inwardly = h.part }

pub quiet_indoors : (v : SiteView) → Every LooksInward v.tables → Indoors v (quiet v)
quiet_indoors v h = record { boot = refl; round = refl; promised = refl; epoch = refl; tables = h; inwardly = (tt, tt, tt) }

pub adopts_of_indoors : (c : Config) (me : ℕ) (e : Option InEpoch) (v : SiteView) → Every LooksInward v.tables → Indoors v (adopts_of c me e v)
adopts_of_indoors c me e v ok = indoors v (adopts_of c me e v) (adopts_of_walk inwardly c me e v tt (λ x is. keeps (frame_in c me v.boot x)) ok)

pub tries_indoors : (c : Config) (me : ℕ) (x : Body) (v : SiteView) → Every LooksInward v.tables → Indoors v (tries_at c me x v)
tries_indoors c me x v ok = indoors v (tries_at c me x v) (tries_walk inwardly c me x v tt (λ e is. keeps (frame_in c me v.boot e)) ok)

pub mends_of_indoors : (c : Config) (me : ℕ) (e : Option InEpoch) (v : SiteView) → Every LooksInward v.tables → Indoors v (starts_mends_of c me e v)
mends_of_indoors c me e v ok = indoors v (starts_mends_of c me e v) (mends_of_walk inwardly c me e v tt (λ x is. keeps (frame_in c me v.boot x)) ok)

pub framed_indoors : (c : Config) (me : ℕ) (p : Packet) (e : Option InEpoch) (v : SiteView) → Every LooksInward v.tables → Indoors v (takes_framed c me p e v)
framed_indoors c me p e v ok = indoors v (takes_framed c me p e v) (framed_walk inwardly c me p e v tt (λ x is. keeps (frame_in c me v.boot x)) (λ x is. back RoleTold (frame_in c me v.boot x) p.from) ok)
