-- What a site does in its epoch keeps each law by kinds, and leaves its round, its promised id and its epoch.
use Rattle.std.specs.List.{flat_map}
use Rattle.std.proofs.Common.{◌≡◌, ℕ, true, false, ◌&&◌, not, List, [], ◌∷◌, Option, Some, None, refl, ◌∙◌}
use Rattle.locus_ids.specs.declared.config.Config.{Config}
use Rattle.role_steps.specs.of_trace_book.declared.call.Call.TheVariants as call
use Rattle.role_steps.specs.of_wire_messages.declared.packet.Packet.{Packet}
use Rattle.role_steps.specs.of_wire_messages.declared.body.Body.{Body}
use Rattle.role_steps.specs.of_wire_messages.declared.body.Body.TheVariants as body
use Rattle.role_steps.specs.Own.{Every}
use Rattle.role_steps.specs.Tables.{row, first_that}
use Rattle.role_steps.specs.Views.{Frame, Store, Users, SiteView, Outcome, quiet, and_then, within}
use Rattle.role_steps.specs.Reports.{on_have_of, sync_repeats}
use Rattle.role_steps.specs.Storage.{copy_of, store_repeats}
use Rattle.role_steps.specs.Pulling.{pull_repeats}
use Rattle.role_steps.specs.Requests.{users_repeats}
use Rattle.role_steps.specs.Epochs.{frame_in, with_users, report_packets, all_reports}
use Rattle.role_steps.specs.Adoption.{notes_own_at, notes_own, with_store, table_group, is_ready, fits_own, adopts_pull, without_pull, adopts_first, with_adopted}
use Rattle.role_steps.specs.Mends.{has_mend_in, wants_mend, starts_mend_of, starts_mend, starts_mends_in, row_file}
use Rattle.role_steps.specs.Versions.{file_row}
use Rattle.role_steps.specs.declared.pulls.Pull.{Pull}
use Rattle.role_steps.specs.declared.rounds.InEpoch.{InEpoch}
use Rattle.role_steps.specs.declared.synchronizing.SyncTable.{SyncTable}
use Rattle.role_steps.specs.declared.synchronizing.FileRow.{FileRow}
use Rattle.the_run.specs.Steps.{in_order, repeats_inside, with_pulls, at_table_of, takes_inside, takes_framed, adopts_of, tries_at, starts_mends_of}
use Rattle.the_run.proofs.Rows.{Found, every_row, row_found, order_sent}
use Rattle.role_steps.proofs.Sending.{every_append, every_flat_map}
use Rattle.the_run.proofs.SyncWalks.{then_written, sync_repeats_walk, have_ok, have_group}
use Rattle.the_run.proofs.RoleWalks.{asks_walk, store_repeats_walk, pull_repeats_walk, users_repeats_walk, on_call_walk}
use Rattle.the_run.proofs.Roles.{by_role, tables_of, stores_by, readers_by, users_by, pulls_by}
use Rattle.the_run.specs.KindLaws.{Law, TablesKeep, StoresKeep, SiteKeeps, SiteAnswers, Part, TablePart, Leaves, Stays}

-- ---- outcomes ----

none_left : (v : SiteView) → Leaves v v
none_left v = record { boot = refl; round = refl; promised = refl; installed = refl; installs = refl; epoch = refl }

left_on : (v u w : SiteView) → Leaves v u → Leaves u w → Leaves v w
left_on v u w h g = record {
  boot = g.boot ∙ h.boot;
  round = g.round ∙ h.round;
  promised = g.promised ∙ h.promised;
  installed = g.installed ∙ h.installed;
  installs = g.installs ∙ h.installs;
  epoch = g.epoch ∙ h.epoch;
}

pub quiet_walk : (law : Law) (none : law.written None) (v : SiteView) → Every law.table v.tables → Stays law v (quiet v)
quiet_walk law none v h = record { leaves = none_left v; tables = h; part = (tt, tt, none) }

then_walk : (law : Law) (v : SiteView) (o : Outcome SiteView) (f : SiteView → Outcome SiteView) → Stays law v o → Stays law o.view (f o.view) → Stays law v (and_then o f)
then_walk law v o f h g = record {
  leaves = left_on v o.view (f o.view).view h.leaves g.leaves;
  tables = g.tables;
  part = (every_append law.sent o.sent (f o.view).sent h.part.0 g.part.0, every_append law.told o.told (f o.view).told h.part.1 g.part.1, then_written law o.written (f o.view).written h.part.2 g.part.2);
}

-- ---- a part of the site ----

store_walk : (law : Law) (v : SiteView) (o : Outcome Store) → Every law.table v.tables → Part law o → Stays law v (within (with_store v) o)
store_walk law v o ok h = record { leaves = record { boot = refl; round = refl; promised = refl; installed = refl; installs = refl; epoch = refl }; tables = ok; part = h }

users_walk : (law : Law) (v : SiteView) (o : Outcome Users) → Every law.table v.tables → Part law o → Stays law v (within (with_users v) o)
users_walk law v o ok h = record { leaves = record { boot = refl; round = refl; promised = refl; installed = refl; installs = refl; epoch = refl }; tables = ok; part = h }

pulls_walk : (law : Law) (v : SiteView) (o : Outcome (List Pull)) → Every law.table v.tables → Part law o → Stays law v (within (with_pulls v) o)
pulls_walk law v o ok h = record { leaves = record { boot = refl; round = refl; promised = refl; installed = refl; installs = refl; epoch = refl }; tables = ok; part = h }

-- ---- adoptions and mends ----

noted_looks : (law : Law) (f : Frame) (kinds : SiteKeeps law f) (p : Pull) (o : Option SyncTable) (v : SiteView) → Found law.table o → Every law.table v.tables → Every law.table (notes_own_at f p o v).tables
noted_looks law f kinds p None v k ok = ok
noted_looks law f kinds p (Some t) v k ok = every_row law.table table_group _ v.tables (kinds.tables.tables t (on_have_of f.me p.stamp (file_row t p.file.ino) t) k (have_group f.me p.stamp (file_row t p.file.ino) t) (have_ok law f.me p.stamp (file_row t p.file.ino) t (kinds.tables.looks t k))) ok

noted_leaves : (f : Frame) (p : Pull) (o : Option SyncTable) (v : SiteView) → Leaves v (notes_own_at f p o v)
noted_leaves f p None v = none_left v
noted_leaves f p (Some t) v = record { boot = refl; round = refl; promised = refl; installed = refl; installs = refl; epoch = refl }

adopts_pull_walk : (law : Law) (f : Frame) (kinds : SiteKeeps law f) (p : Pull) (v : SiteView) → Every law.table v.tables → Stays law v (adopts_pull f p v)
adopts_pull_walk law f kinds p v ok =
    let kept : SiteView = with_adopted p v in
    let noted : Leaves kept (notes_own f p kept) = noted_leaves f p (row table_group p.file.group v.tables) kept in
    record {
      leaves = record { boot = noted.boot; round = noted.round; promised = noted.promised; installed = noted.installed; installs = noted.installs; epoch = noted.epoch };
      tables = noted_looks law f kinds p (row table_group p.file.group v.tables) kept (row_found law.table table_group p.file.group v.tables ok) ok;
      part = (asks_walk law f kinds.stores p.file.group _ tt, (kinds.versions.tells _ tt, tt), kinds.versions.writes _ tt);
    }

adopts_first_walk : (law : Law) (f : Frame) (kinds : SiteKeeps law f) (ps : List Pull) (v : SiteView) → Every law.table v.tables → Stays law v (adopts_first f ps v)
adopts_first_walk law f kinds [] v ok = quiet_walk law kinds.tables.unwritten v ok
adopts_first_walk law f kinds (p ∷ ps) v ok =
    elim (is_ready v p) as (λ t. Stays law v (elim t [ true ↦ elim (fits_own p (copy_of v.store p.file)) [ true ↦ adopts_pull f p v | false ↦ adopts_first f ps (without_pull p v) ] | false ↦ adopts_first f ps v ])) [
      | true ↦ elim (fits_own p (copy_of v.store p.file)) as (λ t. Stays law v (elim t [ true ↦ adopts_pull f p v | false ↦ adopts_first f ps (without_pull p v) ])) [
        | true ↦ adopts_pull_walk law f kinds p v ok
        | false ↦ (let g : Stays law (without_pull p v) (adopts_first f ps (without_pull p v)) = adopts_first_walk law f kinds ps (without_pull p v) ok in record { leaves = left_on v (without_pull p v) _ (record { boot = refl; round = refl; promised = refl; installed = refl; installs = refl; epoch = refl }) g.leaves; tables = g.tables; part = g.part })
      ]
      | false ↦ adopts_first_walk law f kinds ps v ok
    ]

pub adopts_of_walk : (law : Law) (c : Config) (me : ℕ) (e : Option InEpoch) (v : SiteView) → law.written None → ((x : InEpoch) → e ≡ Some x → SiteKeeps law (frame_in c me v.boot x)) → Every law.table v.tables → Stays law v (adopts_of c me e v)
adopts_of_walk law c me None v none kinds ok = quiet_walk law none v ok
adopts_of_walk law c me (Some e) v none kinds ok = adopts_first_walk law (frame_in c me v.boot e) (kinds e refl) v.pulls v ok

pub tries_walk : (law : Law) (c : Config) (me : ℕ) (x : Body) (v : SiteView) → law.written None → ((e : InEpoch) → v.epoch ≡ Some e → SiteKeeps law (frame_in c me v.boot e)) → Every law.table v.tables → Stays law v (tries_at c me x v)
tries_walk law c me (body.Notify file kind set size stamp vector holder) v none kinds ok = adopts_of_walk law c me v.epoch v none kinds ok
tries_walk law c me (body.Page file stamp page bytes) v none kinds ok = adopts_of_walk law c me v.epoch v none kinds ok
tries_walk law c me (body.Delta file wanted pages) v none kinds ok = adopts_of_walk law c me v.epoch v none kinds ok
tries_walk law c me _ v none kinds ok = quiet_walk law none v ok

starts_mend_of_walk : (law : Law) (f : Frame) (kinds : SiteKeeps law f) (t : SyncTable) (o : Option FileRow) (v : SiteView) → Every law.table v.tables → Stays law v (starts_mend_of f t o v)
starts_mend_of_walk law f kinds t None v ok = quiet_walk law kinds.tables.unwritten v ok
starts_mend_of_walk law f kinds t (Some r) v ok = users_walk law v _ ok (on_call_walk law f kinds.users (Some f.epoch) 0 (call.Mend (row_file t r)) v.users (λ n. kinds.users.tells _ tt))

starts_mend_walk : (law : Law) (f : Frame) (kinds : SiteKeeps law f) (t : SyncTable) (v : SiteView) → Every law.table v.tables → Stays law v (starts_mend f t v)
starts_mend_walk law f kinds t v ok =
    elim (t.started && not (has_mend_in v.users t.group)) as (λ x. Stays law v (elim x [ true ↦ starts_mend_of f t (first_that (wants_mend v t) t.files) v | false ↦ quiet v ])) [
      | true ↦ starts_mend_of_walk law f kinds t (first_that (wants_mend v t) t.files) v ok
      | false ↦ quiet_walk law kinds.tables.unwritten v ok
    ]

starts_mends_walk : (law : Law) (f : Frame) (kinds : SiteKeeps law f) (ts : List SyncTable) (v : SiteView) → Every law.table v.tables → Stays law v (starts_mends_in f ts v)
starts_mends_walk law f kinds [] v ok = quiet_walk law kinds.tables.unwritten v ok
starts_mends_walk law f kinds (t ∷ ts) v ok = let g : Stays law v (starts_mend f t v) = starts_mend_walk law f kinds t v ok in then_walk law v (starts_mend f t v) (starts_mends_in f ts) g (starts_mends_walk law f kinds ts (starts_mend f t v).view g.tables)

pub mends_of_walk : (law : Law) (c : Config) (me : ℕ) (e : Option InEpoch) (v : SiteView) → law.written None → ((x : InEpoch) → e ≡ Some x → SiteKeeps law (frame_in c me v.boot x)) → Every law.table v.tables → Stays law v (starts_mends_of c me e v)
mends_of_walk law c me None v none kinds ok = quiet_walk law none v ok
mends_of_walk law c me (Some e) v none kinds ok = starts_mends_walk law (frame_in c me v.boot e) (kinds e refl) v.tables v ok

-- ---- packets inside the epoch ----

table_walk : (law : Law) (f : Frame) (serves : TablesKeep law f) (g : SyncTable → Outcome SyncTable) (o : Option SyncTable) (v : SiteView) → Every law.table v.tables → Found law.table o → ((t : SyncTable) → law.table t → TablePart law t (g t)) → Stays law v (at_table_of g o v)
table_walk law f serves g None v ok k h = quiet_walk law serves.unwritten v ok
table_walk law f serves g (Some t) v ok k h = let r : TablePart law t (g t) = h t k in record { leaves = record { boot = refl; round = refl; promised = refl; installed = refl; installs = refl; epoch = refl }; tables = every_row law.table table_group (g t).view v.tables (serves.tables t (g t).view k r.4 r.3) ok; part = (r.0, r.1, r.2) }

inside_walk : (law : Law) (f : Frame) (kinds : SiteKeeps law f) (from : ℕ) (back : SiteAnswers law f from) (x : Body) (v : SiteView) → Every law.table v.tables → Stays law v (takes_inside f from x v)
inside_walk law f kinds from back x v ok = by_role (λ y o. Stays law v o) f from v (record {
  tables = tables_of (λ y o. Stays law v o) law f from v kinds.tables back.tables ok (λ y g o is found h. table_walk law f kinds.tables g o v ok found h);
  stores = stores_by (λ y o. Stays law v o) law f from v kinds.stores kinds.versions (λ y o is h. store_walk law v o ok h);
  readers = readers_by (λ y o. Stays law v o) law f from v kinds.stores.reads back.stores (λ y o is same h. store_walk law v o ok h);
  users = users_by (λ y o. Stays law v o) law f from v kinds.users (λ y o is h. users_walk law v o ok h);
  pulls = pulls_by (λ y o. Stays law v o) law f from v kinds.stores.reads back.stores (λ y o is h. pulls_walk law v o ok h);
  reported = λ group. record { leaves = record { boot = refl; round = refl; promised = refl; installed = refl; installs = refl; epoch = refl }; tables = ok; part = (tt, tt, kinds.tables.unwritten) };
  forming = λ y is. quiet_walk law kinds.tables.unwritten v ok;
}) x

pub framed_walk : (law : Law) (c : Config) (me : ℕ) (p : Packet) (e : Option InEpoch) (v : SiteView) → law.written None → ((x : InEpoch) → e ≡ Some x → SiteKeeps law (frame_in c me v.boot x)) → ((x : InEpoch) → e ≡ Some x → SiteAnswers law (frame_in c me v.boot x) p.from) → Every law.table v.tables → Stays law v (takes_framed c me p e v)
framed_walk law c me p None v none kinds back ok = quiet_walk law none v ok
framed_walk law c me p (Some e) v none kinds back ok = inside_walk law (frame_in c me v.boot e) (kinds e refl) p.from (back e refl) p.body v ok

-- ---- what a tick sends again ----

pub all_reports_walk : (law : Law) (f : Frame) (kinds : StoresKeep law f) (v : SiteView) → Every law.sent (all_reports f v)
all_reports_walk law f kinds v = every_flat_map law.sent (report_packets f v) v.reports (λ g. asks_walk law f kinds g _ tt)

pub repeats_inside_walk : (law : Law) (f : Frame) (kinds : SiteKeeps law f) (e : InEpoch) (v : SiteView) → Every law.sent (repeats_inside f e v)
repeats_inside_walk law f kinds e v =
    every_append law.sent (in_order (all_reports f v)) _ (order_sent law.sent (all_reports f v) (all_reports_walk law f kinds.stores v))
    (every_append law.sent (users_repeats f v.users) _ (users_repeats_walk law f kinds.users v.users)
    (every_append law.sent (in_order (store_repeats f v.store)) _ (order_sent law.sent (store_repeats f v.store) (store_repeats_walk law f kinds.stores v.store))
    (every_append law.sent (in_order (pull_repeats f v.pulls)) _ (order_sent law.sent (pull_repeats f v.pulls) (pull_repeats_walk law f kinds.stores.reads v.pulls))
    (order_sent law.sent (flat_map (sync_repeats f) v.tables) (every_flat_map law.sent (sync_repeats f) v.tables (sync_repeats_walk law f kinds.tables))))))
