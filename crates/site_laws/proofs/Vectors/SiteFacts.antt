-- What a site keeps and sends of versions is as it was told: in its epoch, and where it forms one.
use Rattle.std.proofs.Common.{◌≡◌, ℕ, Bool, true, false, List, [], ◌∷◌, ◌++◌, Option, Some, None, refl, sym, ◌∙◌, ap, subst}
use Rattle.locus_ids.specs.declared.ids.Stamp.{Stamp}
use Rattle.locus_ids.specs.declared.config.Config.{Config}
use Rattle.trace_book.specs.declared.record.Record.{Record}
use Rattle.trace_book.specs.declared.record.Record.TheVariants as says
use Rattle.run_laws.specs.of_wire_messages.declared.body.Body.{Body}
use Rattle.run_laws.specs.of_wire_messages.declared.body.Body.TheVariants as body
use Rattle.run_laws.specs.of_role_steps.Own.{Every}
use Rattle.run_laws.specs.of_role_steps.Tables.{row, first_that}
use Rattle.run_laws.specs.of_role_steps.Views.{Frame, Store, Users, SiteView, Told, Shown, DiskWrite, Outcome, quiet, sends, packet}
use Rattle.run_laws.specs.of_role_steps.Reports.{on_report, on_open, on_look, on_closed, on_have}
use Rattle.run_laws.specs.of_role_steps.Opens.{on_opened}
use Rattle.run_laws.specs.of_role_steps.Storage.{copy_of, instance_of}
use Rattle.run_laws.specs.of_role_steps.Pulling.{pull_key, pull_of, goes_on, pull_over, begins_pull, replaces_pull, on_notify, is_awaited, pages_in, is_delta, on_page_of, on_delta_of, on_page, on_delta}
use Rattle.run_laws.specs.of_role_steps.Versions.{is_below}
use Rattle.commit_graph.specs.Versions.{same_stamp}
use Rattle.run_laws.specs.of_role_steps.Epochs.{frame_in, with_users}
use Rattle.run_laws.specs.of_role_steps.Adoption.{table_group, with_table, with_store}
use Rattle.run_laws.specs.of_role_steps.Mends.{mending}
use Rattle.run_laws.specs.of_role_steps.declared.copies.FileCopy.{FileCopy}
use Rattle.run_laws.specs.of_role_steps.declared.instances.Instance.{Instance}
use Rattle.run_laws.specs.of_role_steps.declared.pulls.Pull.{Pull}
use Rattle.run_laws.specs.of_role_steps.declared.rounds.InEpoch.{InEpoch}
use Rattle.run_laws.specs.of_role_steps.declared.synchronizing.SyncTable.{SyncTable}
use Rattle.run_laws.specs.of_the_run.Steps.{from_user, group_of, at_table_of, is_opened_in, takes_inside, with_pulls}
use Rattle.run_laws.proofs.of_the_run.InsideSync.{every_row, Found, row_found, first_found}
use Rattle.run_laws.proofs.of_the_run.Boots.{every_weaker}
use Rattle.run_laws.specs.Words.{TalkRecord, Talk, Talks}
use Rattle.run_laws.proofs.Telling.{on_opened_talks, on_open_talks, on_look_talks, on_report_talks, on_closed_talks, on_have_talks, on_notify_talks, on_page_talks, on_delta_talks}
use Rattle.run_laws.specs.FactWalks.Roles.{IsForTable, IsForStore, IsForPull}
use Rattle.run_laws.proofs.FactWalks.Roles.{by_role, readers_by, users_by}
use Rattle.site_laws.specs.Vectors.Written.{InstancesAgree}
use Rattle.site_laws.specs.Vectors.Facts.{ReportedFact, BodyFact, Factless, CopyFact, PullFact, InstanceFact, StoreFact, TableFact, InEpochFact, ViewFact, NotCommitRecord, NotCommit, DiskFact, Fine, onto}
use Rattle.site_laws.proofs.Vectors.Facts.{Later, onto_later, factless, pulls_later, tables_later, view_later, numbered_none}
use Rattle.site_laws.proofs.Vectors.SyncFacts.{FoundAt, row_at, TableFine, on_opened_fact}
use Rattle.site_laws.proofs.Vectors.SyncEvents.{on_open_fact, on_look_fact, on_report_fact, on_closed_fact, on_have_fact}
use Rattle.site_laws.proofs.Vectors.StoreFacts.{StoreFine, on_open_ss_fact, on_close_fact, on_closed_ok_fact, on_op_fact, on_read_held_fact}
use Rattle.site_laws.proofs.Vectors.RolesSend.{carrying, users, readers, back, on_notify_factless, on_page_factless, on_delta_factless}
use Rattle.run_laws.proofs.of_role_steps.Fitting.{over_any}

abbrev pub SiteFine : List Told → Outcome SiteView → Type 0
SiteFine past o = Fine ViewFact past o

-- ---- outcomes that leave what the facts speak of ----

talk_record : (r : Record) → TalkRecord r → NotCommitRecord r
talk_record (says.Commit file s stamp parents content) h = h
talk_record _ h = tt

talk_told : (x : Told) → Talk x → NotCommit x
talk_told (Shown r) h = talk_record r h
talk_told _ h = tt

pub talk_none : (xs : List Told) → Every Talk xs → Every NotCommit xs
talk_none xs h = every_weaker Talk NotCommit xs talk_told h

pub disk_none : (past : List Told) (d : Option DiskWrite) → d ≡ None → DiskFact past d
disk_none past d e = subst (DiskFact past) (sym e) tt

pub inside_alike : (past : List Told) (v w : SiteView) (o : Option InEpoch) → w.store.instances ≡ v.store.instances → w.tables ≡ v.tables → InEpochFact past v o → InEpochFact past w o
inside_alike past v w None e g h = e ∙ h
inside_alike past v w (Some i) e g h = (subst (λ (xs : List Instance). Every (InstanceFact past i.id) xs) (sym e) h.0, subst (λ (ts : List SyncTable). Every (TableFact past i.id) ts) (sym g) h.1)

pub view_alike : (past : List Told) (v w : SiteView) → w.store.copies ≡ v.store.copies → w.store.instances ≡ v.store.instances → w.pulls ≡ v.pulls → w.tables ≡ v.tables → w.epoch ≡ v.epoch → ViewFact past v → ViewFact past w
view_alike past v w a b c d e h = record {
  copies = subst (λ (xs : List FileCopy). Every (CopyFact past) xs) (sym a) h.copies;
  pulls = subst (λ (xs : List Pull). Every (PullFact past) xs) (sym c) h.pulls;
  inside = subst (InEpochFact past w) (sym e) (inside_alike past v w v.epoch b d h.inside);
}

-- the view is alike, no commit is told, nothing written, and what is sent carries nothing of versions
pub plain_fine : (past : List Told) (v : SiteView) (o : Outcome SiteView) → o.view.store.copies ≡ v.store.copies → o.view.store.instances ≡ v.store.instances → o.view.pulls ≡ v.pulls → o.view.tables ≡ v.tables → o.view.epoch ≡ v.epoch →
    Every NotCommit o.told → o.written ≡ None → Every Factless o.sent → ViewFact past v → SiteFine past o
plain_fine past v o a b c d e told none sent h = record {
  view = view_later past (onto o.told past) (onto_later o.told past) o.view (view_alike past v o.view a b c d e h);
  sent = factless (onto o.told past) o.sent sent;
  numbered = numbered_none past o.told told;
  disk = disk_none past o.written none;
}

pub quiet_fact : (past : List Told) (v : SiteView) → ViewFact past v → SiteFine past (quiet v)
quiet_fact past v h = record { view = h; sent = tt; numbered = tt; disk = tt }

pub inside_of : (past : List Told) (v : SiteView) (e : InEpoch) → v.epoch ≡ Some e → ViewFact past v → Every (InstanceFact past e.id) v.store.instances × Every (TableFact past e.id) v.tables
inside_of past v e here h = subst (InEpochFact past v) here h.inside

-- ---- parts of a site ----

store_part : (c : Config) (me boot : ℕ) (past : List Told) (v : SiteView) (e : InEpoch) (o : Outcome Store) → v.epoch ≡ Some e → ViewFact past v → StoreFine (frame_in c me boot e) past o → SiteFine past (record { view = with_store v o.view; sent = o.sent; told = o.told; written = o.written })
store_part c me boot past v e o here h k = record {
  view = record {
    copies = k.view.copies;
    pulls = pulls_later past (onto o.told past) (onto_later o.told past) v.pulls h.pulls;
    inside = subst (InEpochFact (onto o.told past) (with_store v o.view)) (sym here) (k.view.instances, tables_later past (onto o.told past) (onto_later o.told past) e.id v.tables (inside_of past v e here h).1);
  };
  sent = k.sent;
  numbered = k.numbered;
  disk = k.disk;
}

store_of : (past : List Told) (v : SiteView) (e : InEpoch) → v.epoch ≡ Some e → ViewFact past v → StoreFact past e.id v.store
store_of past v e here h = record { copies = h.copies; instances = (inside_of past v e here h).0 }

pub users_part : (past : List Told) (v : SiteView) (o : Outcome Users) → ViewFact past v → Talks o → Every Factless o.sent → SiteFine past (record { view = with_users v o.view; sent = o.sent; told = o.told; written = o.written })
users_part past v o h t s = plain_fine past v (record { view = with_users v o.view; sent = o.sent; told = o.told; written = o.written }) refl refl refl refl refl (talk_none o.told t.0) t.1 s h

tabled : (past : List Told) (v : SiteView) (e : InEpoch) (t : SyncTable) → v.epoch ≡ Some e → ViewFact past v → TableFact past e.id t → ViewFact past (with_table t v)
tabled past v e t here h k = record {
  copies = h.copies;
  pulls = h.pulls;
  inside = subst (InEpochFact past (with_table t v)) (sym here) ((inside_of past v e here h).0, every_row (TableFact past e.id) table_group t v.tables k (inside_of past v e here h).1);
}

table_part : (past : List Told) (g : SyncTable → Outcome SyncTable) (v : SiteView) (e : InEpoch) (o : Option SyncTable) → v.epoch ≡ Some e → ViewFact past v → ((t : SyncTable) → Talks (g t)) → ((t : SyncTable) → o ≡ Some t → TableFine past e.id (g t)) → SiteFine past (at_table_of g o v)
table_part past g v e None here h talks fine = quiet_fact past v h
table_part past g v e (Some t) here h talks fine =
    let now : List Told = onto (g t).told past in
    let k : TableFine past e.id (g t) = fine t refl in
    record {
      view = tabled now v e (g t).view here (view_later past now (onto_later (g t).told past) v h) k.0;
      sent = k.1;
      numbered = numbered_none past (g t).told (talk_none (g t).told (talks t).0);
      disk = disk_none past (g t).written (talks t).1;
    }

found_is : {A : Type 0} (P : A → Type 0) (key : A → ℕ) (k : ℕ) (o : Option A) (x : A) → FoundAt P key k o → o ≡ Some x → (key x ≡ k) × P x
found_is P key k o x h e = subst (FoundAt P key k) e h

one_found : {A : Type 0} (P : A → Type 0) (o : Option A) (x : A) → Found P o → o ≡ Some x → P x
one_found P o x h e = subst (Found P) e h

-- at the table of a group
group_part : (past : List Told) (g : SyncTable → Outcome SyncTable) (v : SiteView) (e : InEpoch) (group : ℕ) → v.epoch ≡ Some e → ViewFact past v → ((t : SyncTable) → Talks (g t)) → ((t : SyncTable) → t.group ≡ group → TableFact past e.id t → TableFine past e.id (g t)) → SiteFine past (at_table_of g (row table_group group v.tables) v)
group_part past g v e group here h talks fine =
    table_part past g v e (row table_group group v.tables) here h talks
    (λ t q. (let k : (t.group ≡ group) × TableFact past e.id t = found_is (TableFact past e.id) table_group group (row table_group group v.tables) t (row_at (TableFact past e.id) table_group group v.tables (inside_of past v e here h).1) q in fine t k.0 k.1))

-- at the table that has the instance
with_part : (past : List Told) (g : SyncTable → Outcome SyncTable) (v : SiteView) (e : InEpoch) (test : SyncTable → Bool) → v.epoch ≡ Some e → ViewFact past v → ((t : SyncTable) → Talks (g t)) → ((t : SyncTable) → TableFact past e.id t → TableFine past e.id (g t)) → SiteFine past (at_table_of g (first_that test v.tables) v)
with_part past g v e test here h talks fine =
    table_part past g v e (first_that test v.tables) here h talks
    (λ t q. fine t (one_found (TableFact past e.id) (first_that test v.tables) t (first_found (TableFact past e.id) test v.tables (inside_of past v e here h).1) q))

-- ---- pulls ----

pulls_part : (past : List Told) (v : SiteView) (o : Outcome (List Pull)) → ViewFact past v → Every (PullFact past) o.view → Talks o → Every Factless o.sent → SiteFine past (record { view = with_pulls v o.view; sent = o.sent; told = o.told; written = o.written })
pulls_part past v o h k t s =
    let now : List Told = onto o.told past in
    let later : Later past now = onto_later o.told past in
    let g : ViewFact now v = view_later past now later v h in
    record {
      view = record { copies = g.copies; pulls = pulls_later past now later o.view k; inside = inside_alike now v (with_pulls v o.view) v.epoch refl refl g.inside };
      sent = factless now o.sent s;
      numbered = numbered_none past o.told (talk_none o.told t.0);
      disk = disk_none past o.written t.1;
    }

abbrev PullsFact : List Told → Outcome (List Pull) → Type 0
PullsFact past o = Every (PullFact past) o.view

begins_pull_fact : (past : List Told) (f : Frame) (own : Option FileCopy) (p : Pull) (ps : List Pull) → PullFact past p → Every (PullFact past) ps → PullsFact past (begins_pull f own p ps)
begins_pull_fact past f own p ps k h = elim (replaces_pull own p (pull_of ps p.file)) as (λ b. PullsFact past (elim b [ true ↦ goes_on f (pull_over own p) ps | false ↦ quiet ps ])) [ true ↦ every_row (PullFact past) pull_key (pull_over own p) ps (over_any (PullFact past) own p (λ base wanted. k)) h | false ↦ h ]

on_notify_fact : (past : List Told) (f : Frame) (from : ℕ) (o : Option FileCopy) (p : Pull) (ps : List Pull) → PullFact past p → Every (PullFact past) ps → PullsFact past (on_notify f from o p ps)
on_notify_fact past f from None p ps k h = begins_pull_fact past f None p ps k h
on_notify_fact past f from (Some own) p ps k h =
    elim (same_stamp own.stamp p.stamp) as (λ b. PullsFact past (elim b [ true ↦ sends (packet f from (body.Have p.file p.stamp) ∷ []) ps | false ↦ elim (is_below own.vector p.vector) [ true ↦ begins_pull f (Some own) p ps | false ↦ quiet ps ] ])) [
      | true ↦ h
      | false ↦ elim (is_below own.vector p.vector) as (λ b. PullsFact past (elim b [ true ↦ begins_pull f (Some own) p ps | false ↦ quiet ps ])) [ true ↦ begins_pull_fact past f (Some own) p ps k h | false ↦ h ]
    ]

on_delta_of_fact : (past : List Told) (f : Frame) (own : ℕ) (stamp : Stamp) (pages : List ℕ) (o : Option Pull) (ps : List Pull) → Found (PullFact past) o → Every (PullFact past) ps → PullsFact past (on_delta_of f own stamp pages o ps)
on_delta_of_fact past f own stamp pages None ps k h = h
on_delta_of_fact past f own stamp pages (Some p) ps k h = elim (is_delta own p stamp pages) as (λ b. PullsFact past (elim b [ true ↦ goes_on f (record p { wanted = Some pages }) ps | false ↦ quiet ps ])) [ true ↦ every_row (PullFact past) pull_key (record p { wanted = Some pages }) ps k h | false ↦ h ]

on_page_of_fact : (past : List Told) (f : Frame) (stamp : Stamp) (page : ℕ) (bytes : List ℕ) (o : Option Pull) (ps : List Pull) → Found (PullFact past) o → Every (PullFact past) ps → PullsFact past (on_page_of f stamp page bytes o ps)
on_page_of_fact past f stamp page bytes None ps k h = h
on_page_of_fact past f stamp page bytes (Some p) ps k h = elim (is_awaited p stamp page bytes) as (λ b. PullsFact past (elim b [ true ↦ goes_on f (record p { content = p.content ++ bytes }) ps | false ↦ quiet ps ])) [ true ↦ every_row (PullFact past) pull_key (record p { content = p.content ++ bytes }) ps k h | false ↦ h ]

-- ---- packets inside the epoch ----

tables_fact : (c : Config) (me boot : ℕ) (past : List Told) (from : ℕ) (v : SiteView) (e : InEpoch) (x : Body) → IsForTable x → v.epoch ≡ Some e → InstancesAgree past → BodyFact past e.id x → ViewFact past v → SiteFine past (takes_inside (frame_in c me boot e) from x v)
tables_fact c me boot past from v e (body.Report group copies) is here agree k h = group_part past (on_report (frame_in c me boot e) from copies) v e group here h (on_report_talks (frame_in c me boot e) from copies) (λ t q g. on_report_fact past (frame_in c me boot e) from copies t (subst (λ (n : ℕ). Every (ReportedFact past n) copies) (sym q) k) g)
tables_fact c me boot past from v e (body.Open serial call process request file how) is here agree k h = group_part past (on_open (frame_in c me boot e) from (record { serial = serial; call = call; process = process; request = request; file = file; how = how })) v e file.group here h (on_open_talks (frame_in c me boot e) from (record { serial = serial; call = call; process = process; request = request; file = file; how = how })) (λ t q g. on_open_fact past (frame_in c me boot e) from (record { serial = serial; call = call; process = process; request = request; file = file; how = how }) t (sym q) g)
tables_fact c me boot past from v e (body.Opened inst answer) is here agree k h = with_part past (on_opened (frame_in c me boot e) inst answer) v e (is_opened_in inst) here h (on_opened_talks (frame_in c me boot e) inst answer) (λ t g. on_opened_fact past (frame_in c me boot e) inst answer t g)
tables_fact c me boot past from v e (body.Closed inst made) is here agree k h = with_part past (on_closed (frame_in c me boot e) from inst made) v e (is_opened_in inst) here h (on_closed_talks (frame_in c me boot e) from inst made) (λ t g. on_closed_fact past (frame_in c me boot e) from inst made t agree k g)
tables_fact c me boot past from v e (body.Look call process request take file what) is here agree k h = group_part past (on_look (frame_in c me boot e) from (record { call = call; process = process; request = request; take = take; file = file; what = what })) v e file.group here h (on_look_talks (frame_in c me boot e) from (record { call = call; process = process; request = request; take = take; file = file; what = what })) (λ t q g. on_look_fact past (frame_in c me boot e) from (record { call = call; process = process; request = request; take = take; file = file; what = what }) t g)
tables_fact c me boot past from v e (body.Have file stamp) is here agree k h = group_part past (on_have from file stamp) v e file.group here h (on_have_talks from file stamp) (λ t q g. on_have_fact past (frame_in c me boot e) from file stamp t g)
tables_fact c me boot past from v e _ is here agree k h = absurd is

stores_fact : (c : Config) (me boot : ℕ) (past : List Told) (from : ℕ) (v : SiteView) (e : InEpoch) (x : Body) → IsForStore x → v.epoch ≡ Some e → InstancesAgree past → BodyFact past e.id x → ViewFact past v → SiteFine past (takes_inside (frame_in c me boot e) from x v)
stores_fact c me boot past from v e (body.OpenSs inst file mode set kind base vector parents) is here agree k h = store_part c me boot past v e _ here h (on_open_ss_fact (frame_in c me boot e) past (record { inst = inst; file = file; mode = mode; set = set; kind = kind; base = base; vector = vector; parents = parents }) v.store k (store_of past v e here h))
stores_fact c me boot past from v e (body.Op serial n o seen) is here agree k h = store_part c me boot past v e _ here h (on_op_fact (frame_in c me boot e) past (mending v (group_of (instance_of v.store (from_user from serial)))) (from_user from serial) n o seen v.store (store_of past v e here h))
stores_fact c me boot past from v e (body.ReadHeld serial n at len) is here agree k h = store_part c me boot past v e _ here h (on_read_held_fact (frame_in c me boot e) past (from_user from serial) n at len v.store (store_of past v e here h))
stores_fact c me boot past from v e (body.Close serial) is here agree k h = store_part c me boot past v e _ here h (on_close_fact (frame_in c me boot e) past (from_user from serial) v.store (store_of past v e here h))
stores_fact c me boot past from v e (body.ClosedOk inst) is here agree k h = store_part c me boot past v e _ here h (on_closed_ok_fact (frame_in c me boot e) past inst v.store (store_of past v e here h))
stores_fact c me boot past from v e _ is here agree k h = absurd is

pulls_fact : (c : Config) (me boot : ℕ) (past : List Told) (from : ℕ) (v : SiteView) (e : InEpoch) (x : Body) → IsForPull x → v.epoch ≡ Some e → InstancesAgree past → BodyFact past e.id x → ViewFact past v → SiteFine past (takes_inside (frame_in c me boot e) from x v)
pulls_fact c me boot past from v e (body.Notify file kind set size stamp vector holder) is here agree k h =
    let p : Pull = record { file = file; kind = kind; set = set; size = size; stamp = stamp; vector = vector; holder = holder; base = None; wanted = None; content = [] } in
    pulls_part past v (on_notify (frame_in c me boot e) from (copy_of v.store file) p v.pulls) h (on_notify_fact past (frame_in c me boot e) from (copy_of v.store file) p v.pulls k h.pulls) (on_notify_talks (frame_in c me boot e) from (copy_of v.store file) p v.pulls) (on_notify_factless (frame_in c me boot e) from (copy_of v.store file) p v.pulls)
pulls_fact c me boot past from v e (body.Page file stamp page bytes) is here agree k h =
    pulls_part past v (on_page (frame_in c me boot e) file stamp page bytes v.pulls) h (on_page_of_fact past (frame_in c me boot e) stamp page bytes (pull_of v.pulls file) v.pulls (row_found (PullFact past) pull_key _ v.pulls h.pulls) h.pulls) (on_page_talks (frame_in c me boot e) file stamp page bytes v.pulls) (on_page_factless (frame_in c me boot e) file stamp page bytes v.pulls)
pulls_fact c me boot past from v e (body.Delta file wanted pages) is here agree k h =
    pulls_part past v (on_delta (frame_in c me boot e) (copy_of v.store file) file wanted pages v.pulls) h (on_delta_of_fact past (frame_in c me boot e) (pages_in (copy_of v.store file)) wanted pages (pull_of v.pulls file) v.pulls (row_found (PullFact past) pull_key _ v.pulls h.pulls) h.pulls) (on_delta_talks (frame_in c me boot e) (copy_of v.store file) file wanted pages v.pulls) (on_delta_factless (frame_in c me boot e) (copy_of v.store file) file wanted pages v.pulls)
pulls_fact c me boot past from v e _ is here agree k h = absurd is

pub inside_fact : (c : Config) (me boot : ℕ) (past : List Told) (from : ℕ) (v : SiteView) (e : InEpoch) (x : Body) → v.epoch ≡ Some e → InstancesAgree past → BodyFact past e.id x → ViewFact past v → SiteFine past (takes_inside (frame_in c me boot e) from x v)
inside_fact c me boot past from v e x here agree k h =
    by_role Q f from v (record {
      tables = λ y is b. tables_fact c me boot past from v e y is here agree b h;
      stores = λ y is b. stores_fact c me boot past from v e y is here agree b h;
      readers = readers_by Q carrying f from v (readers f) back (λ y o is same p b. plain_fine past v _ (ap (λ (s : Store). s.copies) same) (ap (λ (s : Store). s.instances) same) refl refl refl p.1 p.2 p.0 h);
      users = users_by Q carrying f from v (users f) (λ y o is p b. plain_fine past v _ refl refl refl refl refl p.1 p.2 p.0 h);
      pulls = λ y is b. pulls_fact c me boot past from v e y is here agree b h;
      reported = λ group b. plain_fine past v _ refl refl refl refl refl tt refl tt h;
      forming = λ y is b. quiet_fact past v h;
    }) x k
  where
    f : Frame
    f = frame_in c me boot e

    Q : Body → Outcome SiteView → Type 0
    Q y o = BodyFact past e.id y → SiteFine past o
