-- What a site tells, keeps and sends of instances in its epoch is as it went on.
use Rattle.std.proofs.Common.{◌≡◌, ℕ, Bool, List, ◌∷◌, Option, Some, None, refl, sym, ◌∙◌, subst, ap}
use Rattle.locus_ids.specs.declared.config.Config.{Config}
use Rattle.wire_messages.specs.declared.body.Body.{Body}
use Rattle.wire_messages.specs.declared.body.Body.TheVariants as body
use Rattle.role_steps.specs.Own.{Every}
use Rattle.role_steps.specs.Tables.{row, first_that}
use Rattle.role_steps.specs.Views.{Frame, Store, Users, SiteView, Told, DiskWrite, Outcome, quiet, sends}
use Rattle.role_steps.specs.Reports.{on_report, on_open, on_look, on_closed, on_have}
use Rattle.role_steps.specs.Opens.{on_opened}
use Rattle.role_steps.specs.Storage.{instance_of}
use Rattle.role_steps.specs.Pulling.{pull_repeats}
use Rattle.role_steps.specs.Using.{on_open_done, on_op_done, on_as_held, on_close_done, on_look_done}
use Rattle.role_steps.specs.Epochs.{frame_in, with_users}
use Rattle.role_steps.specs.Adoption.{table_group, with_table, with_store}
use Rattle.role_steps.specs.Mends.{mending, kept_stamps}
use Rattle.role_steps.specs.declared.instances.Instance.{Instance}
use Rattle.role_steps.specs.declared.pulls.Pull.{Pull}
use Rattle.role_steps.specs.declared.rounds.InEpoch.{InEpoch}
use Rattle.role_steps.specs.declared.synchronizing.SyncTable.{SyncTable}
use Rattle.the_run.specs.Steps.{from_user, group_of, at_table_of, is_opened_in, takes_inside, epoch_id}
use Rattle.the_run.proofs.InsideSync.{every_row, Found, first_found}
use Rattle.the_run.proofs.Boots.{every_weaker}
use Rattle.run_laws.specs.Words.{Talks}
use Rattle.run_laws.proofs.Telling.{on_opened_talks, on_open_talks, on_look_talks, on_report_talks, on_closed_talks, on_have_talks}
use Rattle.site_laws.specs.Vectors.Facts.{onto}
use Rattle.site_laws.proofs.Vectors.SyncFacts.{FoundAt, row_at}
use Rattle.run_laws.specs.Walks.Kinds.{IsOfReader, IsStoreAnswer}
use Rattle.run_laws.specs.Walks.Laws.{Law, body_law, ReadersKeep}
use Rattle.run_laws.proofs.Walks.RoleWalks.{pull_repeats_walk}
use Rattle.run_laws.specs.FactWalks.Roles.{IsForTable, IsForStore, IsForUser}
use Rattle.run_laws.proofs.FactWalks.Roles.{by_role, readers_by, pulls_by}
use Rattle.site_laws.specs.Locks.Facts.{BodyFact, PacketFact, NoFact, Factless, UsersFact, InstanceFact, TableFact, InEpochFact, ViewFact, DiskFact}
use Rattle.site_laws.proofs.Locks.Facts.{Later, onto_later, factless, body_later, users_later, tables_later, inside_later, view_later, Aloof, aloof_go, SiteFine}
use Rattle.site_laws.proofs.Locks.SyncFacts.{TableFine, on_opened_fact, on_open_fact, on_look_fact, on_report_fact, on_closed_fact, on_have_fact}
use Rattle.site_laws.proofs.Locks.StoreFacts.{StoreFine, on_open_ss_fact, on_close_fact, on_closed_ok_fact, on_op_fact, on_read_held_fact}
use Rattle.site_laws.proofs.Locks.UserFacts.{UsersKeep, on_open_done_keep, on_op_done_keep, on_as_held_keep, on_close_done_keep, on_look_done_keep}

-- ---- outcomes that leave what the facts speak of ----

pub disk_none : (past : List Told) (d : Option DiskWrite) → d ≡ None → DiskFact past d
disk_none past d e = subst (DiskFact past) (sym e) tt

inside_alike : (past : List Told) (me : ℕ) (v w : SiteView) (o : Option InEpoch) → w.store.instances ≡ v.store.instances → w.tables ≡ v.tables → InEpochFact past me v o → InEpochFact past me w o
inside_alike past me v w None e g h = (e ∙ h.0, g ∙ h.1)
inside_alike past me v w (Some i) e g h = (subst (λ (xs : List Instance). Every (InstanceFact past me i.id) xs) (sym e) h.0, subst (λ (ts : List SyncTable). Every (TableFact past i.id) ts) (sym g) h.1)

pub view_alike : (past : List Told) (me : ℕ) (v w : SiteView) → w.users ≡ v.users → w.store.instances ≡ v.store.instances → w.tables ≡ v.tables → w.epoch ≡ v.epoch → ViewFact past me v → ViewFact past me w
view_alike past me v w a b c d h = record {
  users = subst (λ (o : Option InEpoch). UsersFact past me (epoch_id o) w.users) (sym d) (subst (UsersFact past me (epoch_id v.epoch)) (sym a) h.users);
  inside = subst (InEpochFact past me w) (sym d) (inside_alike past me v w v.epoch b c h.inside);
}

-- the view is alike, what is told is aloof, nothing is written, and what is sent carries nothing of instances
pub plain_fine : (past : List Told) (me : ℕ) (v : SiteView) (o : Outcome SiteView) → o.view.users ≡ v.users → o.view.store.instances ≡ v.store.instances → o.view.tables ≡ v.tables → o.view.epoch ≡ v.epoch →
    Every Aloof o.told → o.written ≡ None → Every Factless o.sent → ViewFact past me v → SiteFine me past o
plain_fine past me v o a b c d told none sent h = record {
  view = view_later past (onto o.told past) (onto_later o.told past) me o.view (view_alike past me v o.view a b c d h);
  sent = factless (onto o.told past) o.sent sent;
  goes = aloof_go past o.told told;
  disk = disk_none past o.written none;
}

pub quiet_fact : (past : List Told) (me : ℕ) (v : SiteView) → ViewFact past me v → SiteFine me past (quiet v)
quiet_fact past me v h = record { view = h; sent = tt; goes = tt; disk = tt }

pub inside_of : (past : List Told) (me : ℕ) (v : SiteView) (e : InEpoch) → v.epoch ≡ Some e → ViewFact past me v → Every (InstanceFact past me e.id) v.store.instances × Every (TableFact past e.id) v.tables
inside_of past me v e here h = subst (InEpochFact past me v) here h.inside

pub users_in : (past : List Told) (me : ℕ) (v : SiteView) (e : InEpoch) → v.epoch ≡ Some e → ViewFact past me v → UsersFact past me (Some e.id) v.users
users_in past me v e here h = subst (λ (o : Option InEpoch). UsersFact past me (epoch_id o) v.users) here h.users

-- ---- parts of a site ----

store_part : (c : Config) (me boot : ℕ) (past : List Told) (v : SiteView) (e : InEpoch) (o : Outcome Store) → v.epoch ≡ Some e → ViewFact past me v → StoreFine (frame_in c me boot e) past o → SiteFine me past (record { view = with_store v o.view; sent = o.sent; told = o.told; written = o.written })
store_part c me boot past v e o here h k = record {
  view = record {
    users = users_later past (onto o.told past) (onto_later o.told past) me (epoch_id v.epoch) v.users h.users;
    inside = subst (InEpochFact (onto o.told past) me (with_store v o.view)) (sym here) (k.view, tables_later past (onto o.told past) (onto_later o.told past) e.id v.tables (inside_of past me v e here h).1);
  };
  sent = k.sent;
  goes = k.goes;
  disk = k.disk;
}

-- a part of the users: what they tell is aloof
pub users_part : (past : List Told) (me : ℕ) (v : SiteView) (o : Outcome Users) → ViewFact past me v → UsersFact past me (epoch_id v.epoch) o.view → Every (PacketFact past) o.sent → Every Aloof o.told → o.written ≡ None → SiteFine me past (record { view = with_users v o.view; sent = o.sent; told = o.told; written = o.written })
users_part past me v o h k sent told none =
    let now : List Told = onto o.told past in
    let later : Later past now = onto_later o.told past in
    record {
      view = record {
        users = users_later past now later me (epoch_id v.epoch) o.view k;
        inside = inside_alike now me v (with_users v o.view) v.epoch refl refl (inside_later past now later me v v.epoch h.inside);
      };
      sent = every_weaker (PacketFact past) (PacketFact now) o.sent (λ p. body_later past now later p.from p.to p.epoch p.body) sent;
      goes = aloof_go past o.told told;
      disk = disk_none past o.written none;
    }

tabled : (past : List Told) (me : ℕ) (v : SiteView) (e : InEpoch) (t : SyncTable) → v.epoch ≡ Some e → ViewFact past me v → TableFact past e.id t → ViewFact past me (with_table t v)
tabled past me v e t here h k = record {
  users = h.users;
  inside = subst (InEpochFact past me (with_table t v)) (sym here) ((inside_of past me v e here h).0, every_row (TableFact past e.id) table_group t v.tables k (inside_of past me v e here h).1);
}

table_part : (past : List Told) (me : ℕ) (g : SyncTable → Outcome SyncTable) (v : SiteView) (e : InEpoch) (o : Option SyncTable) → v.epoch ≡ Some e → ViewFact past me v → ((t : SyncTable) → Talks (g t)) → ((t : SyncTable) → o ≡ Some t → TableFine past e.id (g t)) → SiteFine me past (at_table_of g o v)
table_part past me g v e None here h talks fine = quiet_fact past me v h
table_part past me g v e (Some t) here h talks fine =
    let now : List Told = onto (g t).told past in
    let k : TableFine past e.id (g t) = fine t refl in
    record {
      view = tabled now me v e (g t).view here (view_later past now (onto_later (g t).told past) me v h) k.view;
      sent = k.sent;
      goes = k.goes;
      disk = disk_none past (g t).written (talks t).1;
    }

one_found : {A : Type 0} (P : A → Type 0) (o : Option A) (x : A) → Found P o → o ≡ Some x → P x
one_found P o x h e = subst (Found P) e h

found_is : {A : Type 0} (P : A → Type 0) (key : A → ℕ) (k : ℕ) (o : Option A) (x : A) → FoundAt P key k o → o ≡ Some x → (key x ≡ k) × P x
found_is P key k o x h e = subst (FoundAt P key k) e h

-- at the table of a group
group_part : (past : List Told) (me : ℕ) (g : SyncTable → Outcome SyncTable) (v : SiteView) (e : InEpoch) (group : ℕ) → v.epoch ≡ Some e → ViewFact past me v → ((t : SyncTable) → Talks (g t)) → ((t : SyncTable) → t.group ≡ group → TableFact past e.id t → TableFine past e.id (g t)) → SiteFine me past (at_table_of g (row table_group group v.tables) v)
group_part past me g v e group here h talks fine =
    table_part past me g v e (row table_group group v.tables) here h talks
    (λ t q. (let k : (t.group ≡ group) × TableFact past e.id t = found_is (TableFact past e.id) table_group group (row table_group group v.tables) t (row_at (TableFact past e.id) table_group group v.tables (inside_of past me v e here h).1) q in fine t k.0 k.1))

-- at the table that has the instance
with_part : (past : List Told) (me : ℕ) (g : SyncTable → Outcome SyncTable) (v : SiteView) (e : InEpoch) (test : SyncTable → Bool) → v.epoch ≡ Some e → ViewFact past me v → ((t : SyncTable) → Talks (g t)) → ((t : SyncTable) → TableFact past e.id t → TableFine past e.id (g t)) → SiteFine me past (at_table_of g (first_that test v.tables) v)
with_part past me g v e test here h talks fine =
    table_part past me g v e (first_that test v.tables) here h talks
    (λ t q. fine t (one_found (TableFact past e.id) (first_that test v.tables) t (first_found (TableFact past e.id) test v.tables (inside_of past me v e here h).1) q))

user_part : (past : List Told) (me : ℕ) (f : Frame) (v : SiteView) (e : InEpoch) (o : Outcome Users) → f.me ≡ me → v.epoch ≡ Some e → ViewFact past me v → UsersKeep past f (Some e.id) o → SiteFine me past (record { view = with_users v o.view; sent = o.sent; told = o.told; written = o.written })
user_part past me f v e o m here h k =
    users_part past me v o h (subst (λ (x : Option InEpoch). UsersFact past me (epoch_id x) o.view) (sym here) (subst (λ (n : ℕ). UsersFact past n (Some e.id) o.view) m k.view)) k.sent k.told k.none

-- ---- looks and pulls carry nothing of instances: a law by kinds ----

abbrev pub aloofly : Law
aloofly = body_law NoFact Aloof (λ w. w ≡ None)

reader_bare : (b : Body) → IsOfReader b → NoFact b
reader_bare (body.LookDone call request take answer) h = tt
reader_bare (body.Pull file stamp page) h = tt
reader_bare (body.Want file wanted own) h = tt
reader_bare _ h = absurd h

readers : (f : Frame) → ReadersKeep aloofly f
readers f = record { sends = λ to b h. reader_bare b h; unwritten = refl }

back : (b : Body) → IsStoreAnswer b → NoFact b
back (body.Page file stamp page bytes) h = tt
back (body.Delta file wanted pages) h = tt
back (body.Have file stamp) h = tt
back _ h = absurd h

pub pull_repeats_aloof : (f : Frame) (ps : List Pull) → Every Factless (pull_repeats f ps)
pull_repeats_aloof f ps = pull_repeats_walk aloofly f (readers f) ps

-- ---- packets inside the epoch ----

tables_fact : (c : Config) (me boot : ℕ) (past : List Told) (from : ℕ) (v : SiteView) (e : InEpoch) (x : Body) → IsForTable x → v.epoch ≡ Some e → BodyFact past from me e.id x → ViewFact past me v → SiteFine me past (takes_inside (frame_in c me boot e) from x v)
tables_fact c me boot past from v e (body.Report group copies) is here k h = group_part past me (on_report (frame_in c me boot e) from copies) v e group here h (on_report_talks (frame_in c me boot e) from copies) (λ t q g. on_report_fact past (frame_in c me boot e) from copies t g)
tables_fact c me boot past from v e (body.Open serial call process request file how) is here k h = group_part past me (on_open (frame_in c me boot e) from (record { serial = serial; call = call; process = process; request = request; file = file; how = how })) v e file.group here h (on_open_talks (frame_in c me boot e) from (record { serial = serial; call = call; process = process; request = request; file = file; how = how })) (λ t q g. on_open_fact past (frame_in c me boot e) from (record { serial = serial; call = call; process = process; request = request; file = file; how = how }) t (sym q) g)
tables_fact c me boot past from v e (body.Opened inst answer) is here k h = with_part past me (on_opened (frame_in c me boot e) inst answer) v e (is_opened_in inst) here h (on_opened_talks (frame_in c me boot e) inst answer) (λ t g. on_opened_fact past (frame_in c me boot e) from inst answer t k g)
tables_fact c me boot past from v e (body.Closed inst made) is here k h = with_part past me (on_closed (frame_in c me boot e) from inst made) v e (is_opened_in inst) here h (on_closed_talks (frame_in c me boot e) from inst made) (λ t g. on_closed_fact past (frame_in c me boot e) from inst made t k g)
tables_fact c me boot past from v e (body.Look call process request take file what) is here k h = group_part past me (on_look (frame_in c me boot e) from (record { call = call; process = process; request = request; take = take; file = file; what = what })) v e file.group here h (on_look_talks (frame_in c me boot e) from (record { call = call; process = process; request = request; take = take; file = file; what = what })) (λ t q g. on_look_fact past (frame_in c me boot e) from (record { call = call; process = process; request = request; take = take; file = file; what = what }) t g)
tables_fact c me boot past from v e (body.Have file stamp) is here k h = group_part past me (on_have from file stamp) v e file.group here h (on_have_talks from file stamp) (λ t q g. on_have_fact past (frame_in c me boot e) from file stamp t g)
tables_fact c me boot past from v e _ is here k h = absurd is

stores_fact : (c : Config) (me boot : ℕ) (past : List Told) (from : ℕ) (v : SiteView) (e : InEpoch) (x : Body) → IsForStore x → v.epoch ≡ Some e → BodyFact past from me e.id x → ViewFact past me v → SiteFine me past (takes_inside (frame_in c me boot e) from x v)
stores_fact c me boot past from v e (body.OpenSs inst file mode set kind base vector parents) is here k h = store_part c me boot past v e _ here h (on_open_ss_fact (frame_in c me boot e) past (record { inst = inst; file = file; mode = mode; set = set; kind = kind; base = base; vector = vector; parents = parents }) v.store k (inside_of past me v e here h).0)
stores_fact c me boot past from v e (body.Op serial n o seen) is here k h = store_part c me boot past v e _ here h (on_op_fact (frame_in c me boot e) past (mending v (group_of (instance_of v.store (from_user from serial)))) (from_user from serial) n o seen v.store k.granted (inside_of past me v e here h).0)
stores_fact c me boot past from v e (body.ReadHeld serial n at len) is here k h = store_part c me boot past v e _ here h (on_read_held_fact (frame_in c me boot e) past (from_user from serial) n at len v.store k.granted (inside_of past me v e here h).0)
stores_fact c me boot past from v e (body.Close serial) is here k h = store_part c me boot past v e _ here h (on_close_fact (frame_in c me boot e) past (from_user from serial) v.store k.granted (inside_of past me v e here h).0)
stores_fact c me boot past from v e (body.ClosedOk inst) is here k h = store_part c me boot past v e _ here h (on_closed_ok_fact (frame_in c me boot e) past inst v.store k (inside_of past me v e here h).0)
stores_fact c me boot past from v e _ is here k h = absurd is

users_fact : (c : Config) (me boot : ℕ) (past : List Told) (from : ℕ) (v : SiteView) (e : InEpoch) (x : Body) → IsForUser x → v.epoch ≡ Some e → BodyFact past from me e.id x → ViewFact past me v → SiteFine me past (takes_inside (frame_in c me boot e) from x v)
users_fact c me boot past from v e (body.OpenDone serial answer) is here k h = user_part past me (frame_in c me boot e) v e (on_open_done (frame_in c me boot e) (kept_stamps v) serial answer v.users) refl here h (on_open_done_keep past (frame_in c me boot e) e.id (kept_stamps v) serial answer v.users refl k (users_in past me v e here h))
users_fact c me boot past from v e (body.OpDone serial n result) is here k h = user_part past me (frame_in c me boot e) v e (on_op_done (frame_in c me boot e) serial n result v.users) refl here h (on_op_done_keep past (frame_in c me boot e) (Some e.id) serial n result v.users refl (users_in past me v e here h))
users_fact c me boot past from v e (body.AsHeld serial n len) is here k h = user_part past me (frame_in c me boot e) v e (on_as_held (frame_in c me boot e) serial n v.users) refl here h (on_as_held_keep past (frame_in c me boot e) (Some e.id) serial n v.users refl (users_in past me v e here h))
users_fact c me boot past from v e (body.CloseDone serial answer) is here k h = user_part past me (frame_in c me boot e) v e (on_close_done (frame_in c me boot e) serial answer v.users) refl here h (on_close_done_keep past (frame_in c me boot e) (Some e.id) serial answer v.users refl (users_in past me v e here h))
users_fact c me boot past from v e (body.LookDone call request take answer) is here k h = user_part past me (frame_in c me boot e) v e (on_look_done (frame_in c me boot e) call request take answer v.users) refl here h (on_look_done_keep past (frame_in c me boot e) (Some e.id) call request take answer v.users refl (users_in past me v e here h))
users_fact c me boot past from v e _ is here k h = absurd is

pub inside_fact : (c : Config) (me boot : ℕ) (past : List Told) (from : ℕ) (v : SiteView) (e : InEpoch) (x : Body) → v.epoch ≡ Some e → BodyFact past from me e.id x → ViewFact past me v → SiteFine me past (takes_inside (frame_in c me boot e) from x v)
inside_fact c me boot past from v e x here k h =
    by_role Q f from v (record {
      tables = λ y is b. tables_fact c me boot past from v e y is here b h;
      stores = λ y is b. stores_fact c me boot past from v e y is here b h;
      readers = readers_by Q aloofly f from v (readers f) back (λ y o is same p b. plain_fine past me v _ refl (ap (λ (s : Store). s.instances) same) refl refl p.1 p.2 p.0 h);
      users = λ y is b. users_fact c me boot past from v e y is here b h;
      pulls = pulls_by Q aloofly f from v (readers f) back (λ y o is p b. plain_fine past me v _ refl refl refl refl p.1 p.2 p.0 h);
      reported = λ group b. plain_fine past me v _ refl refl refl refl tt refl tt h;
      forming = λ y is b. quiet_fact past me v h;
    }) x k
  where
    f : Frame
    f = frame_in c me boot e

    Q : Body → Outcome SiteView → Type 0
    Q y o = BodyFact past from me e.id y → SiteFine me past o
