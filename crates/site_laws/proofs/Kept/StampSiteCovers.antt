-- Each packet that a site receives inside its epoch keeps what its view carries of commits.
use Rattle.std.proofs.Common.{◌≡◌, ℕ, Bool, List, [], ◌∷◌, Option, Some, None, refl, sym, ◌∙◌, ap, subst, inr}
use Rattle.locus_ids.specs.declared.ids.EpochId.{EpochId}
use Rattle.locus_ids.specs.declared.config.Config.{Config}
use Rattle.trace_book.specs.declared.record.Record.{Record}
use Rattle.trace_book.specs.declared.record.Record.TheVariants as says
use Rattle.wire_messages.specs.declared.body.Body.{Body}
use Rattle.wire_messages.specs.declared.body.Body.TheVariants as body
use Rattle.wire_messages.specs.declared.body.ReportedCopy.{ReportedCopy}
use Rattle.role_steps.specs.Own.{Every}
use Rattle.role_steps.specs.Tables.{row, first_that}
use Rattle.role_steps.specs.Views.{Frame, Store, Users, SiteView, Told, Shown, DiskWrite, Outcome, quiet, within, sync_site}
use Rattle.role_steps.specs.Reports.{on_report, on_open, on_look, on_closed, on_have}
use Rattle.role_steps.specs.Opens.{on_opened}
use Rattle.role_steps.specs.Storage.{instance_of}
use Rattle.role_steps.specs.Epochs.{frame_in, with_users}
use Rattle.role_steps.specs.Adoption.{table_group, with_table, with_store}
use Rattle.role_steps.specs.Mends.{mending}
use Rattle.role_steps.specs.declared.rounds.InEpoch.{InEpoch}
use Rattle.role_steps.specs.declared.synchronizing.SyncTable.{SyncTable}
use Rattle.the_run.specs.Roles.{IsForTable, IsForStore}
use Rattle.the_run.proofs.Roles.{by_role, readers_by, users_by, pulls_by}
use Rattle.the_run.specs.Steps.{from_user, group_of, at_table_of, with_pulls, is_opened_in, takes_inside}
use Rattle.the_run.proofs.Boots.{every_weaker}
use Rattle.the_run.proofs.InsideSync.{Found, first_found}
use Rattle.run_laws.specs.Words.{Talks}
use Rattle.run_laws.proofs.Telling.{on_report_talks, on_open_talks, on_look_talks, on_opened_talks, on_closed_talks, on_have_talks}
use Rattle.site_laws.specs.Vectors.Facts.{onto, BodyFact, ReportedFact, NotCommit, Factless, TableFact as Versions}
use Rattle.site_laws.proofs.Vectors.SiteFacts.{talk_none}
use Rattle.site_laws.proofs.Vectors.SyncFacts.{FoundAt, row_at}
use Rattle.site_laws.proofs.Vectors.RolesSend.{back}
use Rattle.site_laws.specs.Locks.Facts.{BodyFact as LockBody}
use Rattle.site_laws.specs.Locks.Joins.{WasJoined}
use Rattle.site_laws.proofs.Locks.Facts.{onto_later}
use Rattle.site_laws.specs.Locks.Synced.{Rising}
use Rattle.site_laws.proofs.Locks.GrantSites.{put_tables, rising_put}
use Rattle.site_laws.specs.Kept.StampLaws.{Laws}
use Rattle.site_laws.specs.Kept.StampCovering.{BodyCovers, Bare, Instances, DiskCounts, Table, Inside, InEpochCovers, View, Goes, AllGo, DiskGoes, Fine}
use Rattle.site_laws.proofs.Kept.StampFrames.{NotAt, not_commit, Elsewhere, instances_after, disk_after, table_after, fold, bares}
use Rattle.site_laws.proofs.Kept.StampOutcomes.{IdleRecord, Idle, idle_go, idle_not_at, factless_bare}
use Rattle.site_laws.proofs.Kept.StampRolesTell.{NoReleaseRecord, NoRelease, Idles, idling, users, readers, lasts}
use Rattle.site_laws.proofs.Kept.StampStoreCovers.{Stored, StoreFine, Knows, on_open_ss_fine}
use Rattle.site_laws.proofs.Kept.StampCommitCovers.{on_close_fine, on_closed_ok_fine}
use Rattle.site_laws.proofs.Kept.StampOpCovers.{on_op_fine, on_read_held_fine}
use Rattle.site_laws.proofs.Kept.StampKeptJoins.{OneVector}
use Rattle.site_laws.proofs.Kept.StampTableOpens.{OfGroup, TableFine, on_open_fine, on_look_fine, on_opened_fine}
use Rattle.site_laws.proofs.Kept.StampTableCovers.{on_report_fine}
use Rattle.site_laws.proofs.Kept.StampTableCloses.{on_closed_fine, on_have_fine}

abbrev pub SiteFine : Config → ℕ → List Told → Outcome SiteView → Type 0
SiteFine c me past o = Fine c me (λ (now : List Told) (v : SiteView). View c now me v) past o

abbrev pub SiteLawfully : Config → ℕ → List Told → Outcome SiteView → Type 0
SiteLawfully c me past o = Laws c (onto o.told past) → SiteFine c me past o

-- ---- a view, after one more thing that is told ----

-- it isn't told that the site commits, nor that a file of a group that it synchronizes is released
pub record Calm (c : Config) (past : List Told) (s : ℕ) (x : Told) : Type 0 where
  pub commits : NotAt s x
  pub releases : (e : InEpoch) (group : ℕ) → WasJoined past s e.id e.members → sync_site c e.members group ≡ Some s → Elsewhere e.id group x

inside_after : (c : Config) (actor : ℕ) (x : Told) (past : List Told) (s : ℕ) (v : SiteView) (o : Option InEpoch) → Laws c (x ∷ past) → Goes c past actor x → Calm c past s x → InEpochCovers c past s v o → InEpochCovers c (x ∷ past) s v o
inside_after c actor x past s v None l k n h = h
inside_after c actor x past s v (Some e) l k n h =
    let f : Frame = frame_in c s v.boot e in
    record {
      joined = inr h.joined;
      instances = instances_after x past s e.id v.store.instances n.commits h.instances;
      tables = every_weaker (Table past f) (Table (x ∷ past) f) v.tables (λ t q. table_after c actor x past l k f t (n.releases e t.group h.joined q.synced) q) h.tables;
      rising = h.rising;
    }

pub view_after : (c : Config) (actor : ℕ) (x : Told) (past : List Told) (s : ℕ) (v : SiteView) → Laws c (x ∷ past) → Goes c past actor x → Calm c past s x → View c past s v → View c (x ∷ past) s v
view_after c actor x past s v l k n h = record { boot = h.boot; disk = disk_after x past s v.store.copies n.commits h.disk; inside = inside_after c actor x past s v v.epoch l k n h.inside }

no_release_record : (e : EpochId) (group : ℕ) (r : Record) → NoReleaseRecord r → Elsewhere e group (Shown r)
no_release_record e group (says.Release at inst of made) h key file g q = h
no_release_record e group _ h key file g q = absurd g

pub no_release : (e : EpochId) (group : ℕ) (x : Told) → NoRelease x → Elsewhere e group x
no_release e group (Shown r) h key file g q = no_release_record e group r h key file g q
no_release e group _ h key file g q = absurd g

idle_lasts_record : (r : Record) → IdleRecord r → NoReleaseRecord r
idle_lasts_record (says.Release e inst file made) h = h
idle_lasts_record _ h = tt

idle_lasts : (x : Told) → Idle x → NoRelease x
idle_lasts (Shown r) h = idle_lasts_record r h
idle_lasts _ h = tt

pub idle_calm : (c : Config) (past : List Told) (s : ℕ) (x : Told) → Idle x → Calm c past s x
idle_calm c past s x h = record { commits = idle_not_at s x h; releases = λ e group j q. no_release e.id group x (idle_lasts x h) }

pub view_idle : (c : Config) (me : ℕ) (told past : List Told) (s : ℕ) (v : SiteView) → Laws c (onto told past) → Every Idle told → View c past s v → View c (onto told past) s v
view_idle c me told past s v l idle h = fold c me Idle (λ (now : List Told). View c now s v) (λ x now lx kx n g. view_after c me x now s v lx kx (idle_calm c now s x n) g) told past l (idle_go c past me told idle) idle h

-- ---- outcomes that leave what the facts speak of ----

inside_alike : (c : Config) (past : List Told) (me : ℕ) (v w : SiteView) (o : Option InEpoch) → w.boot ≡ v.boot → w.store.instances ≡ v.store.instances → w.tables ≡ v.tables → InEpochCovers c past me v o → InEpochCovers c past me w o
inside_alike c past me v w None b e g h = (e ∙ h.0, g ∙ h.1)
inside_alike c past me v w (Some i) b e g h = record {
  joined = h.joined;
  instances = subst (Instances past me i.id) (sym e) h.instances;
  tables = subst (λ (n : ℕ). Every (Table past (frame_in c me n i)) w.tables) (sym b) (subst (Every (Table past (frame_in c me v.boot i))) (sym g) h.tables);
  rising = subst Rising (sym g) h.rising;
}

pub view_alike : (c : Config) (past : List Told) (me : ℕ) (v w : SiteView) → w.boot ≡ v.boot → w.store.copies ≡ v.store.copies → w.store.instances ≡ v.store.instances → w.tables ≡ v.tables → w.epoch ≡ v.epoch → View c past me v → View c past me w
view_alike c past me v w b d e g i h = record {
  boot = subst (λ (n : ℕ). n ≡ 0 → ⊥) (sym b) h.boot;
  disk = subst (DiskCounts past me) (sym d) h.disk;
  inside = subst (InEpochCovers c past me w) (sym i) (inside_alike c past me v w v.epoch b e g h.inside);
}

disk_none : (c : Config) (past : List Told) (me : ℕ) (d : Option DiskWrite) → d ≡ None → DiskGoes c past me d
disk_none c past me d e = subst (DiskGoes c past me) (sym e) tt

-- the view is alike, what is told is idle, nothing is written, and what is sent carries nothing of commits
pub plain_fine : (c : Config) (me : ℕ) (past : List Told) (v : SiteView) (o : Outcome SiteView) → o.view.boot ≡ v.boot → o.view.store.copies ≡ v.store.copies → o.view.store.instances ≡ v.store.instances → o.view.tables ≡ v.tables → o.view.epoch ≡ v.epoch →
    Every Idle o.told → o.written ≡ None → Every Bare o.sent → Laws c (onto o.told past) → View c past me v → SiteFine c me past o
plain_fine c me past v o b d e g i idle none sent l h = record {
  view = view_idle c me o.told past me o.view l idle (view_alike c past me v o.view b d e g i h);
  sent = bares (onto o.told past) o.sent sent;
  goes = idle_go c past me o.told idle;
  disk = disk_none c past me o.written none;
}

pub quiet_fine : (c : Config) (me : ℕ) (past : List Told) (v : SiteView) → View c past me v → SiteFine c me past (quiet v)
quiet_fine c me past v h = record { view = h; sent = tt; goes = tt; disk = tt }

pub inside_of : (c : Config) (past : List Told) (me : ℕ) (v : SiteView) (e : InEpoch) → v.epoch ≡ Some e → View c past me v → Inside past (frame_in c me v.boot e) v
inside_of c past me v e here h = subst (InEpochCovers c past me v) here h.inside

pub users_part : (c : Config) (me : ℕ) (past : List Told) (v : SiteView) (o : Outcome Users) → Idles o → Every Factless o.sent → Laws c (onto o.told past) → View c past me v → SiteFine c me past (record { view = with_users v o.view; sent = o.sent; told = o.told; written = o.written })
users_part c me past v o idle sent l h = plain_fine c me past v _ refl refl refl refl refl idle.0 idle.1 (factless_bare o.sent sent) l h

-- ---- the store ----

-- the tables stay, while the storage site tells what it does
tables_last : (c : Config) (me : ℕ) (told past : List Told) (f : Frame) (ts : List SyncTable) → Laws c (onto told past) → AllGo c past me told → Every NoRelease told → Every (Table past f) ts → Every (Table (onto told past) f) ts
tables_last c me told past f ts l k n h = fold c me NoRelease (λ (now : List Told). Every (Table now f) ts) (λ x now lx kx nx g. every_weaker (Table now f) (Table (x ∷ now) f) ts (λ t q. table_after c me x now lx kx f t (no_release f.epoch t.group x nx) q) g) told past l k n h

store_part : (c : Config) (me : ℕ) (past : List Told) (v : SiteView) (e : InEpoch) (o : Outcome Store) → v.epoch ≡ Some e → Laws c (onto o.told past) → Every NoRelease o.told → View c past me v → StoreFine c (frame_in c me v.boot e) past o → SiteFine c me past (record { view = with_store v o.view; sent = o.sent; told = o.told; written = o.written })
store_part c me past v e o here l lasts h k =
    let i : Inside past (frame_in c me v.boot e) v = inside_of c past me v e here h in
    record {
      view = record {
        boot = h.boot;
        disk = k.view.disk;
        inside = subst (InEpochCovers c (onto o.told past) me (with_store v o.view)) (sym here) (record { joined = onto_later o.told past _ i.joined; instances = k.view.instances; tables = tables_last c me o.told past (frame_in c me v.boot e) v.tables l k.goes lasts i.tables; rising = i.rising });
      };
      sent = k.sent;
      goes = k.goes;
      disk = k.disk;
    }

pub stored_of : (c : Config) (past : List Told) (me : ℕ) (v : SiteView) (e : InEpoch) → v.epoch ≡ Some e → View c past me v → Stored past (frame_in c me v.boot e) v.store
stored_of c past me v e here h = record { disk = h.disk; instances = (inside_of c past me v e here h).instances }

-- ---- tables ----

-- a table's outcome in the site
table_part : (c : Config) (me : ℕ) (past : List Told) (g : SyncTable → Outcome SyncTable) (v : SiteView) (e : InEpoch) (o : Option SyncTable) → v.epoch ≡ Some e → Laws c (onto (at_table_of g o v).told past) → View c past me v → ((t : SyncTable) → Talks (g t)) → ((t : SyncTable) → o ≡ Some t → Laws c (onto (g t).told past) → TableFine (frame_in c me v.boot e) past t (g t)) → SiteFine c me past (at_table_of g o v)
table_part c me past g v e None here l h talks fine = quiet_fine c me past v h
table_part c me past g v e (Some t) here l h talks fine =
    let f : Frame = frame_in c me v.boot e in
    let now : List Told = onto (g t).told past in
    let i : Inside past f v = inside_of c past me v e here h in
    let k : TableFine f past t (g t) = fine t refl l in
    let none : Every NotCommit (g t).told = talk_none (g t).told (talks t).0 in
    record {
      view = record {
        boot = h.boot;
        disk = fold c me NotCommit (λ (p : List Told). DiskCounts p me v.store.copies) (λ x p lx kx n q. disk_after x p me v.store.copies (not_commit me x n) q) (g t).told past l k.fine.goes none h.disk;
        inside = subst (InEpochCovers c now me (with_table (g t).view v)) (sym here) (record {
          joined = onto_later (g t).told past _ i.joined;
          instances = fold c me NotCommit (λ (p : List Told). Instances p me e.id v.store.instances) (λ x p lx kx n q. instances_after x p me e.id v.store.instances (not_commit me x n) q) (g t).told past l k.fine.goes none i.instances;
          tables = put_tables (Table past f) (Table now f) (g t).view v.tables i.rising k.fine.view (λ u ne old. other u ne old k) i.tables;
          rising = rising_put (g t).view v.tables i.rising;
        });
      };
      sent = k.fine.sent;
      goes = k.fine.goes;
      disk = k.fine.disk;
    }
  where
    other : (u : SyncTable) → (u.group ≡ (g t).view.group → ⊥) → Table past (frame_in c me v.boot e) u → TableFine (frame_in c me v.boot e) past t (g t) → Table (onto (g t).told past) (frame_in c me v.boot e) u
    other u ne old k = fold c me (OfGroup t.group) (λ (p : List Told). Table p (frame_in c me v.boot e) u) (λ x p lx kx n q. table_after c me x p lx kx (frame_in c me v.boot e) u (λ key file r same. ne (sym same ∙ (n e.id key file r ∙ sym k.group))) q) (g t).told past l k.fine.goes k.here old

found_is : {A : Type 0} (P : A → Type 0) (key : A → ℕ) (k : ℕ) (o : Option A) (x : A) → FoundAt P key k o → o ≡ Some x → (key x ≡ k) × P x
found_is P key k o x h e = subst (FoundAt P key k) e h

one_found : {A : Type 0} (P : A → Type 0) (o : Option A) (x : A) → Found P o → o ≡ Some x → P x
one_found P o x h e = subst (Found P) e h

-- a table with what its versions carry
abbrev pub Both : List Told → Frame → SyncTable → Type 0
Both past f t = Table past f t × Versions past f.epoch t

both_tables : (past : List Told) (f : Frame) (ts : List SyncTable) → Every (Table past f) ts → Every (Versions past f.epoch) ts → Every (Both past f) ts
both_tables past f [] h g = tt
both_tables past f (t ∷ ts) h g = ((h.0, g.0), both_tables past f ts h.1 g.1)

group_part : (c : Config) (me : ℕ) (past : List Told) (g : SyncTable → Outcome SyncTable) (v : SiteView) (e : InEpoch) (group : ℕ) → v.epoch ≡ Some e → Laws c (onto (at_table_of g (row table_group group v.tables) v).told past) → Every (Versions past e.id) v.tables → View c past me v → ((t : SyncTable) → Talks (g t)) → ((t : SyncTable) → t.group ≡ group → Both past (frame_in c me v.boot e) t → Laws c (onto (g t).told past) → TableFine (frame_in c me v.boot e) past t (g t)) → SiteFine c me past (at_table_of g (row table_group group v.tables) v)
group_part c me past g v e group here l versions h talks fine =
    let f : Frame = frame_in c me v.boot e in
    table_part c me past g v e (row table_group group v.tables) here l h talks
    (λ t q. (let k : (t.group ≡ group) × Both past f t = found_is (Both past f) table_group group (row table_group group v.tables) t (row_at (Both past f) table_group group v.tables (both_tables past f v.tables (inside_of c past me v e here h).tables versions)) q in fine t k.0 k.1))

with_part : (c : Config) (me : ℕ) (past : List Told) (g : SyncTable → Outcome SyncTable) (v : SiteView) (e : InEpoch) (test : SyncTable → Bool) → v.epoch ≡ Some e → Laws c (onto (at_table_of g (first_that test v.tables) v).told past) → Every (Versions past e.id) v.tables → View c past me v → ((t : SyncTable) → Talks (g t)) → ((t : SyncTable) → Both past (frame_in c me v.boot e) t → Laws c (onto (g t).told past) → TableFine (frame_in c me v.boot e) past t (g t)) → SiteFine c me past (at_table_of g (first_that test v.tables) v)
with_part c me past g v e test here l versions h talks fine =
    let f : Frame = frame_in c me v.boot e in
    table_part c me past g v e (first_that test v.tables) here l h talks
    (λ t q. fine t (one_found (Both past f) (first_that test v.tables) t (first_found (Both past f) test v.tables (both_tables past f v.tables (inside_of c past me v e here h).tables versions)) q))

-- ---- packets inside the epoch ----

-- what is known when a packet of the epoch comes
pub record Comes (c : Config) (past : List Told) (me from : ℕ) (v : SiteView) (e : InEpoch) (x : Body) : Type 0 where
  pub here : v.epoch ≡ Some e
  pub one : OneVector past
  pub versions : BodyFact past e.id x
  pub tables : Every (Versions past e.id) v.tables
  pub lock : LockBody past from me e.id x
  pub covers : BodyCovers past from me v.boot e.id x
  pub knows : Knows past (frame_in c me v.boot e) v.store

reported_in : (past : List Told) (a b : ℕ) (xs : List ReportedCopy) → a ≡ b → Every (ReportedFact past b) xs → Every (ReportedFact past a) xs
reported_in past a b xs e h = subst (λ (n : ℕ). Every (ReportedFact past n) xs) (sym e) h

-- what comes of a packet of the epoch, where the trace after it is of the laws
abbrev Taken : Config → ℕ → List Told → ℕ → SiteView → InEpoch → Body → Outcome SiteView → Type 0
Taken c me past from v e x o = Comes c past me from v e x → SiteLawfully c me past o

tables_fine : (c : Config) (me : ℕ) (past : List Told) (from : ℕ) (v : SiteView) (e : InEpoch) → View c past me v → (x : Body) → IsForTable x → Taken c me past from v e x (takes_inside (frame_in c me v.boot e) from x v)
tables_fine c me past from v e h (body.Report group copies) is k l = group_part c me past (on_report (frame_in c me v.boot e) from copies) v e group k.here l k.tables h (on_report_talks (frame_in c me v.boot e) from copies)
    (λ t q g m. on_report_fine (frame_in c me v.boot e) past from copies t m k.one (reported_in past t.group group copies q k.versions) g.1 (subst (λ (n : ℕ). BodyCovers past from me v.boot e.id (body.Report n copies)) (sym q) k.covers) g.0)
tables_fine c me past from v e h (body.Open serial call process request file how) is k l = group_part c me past (on_open (frame_in c me v.boot e) from (record { serial = serial; call = call; process = process; request = request; file = file; how = how })) v e file.group k.here l k.tables h (on_open_talks (frame_in c me v.boot e) from (record { serial = serial; call = call; process = process; request = request; file = file; how = how }))
    (λ t q g m. on_open_fine (frame_in c me v.boot e) past from (record { serial = serial; call = call; process = process; request = request; file = file; how = how }) t m (sym q) g.0)
tables_fine c me past from v e h (body.Opened inst answer) is k l = with_part c me past (on_opened (frame_in c me v.boot e) inst answer) v e (is_opened_in inst) k.here l k.tables h (on_opened_talks (frame_in c me v.boot e) inst answer) (λ t g m. on_opened_fine (frame_in c me v.boot e) past inst answer t m g.0)
tables_fine c me past from v e h (body.Closed inst made) is k l = with_part c me past (on_closed (frame_in c me v.boot e) from inst made) v e (is_opened_in inst) k.here l k.tables h (on_closed_talks (frame_in c me v.boot e) from inst made)
    (λ t g m. on_closed_fine (frame_in c me v.boot e) past from inst made t m k.one (inside_of c past me v e k.here h).joined k.versions k.covers g.1 g.0)
tables_fine c me past from v e h (body.Look call process request take file what) is k l = group_part c me past (on_look (frame_in c me v.boot e) from (record { call = call; process = process; request = request; take = take; file = file; what = what })) v e file.group k.here l k.tables h (on_look_talks (frame_in c me v.boot e) from (record { call = call; process = process; request = request; take = take; file = file; what = what }))
    (λ t q g m. on_look_fine (frame_in c me v.boot e) past from (record { call = call; process = process; request = request; take = take; file = file; what = what }) t m g.0)
tables_fine c me past from v e h (body.Have file stamp) is k l = group_part c me past (on_have from file stamp) v e file.group k.here l k.tables h (on_have_talks from file stamp) (λ t q g m. on_have_fine (frame_in c me v.boot e) past from file stamp t g.0)
tables_fine c me past from v e h _ is k l = absurd is

stores_fine : (c : Config) (me : ℕ) (past : List Told) (from : ℕ) (v : SiteView) (e : InEpoch) → View c past me v → (x : Body) → IsForStore x → Taken c me past from v e x (takes_inside (frame_in c me v.boot e) from x v)
stores_fine c me past from v e h (body.OpenSs inst file mode set kind base vector parents) is k l = store_part c me past v e _ k.here l (lasts (frame_in c me v.boot e) from v (body.OpenSs inst file mode set kind base vector parents) tt) h
    (on_open_ss_fine c (frame_in c me v.boot e) past v.boot (record { inst = inst; file = file; mode = mode; set = set; kind = kind; base = base; vector = vector; parents = parents }) v.store l k.knows h.boot k.covers (stored_of c past me v e k.here h))
stores_fine c me past from v e h (body.Op serial n o seen) is k l = store_part c me past v e _ k.here l (lasts (frame_in c me v.boot e) from v (body.Op serial n o seen) tt) h
    (on_op_fine c past (frame_in c me v.boot e) (mending v (group_of (instance_of v.store (from_user from serial)))) (from_user from serial) n o seen v.store l k.lock.granted k.knows (stored_of c past me v e k.here h))
stores_fine c me past from v e h (body.ReadHeld serial n at len) is k l = store_part c me past v e _ k.here l (lasts (frame_in c me v.boot e) from v (body.ReadHeld serial n at len) tt) h
    (on_read_held_fine c past (frame_in c me v.boot e) (from_user from serial) n at len v.store l k.lock.granted k.knows (stored_of c past me v e k.here h))
stores_fine c me past from v e h (body.Close serial) is k l = store_part c me past v e _ k.here l (lasts (frame_in c me v.boot e) from v (body.Close serial) tt) h (on_close_fine c past (frame_in c me v.boot e) (from_user from serial) v.store l k.lock.granted k.knows (stored_of c past me v e k.here h))
stores_fine c me past from v e h (body.ClosedOk inst) is k l = store_part c me past v e _ k.here l (lasts (frame_in c me v.boot e) from v (body.ClosedOk inst) tt) h (on_closed_ok_fine c past (frame_in c me v.boot e) inst v.store (stored_of c past me v e k.here h))
stores_fine c me past from v e h _ is k l = absurd is

pub inside_fine : (c : Config) (me : ℕ) (past : List Told) (from : ℕ) (v : SiteView) (e : InEpoch) (x : Body) → Comes c past me from v e x → View c past me v → SiteLawfully c me past (takes_inside (frame_in c me v.boot e) from x v)
inside_fine c me past from v e x k h = by_role Q f from v (record {
  tables = tables_fine c me past from v e h;
  stores = stores_fine c me past from v e h;
  readers = readers_by Q idling f from v (readers f) back (λ y o is same part k l. plain_fine c me past v (within (with_store v) o) refl (ap (λ (s : Store). s.copies) same) (ap (λ (s : Store). s.instances) same) refl refl part.1 part.2 (factless_bare o.sent part.0) l h);
  users = users_by Q idling f from v (users f) (λ y o is part k l. users_part c me past v o (part.1, part.2) part.0 l h);
  pulls = pulls_by Q idling f from v (readers f) back (λ y o is part k l. plain_fine c me past v (within (with_pulls v) o) refl refl refl refl refl part.1 part.2 (factless_bare o.sent part.0) l h);
  reported = λ group k l. plain_fine c me past v (takes_inside f from (body.ReportOk group) v) refl refl refl refl refl tt refl tt l h;
  forming = λ y is k l. quiet_fine c me past v h;
}) x k
  where
    f : Frame
    f = frame_in c me v.boot e

    Q : Body → Outcome SiteView → Type 0
    Q = Taken c me past from v e
