-- Inside an epoch: the tables of a site know no file that is being made.
use Rattle.std.proofs.Common.{◌≡◌, ℕ, List, Option, Some, refl, sym, subst, inl, inr}
use Rattle.locus_ids.specs.declared.ids.EpochId.{EpochId}
use Rattle.locus_ids.specs.declared.config.Config.{Config}
use Rattle.wire_messages.specs.declared.body.Body.{Body}
use Rattle.wire_messages.specs.declared.body.Body.TheVariants as body
use Rattle.role_steps.specs.Own.{Every}
use Rattle.role_steps.specs.Tables.{row}
use Rattle.role_steps.specs.Views.{Frame, Store, Users, SiteView, Told, Outcome, pack_sites, within}
use Rattle.role_steps.specs.Reports.{on_report, on_open, on_look, on_closed, on_have}
use Rattle.role_steps.specs.Opens.{on_opened}
use Rattle.role_steps.specs.Storage.{instance_of}
use Rattle.role_steps.specs.Epochs.{frame_in, with_users}
use Rattle.role_steps.specs.Adoption.{with_store}
use Rattle.role_steps.specs.Mends.{mending}
use Rattle.role_steps.specs.declared.rounds.InEpoch.{InEpoch}
use Rattle.role_steps.specs.declared.synchronizing.SyncTable.{SyncTable}
use Rattle.the_run.specs.Roles.{IsForTable, IsForStore}
use Rattle.the_run.proofs.Premises.{every_unit}
use Rattle.the_run.proofs.Roles.{by_role, readers_by, users_by, pulls_by}
use Rattle.the_run.specs.Steps.{from_user, group_of, is_opened_in, takes_inside, with_pulls}
use Rattle.site_laws.specs.Vectors.Facts.{onto}
use Rattle.wire_messages.specs.declared.body.MadeVersion.{MadeVersion}
use Rattle.wire_messages.specs.declared.body.ReportedCopy.{ReportedCopy}
use Rattle.role_steps.specs.Views.{Begins, Reserves, members_of, serial_key}
use Rattle.role_steps.specs.Opens.{open_key}
use Rattle.role_steps.specs.Storage.{StoreRequest, on_open_ss, on_close, on_closed_ok}
use Rattle.role_steps.specs.Operations.{on_op, on_read_held}
use Rattle.role_steps.specs.declared.synchronizing.OpenRow.{OpenRow}
use Rattle.the_run.specs.Kept.{Among}
use Rattle.site_laws.specs.Vectors.Facts.{ReportedFact}
use Rattle.site_laws.specs.Makes.Tables.{Ordered}
use Rattle.site_laws.proofs.Makes.Telling.{idle_aside, storing_aside}
use Rattle.site_laws.proofs.Makes.RolesTell.{AllIdle, carrying, users, readers, answer_idle}
use Rattle.site_laws.proofs.Makes.StoresTell.{StoreTells, on_close_tells, on_closed_ok_tells, on_op_tells, on_read_held_tells}
use Rattle.site_laws.proofs.Makes.Opening.{made_file, OpenTold, open_told}
use Rattle.site_laws.proofs.Makes.TableTold.{ordered_before, all_fresh, IsForeign, not_tabular}
use Rattle.site_laws.proofs.Makes.TableOpens.{AllPlain, on_opened_keeps}
use Rattle.site_laws.proofs.Makes.TableReports.{on_open_keeps, on_look_keeps, on_report_keeps}
use Rattle.site_laws.proofs.Makes.TableCloses.{ClosesKnown, on_closed_keeps, on_have_keeps}
use Rattle.site_laws.proofs.Makes.MakeSites.{TabularBy, SiteMade, SiteKeeps, in_foreign, in_alike, plain_site, quiet_site, group_part, with_part}

pub user_site : (c : Config) (me : ℕ) (past : List Told) (v : SiteView) (o : Outcome Users) → AllIdle o → SiteMade c past me v → SiteKeeps c me past (record { view = with_users v o.view; sent = o.sent; told = o.told; written = o.written })
user_site c me past v o k h = plain_site c me past v (record { view = with_users v o.view; sent = o.sent; told = o.told; written = o.written }) refl refl (idle_aside o.told k.1) h

store_site : (c : Config) (me : ℕ) (past : List Told) (v : SiteView) (o : Outcome Store) → StoreTells o → SiteMade c past me v → SiteKeeps c me past (record { view = with_store v o.view; sent = o.sent; told = o.told; written = o.written })
store_site c me past v o k h = plain_site c me past v (record { view = with_store v o.view; sent = o.sent; told = o.told; written = o.written }) refl refl (storing_aside o.told k) h

-- where the store is asked to open
opened_foreign : (e : EpochId) (group : ℕ) (f : Frame) (r : StoreRequest) (s : Store) (told : List Told) → OpenTold f r s told → Every (IsForeign e group) told
opened_foreign e group f r s told (inl o) = subst (Every (IsForeign e group)) (sym o) tt
opened_foreign e group f r s told (inr (inl o)) = subst (Every (IsForeign e group)) (sym o.told_is) (not_tabular e group (Begins f.me f.epoch r.inst r.file) (λ k. k), tt)
opened_foreign e group f r s told (inr (inr o)) = subst (Every (IsForeign e group)) (sym o.told_is) (not_tabular e group (Begins f.me f.epoch r.inst (made_file r o.ino)) (λ k. k), (not_tabular e group (Reserves f.me f.epoch r.inst (made_file r o.ino)) (λ k. k), tt))

opened_by : (c : Config) (now : List Told) (me : ℕ) (f : Frame) (r : StoreRequest) (s : Store) (told : List Told) → OpenTold f r s told → Every (TabularBy c now me) told
opened_by c now me f r s told (inl o) = subst (Every (TabularBy c now me)) (sym o) tt
opened_by c now me f r s told (inr (inl o)) = subst (Every (TabularBy c now me)) (sym o.told_is) ((λ e group k. absurd k), tt)
opened_by c now me f r s told (inr (inr o)) = subst (Every (TabularBy c now me)) (sym o.told_is) ((λ e group k. absurd k), ((λ e group k. absurd k), tt))

opened_plain : (past : List Told) (f : Frame) (r : StoreRequest) (s : Store) (told : List Told) → OpenTold f r s told → AllPlain past told
opened_plain past f r s told (inl o) = subst (AllPlain past) (sym o) tt
opened_plain past f r s told (inr (inl o)) = subst (AllPlain past) (sym o.told_is) (tt, tt)
opened_plain past f r s told (inr (inr o)) = subst (AllPlain past) (sym o.told_is) (tt, (tt, tt))

opens_site : (c : Config) (me : ℕ) (past : List Told) (v : SiteView) (f : Frame) (r : StoreRequest) → Ordered (onto (on_open_ss f r v.store).told past) → SiteMade c past me v → SiteKeeps c me past (record { view = with_store v (on_open_ss f r v.store).view; sent = (on_open_ss f r v.store).sent; told = (on_open_ss f r v.store).told; written = (on_open_ss f r v.store).written })
opens_site c me past v f r law h =
    let told : List Told = (on_open_ss f r v.store).told in
    let o : OpenTold f r v.store told = open_told f r v.store in
    record {
      view = in_foreign c told past me (with_store v (on_open_ss f r v.store).view) v.epoch (λ e group. opened_foreign e group f r v.store told o) (all_fresh told past law.fresh) (in_alike c past me v (with_store v (on_open_ss f r v.store).view) v.epoch refl h);
      by = opened_by c (onto told past) me f r v.store told o;
      plain = opened_plain past f r v.store told o;
    }

-- what the packets of an event tell of reports and closes
pub record ReportMade (c : Config) (past : List Told) (e : InEpoch) (from group : ℕ) (copies : List ReportedCopy) : Type 0 where
  pub member : Among from (members_of e.members (pack_sites c group))
  pub copies_so : Every (ReportedFact past group) copies

abbrev pub TableClosed : List Told → EpochId → ℕ → Option MadeVersion → SyncTable → Type 0
TableClosed past e key made t = (r : OpenRow) → row open_key key t.opens ≡ Some r → ClosesKnown past e key made r

abbrev pub BodyMade : Config → List Told → InEpoch → ℕ → Body → SiteView → Type 0
BodyMade c past e from (body.Report group copies) v = ReportMade c past e from group copies
BodyMade c past e from (body.Closed inst made) v = Every (TableClosed past e.id (serial_key inst) made) v.tables
BodyMade c past e from _ v = Unit {0}

report_member : (c : Config) (e : InEpoch) (a b from : ℕ) → a ≡ b → Among from (members_of e.members (pack_sites c b)) → Among from (members_of e.members (pack_sites c a))
report_member c e a b from q h = subst (λ (n : ℕ). Among from (members_of e.members (pack_sites c n))) (sym q) h

report_copies : (past : List Told) (a b : ℕ) (xs : List ReportedCopy) → a ≡ b → Every (ReportedFact past b) xs → Every (ReportedFact past a) xs
report_copies past a b xs q h = subst (λ (n : ℕ). Every (ReportedFact past n) xs) (sym q) h

-- what a packet does keeps the tables so, where it tells of reports and closes what is so
abbrev Kept : Config → ℕ → List Told → ℕ → SiteView → InEpoch → Body → Outcome SiteView → Type 0
Kept c me past from v e x o = BodyMade c past e from x v → Ordered (onto o.told past) → SiteKeeps c me past o

tables_keep : (c : Config) (me boot : ℕ) (past : List Told) (from : ℕ) (v : SiteView) (e : InEpoch) → v.epoch ≡ Some e → SiteMade c past me v → (x : Body) → IsForTable x → Kept c me past from v e x (takes_inside (frame_in c me boot e) from x v)
tables_keep c me boot past from v e here h (body.Report group copies) is k law = group_part c me past (on_report (frame_in c me boot e) from copies) v e group here h (λ t q y. on_report_keeps c past me (frame_in c me boot e) from copies t refl (ordered_before (takes_inside (frame_in c me boot e) from (body.Report group copies) v).told past law) (report_member c e t.group group from q k.member) (report_copies past t.group group copies q k.copies_so) y)
tables_keep c me boot past from v e here h (body.Open serial call process request file how) is k law = group_part c me past (on_open (frame_in c me boot e) from (record { serial = serial; call = call; process = process; request = request; file = file; how = how })) v e file.group here h (λ t q y. on_open_keeps c past me e.members (frame_in c me boot e) from (record { serial = serial; call = call; process = process; request = request; file = file; how = how }) t (sym q) y)
tables_keep c me boot past from v e here h (body.Opened inst answer) is k law = with_part c me past (λ (t : SyncTable). Unit {0}) (on_opened (frame_in c me boot e) inst answer) v e (is_opened_in inst) here (every_unit v.tables) h (λ t z y. on_opened_keeps c past me e.members (frame_in c me boot e) inst answer t y)
tables_keep c me boot past from v e here h (body.Closed inst made) is k law = with_part c me past (TableClosed past e.id (serial_key inst) made) (on_closed (frame_in c me boot e) from inst made) v e (is_opened_in inst) here k h (λ t z y. on_closed_keeps c past me e.members (frame_in c me boot e) from inst made t (ordered_before (takes_inside (frame_in c me boot e) from (body.Closed inst made) v).told past law) z y)
tables_keep c me boot past from v e here h (body.Look call process request take file what) is k law = group_part c me past (on_look (frame_in c me boot e) from (record { call = call; process = process; request = request; take = take; file = file; what = what })) v e file.group here h (λ t q y. on_look_keeps c past me e.members (frame_in c me boot e) from (record { call = call; process = process; request = request; take = take; file = file; what = what }) t y)
tables_keep c me boot past from v e here h (body.Have file stamp) is k law = group_part c me past (on_have from file stamp) v e file.group here h (λ t q y. on_have_keeps c past me e.members (frame_in c me boot e) from file stamp t y)
tables_keep c me boot past from v e here h _ is k law = absurd is

stores_keep : (c : Config) (me boot : ℕ) (past : List Told) (from : ℕ) (v : SiteView) (e : InEpoch) → v.epoch ≡ Some e → SiteMade c past me v → (x : Body) → IsForStore x → Kept c me past from v e x (takes_inside (frame_in c me boot e) from x v)
stores_keep c me boot past from v e here h (body.OpenSs inst file mode set kind base vector parents) is k law = opens_site c me past v (frame_in c me boot e) (record { inst = inst; file = file; mode = mode; set = set; kind = kind; base = base; vector = vector; parents = parents }) law h
stores_keep c me boot past from v e here h (body.Op serial n o seen) is k law = store_site c me past v (on_op (frame_in c me boot e) (mending v (group_of (instance_of v.store (from_user from serial)))) (from_user from serial) n o seen v.store) (on_op_tells (frame_in c me boot e) (mending v (group_of (instance_of v.store (from_user from serial)))) (from_user from serial) n o seen v.store) h
stores_keep c me boot past from v e here h (body.ReadHeld serial n at len) is k law = store_site c me past v (on_read_held (frame_in c me boot e) (from_user from serial) n at len v.store) (on_read_held_tells (frame_in c me boot e) (from_user from serial) n at len v.store) h
stores_keep c me boot past from v e here h (body.Close serial) is k law = store_site c me past v (on_close (frame_in c me boot e) (from_user from serial) v.store) (on_close_tells (frame_in c me boot e) (from_user from serial) v.store) h
stores_keep c me boot past from v e here h (body.ClosedOk inst) is k law = store_site c me past v (on_closed_ok (frame_in c me boot e) inst v.store) (on_closed_ok_tells (frame_in c me boot e) inst v.store) h
stores_keep c me boot past from v e here h _ is k law = absurd is

pub inside_site : (c : Config) (me boot : ℕ) (past : List Told) (from : ℕ) (v : SiteView) (e : InEpoch) (x : Body) → v.epoch ≡ Some e → BodyMade c past e from x v → Ordered (onto (takes_inside (frame_in c me boot e) from x v).told past) → SiteMade c past me v → SiteKeeps c me past (takes_inside (frame_in c me boot e) from x v)
inside_site c me boot past from v e x here k law h = by_role Q f from v (record {
  tables = tables_keep c me boot past from v e here h;
  stores = stores_keep c me boot past from v e here h;
  readers = readers_by Q carrying f from v (readers f) answer_idle (λ y o is same part k law. plain_site c me past v (within (with_store v) o) refl refl (idle_aside o.told part.1) h);
  users = users_by Q carrying f from v (users f) (λ y o is part k law. user_site c me past v o (part.0, part.1) h);
  pulls = pulls_by Q carrying f from v (readers f) answer_idle (λ y o is part k law. plain_site c me past v (within (with_pulls v) o) refl refl (idle_aside o.told part.1) h);
  reported = λ group k law. plain_site c me past v (takes_inside f from (body.ReportOk group) v) refl refl tt h;
  forming = λ y is k law. quiet_site c me past v h;
}) x k law
  where
    f : Frame
    f = frame_in c me boot e

    Q : Body → Outcome SiteView → Type 0
    Q = Kept c me past from v e
