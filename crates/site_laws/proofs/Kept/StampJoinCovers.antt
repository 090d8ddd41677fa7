-- A site that joins an epoch reports what counts its commits, and its tables begin empty.
use Rattle.std.proofs.Common.{◌≡◌, ℕ, ◌-◌, ◌==◌, Bool, true, false, cond, not, List, [], ◌∷◌, map, filter, Option, Some, None, refl, sym, ◌∙◌, ap, subst, inl, inr, arith}
use Rattle.std.proofs.lemmas.Bool.Decides.{nat_tests}
use Rattle.std.proofs.lemmas.Nat.Bits.{bit_at-zero}
use Rattle.role_steps.proofs.of_plain_facts.Numbers.{equal_test}
use Rattle.role_steps.proofs.of_plain_facts.Options.{some_same as some_number}
use Rattle.role_steps.proofs.of_plain_facts.Tests.{both_true, false_true, not_true}
use Rattle.locus_ids.specs.Sites.{has}
use Rattle.locus_ids.specs.declared.ids.EpochId.{EpochId}
use Rattle.locus_ids.specs.declared.ids.FileId.{FileId}
use Rattle.locus_ids.specs.declared.sites.Links.{Links}
use Rattle.locus_ids.specs.declared.sites.Members.{Members}
use Rattle.locus_ids.specs.declared.config.Config.{Config}
use Rattle.trace_book.specs.Same.{same_epoch}
use Rattle.trace_book.specs.declared.record.Record.{Record}
use Rattle.trace_book.specs.declared.record.Record.TheVariants as says
use Rattle.wire_messages.specs.declared.body.Body.TheVariants as body
use Rattle.wire_messages.specs.declared.body.ReportedCopy.{ReportedCopy}
use Rattle.role_steps.specs.Own.{Every}
use Rattle.role_steps.specs.Tables.{row}
use Rattle.role_steps.specs.Views.{Frame, SiteView, Told, Shown, Outcome, sends, and_then, file_key, sync_site, pack_sites, all_groups}
use Rattle.role_steps.specs.Reports.{new_table}
use Rattle.role_steps.specs.Storage.{copy_key, report_of, reported}
use Rattle.role_steps.specs.Epochs.{frame_in, own_groups, is_sync_site, report_packets, all_reports, joined_view, joins, may_install, is_in, joined_packet, on_install, passed_over, unanswered, chosen_members, chosen_set, others_of, install_packet, installs_all, decides_if, passes_over_of, passes_over}
use Rattle.role_steps.specs.declared.copies.FileCopy.{FileCopy}
use Rattle.role_steps.specs.declared.rounds.InEpoch.{InEpoch}
use Rattle.role_steps.specs.declared.rounds.Round.{Round}
use Rattle.role_steps.specs.declared.synchronizing.SyncTable.{SyncTable}
use Rattle.role_steps.proofs.Sending.{every_cond, every_map, every_flat_map}
use Rattle.the_run.specs.Kept.{Among}
use Rattle.the_run.specs.Steps.{starts_mends_of, ends_event}
use Rattle.run_laws.specs.Naming.{Deeds, ViewOk}
use Rattle.site_laws.specs.Vectors.Written.{WasTold}
use Rattle.site_laws.specs.Vectors.Facts.{onto}
use Rattle.site_laws.proofs.Vectors.SiteDisks.{mends_of_keeps}
use Rattle.site_laws.specs.Vectors.HistoryCommits.{IsSite}
use Rattle.site_laws.specs.Locks.Going.{WasReleased}
use Rattle.site_laws.specs.Locks.Joins.{WasJoined}
use Rattle.site_laws.specs.Locks.Synced.{SyncedBy}
use Rattle.site_laws.proofs.Locks.GrantSites.{ascending_filter, made_rising, groups_ascend, passing, is_synced}
use Rattle.site_laws.specs.Kept.StampCommits.{WasMade, Under}
use Rattle.site_laws.specs.Kept.StampLaws.{Laws}
use Rattle.site_laws.specs.Kept.StampCovering.{Covers, InReport, Bare, PacketCovers, Instances, CopyCounts, DiskCounts, InKept, Table, InEpochCovers, View, GoesRecord, Goes, AllGo}
use Rattle.site_laws.proofs.Kept.StampTold.{made_fits, under_begun, released_ended, Ended, ReleasesRecord, Releases}
use Rattle.site_laws.proofs.Kept.StampFrames.{disk_after, was_begun}
use Rattle.site_laws.proofs.Kept.StampStoreCovers.{sync_covers}
use Rattle.site_laws.proofs.Kept.StampSiteCovers.{SiteLawfully, plain_fine, quiet_fine}
use Rattle.site_laws.proofs.Kept.StampFormingCovers.{site_then, mends_of_fine}

-- ---- releases, by the trace ----

-- each release was told by the synchronization site of its group in an epoch that it had joined
abbrev pub ReleasesSynced : Config → List Told → Type 0
ReleasesSynced c past = (e : EpochId) (key : ℕ) (file : FileId) → WasTold (Releases e key file) past → (s : ℕ) × SyncedBy c past e file.group s

synced_later : (c : Config) (x : Told) (past : List Told) (e : EpochId) (group s : ℕ) → SyncedBy c past e group s → SyncedBy c (x ∷ past) e group s
synced_later c x past e group s h = record { members = h.members; joined = inr h.joined; synced = h.synced }

released_record : (c : Config) (past : List Told) (me : ℕ) (e : EpochId) (key : ℕ) (file : FileId) (r : Record) → GoesRecord c past me r → ReleasesRecord e key file r → SyncedBy c past e file.group me
released_record c past me e key file (says.Release at inst of made) k h = subst (λ (f : FileId). SyncedBy c past e f.group me) h.2 (subst (λ (i : EpochId). SyncedBy c past i of.group me) h.0 k)
released_record c past me e key file _ k h = absurd h

pub released_by : (c : Config) (past : List Told) (me : ℕ) (e : EpochId) (key : ℕ) (file : FileId) (x : Told) → Goes c past me x → Releases e key file x → SyncedBy c past e file.group me
released_by c past me e key file (Shown r) k h = released_record c past me e key file r k h
released_by c past me e key file _ k h = absurd h

synced_one : (c : Config) (me : ℕ) (x : Told) (past : List Told) → Goes c past me x → ReleasesSynced c past → ReleasesSynced c (x ∷ past)
synced_one c me x past k h e key file (inl r) = (me, synced_later c x past e file.group me (released_by c past me e key file x k r))
synced_one c me x past k h e key file (inr r) = let q : (s : ℕ) × SyncedBy c past e file.group s = h e key file r in (q.0, synced_later c x past e file.group q.0 q.1)

pub synced_after : (c : Config) (me : ℕ) (told past : List Told) → AllGo c past me told → ReleasesSynced c past → ReleasesSynced c (onto told past)
synced_after c me [] past k h = h
synced_after c me (x ∷ xs) past k h = synced_after c me xs (x ∷ past) k.1 (synced_one c me x past k.0 h)

-- ---- reports ----

cond_there : (b : Bool) (y x : ReportedCopy) (rest : List ReportedCopy) → Among x rest → Among x (cond b (y ∷ rest) rest)
cond_there true y x rest h = inr h
cond_there false y x rest h = h

some_same : (x y : FileCopy) → ◌≡◌ {A = Option FileCopy} (Some x) (Some y) → x ≡ y
some_same x y e = cc

none_some : (x : FileCopy) → ◌≡◌ {A = Option FileCopy} None (Some x) → ⊥
none_some x e = cc

-- a copy that is found is reported
found_reported : (group k : ℕ) (copies : List FileCopy) (x : FileCopy) → row copy_key k copies ≡ Some x → x.file.group ≡ group → Among (reported x) (report_of group copies)
found_reported group k [] x e g = absurd (none_some x e)
found_reported group k (y ∷ ys) x e g =
    (elim (copy_key y == k) as (λ b. ◌≡◌ {A = Option FileCopy} (elim b [ true ↦ Some y | false ↦ row copy_key k ys ]) (Some x) → Among (reported x) (cond (y.file.group == group) (reported y ∷ report_of group ys) (report_of group ys))) [
      | true ↦ λ q. first (some_same y x q)
      | false ↦ λ q. cond_there (y.file.group == group) (reported y) (reported x) (report_of group ys) (found_reported group k ys x q g)
    ]) e
  where
    first : y ≡ x → Among (reported x) (cond (y.file.group == group) (reported y ∷ report_of group ys) (report_of group ys))
    first q = subst (λ (b : Bool). Among (reported x) (cond b (reported y ∷ report_of group ys) (report_of group ys))) (sym (equal_test y.file.group group (ap (λ (z : FileCopy). z.file.group) q ∙ g))) (inl (ap reported (sym q)))

copy_in_report : (past : List Told) (me : ℕ) (file : FileId) (n : ℕ) (copies : List FileCopy) (o : Option FileCopy) → row copy_key (file_key file) copies ≡ o → CopyCounts past me file o → WasMade past me file n → InReport (report_of file.group copies) me file n
copy_in_report past me file n copies None e h m = absurd (h n m)
copy_in_report past me file n copies (Some x) e h m = (reported x, found_reported file.group (file_key file) copies x e (ap (λ (f : FileId). f.group) h.0), ap (λ (f : FileId). f.ino) h.0, h.1 n m)

-- the reports of a site that has joined the epoch cover its commits
pub all_reports_cover : (c : Config) (me : ℕ) (past : List Told) (v : SiteView) (e : InEpoch) → Laws c past → IsSite me → WasJoined past me e.id e.members → DiskCounts past me v.store.copies → Every (PacketCovers past) (all_reports (frame_in c me v.boot e) v)
all_reports_cover c me past v e l site joined disk = every_flat_map (PacketCovers past) (report_packets f v) v.reports (λ g. sync_covers past f g (body.Report g (report_of g v.store.copies)) (λ to boot. covers g))
  where
    f : Frame
    f = frame_in c me v.boot e

    covers : (g : ℕ) → Covers past me e.id g (InReport (report_of g v.store.copies) me)
    covers g = record { site = site; joined = (e.members, joined); each = λ here file n same m. inl (subst (λ (k : ℕ). InReport (report_of k v.store.copies) me file n) same (copy_in_report past me file n v.store.copies (row copy_key (file_key file) v.store.copies) refl (disk file (made_fits past me file n l.fit m)) m)) }

-- ---- joining ----

none_has : (s : ℕ) → has (record { 0 = 0 }) s ≡ true → ⊥
none_has s e = zero_not_one (subst (λ (b : ℕ). (b == 1) ≡ true) (bit_at-zero (s - 1)) e)
  where
    zero_not_one : (0 == 1) ≡ true → ⊥
    zero_not_one e = cc

mapped : (Q : SyncTable → Type 0) (gs : List ℕ) → Every (λ (g : ℕ). Q (new_table g)) gs → Every Q (map new_table gs)
mapped Q [] h = tt
mapped Q (g ∷ gs) h = (h.0, mapped Q gs h.1)

joins_fine : (c : Config) (me : ℕ) (past : List Told) (id : EpochId) (m : Members) (v : SiteView) → v.epoch ≡ None → IsSite me → ReleasesSynced c past → View c past me v → SiteLawfully c me past (joins c me id m v)
joins_fine c me past id m v gone site synced h l = record {
  view = record {
    boot = h.boot;
    disk = disk;
    inside = record {
      joined = inl (refl, refl, refl);
      instances = subst (Instances now me id) (sym none) (record { run = λ key. tt; close = tt });
      tables = mapped (Table now f) (filter (is_sync_site c me m) (own_groups c me)) (passing (λ (g : ℕ). Table now f (new_table g)) (is_sync_site c me m) (own_groups c me) made);
      rising = made_rising (filter (is_sync_site c me m) (own_groups c me)) (ascending_filter (is_sync_site c me m) (own_groups c me) (ascending_filter (λ (g : ℕ). has (pack_sites c g) me) all_groups groups_ascend));
    };
  };
  sent = all_reports_cover c me now (joined_view c me id m v) (record { id = id; members = m }) l site (inl (refl, refl, refl)) disk;
  goes = (tt, tt);
  disk = tt;
}
  where
    x : Told
    x = Shown (says.Join me id m)

    now : List Told
    now = x ∷ past

    f : Frame
    f = frame_in c me v.boot (record { id = id; members = m })

    none : v.store.instances ≡ []
    none = (subst (InEpochCovers c past me v) gone h.inside).0

    disk : DiskCounts now me v.store.copies
    disk = disk_after x past me v.store.copies (λ g n q. q) h.disk

    -- nothing of the group was released in an epoch that its synchronization site joins only now
    never : (g : ℕ) → sync_site c m g ≡ Some me → (s key : ℕ) (file : FileId) (n : ℕ) → file.group ≡ g → WasReleased past id key → Under now s id key file n → ⊥
    never g here s key file n same r u = by_site (synced id key q.0 q.1)
      where
        q : (of : FileId) × WasTold (Releases id key of) past × Ended past id key of
        q = released_ended past id key l.goes.1 r

        its : file ≡ q.0
        its = l.agree id key file q.0 (was_begun now s id key file (under_begun now s id key file n u)) (inr q.2.granted)

        by_site : (t : ℕ) × SyncedBy c past id q.0.group t → ⊥
        by_site k =
            let one : k.1.members ≡ m = l.lists k.0 me id k.1.members m (inr k.1.joined) (inl (refl, refl, refl)) in
            let there : sync_site c m g ≡ Some k.0 = subst (λ (n : ℕ). sync_site c m n ≡ Some k.0) (sym (ap (λ (o : FileId). o.group) its) ∙ same) (subst (λ (n : Members). sync_site c n q.0.group ≡ Some k.0) one k.1.synced) in
            let t_is : k.0 ≡ me = some_number k.0 me (sym there ∙ here) in
            l.joins.0 k.1.members (subst (λ (t : ℕ). WasJoined past t id k.1.members) t_is k.1.joined)

    released : (g : ℕ) → sync_site c m g ≡ Some me → (s key : ℕ) (file : FileId) (n : ℕ) → file.group ≡ g → WasReleased now id key → Under now s id key file n → InKept (new_table g) s file n
    released g here s key file n same (inl r) u = absurd r
    released g here s key file n same (inr r) u = absurd (never g here s key file n same r u)

    made : (g : ℕ) → is_sync_site c me m g ≡ true → Table now f (new_table g)
    made g h = record {
      synced = is_synced c me m g h;
      full = λ e s q pack member. absurd (false_true e);
      covers = λ s q reports. absurd (none_has s reports);
      released = released g (is_synced c me m g h);
      opens = tt;
      looks = tt;
    }

-- a site that may join is in no epoch
pub on_install_fine : (K : Deeds) (c : Config) (me : ℕ) (past : List Told) (from from_boot : ℕ) (id : EpochId) (m : Members) (v : SiteView) → ViewOk K v → IsSite me → ReleasesSynced c past → View c past me v → SiteLawfully c me past (on_install c me from from_boot id m v)
on_install_fine K c me past from from_boot id m v ok site synced h l =
    (elim (may_install me id m v) as (λ t. may_install me id m v ≡ t → SiteLawfully c me past (elim t [ true ↦ and_then (joins c me id m v) (λ now. sends (joined_packet me from from_boot id now) now) | false ↦ sends (cond (is_in id v.epoch) (joined_packet me from from_boot id v) []) v ])) [
      | true ↦ λ e. joins_on e
      | false ↦ λ e g. plain_fine c me past v (sends (cond (is_in id v.epoch) (joined_packet me from from_boot id v) []) v) refl refl refl refl refl tt refl (every_cond Bare (is_in id v.epoch) (joined_packet me from from_boot id v) [] (tt, tt) tt) g h
    ]) refl l
  where
    joins_on : may_install me id m v ≡ true → SiteLawfully c me past (and_then (joins c me id m v) (λ now. sends (joined_packet me from from_boot id now) now))
    joins_on e =
        let a : (same_epoch id v.promised ≡ true) × (_ ≡ true) = both_true (same_epoch id v.promised) _ e in
        let b : (not v.installed ≡ true) × (_ ≡ true) = both_true (not v.installed) _ a.1 in
        site_then c me past (joins c me id m v) (λ now. sends (joined_packet me from from_boot id now) now) (joins_fine c me past id m v (ok.waits (not_true v.installed b.0)).0 site synced h)
        (λ k g. plain_fine c me (onto (joins c me id m v).told past) (joins c me id m v).view (sends (joined_packet me from from_boot id (joins c me id m v).view) (joins c me id m v).view) refl refl refl refl refl tt refl (tt, tt) g k.view) refl

decides_if_fine : (K : Deeds) (c : Config) (me : ℕ) (past : List Told) (links : Links) (r q : Round) (xs : List ℕ) (v : SiteView) → v.round ≡ Some r → ViewOk K v → IsSite me → ReleasesSynced c past → View c past me v → SiteLawfully c me past (decides_if c me links q xs v)
decides_if_fine K c me past links r q [] v here ok site synced h =
    let m : Members = chosen_members me v.boot q (chosen_set me links q) in
    let o : Outcome SiteView = joins c me q.id m v in
    site_then c me past o (installs_all me q.id m) (joins_fine c me past q.id m v (ok.waits (ok.round_is r here).1).0 site synced h)
    (λ k g. plain_fine c me (onto o.told past) o.view (installs_all me q.id m o.view) refl refl refl refl refl tt refl (every_map Bare (install_packet me o.view.boot q.id m) (others_of me m) (λ s. tt)) g k.view) refl
decides_if_fine K c me past links r q (x ∷ xs) v here ok site synced h = λ l. plain_fine c me past v (decides_if c me links q (x ∷ xs) v) refl refl refl refl refl tt refl tt l h

passes_over_fine : (K : Deeds) (c : Config) (me : ℕ) (past : List Told) (links : Links) (o : Option Round) (v : SiteView) → v.round ≡ o → ViewOk K v → IsSite me → ReleasesSynced c past → View c past me v → SiteLawfully c me past (passes_over_of c me links o v)
passes_over_fine K c me past links None v here ok site synced h = λ l. quiet_fine c me past v h
passes_over_fine K c me past links (Some r) v here ok site synced h = decides_if_fine K c me past links r (passed_over links r) (unanswered (passed_over links r)) v here ok site synced h

pub ends_fine : (K : Deeds) (c : Config) (me : ℕ) (past : List Told) (links : Links) (v : SiteView) → ViewOk K v → IsSite me → ReleasesSynced c past → View c past me v → SiteLawfully c me past (ends_event c me links v)
ends_fine K c me past links v ok site synced h =
    let o : Outcome SiteView = passes_over c me links v in
    site_then c me past o (λ now. starts_mends_of c me now.epoch now) (passes_over_fine K c me past links v.round v refl ok site synced h) (λ k. mends_of_fine c me (onto o.told past) o.view.epoch o.view k.view) (mends_of_keeps c me o.view.epoch o.view).none
