-- Adoptions, mends, and how an epoch is formed: what a site tells, keeps and reports of commits.
use Rattle.std.proofs.Common.{◌≡◌, ◌≤◌, ℕ, ◌+◌, ◌-◌, true, false, cond, ◌&&◌, not, List, [], ◌∷◌, Option, Some, None, refl, sym, subst, inr, arith}
use Rattle.role_steps.proofs.of_plain_facts.Tests.{both_true}
use Rattle.locus_ids.specs.declared.ids.EpochId.{EpochId}
use Rattle.locus_ids.specs.declared.refusal.Refusal.TheVariants as refusal
use Rattle.locus_ids.specs.declared.sites.Links.{Links}
use Rattle.locus_ids.specs.declared.sites.Sites.{Sites}
use Rattle.locus_ids.specs.declared.config.Config.{Config}
use Rattle.version_vector.specs.Counters.{part, all_le, AllLe}
use Rattle.version_vector.proofs.Counting.{AllLe-from_test}
use Rattle.trace_book.specs.Same.{same_epoch}
use Rattle.trace_book.specs.declared.call.Call.TheVariants as call
use Rattle.trace_book.specs.declared.reply.Reply.TheVariants as reply
use Rattle.wire_messages.specs.declared.body.Body.TheVariants as body
use Rattle.role_steps.specs.Own.{Every}
use Rattle.role_steps.specs.Tables.{row, without_row, first_that}
use Rattle.role_steps.specs.Views.{Frame, SiteView, Told, Shown, Promises, Outcome, quiet, sends, tells, and_then}
use Rattle.role_steps.specs.Reports.{on_have_of}
use Rattle.role_steps.specs.Storage.{copy_of}
use Rattle.role_steps.specs.Using.{on_call, changed_records, reply_record}
use Rattle.role_steps.specs.Versions.{is_below, file_row}
use Rattle.role_steps.specs.Epochs.{is_epoch_below, frame_in, leaves_of, leaves, promises, promised_view, reached, poll_packet, polled_sites, polls, round_id, begins_round, boots_where, part_boot, starts_part_of, promise_packet, refuse_packet, on_poll, on_promise_of, on_refuse_of, is_in, on_joined}
use Rattle.role_steps.specs.Adoption.{notes_own_at, copy_adopted, adopt_record, table_group, with_table, without_pull, is_ready, is_above_own, adopts_pull, adopts_first, with_adopted, fits_own, content_under}
use Rattle.role_steps.specs.Mends.{has_mend_in, wants_mend, starts_mend_of, starts_mend, starts_mends_in, row_file}
use Rattle.role_steps.specs.declared.copies.FileCopy.{FileCopy}
use Rattle.role_steps.specs.declared.pulls.Pull.{Pull}
use Rattle.role_steps.specs.declared.rounds.InEpoch.{InEpoch}
use Rattle.role_steps.specs.declared.rounds.Round.{Round}
use Rattle.role_steps.specs.declared.synchronizing.SyncTable.{SyncTable}
use Rattle.role_steps.specs.declared.synchronizing.FileRow.{FileRow}
use Rattle.role_steps.specs.declared.users.WaitingCall.{WaitingCall}
use Rattle.role_steps.proofs.Sending.{every_cond, every_map}
use Rattle.the_run.specs.Steps.{adopts_of, starts_mends_of}
use Rattle.the_run.proofs.Boots.{every_weaker}
use Rattle.the_run.proofs.InsideSync.{Found, row_found}
use Rattle.site_laws.specs.Vectors.Facts.{onto}
use Rattle.site_laws.proofs.Vectors.Facts.{onto_append}
use Rattle.site_laws.proofs.Vectors.RolesSend.{on_call_factless}
use Rattle.site_laws.proofs.Vectors.SiteDisks.{starts_mends_keeps}
use Rattle.site_laws.proofs.Locks.GrantSites.{put_tables, rising_put}
use Rattle.site_laws.specs.Kept.StampCommits.{WasMade, Counts}
use Rattle.site_laws.specs.Kept.StampLaws.{Laws}
use Rattle.site_laws.specs.Kept.StampCovering.{Bare, CopyCounts, NewCounts, Table, Inside, InEpochCovers, View}
use Rattle.site_laws.proofs.Kept.StampTold.{laws_before}
use Rattle.site_laws.proofs.Kept.StampFrames.{made_before, instances_after, table_after}
use Rattle.site_laws.proofs.Kept.StampOutcomes.{Idle, idle_go, then_fine}
use Rattle.site_laws.proofs.Kept.StampRolesTell.{on_call_idle}
use Rattle.site_laws.proofs.Kept.StampStoreCovers.{sync_covers}
use Rattle.site_laws.proofs.Kept.StampCommitCovers.{put_copy}
use Rattle.site_laws.proofs.Kept.StampTableCloses.{have_table}
use Rattle.site_laws.proofs.Kept.StampSiteCovers.{SiteFine, SiteLawfully, plain_fine, quiet_fine, view_idle, view_alike, inside_of, users_part}
use Rattle.role_steps.proofs.Fitting.{fits_above}

-- the view of a site
abbrev pub OfSite : Config → ℕ → List Told → SiteView → Type 0
OfSite c me past v = View c past me v

-- one thing, and then another that writes nothing
pub site_then : (c : Config) (me : ℕ) (past : List Told) (o : Outcome SiteView) (g : SiteView → Outcome SiteView) → (Laws c (onto o.told past) → SiteFine c me past o) → (SiteFine c me past o → SiteLawfully c me (onto o.told past) (g o.view)) → (g o.view).written ≡ None → SiteLawfully c me past (and_then o g)
site_then c me past o g h k none l =
    let all : Laws c (onto (g o.view).told (onto o.told past)) = subst (Laws c) (onto_append o.told (g o.view).told past) l in
    let first : SiteFine c me past o = h (laws_before c (g o.view).told (onto o.told past) all) in
    then_fine c me (OfSite c me) (OfSite c me) past o (g o.view) all first (k first all) none

-- ---- adoptions ----

below_le : (a b : List ℕ) → is_below a b ≡ true → AllLe a b
below_le a b e = AllLe-from_test a b (both_true (all_le a b) (not (all_le b a)) e).0

-- what is adopted counts all that the own copy does
adopted_counts : (past : List Told) (me : ℕ) (p : Pull) (o : Option FileCopy) → is_above_own p o ≡ true → CopyCounts past me p.file o → (n : ℕ) → WasMade past me p.file n → Counts p.vector me n
adopted_counts past me p None e h n m = absurd (h n m)
adopted_counts past me p (Some own) e h n m = le (below_le own.vector p.vector e) (h.1 n m)
  where
    le : AllLe own.vector p.vector → Counts own.vector me n → Counts p.vector me n
    le a k = let q : part own.vector (me - 1) ≤ part p.vector (me - 1) = a.each (me - 1) in omega (arith, q, k)

-- the synchronization site notes what it has adopted itself
noted_fine : (c : Config) (me : ℕ) (now : List Told) (p : Pull) (e : InEpoch) (o : Option SyncTable) (v : SiteView) → v.epoch ≡ Some e → Found (Table now (frame_in c me v.boot e)) o → View c now me v → View c now me (notes_own_at (frame_in c me v.boot e) p o v)
noted_fine c me now p e None v here k h = h
noted_fine c me now p e (Some t) v here k h =
    let f : Frame = frame_in c me v.boot e in
    let i : Inside now f v = inside_of c now me v e here h in
    let u : SyncTable = on_have_of me p.stamp (file_row t p.file.ino) t in
    let q : Table now f u = have_table f now me p.stamp p.file.ino (file_row t p.file.ino) t refl k in
    record {
      boot = h.boot;
      disk = h.disk;
      inside = subst (InEpochCovers c now me (with_table u v)) (sym here) (record { joined = i.joined; instances = i.instances; tables = put_tables (Table now f) (Table now f) u v.tables i.rising q (λ w ne old. old) i.tables; rising = rising_put u v.tables i.rising });
    }

pub adopts_pull_fine : (c : Config) (me : ℕ) (past : List Told) (p : Pull) (e : InEpoch) (v : SiteView) → v.epoch ≡ Some e → fits_own p (copy_of v.store p.file) ≡ true → View c past me v → SiteLawfully c me past (adopts_pull (frame_in c me v.boot e) p v)
adopts_pull_fine c me past p e v here fits h l = record { view = noted_fine c me now p e (row table_group p.file.group v.tables) w here (row_found (Table now f) table_group p.file.group v.tables tables) view; sent = sync_covers now f p.file.group (body.Have p.file p.stamp) (λ to boot. tt); goes = (tt, tt); disk = (tt, new) }
  where
    f : Frame
    f = frame_in c me v.boot e

    x : Told
    x = Shown (adopt_record f p)

    now : List Told
    now = x ∷ past

    w : SiteView
    w = with_adopted p v

    i : Inside past f v
    i = inside_of c past me v e here h

    new : NewCounts now me (copy_adopted p (content_under v p))
    new = record { fits = l.fit.0; each = λ n m. adopted_counts past me p (copy_of v.store p.file) (fits_above p (copy_of v.store p.file) fits) (h.disk p.file l.fit.0) n (made_before x past me p.file n (λ g j q. q) m) }

    tables : Every (Table now f) v.tables
    tables = every_weaker (Table past f) (Table now f) v.tables (λ t q. table_after c me x past l tt f t (λ key file r g. r) q) i.tables

    view : View c now me w
    view = record {
      boot = h.boot;
      disk = put_copy x past me (copy_adopted p (content_under v p)) v.store.copies (λ g n m. absurd m) new h.disk;
      inside = subst (InEpochCovers c now me w) (sym here) (record { joined = inr i.joined; instances = instances_after x past me e.id v.store.instances (λ g n m. m) i.instances; tables = tables; rising = i.rising });
    }

adopts_first_fine : (c : Config) (me : ℕ) (past : List Told) (ps : List Pull) (e : InEpoch) (v : SiteView) → v.epoch ≡ Some e → View c past me v → SiteLawfully c me past (adopts_first (frame_in c me v.boot e) ps v)
adopts_first_fine c me past [] e v here h l = quiet_fine c me past v h
adopts_first_fine c me past (p ∷ ps) e v here h l =
    elim (is_ready v p) as (λ t. SiteLawfully c me past (elim t [ true ↦ elim (fits_own p (copy_of v.store p.file)) [ true ↦ adopts_pull (frame_in c me v.boot e) p v | false ↦ adopts_first (frame_in c me v.boot e) ps (without_pull p v) ] | false ↦ adopts_first (frame_in c me v.boot e) ps v ])) [
      | true ↦ (elim (fits_own p (copy_of v.store p.file)) as (λ t. fits_own p (copy_of v.store p.file) ≡ t → SiteLawfully c me past (elim t [ true ↦ adopts_pull (frame_in c me v.boot e) p v | false ↦ adopts_first (frame_in c me v.boot e) ps (without_pull p v) ])) [
        | true ↦ λ fits. adopts_pull_fine c me past p e v here fits h
        | false ↦ λ above. adopts_first_fine c me past ps e (without_pull p v) here (view_alike c past me v (without_pull p v) refl refl refl refl refl h)
      ]) refl
      | false ↦ adopts_first_fine c me past ps e v here h
    ] l

pub adopts_of_fine : (c : Config) (me : ℕ) (past : List Told) (o : Option InEpoch) (v : SiteView) → v.epoch ≡ o → View c past me v → SiteLawfully c me past (adopts_of c me o v)
adopts_of_fine c me past None v here h l = quiet_fine c me past v h
adopts_of_fine c me past (Some e) v here h l = adopts_first_fine c me past v.pulls e v here h l

-- ---- mends ----

mend_fine : (c : Config) (me : ℕ) (past : List Told) (f : Frame) (t : SyncTable) (o : Option FileRow) (v : SiteView) → View c past me v → SiteLawfully c me past (starts_mend_of f t o v)
mend_fine c me past f t None v h l = quiet_fine c me past v h
mend_fine c me past f t (Some r) v h l = users_part c me past v (on_call f (Some f.epoch) 0 (call.Mend (row_file t r)) v.users) (on_call_idle f (Some f.epoch) 0 (call.Mend (row_file t r)) v.users) (on_call_factless f (Some f.epoch) 0 (call.Mend (row_file t r)) v.users) l h

starts_mend_fine : (c : Config) (me : ℕ) (past : List Told) (f : Frame) (t : SyncTable) (v : SiteView) → View c past me v → SiteLawfully c me past (starts_mend f t v)
starts_mend_fine c me past f t v h =
    elim (t.started && not (has_mend_in v.users t.group)) as (λ x. SiteLawfully c me past (elim x [ true ↦ starts_mend_of f t (first_that (wants_mend v t) t.files) v | false ↦ quiet v ])) [
      | true ↦ mend_fine c me past f t (first_that (wants_mend v t) t.files) v h
      | false ↦ λ l. quiet_fine c me past v h
    ]

mends_fine : (c : Config) (me : ℕ) (past : List Told) (f : Frame) (ts : List SyncTable) (v : SiteView) → View c past me v → SiteLawfully c me past (starts_mends_in f ts v)
mends_fine c me past f [] v h l = quiet_fine c me past v h
mends_fine c me past f (t ∷ ts) v h l =
    let o : Outcome SiteView = starts_mend f t v in
    site_then c me past o (starts_mends_in f ts) (starts_mend_fine c me past f t v h) (λ k. mends_fine c me (onto o.told past) f ts o.view k.view) (starts_mends_keeps f ts o.view).none l

pub mends_of_fine : (c : Config) (me : ℕ) (past : List Told) (o : Option InEpoch) (v : SiteView) → View c past me v → SiteLawfully c me past (starts_mends_of c me o v)
mends_of_fine c me past None v h l = quiet_fine c me past v h
mends_of_fine c me past (Some e) v h l = mends_fine c me past (frame_in c me v.boot e) v.tables v h l

-- ---- how an epoch is formed ----

left_idle : (me boot : ℕ) (e : EpochId) (ws : List WaitingCall) → Every Idle (changed_records me boot e ws)
left_idle me boot e ws = every_map Idle (λ (w : WaitingCall). reply_record me boot w (reply.No (refusal.Changed e))) ws (λ w. tt)

pub leaves_of_fine : (c : Config) (me : ℕ) (past : List Told) (e : Option InEpoch) (v : SiteView) → View c past me v → SiteLawfully c me past (leaves_of me e v)
leaves_of_fine c me past None v h l = quiet_fine c me past v h
leaves_of_fine c me past (Some e) v h l =
    let o : Outcome SiteView = leaves_of me (Some e) v in
    let idle : Every Idle o.told = (tt, left_idle me v.boot e.id v.users.waiting) in
    let k : View c (onto o.told past) me v = view_idle c me o.told past me v l idle h in
    record { view = record { boot = k.boot; disk = k.disk; inside = (refl, refl) }; sent = tt; goes = idle_go c past me o.told idle; disk = tt }

promises_fine : (c : Config) (me : ℕ) (past : List Told) (id : EpochId) (reach : Sites) (v : SiteView) → View c past me v → SiteLawfully c me past (promises me id reach v)
promises_fine c me past id reach v h l =
    let o : Outcome SiteView = leaves me v in
    site_then c me past o (λ now. tells (Promises me id reach ∷ []) (promised_view id now)) (leaves_of_fine c me past v.epoch v h) (λ k g. plain_fine c me (onto o.told past) o.view (tells (Promises me id reach ∷ []) (promised_view id o.view)) refl refl refl refl refl (tt, tt) refl tt g k.view) refl l

pub begins_fine : (c : Config) (me : ℕ) (past : List Told) (links : Links) (number : ℕ) (polled : Links) (v : SiteView) → View c past me v → SiteLawfully c me past (begins_round me links number polled v)
begins_fine c me past links number polled v h l =
    let id : EpochId = round_id me number v in
    let o : Outcome SiteView = promises me id (reached links) v in
    site_then c me past o (polls me id polled) (promises_fine c me past id (reached links) v h) (λ k g. plain_fine c me (onto o.told past) o.view (polls me id polled o.view) refl refl refl refl refl tt refl (every_map Bare (poll_packet me o.view.boot id polled) (polled_sites polled) (λ s. tt)) g k.view) refl l

pub starts_part_fine : (c : Config) (me : ℕ) (past : List Told) (links : Links) (e : Option InEpoch) (v : SiteView) → View c past me v → SiteLawfully c me past (starts_part_of me links e v)
starts_part_fine c me past links None v h l = quiet_fine c me past v h
starts_part_fine c me past links (Some e) v h l = begins_fine c me past links (v.promised.number + 1) (boots_where (part_boot me links e.members)) v h l

pub on_poll_fine : (c : Config) (me : ℕ) (past : List Told) (links : Links) (from from_boot : ℕ) (id : EpochId) (v : SiteView) → View c past me v → SiteLawfully c me past (on_poll me links from from_boot id v)
on_poll_fine c me past links from from_boot id v h =
    elim (is_epoch_below v.promised id) as (λ t. SiteLawfully c me past (elim t [ true ↦ and_then (promises me id (reached links) v) (λ now. sends (promise_packet me links from from_boot id now) now) | false ↦ sends (cond (same_epoch id v.promised && not v.installed) (promise_packet me links from from_boot id v) (refuse_packet me from from_boot id v)) v ])) [
      | true ↦ site_then c me past (promises me id (reached links) v) (λ now. sends (promise_packet me links from from_boot id now) now) (promises_fine c me past id (reached links) v h) (λ k g. plain_fine c me (onto (promises me id (reached links) v).told past) (promises me id (reached links) v).view _ refl refl refl refl refl tt refl (tt, tt) g k.view) refl
      | false ↦ λ l. plain_fine c me past v (sends (cond (same_epoch id v.promised && not v.installed) (promise_packet me links from from_boot id v) (refuse_packet me from from_boot id v)) v) refl refl refl refl refl tt refl (every_cond Bare (same_epoch id v.promised && not v.installed) (promise_packet me links from from_boot id v) (refuse_packet me from from_boot id v) (tt, tt) (tt, tt)) l h
    ]

pub on_promise_fine : (c : Config) (me : ℕ) (past : List Told) (from from_boot : ℕ) (id : EpochId) (reach : Sites) (o : Option Round) (v : SiteView) → View c past me v → SiteLawfully c me past (on_promise_of from from_boot id reach o v)
on_promise_fine c me past from from_boot id reach None v h l = quiet_fine c me past v h
on_promise_fine c me past from from_boot id reach (Some r) v h l = plain_fine c me past v (on_promise_of from from_boot id reach (Some r) v) refl refl refl refl refl tt refl tt l h

pub on_refuse_fine : (c : Config) (me : ℕ) (past : List Told) (links : Links) (id theirs : EpochId) (o : Option Round) (v : SiteView) → View c past me v → SiteLawfully c me past (on_refuse_of me links id theirs o v)
on_refuse_fine c me past links id theirs None v h l = quiet_fine c me past v h
on_refuse_fine c me past links id theirs (Some r) v h l =
    elim (same_epoch r.id id) as (λ t. SiteLawfully c me past (elim t [ true ↦ begins_round me links (theirs.number + 1) r.polled v | false ↦ quiet v ])) [
      | true ↦ begins_fine c me past links (theirs.number + 1) r.polled v h
      | false ↦ λ m. quiet_fine c me past v h
    ] l

pub on_joined_fine : (c : Config) (me : ℕ) (past : List Told) (from : ℕ) (id : EpochId) (v : SiteView) → View c past me v → SiteLawfully c me past (on_joined from id v)
on_joined_fine c me past from id v h =
    elim (is_in id v.epoch) as (λ b. SiteLawfully c me past (quiet (cond b (record v { installs = without_row (λ s. s) from v.installs }) v))) [
      | true ↦ λ l. plain_fine c me past v (quiet (record v { installs = without_row (λ s. s) from v.installs })) refl refl refl refl refl tt refl tt l h
      | false ↦ λ l. quiet_fine c me past v h
    ]
