-- Each event of a site: its tables know each plain grant of their groups, and each grant is locked.
use Rattle.std.proofs.Common.{◌≡◌, ℕ, ◌+◌, true, false, cond, ◌&&◌, not, List, [], ◌∷◌, ◌++◌, map, filter, Option, Some, None, refl, sym, ◌∙◌, subst, inl, inr}
use Rattle.run_laws.proofs.of_plain_facts.Options.{some_same}
use Rattle.locus_ids.specs.Sites.{has}
use Rattle.locus_ids.specs.declared.ids.EpochId.{EpochId}
use Rattle.locus_ids.specs.declared.ids.FileId.{FileId}
use Rattle.locus_ids.specs.declared.ids.Mode.{Mode}
use Rattle.locus_ids.specs.declared.sites.Members.{Members}
use Rattle.locus_ids.specs.declared.sites.Sites.{Sites}
use Rattle.locus_ids.specs.declared.sites.Links.{Links}
use Rattle.locus_ids.specs.declared.config.Config.{Config}
use Rattle.trace_book.specs.Same.{same_epoch}
use Rattle.trace_book.specs.declared.call.Call.TheVariants as call
use Rattle.trace_book.specs.declared.record.Record.TheVariants as says
use Rattle.wire_messages.specs.declared.packet.Packet.{Packet}
use Rattle.wire_messages.specs.declared.body.Body.{Body}
use Rattle.wire_messages.specs.declared.body.Body.TheVariants as body
use Rattle.role_steps.specs.Own.{Every}
use Rattle.role_steps.specs.Tables.{row, without_row, first_that}
use Rattle.role_steps.specs.Views.{Frame, Store, Users, SiteView, Event, Calls, Receives, Ticks, Parts, Merges, GivesUp, Told, Shown, Promises, DiskWrite, Outcome, quiet, sends, tells, and_then, joined_to, first_written, sync_site, pack_sites, all_groups}
use Rattle.role_steps.specs.Reports.{new_table, on_have_of, on_report, on_open, on_look, on_closed, on_have}
use Rattle.role_steps.specs.Opens.{on_opened}
use Rattle.role_steps.specs.Storage.{copy_of}
use Rattle.role_steps.specs.Using.{on_call, reply_record}
use Rattle.role_steps.specs.Versions.{file_row}
use Rattle.role_steps.specs.Epochs.{is_epoch_below, frame_in, with_users, leaves_of, leaves, promises, promised_view, reached, polls, round_id, begins_round, boots_where, part_boot, starts_part_of, starts_part, merge_boot, starts_merge, promise_packet, refuse_packet, on_poll, on_promise_of, on_refuse_of, own_groups, is_sync_site, joins, may_install, is_in, joined_packet, on_install, on_joined, passed_over, unanswered, chosen_members, chosen_set, installs_all, decides_if, passes_over_of, passes_over}
use Rattle.role_steps.specs.Adoption.{notes_own_at, adopt_record, table_group, with_table, with_store, without_pull, is_ready, adopts_pull, adopts_first, with_adopted, fits_own}
use Rattle.role_steps.specs.Mends.{has_mend_in, wants_mend, starts_mend_of, starts_mend, starts_mends_in, row_file}
use Rattle.role_steps.specs.Pulling.{pull_of, pages_in}
use Rattle.role_steps.specs.declared.pulls.Pull.{Pull}
use Rattle.role_steps.specs.declared.rounds.InEpoch.{InEpoch}
use Rattle.role_steps.specs.declared.rounds.Round.{Round}
use Rattle.role_steps.specs.declared.synchronizing.SyncTable.{SyncTable}
use Rattle.role_steps.specs.declared.synchronizing.FileRow.{FileRow}
use Rattle.role_steps.specs.declared.users.WaitingCall.{WaitingCall}
use Rattle.role_steps.proofs.Sending.{every_map}
use Rattle.the_run.specs.Steps.{is_dropped, takes_framed, takes, adopts_in, tries_at, whole, call_frame, epoch_id, takes_call, step, adopts_of, starts_mends_of, ends_event, is_opened_in, takes_inside}
use Rattle.the_run.proofs.InsideSync.{Found, row_found}
use Rattle.run_laws.proofs.Telling.{on_opened_talks, on_open_talks, on_look_talks, on_report_talks, on_closed_talks, on_have_talks}
use Rattle.site_laws.specs.Vectors.Facts.{onto}
use Rattle.site_laws.proofs.Vectors.Facts.{onto_append}
use Rattle.run_laws.specs.FactWalks.Roles.{IsForTable}
use Rattle.run_laws.proofs.FactWalks.Roles.{by_role, stores_by, readers_by, users_by, pulls_by}
use Rattle.site_laws.specs.Locks.Joins.{WasJoined}
use Rattle.site_laws.specs.Locks.Locks.{IsOfAFile}
use Rattle.site_laws.specs.Locks.Grants.{WasGrantedAs}
use Rattle.site_laws.specs.Locks.Synced.{Orderly, SyncedBy}
use Rattle.site_laws.proofs.Locks.GrantSites.{bares_by, put_tables, rising_put, ascending_filter, made_rising, groups_ascend, passing, is_synced, GrantsSynced, GrantsIn, SiteLock, SiteKeeps, orderly_before, synced_after, in_bare, alike, none_bare, plain_site, quiet_site, then_site, in_epoch, group_part, with_part}
use Rattle.site_laws.proofs.Locks.StepFacts.{SiteSilent, notify_silent, page_silent, delta_silent, framed_notify}
use Rattle.site_laws.proofs.Locks.GrantFacts.{on_opened_keeps, on_open_keeps, on_look_keeps, on_report_keeps, on_closed_keeps, have_lock, on_have_keeps}
use Rattle.site_laws.proofs.Locks.GrantTold.{Held, TableLock, Bare, bare_locked}
use Rattle.site_laws.proofs.Locks.BareRoles.{Bares, StoreBare, storing, using, stores, versions, users, on_call_bare}

-- ---- inside the epoch ----

user_site : (c : Config) (me : ℕ) (past : List Told) (v : SiteView) (o : Outcome Users) → Bares o → SiteLock c past me v → SiteKeeps c me past (record { view = with_users v o.view; sent = o.sent; told = o.told; written = o.written })
user_site c me past v o k h = plain_site c me past v (record { view = with_users v o.view; sent = o.sent; told = o.told; written = o.written }) refl refl k.0 (none_bare o.written k.1) h

store_site : (c : Config) (me : ℕ) (past : List Told) (v : SiteView) (o : Outcome Store) → StoreBare o → SiteLock c past me v → SiteKeeps c me past (record { view = with_store v o.view; sent = o.sent; told = o.told; written = o.written })
store_site c me past v o k h = plain_site c me past v (record { view = with_store v o.view; sent = o.sent; told = o.told; written = o.written }) refl refl k.0 k.1 h

tables_site : (c : Config) (me boot : ℕ) (past : List Told) (from : ℕ) (v : SiteView) (e : InEpoch) (x : Body) → IsForTable x → v.epoch ≡ Some e → SiteLock c past me v → SiteKeeps c me past (takes_inside (frame_in c me boot e) from x v)
tables_site c me boot past from v e (body.Report group copies) is here h = group_part c me past (on_report (frame_in c me boot e) from copies) v e group here h (on_report_talks (frame_in c me boot e) from copies) (λ t q k. on_report_keeps c past me e.members (frame_in c me boot e) from copies t k)
tables_site c me boot past from v e (body.Open serial call process request file how) is here h = group_part c me past (on_open (frame_in c me boot e) from (record { serial = serial; call = call; process = process; request = request; file = file; how = how })) v e file.group here h (on_open_talks (frame_in c me boot e) from (record { serial = serial; call = call; process = process; request = request; file = file; how = how })) (λ t q k. on_open_keeps c past me e.members (frame_in c me boot e) from (record { serial = serial; call = call; process = process; request = request; file = file; how = how }) t (sym q) k)
tables_site c me boot past from v e (body.Opened inst answer) is here h = with_part c me past (on_opened (frame_in c me boot e) inst answer) v e (is_opened_in inst) here h (on_opened_talks (frame_in c me boot e) inst answer) (λ t k. on_opened_keeps c past me e.members (frame_in c me boot e) inst answer t k)
tables_site c me boot past from v e (body.Closed inst made) is here h = with_part c me past (on_closed (frame_in c me boot e) from inst made) v e (is_opened_in inst) here h (on_closed_talks (frame_in c me boot e) from inst made) (λ t k. on_closed_keeps c past me e.members (frame_in c me boot e) from inst made t k)
tables_site c me boot past from v e (body.Look call process request take file what) is here h = group_part c me past (on_look (frame_in c me boot e) from (record { call = call; process = process; request = request; take = take; file = file; what = what })) v e file.group here h (on_look_talks (frame_in c me boot e) from (record { call = call; process = process; request = request; take = take; file = file; what = what })) (λ t q k. on_look_keeps c past me e.members (frame_in c me boot e) from (record { call = call; process = process; request = request; take = take; file = file; what = what }) t k)
tables_site c me boot past from v e (body.Have file stamp) is here h = group_part c me past (on_have from file stamp) v e file.group here h (on_have_talks from file stamp) (λ t q k. on_have_keeps c past me e.members (frame_in c me boot e) from file stamp t k)
tables_site c me boot past from v e _ is here h = absurd is

inside_site : (c : Config) (me boot : ℕ) (past : List Told) (from : ℕ) (v : SiteView) (e : InEpoch) (x : Body) → v.epoch ≡ Some e → SiteLock c past me v → SiteKeeps c me past (takes_inside (frame_in c me boot e) from x v)
inside_site c me boot past from v e x here h =
    by_role Q f from v (record {
      tables = λ y is. tables_site c me boot past from v e y is here h;
      stores = stores_by Q storing f from v (stores f) versions (λ y o is p. store_site c me past v o (p.1, p.2) h);
      readers = readers_by Q storing f from v (stores f).reads (λ b is. tt) (λ y o is same p. store_site c me past v o (p.1, p.2) h);
      users = users_by Q using f from v (users f) (λ y o is p. user_site c me past v o (p.1, p.2) h);
      pulls = pulls_by Q storing f from v (stores f).reads (λ b is. tt) (λ y o is p. plain_site c me past v _ refl refl p.1 p.2 h);
      reported = λ group. plain_site c me past v _ refl refl tt tt h;
      forming = λ y is. quiet_site c me past v h;
    }) x
  where
    f : Frame
    f = frame_in c me boot e

    Q : Body → Outcome SiteView → Type 0
    Q y o = SiteKeeps c me past o

-- ---- adoptions and mends ----

noted_site : (c : Config) (me : ℕ) (now : List Told) (f : Frame) (p : Pull) (e : InEpoch) (o : Option SyncTable) (v : SiteView) → v.epoch ≡ Some e → Found (TableLock c now me e.id e.members) o → GrantsIn c now me v (Some e) → SiteLock c now me (notes_own_at f p o v)
noted_site c me now f p e None v here k q = subst (GrantsIn c now me v) (sym here) q
noted_site c me now f p e (Some t) v here k q =
    let new : SyncTable = on_have_of f.me p.stamp (file_row t p.file.ino) t in
    subst (GrantsIn c now me (with_table new v)) (sym here) (q.0, put_tables (TableLock c now me e.id e.members) (TableLock c now me e.id e.members) new v.tables q.2 (have_lock c now me e.id e.members f.me p.stamp (file_row t p.file.ino) t k) (λ u ne old. old) q.1, rising_put new v.tables q.2)

adopts_pull_site : (c : Config) (me : ℕ) (past : List Told) (f : Frame) (p : Pull) (e : InEpoch) (v : SiteView) → v.epoch ≡ Some e → SiteLock c past me v → SiteKeeps c me past (adopts_pull f p v)
adopts_pull_site c me past f p e v here h =
    let x : Told = Shown (adopt_record f p) in
    let w : SiteView = with_adopted p v in
    let q : GrantsIn c (x ∷ past) me v (Some e) = in_bare c (x ∷ []) past me v (Some e) (tt, tt) (in_epoch c past me v e here h) in
    record { view = noted_site c me (x ∷ past) f p e (row table_group p.file.group v.tables) w here (row_found (TableLock c (x ∷ past) me e.id e.members) table_group p.file.group v.tables q.1) q; by = (tt, tt); locked = (tt, tt); written = tt }

adopts_first_site : (c : Config) (me : ℕ) (past : List Told) (f : Frame) (ps : List Pull) (e : InEpoch) (v : SiteView) → v.epoch ≡ Some e → SiteLock c past me v → SiteKeeps c me past (adopts_first f ps v)
adopts_first_site c me past f [] e v here h = quiet_site c me past v h
adopts_first_site c me past f (p ∷ ps) e v here h =
    elim (is_ready v p) as (λ t. SiteKeeps c me past (elim t [ true ↦ elim (fits_own p (copy_of v.store p.file)) [ true ↦ adopts_pull f p v | false ↦ adopts_first f ps (without_pull p v) ] | false ↦ adopts_first f ps v ])) [
      | true ↦ elim (fits_own p (copy_of v.store p.file)) as (λ t. SiteKeeps c me past (elim t [ true ↦ adopts_pull f p v | false ↦ adopts_first f ps (without_pull p v) ])) [
        | true ↦ adopts_pull_site c me past f p e v here h
        | false ↦ adopts_first_site c me past f ps e (without_pull p v) here (alike c past me v (without_pull p v) refl refl h)
      ]
      | false ↦ adopts_first_site c me past f ps e v here h
    ]

adopts_site : (c : Config) (me : ℕ) (past : List Told) (o : Option InEpoch) (v : SiteView) → v.epoch ≡ o → SiteLock c past me v → SiteKeeps c me past (adopts_of c me o v)
adopts_site c me past None v here h = quiet_site c me past v h
adopts_site c me past (Some e) v here h = adopts_first_site c me past (frame_in c me v.boot e) v.pulls e v here h

mend_site : (c : Config) (me : ℕ) (past : List Told) (f : Frame) (t : SyncTable) (o : Option FileRow) (v : SiteView) → SiteLock c past me v → SiteKeeps c me past (starts_mend_of f t o v)
mend_site c me past f t None v h = quiet_site c me past v h
mend_site c me past f t (Some r) v h = user_site c me past v (on_call f (Some f.epoch) 0 (call.Mend (row_file t r)) v.users) (on_call_bare f (Some f.epoch) 0 (call.Mend (row_file t r)) v.users) h

starts_mend_site : (c : Config) (me : ℕ) (past : List Told) (f : Frame) (t : SyncTable) (v : SiteView) → SiteLock c past me v → SiteKeeps c me past (starts_mend f t v)
starts_mend_site c me past f t v h =
    elim (t.started && not (has_mend_in v.users t.group)) as (λ x. SiteKeeps c me past (elim x [ true ↦ starts_mend_of f t (first_that (wants_mend v t) t.files) v | false ↦ quiet v ])) [
      | true ↦ mend_site c me past f t (first_that (wants_mend v t) t.files) v h
      | false ↦ quiet_site c me past v h
    ]

mends_site : (c : Config) (me : ℕ) (past : List Told) (f : Frame) (ts : List SyncTable) (v : SiteView) → SiteLock c past me v → SiteKeeps c me past (starts_mends_in f ts v)
mends_site c me past f [] v h = quiet_site c me past v h
mends_site c me past f (t ∷ ts) v h =
    let o : Outcome SiteView = starts_mend f t v in
    let k : SiteKeeps c me past o = starts_mend_site c me past f t v h in
    then_site c me past o (starts_mends_in f ts o.view) k (mends_site c me (onto o.told past) f ts o.view k.view)

mends_of_site : (c : Config) (me : ℕ) (past : List Told) (o : Option InEpoch) (v : SiteView) → SiteLock c past me v → SiteKeeps c me past (starts_mends_of c me o v)
mends_of_site c me past None v h = quiet_site c me past v h
mends_of_site c me past (Some e) v h = mends_site c me past (frame_in c me v.boot e) v.tables v h

-- ---- how an epoch is formed ----

leaves_site : (c : Config) (me : ℕ) (past : List Told) (e : Option InEpoch) (v : SiteView) → SiteLock c past me v → SiteKeeps c me past (leaves_of me e v)
leaves_site c me past None v h = quiet_site c me past v h
leaves_site c me past (Some e) v h =
    let told : List Told = (leaves_of me (Some e) v).told in
    let bare : Every Bare told = (tt, every_map Bare (λ (w : WaitingCall). reply_record me v.boot w _) v.users.waiting (λ w. tt)) in
    record { view = refl; by = bares_by c (onto told past) me told bare; locked = bare_locked past told bare; written = tt }

promises_site : (c : Config) (me : ℕ) (past : List Told) (id : EpochId) (reach : Sites) (v : SiteView) → SiteLock c past me v → SiteKeeps c me past (promises me id reach v)
promises_site c me past id reach v h =
    let o : Outcome SiteView = leaves me v in
    let k : SiteKeeps c me past o = leaves_site c me past v.epoch v h in
    then_site c me past o (tells (Promises me id reach ∷ []) (promised_view id o.view)) k (plain_site c me (onto o.told past) o.view _ refl refl (tt, tt) tt k.view)

begins_site : (c : Config) (me : ℕ) (past : List Told) (links : Links) (number : ℕ) (polled : Links) (v : SiteView) → SiteLock c past me v → SiteKeeps c me past (begins_round me links number polled v)
begins_site c me past links number polled v h =
    let o : Outcome SiteView = promises me (round_id me number v) (reached links) v in
    let k : SiteKeeps c me past o = promises_site c me past (round_id me number v) (reached links) v h in
    then_site c me past o (polls me (round_id me number v) polled o.view) k (plain_site c me (onto o.told past) o.view _ refl refl tt tt k.view)

starts_part_site : (c : Config) (me : ℕ) (past : List Told) (links : Links) (e : Option InEpoch) (v : SiteView) → SiteLock c past me v → SiteKeeps c me past (starts_part_of me links e v)
starts_part_site c me past links None v h = quiet_site c me past v h
starts_part_site c me past links (Some e) v h = begins_site c me past links (v.promised.number + 1) (boots_where (part_boot me links e.members)) v h

on_poll_site : (c : Config) (me : ℕ) (past : List Told) (links : Links) (from from_boot : ℕ) (id : EpochId) (v : SiteView) → SiteLock c past me v → SiteKeeps c me past (on_poll me links from from_boot id v)
on_poll_site c me past links from from_boot id v h =
    let o : Outcome SiteView = promises me id (reached links) v in
    let k : SiteKeeps c me past o = promises_site c me past id (reached links) v h in
    elim (is_epoch_below v.promised id) as (λ t. SiteKeeps c me past (elim t [ true ↦ and_then (promises me id (reached links) v) (λ now. sends (promise_packet me links from from_boot id now) now) | false ↦ sends (cond (same_epoch id v.promised && not v.installed) (promise_packet me links from from_boot id v) (refuse_packet me from from_boot id v)) v ])) [
      | true ↦ then_site c me past o (sends (promise_packet me links from from_boot id o.view) o.view) k (plain_site c me (onto o.told past) o.view _ refl refl tt tt k.view)
      | false ↦ plain_site c me past v _ refl refl tt tt h
    ]

on_promise_site : (c : Config) (me : ℕ) (past : List Told) (from from_boot : ℕ) (id : EpochId) (reach : Sites) (o : Option Round) (v : SiteView) → SiteLock c past me v → SiteKeeps c me past (on_promise_of from from_boot id reach o v)
on_promise_site c me past from from_boot id reach None v h = quiet_site c me past v h
on_promise_site c me past from from_boot id reach (Some r) v h = plain_site c me past v _ refl refl tt tt h

on_refuse_site : (c : Config) (me : ℕ) (past : List Told) (links : Links) (id theirs : EpochId) (o : Option Round) (v : SiteView) → SiteLock c past me v → SiteKeeps c me past (on_refuse_of me links id theirs o v)
on_refuse_site c me past links id theirs None v h = quiet_site c me past v h
on_refuse_site c me past links id theirs (Some r) v h =
    elim (same_epoch r.id id) as (λ t. SiteKeeps c me past (elim t [ true ↦ begins_round me links (theirs.number + 1) r.polled v | false ↦ quiet v ])) [
      | true ↦ begins_site c me past links (theirs.number + 1) r.polled v h
      | false ↦ quiet_site c me past v h
    ]

-- ---- joining ----

mapped : (Q : SyncTable → Type 0) (gs : List ℕ) → Every (λ (g : ℕ). Q (new_table g)) gs → Every Q (map new_table gs)
mapped Q [] h = tt
mapped Q (g ∷ gs) h = (h.0, mapped Q gs h.1)

joins_site : (c : Config) (me : ℕ) (past : List Told) (id : EpochId) (m : Members) (v : SiteView) → GrantsSynced c past → Orderly (onto (joins c me id m v).told past) → SiteKeeps c me past (joins c me id m v)
joins_site c me past id m v synced order = record {
  view = (inl (refl, refl, refl), mapped lock (filter (is_sync_site c me m) (own_groups c me)) (passing (λ (g : ℕ). lock (new_table g)) (is_sync_site c me m) (own_groups c me) made), made_rising (filter (is_sync_site c me m) (own_groups c me)) (ascending_filter (is_sync_site c me m) (own_groups c me) (ascending_filter (λ (g : ℕ). has (pack_sites c g) me) all_groups groups_ascend)));
  by = (tt, tt);
  locked = (tt, tt);
  written = tt;
}
  where
    x : Told
    x = Shown (says.Join me id m)

    lock : SyncTable → Type 0
    lock t = TableLock c (x ∷ past) me id m t

    -- no plain grant was told in an epoch that the site joins only now
    never : (g : ℕ) → sync_site c m g ≡ Some me → (key : ℕ) (file : FileId) (n : Mode) → IsOfAFile n → file.group ≡ g → WasGrantedAs past id key file n → ⊥
    never g s key file n it group k = by_site (synced id key file n it k)
      where
        by_site : (t : ℕ) × SyncedBy c past id file.group t → ⊥
        by_site r =
            let k : SyncedBy c past id file.group r.0 = r.1 in
            let same : k.members ≡ m = order.one r.0 me id k.members m (inr k.joined) (inl (refl, refl, refl)) in
            let here : sync_site c m g ≡ Some r.0 = subst (λ (n : ℕ). sync_site c m n ≡ Some r.0) group (subst (λ (n : Members). sync_site c n file.group ≡ Some r.0) same k.synced) in
            let t_is : r.0 ≡ me = some_same r.0 me (sym here ∙ s) in
            order.once.0 k.members (subst (λ (t : ℕ). WasJoined past t id k.members) t_is k.joined)

    told : (g : ℕ) → sync_site c m g ≡ Some me → (key : ℕ) (file : FileId) (n : Mode) → IsOfAFile n → file.group ≡ g → WasGrantedAs (x ∷ past) id key file n → Held (x ∷ past) id (new_table g) key file n
    told g s key file n it group (inl k) = absurd k
    told g s key file n it group (inr k) = absurd (never g s key file n it group k)

    made : (g : ℕ) → is_sync_site c me m g ≡ true → lock (new_table g)
    made g h = record { synced = is_synced c me m g h; complete = λ key file n it group k. told g (is_synced c me m g h) key file n it group k; early = tt }

first_order : (a b past : List Told) → Orderly (onto (a ++ b) past) → Orderly (onto a past)
first_order a b past h = orderly_before b (onto a past) (subst Orderly (onto_append a b past) h)

last_order : (a b past : List Told) → Orderly (onto (a ++ b) past) → Orderly (onto b (onto a past))
last_order a b past h = subst Orderly (onto_append a b past) h

-- what an outcome keeps where what it tells is orderly
abbrev InOrder : Config → ℕ → List Told → Outcome SiteView → Type 0
InOrder c me past o = Orderly (onto o.told past) → SiteKeeps c me past o

on_install_site : (c : Config) (me : ℕ) (past : List Told) (from from_boot : ℕ) (id : EpochId) (m : Members) (v : SiteView) → GrantsSynced c past → Orderly (onto (on_install c me from from_boot id m v).told past) → SiteLock c past me v → SiteKeeps c me past (on_install c me from from_boot id m v)
on_install_site c me past from from_boot id m v synced order h =
    (elim (may_install me id m v) as (λ t. InOrder c me past (elim t [ true ↦ and_then (joins c me id m v) (λ now. sends (joined_packet me from from_boot id now) now) | false ↦ sends (cond (is_in id v.epoch) (joined_packet me from from_boot id v) []) v ])) [
      | true ↦ λ o. joined o
      | false ↦ λ o. plain_site c me past v _ refl refl tt tt h
    ]) order
  where
    joined : Orderly (onto (and_then (joins c me id m v) (λ now. sends (joined_packet me from from_boot id now) now)).told past) → SiteKeeps c me past (and_then (joins c me id m v) (λ now. sends (joined_packet me from from_boot id now) now))
    joined o =
        let k : SiteKeeps c me past (joins c me id m v) = joins_site c me past id m v synced (first_order (joins c me id m v).told [] past o) in
        then_site c me past (joins c me id m v) (sends (joined_packet me from from_boot id (joins c me id m v).view) (joins c me id m v).view) k (plain_site c me (onto (joins c me id m v).told past) (joins c me id m v).view _ refl refl tt tt k.view)

on_joined_site : (c : Config) (me : ℕ) (past : List Told) (from : ℕ) (id : EpochId) (v : SiteView) → SiteLock c past me v → SiteKeeps c me past (on_joined from id v)
on_joined_site c me past from id v h =
    elim (is_in id v.epoch) as (λ b. SiteKeeps c me past (quiet (cond b (record v { installs = without_row (λ s. s) from v.installs }) v))) [
      | true ↦ plain_site c me past v (quiet (record v { installs = without_row (λ s. s) from v.installs })) refl refl tt tt h
      | false ↦ quiet_site c me past v h
    ]

decides_if_site : (c : Config) (me : ℕ) (past : List Told) (links : Links) (q : Round) (xs : List ℕ) (v : SiteView) → GrantsSynced c past → Orderly (onto (decides_if c me links q xs v).told past) → SiteLock c past me v → SiteKeeps c me past (decides_if c me links q xs v)
decides_if_site c me past links q [] v synced order h =
    let m : Members = chosen_members me v.boot q (chosen_set me links q) in
    let o : Outcome SiteView = joins c me q.id m v in
    let k : SiteKeeps c me past o = joins_site c me past q.id m v synced (first_order o.told [] past order) in
    then_site c me past o (installs_all me q.id m o.view) k (plain_site c me (onto o.told past) o.view _ refl refl tt tt k.view)
decides_if_site c me past links q (x ∷ xs) v synced order h = plain_site c me past v _ refl refl tt tt h

passes_over_site : (c : Config) (me : ℕ) (past : List Told) (links : Links) (o : Option Round) (v : SiteView) → GrantsSynced c past → Orderly (onto (passes_over_of c me links o v).told past) → SiteLock c past me v → SiteKeeps c me past (passes_over_of c me links o v)
passes_over_site c me past links None v synced order h = quiet_site c me past v h
passes_over_site c me past links (Some r) v synced order h = decides_if_site c me past links (passed_over links r) (unanswered (passed_over links r)) v synced order h

-- ---- the step ----

ends_site : (c : Config) (me : ℕ) (past : List Told) (links : Links) (v : SiteView) → GrantsSynced c past → Orderly (onto (ends_event c me links v).told past) → SiteLock c past me v → SiteKeeps c me past (ends_event c me links v)
ends_site c me past links v synced order h =
    let o : Outcome SiteView = passes_over c me links v in
    let k : SiteKeeps c me past o = passes_over_site c me past links v.round v synced (first_order o.told (starts_mends_of c me o.view.epoch o.view).told past order) h in
    then_site c me past o (starts_mends_of c me o.view.epoch o.view) k (mends_of_site c me (onto o.told past) o.view.epoch o.view k.view)

framed_site : (c : Config) (me : ℕ) (past : List Told) (p : Packet) (o : Option InEpoch) (v : SiteView) → v.epoch ≡ o → SiteLock c past me v → SiteKeeps c me past (takes_framed c me p o v)
framed_site c me past p None v here h = quiet_site c me past v h
framed_site c me past p (Some e) v here h = inside_site c me v.boot past p.from v e p.body here h

-- where no adoption is tried
untried_site : (c : Config) (me : ℕ) (past : List Told) (links : Links) (o : Outcome SiteView) → GrantsSynced c past → Orderly (onto (whole c me links o quiet).told past) → SiteKeeps c me past o → SiteKeeps c me past (whole c me links o quiet)
untried_site c me past links o synced order h =
    let last : Outcome SiteView = ends_event c me links o.view in
    let f : SiteKeeps c me past (joined_to o last) = then_site c me past o last h (ends_site c me (onto o.told past) links o.view (synced_after c me o.told past h.by synced) (last_order o.told last.told past order) h.view) in
    record { view = f.view; by = f.by; locked = f.locked; written = f.written }

-- an adoption, and the end of the event
adopted_site : (c : Config) (me : ℕ) (past : List Told) (links : Links) (v : SiteView) → GrantsSynced c past → Orderly (onto ((adopts_in c me v).told ++ (ends_event c me links (adopts_in c me v).view).told) past) → SiteLock c past me v → SiteKeeps c me past (joined_to (adopts_in c me v) (ends_event c me links (adopts_in c me v).view))
adopted_site c me past links v synced order h =
    let a : Outcome SiteView = adopts_in c me v in
    let k : SiteKeeps c me past a = adopts_site c me past v.epoch v refl h in
    then_site c me past a (ends_event c me links a.view) k (ends_site c me (onto a.told past) links a.view (synced_after c me a.told past k.by synced) (last_order a.told (ends_event c me links a.view).told past order) k.view)

tried_site : (c : Config) (me : ℕ) (past : List Told) (links : Links) (o : Outcome SiteView) → SiteSilent o → GrantsSynced c past → Orderly (onto (whole c me links o (adopts_in c me)).told past) → SiteKeeps c me past o → SiteKeeps c me past (whole c me links o (adopts_in c me))
tried_site c me past links o silent synced order h =
    let a : Outcome SiteView = adopts_in c me o.view in
    let last : Outcome SiteView = ends_event c me links a.view in
    let view : SiteLock c past me o.view = subst (λ (told : List Told). SiteLock c (onto told past) me o.view) silent.0 h.view in
    let ordered : Orderly (onto (a.told ++ last.told) past) = subst (λ (told : List Told). Orderly (onto (a.told ++ (told ++ last.told)) past)) silent.0 order in
    let f : SiteKeeps c me past (joined_to a last) = adopted_site c me past links o.view synced ordered view in
    subst (λ (told : List Told). SiteKeeps c me past (record { view = last.view; sent = (whole c me links o (adopts_in c me)).sent; told = a.told ++ (told ++ last.told); written = first_written a.written (first_written o.written last.written) })) (sym silent.0)
    (subst (λ (w : Option DiskWrite). SiteKeeps c me past (record { view = last.view; sent = (whole c me links o (adopts_in c me)).sent; told = a.told ++ last.told; written = first_written a.written (first_written w last.written) })) (sym silent.1)
    (record { view = f.view; by = f.by; locked = f.locked; written = f.written }))

received_site : (c : Config) (me : ℕ) (past : List Told) (links : Links) (p : Packet) (x : Body) (v : SiteView) → p.body ≡ x → GrantsSynced c past → Orderly (onto (whole c me links (takes c me links p x v) (tries_at c me x)).told past) → SiteLock c past me v → SiteKeeps c me past (whole c me links (takes c me links p x v) (tries_at c me x))
received_site c me past links p body.Poll v q synced order h = untried_site c me past links _ synced order (on_poll_site c me past links p.from p.from_boot p.epoch v h)
received_site c me past links p (body.Promise reach) v q synced order h = untried_site c me past links _ synced order (on_promise_site c me past p.from p.from_boot p.epoch reach v.round v h)
received_site c me past links p (body.Refuse promised) v q synced order h = untried_site c me past links _ synced order (on_refuse_site c me past links p.epoch promised v.round v h)
received_site c me past links p (body.Install members) v q synced order h = untried_site c me past links _ synced order (on_install_site c me past p.from p.from_boot p.epoch members v synced (first_order (on_install c me p.from p.from_boot p.epoch members v).told (ends_event c me links (on_install c me p.from p.from_boot p.epoch members v).view).told past order) h)
received_site c me past links p body.Joined v q synced order h = untried_site c me past links _ synced order (on_joined_site c me past p.from p.epoch v h)
received_site c me past links p (body.Notify file kind set size stamp vector holder) v q synced order h = tried_site c me past links (takes_framed c me p v.epoch v) (framed_notify c me p (body.Notify file kind set size stamp vector holder) v.epoch v q (λ f. notify_silent f p.from (copy_of v.store file) (record { file = file; kind = kind; set = set; size = size; stamp = stamp; vector = vector; holder = holder; base = None; wanted = None; content = [] }) v.pulls)) synced order (framed_site c me past p v.epoch v refl h)
received_site c me past links p (body.Page file stamp page bytes) v q synced order h = tried_site c me past links (takes_framed c me p v.epoch v) (framed_notify c me p (body.Page file stamp page bytes) v.epoch v q (λ f. page_silent f stamp page bytes (pull_of v.pulls file) v.pulls)) synced order (framed_site c me past p v.epoch v refl h)
received_site c me past links p (body.Delta file wanted pages) v q synced order h = tried_site c me past links (takes_framed c me p v.epoch v) (framed_notify c me p (body.Delta file wanted pages) v.epoch v q (λ f. delta_silent f (pages_in (copy_of v.store file)) wanted pages (pull_of v.pulls file) v.pulls)) synced order (framed_site c me past p v.epoch v refl h)
received_site c me past links p _ v q synced order h = untried_site c me past links (takes_framed c me p v.epoch v) synced order (framed_site c me past p v.epoch v refl h)

pub step_site : (c : Config) (me : ℕ) (past : List Told) (links : Links) (v : SiteView) (e : Event) → GrantsSynced c past → Orderly (onto (step c me links v e).told past) → SiteLock c past me v → SiteKeeps c me past (step c me links v e)
step_site c me past links v (Calls process words) synced order h =
    untried_site c me past links (takes_call c me process words v) synced order
    (user_site c me past v (on_call (call_frame c me v.boot v.epoch) (epoch_id v.epoch) process words v.users) (on_call_bare (call_frame c me v.boot v.epoch) (epoch_id v.epoch) process words v.users) h)
step_site c me past links v (Receives p) synced order h =
    (elim (is_dropped p v) as (λ t. InOrder c me past (elim t [ true ↦ quiet v | false ↦ whole c me links (takes c me links p p.body v) (tries_at c me p.body) ])) [
      | true ↦ λ o. quiet_site c me past v h
      | false ↦ λ o. received_site c me past links p p.body v refl synced o h
    ]) order
step_site c me past links v Ticks synced order h = let f : SiteKeeps c me past (joined_to (adopts_in c me v) (ends_event c me links (adopts_in c me v).view)) = adopted_site c me past links v synced order h in record { view = f.view; by = f.by; locked = f.locked; written = f.written }
step_site c me past links v Parts synced order h = untried_site c me past links (starts_part me links v) synced order (starts_part_site c me past links v.epoch v h)
step_site c me past links v Merges synced order h = untried_site c me past links (starts_merge me links v) synced order (begins_site c me past links (v.promised.number + 1) (boots_where (merge_boot me links)) v h)
step_site c me past links v GivesUp synced order h = untried_site c me past links (leaves me v) synced order (leaves_site c me past v.epoch v h)
