-- Each event of a site: its tables know no file that is being made.
use Rattle.std.proofs.Common.{◌≡◌, ℕ, ◌+◌, true, false, cond, ◌&&◌, not, List, [], ◌∷◌, ◌++◌, map, filter, Option, Some, None, refl, sym, ◌∙◌, subst, inl, inr}
use Rattle.role_steps.proofs.of_plain_facts.Options.{some_same}
use Rattle.role_steps.proofs.of_plain_facts.Tests.{false_true}
use Rattle.locus_ids.specs.Sites.{has}
use Rattle.locus_ids.specs.declared.ids.EpochId.{EpochId}
use Rattle.locus_ids.specs.declared.ids.FileId.{FileId}
use Rattle.locus_ids.specs.declared.sites.Members.{Members}
use Rattle.locus_ids.specs.declared.sites.Sites.{Sites}
use Rattle.locus_ids.specs.declared.sites.Links.{Links}
use Rattle.locus_ids.specs.declared.config.Config.{Config}
use Rattle.trace_book.specs.Same.{same_epoch}
use Rattle.trace_book.specs.declared.call.Call.TheVariants as call
use Rattle.trace_book.specs.declared.record.Record.TheVariants as says
use Rattle.wire_messages.specs.declared.packet.Packet.{Packet}
use Rattle.wire_messages.specs.declared.body.Body.{Body}
use Rattle.wire_messages.specs.declared.body.Body.TheVariants as body
use Rattle.role_steps.specs.Own.{Every}
use Rattle.role_steps.specs.Tables.{row, without_row, first_that}
use Rattle.role_steps.specs.Views.{Frame, SiteView, Event, Calls, Receives, Ticks, Parts, Merges, GivesUp, Told, Shown, Promises, DiskWrite, Outcome, quiet, sends, tells, and_then, joined_to, first_written, sync_site, pack_sites, all_groups}
use Rattle.role_steps.specs.Reports.{new_table, on_have_of}
use Rattle.role_steps.specs.Storage.{copy_of}
use Rattle.role_steps.specs.Using.{on_call, reply_record}
use Rattle.role_steps.specs.Versions.{file_row}
use Rattle.role_steps.specs.Epochs.{is_epoch_below, frame_in, leaves_of, leaves, promises, promised_view, reached, polls, round_id, begins_round, boots_where, part_boot, starts_part_of, starts_part, merge_boot, starts_merge, promise_packet, refuse_packet, on_poll, on_promise_of, on_refuse_of, own_groups, is_sync_site, joins, may_install, is_in, joined_packet, on_install, on_joined, passed_over, unanswered, chosen_members, chosen_set, installs_all, decides_if, passes_over_of, passes_over}
use Rattle.role_steps.specs.Adoption.{notes_own_at, adopt_record, table_group, with_table, without_pull, is_ready, adopts_pull, adopts_first, with_adopted, fits_own}
use Rattle.role_steps.specs.Mends.{has_mend_in, wants_mend, starts_mend_of, starts_mend, starts_mends_in, row_file}
use Rattle.role_steps.specs.Pulling.{pull_of, pages_in}
use Rattle.role_steps.specs.declared.pulls.Pull.{Pull}
use Rattle.role_steps.specs.declared.rounds.InEpoch.{InEpoch}
use Rattle.role_steps.specs.declared.rounds.Round.{Round}
use Rattle.role_steps.specs.declared.synchronizing.SyncTable.{SyncTable}
use Rattle.role_steps.specs.declared.synchronizing.FileRow.{FileRow}
use Rattle.role_steps.specs.declared.users.WaitingCall.{WaitingCall}
use Rattle.role_steps.proofs.Sending.{every_map}
use Rattle.the_run.specs.Steps.{is_dropped, takes_framed, takes, adopts_in, tries_at, whole, call_frame, epoch_id, takes_call, step, adopts_of, starts_mends_of, ends_event}
use Rattle.the_run.proofs.InsideSync.{Found, row_found}
use Rattle.site_laws.specs.Vectors.Facts.{onto}
use Rattle.site_laws.proofs.Vectors.Facts.{onto_append}
use Rattle.site_laws.specs.Locks.Joins.{WasJoined}
use Rattle.site_laws.proofs.Locks.StepFacts.{SiteSilent, notify_silent, page_silent, delta_silent, framed_notify}
use Rattle.site_laws.specs.Vectors.Written.{WasTold}
use Rattle.site_laws.specs.Locks.Going.{WasStarted}
use Rattle.site_laws.specs.Locks.Synced.{SyncedBy}
use Rattle.site_laws.proofs.Locks.GrantSites.{put_tables, rising_put, ascending_filter, made_rising, groups_ascend, passing, is_synced}
use Rattle.site_laws.specs.Makes.Tables.{ReleasedOn, HasEnded, TableMade, Ordered}
use Rattle.site_laws.proofs.Makes.Telling.{Tabular, Aside}
use Rattle.site_laws.proofs.Makes.RolesTell.{on_call_idle}
use Rattle.site_laws.proofs.Makes.TableTold.{ordered_before, started_tabular, released_tabular}
use Rattle.site_laws.proofs.Makes.TableCloses.{have_made}
use Rattle.site_laws.proofs.Makes.MakeSites.{TabularsSynced, asides_by, aside_plain, MadeIn, SiteMade, SiteKeeps, synced_after, in_aside, alike, plain_site, quiet_site, then_site, in_epoch}
use Rattle.site_laws.proofs.Makes.MakeInside.{BodyMade, user_site, inside_site}

-- ---- adoptions and mends ----

noted_site : (c : Config) (me : ℕ) (now : List Told) (f : Frame) (p : Pull) (e : InEpoch) (o : Option SyncTable) (v : SiteView) → v.epoch ≡ Some e → Found (TableMade c now me e.id e.members) o → MadeIn c now me v (Some e) → SiteMade c now me (notes_own_at f p o v)
noted_site c me now f p e None v here k q = subst (MadeIn c now me v) (sym here) q
noted_site c me now f p e (Some t) v here k q =
    let new : SyncTable = on_have_of f.me p.stamp (file_row t p.file.ino) t in
    subst (MadeIn c now me (with_table new v)) (sym here) (q.0, put_tables (TableMade c now me e.id e.members) (TableMade c now me e.id e.members) new v.tables q.2 (have_made c now me e.id e.members f.me p.file.ino p.stamp t k) (λ u ne old. old) q.1, rising_put new v.tables q.2)

adopts_pull_site : (c : Config) (me : ℕ) (past : List Told) (f : Frame) (p : Pull) (e : InEpoch) (v : SiteView) → v.epoch ≡ Some e → SiteMade c past me v → SiteKeeps c me past (adopts_pull f p v)
adopts_pull_site c me past f p e v here h =
    let x : Told = Shown (adopt_record f p) in
    let w : SiteView = with_adopted p v in
    let q : MadeIn c (x ∷ past) me v (Some e) = in_aside c (x ∷ []) past me v (Some e) (tt, tt) (in_epoch c past me v e here h) in
    record { view = noted_site c me (x ∷ past) f p e (row table_group p.file.group v.tables) w here (row_found (TableMade c (x ∷ past) me e.id e.members) table_group p.file.group v.tables q.1) q; by = ((λ i g y. absurd y), tt); plain = (tt, tt) }

adopts_first_site : (c : Config) (me : ℕ) (past : List Told) (f : Frame) (ps : List Pull) (e : InEpoch) (v : SiteView) → v.epoch ≡ Some e → SiteMade c past me v → SiteKeeps c me past (adopts_first f ps v)
adopts_first_site c me past f [] e v here h = quiet_site c me past v h
adopts_first_site c me past f (p ∷ ps) e v here h =
    elim (is_ready v p) as (λ t. SiteKeeps c me past (elim t [ true ↦ elim (fits_own p (copy_of v.store p.file)) [ true ↦ adopts_pull f p v | false ↦ adopts_first f ps (without_pull p v) ] | false ↦ adopts_first f ps v ])) [
      | true ↦ elim (fits_own p (copy_of v.store p.file)) as (λ t. SiteKeeps c me past (elim t [ true ↦ adopts_pull f p v | false ↦ adopts_first f ps (without_pull p v) ])) [
        | true ↦ adopts_pull_site c me past f p e v here h
        | false ↦ adopts_first_site c me past f ps e (without_pull p v) here (alike c past me v (without_pull p v) refl refl h)
      ]
      | false ↦ adopts_first_site c me past f ps e v here h
    ]

adopts_site : (c : Config) (me : ℕ) (past : List Told) (o : Option InEpoch) (v : SiteView) → v.epoch ≡ o → SiteMade c past me v → SiteKeeps c me past (adopts_of c me o v)
adopts_site c me past None v here h = quiet_site c me past v h
adopts_site c me past (Some e) v here h = adopts_first_site c me past (frame_in c me v.boot e) v.pulls e v here h

mend_site : (c : Config) (me : ℕ) (past : List Told) (f : Frame) (t : SyncTable) (o : Option FileRow) (v : SiteView) → SiteMade c past me v → SiteKeeps c me past (starts_mend_of f t o v)
mend_site c me past f t None v h = quiet_site c me past v h
mend_site c me past f t (Some r) v h = user_site c me past v (on_call f (Some f.epoch) 0 (call.Mend (row_file t r)) v.users) (on_call_idle f (Some f.epoch) 0 (call.Mend (row_file t r)) v.users) h

starts_mend_site : (c : Config) (me : ℕ) (past : List Told) (f : Frame) (t : SyncTable) (v : SiteView) → SiteMade c past me v → SiteKeeps c me past (starts_mend f t v)
starts_mend_site c me past f t v h =
    elim (t.started && not (has_mend_in v.users t.group)) as (λ x. SiteKeeps c me past (elim x [ true ↦ starts_mend_of f t (first_that (wants_mend v t) t.files) v | false ↦ quiet v ])) [
      | true ↦ mend_site c me past f t (first_that (wants_mend v t) t.files) v h
      | false ↦ quiet_site c me past v h
    ]

mends_site : (c : Config) (me : ℕ) (past : List Told) (f : Frame) (ts : List SyncTable) (v : SiteView) → SiteMade c past me v → SiteKeeps c me past (starts_mends_in f ts v)
mends_site c me past f [] v h = quiet_site c me past v h
mends_site c me past f (t ∷ ts) v h =
    let o : Outcome SiteView = starts_mend f t v in
    let k : SiteKeeps c me past o = starts_mend_site c me past f t v h in
    then_site c me past o (starts_mends_in f ts o.view) k (mends_site c me (onto o.told past) f ts o.view k.view)

mends_of_site : (c : Config) (me : ℕ) (past : List Told) (o : Option InEpoch) (v : SiteView) → SiteMade c past me v → SiteKeeps c me past (starts_mends_of c me o v)
mends_of_site c me past None v h = quiet_site c me past v h
mends_of_site c me past (Some e) v h = mends_site c me past (frame_in c me v.boot e) v.tables v h

-- ---- how an epoch is formed ----

leaves_site : (c : Config) (me : ℕ) (past : List Told) (e : Option InEpoch) (v : SiteView) → SiteMade c past me v → SiteKeeps c me past (leaves_of me e v)
leaves_site c me past None v h = quiet_site c me past v h
leaves_site c me past (Some e) v h =
    let told : List Told = (leaves_of me (Some e) v).told in
    let aside : Every Aside told = (tt, every_map Aside (λ (w : WaitingCall). reply_record me v.boot w _) v.users.waiting (λ w. tt)) in
    record { view = refl; by = asides_by c (onto told past) me told aside; plain = aside_plain told past aside }

promises_site : (c : Config) (me : ℕ) (past : List Told) (id : EpochId) (reach : Sites) (v : SiteView) → SiteMade c past me v → SiteKeeps c me past (promises me id reach v)
promises_site c me past id reach v h =
    let o : Outcome SiteView = leaves me v in
    let k : SiteKeeps c me past o = leaves_site c me past v.epoch v h in
    then_site c me past o (tells (Promises me id reach ∷ []) (promised_view id o.view)) k (plain_site c me (onto o.told past) o.view _ refl refl (tt, tt) k.view)

begins_site : (c : Config) (me : ℕ) (past : List Told) (links : Links) (number : ℕ) (polled : Links) (v : SiteView) → SiteMade c past me v → SiteKeeps c me past (begins_round me links number polled v)
begins_site c me past links number polled v h =
    let o : Outcome SiteView = promises me (round_id me number v) (reached links) v in
    let k : SiteKeeps c me past o = promises_site c me past (round_id me number v) (reached links) v h in
    then_site c me past o (polls me (round_id me number v) polled o.view) k (plain_site c me (onto o.told past) o.view _ refl refl tt k.view)

starts_part_site : (c : Config) (me : ℕ) (past : List Told) (links : Links) (e : Option InEpoch) (v : SiteView) → SiteMade c past me v → SiteKeeps c me past (starts_part_of me links e v)
starts_part_site c me past links None v h = quiet_site c me past v h
starts_part_site c me past links (Some e) v h = begins_site c me past links (v.promised.number + 1) (boots_where (part_boot me links e.members)) v h

on_poll_site : (c : Config) (me : ℕ) (past : List Told) (links : Links) (from from_boot : ℕ) (id : EpochId) (v : SiteView) → SiteMade c past me v → SiteKeeps c me past (on_poll me links from from_boot id v)
on_poll_site c me past links from from_boot id v h =
    let o : Outcome SiteView = promises me id (reached links) v in
    let k : SiteKeeps c me past o = promises_site c me past id (reached links) v h in
    elim (is_epoch_below v.promised id) as (λ t. SiteKeeps c me past (elim t [ true ↦ and_then (promises me id (reached links) v) (λ now. sends (promise_packet me links from from_boot id now) now) | false ↦ sends (cond (same_epoch id v.promised && not v.installed) (promise_packet me links from from_boot id v) (refuse_packet me from from_boot id v)) v ])) [
      | true ↦ then_site c me past o (sends (promise_packet me links from from_boot id o.view) o.view) k (plain_site c me (onto o.told past) o.view _ refl refl tt k.view)
      | false ↦ plain_site c me past v _ refl refl tt h
    ]

on_promise_site : (c : Config) (me : ℕ) (past : List Told) (from from_boot : ℕ) (id : EpochId) (reach : Sites) (o : Option Round) (v : SiteView) → SiteMade c past me v → SiteKeeps c me past (on_promise_of from from_boot id reach o v)
on_promise_site c me past from from_boot id reach None v h = quiet_site c me past v h
on_promise_site c me past from from_boot id reach (Some r) v h = plain_site c me past v _ refl refl tt h

on_refuse_site : (c : Config) (me : ℕ) (past : List Told) (links : Links) (id theirs : EpochId) (o : Option Round) (v : SiteView) → SiteMade c past me v → SiteKeeps c me past (on_refuse_of me links id theirs o v)
on_refuse_site c me past links id theirs None v h = quiet_site c me past v h
on_refuse_site c me past links id theirs (Some r) v h =
    elim (same_epoch r.id id) as (λ t. SiteKeeps c me past (elim t [ true ↦ begins_round me links (theirs.number + 1) r.polled v | false ↦ quiet v ])) [
      | true ↦ begins_site c me past links (theirs.number + 1) r.polled v h
      | false ↦ quiet_site c me past v h
    ]

-- ---- joining ----

was_started : (e : EpochId) (group : ℕ) (past : List Told) → WasStarted past e group → WasTold (Tabular e group) past
was_started e group [] h = h
was_started e group (x ∷ older) (inl h) = inl (started_tabular e group x h)
was_started e group (x ∷ older) (inr h) = inr (was_started e group older h)

was_released : (e : EpochId) (key : ℕ) (file : FileId) (past : List Told) → WasTold (ReleasedOn e key file) past → WasTold (Tabular e file.group) past
was_released e key file [] h = h
was_released e key file (x ∷ older) (inl h) = inl (released_tabular e key file x h)
was_released e key file (x ∷ older) (inr h) = inr (was_released e key file older h)

mapped : (Q : SyncTable → Type 0) (gs : List ℕ) → Every (λ (g : ℕ). Q (new_table g)) gs → Every Q (map new_table gs)
mapped Q [] h = tt
mapped Q (g ∷ gs) h = (h.0, mapped Q gs h.1)

joins_site : (c : Config) (me : ℕ) (past : List Told) (id : EpochId) (m : Members) (v : SiteView) → TabularsSynced c past → Ordered (onto (joins c me id m v).told past) → SiteKeeps c me past (joins c me id m v)
joins_site c me past id m v synced order = record {
  view = (inl (refl, refl, refl), mapped (TableMade c (x ∷ past) me id m) (filter (is_sync_site c me m) (own_groups c me)) (passing (λ (g : ℕ). TableMade c (x ∷ past) me id m (new_table g)) (is_sync_site c me m) (own_groups c me) made), made_rising (filter (is_sync_site c me m) (own_groups c me)) (ascending_filter (is_sync_site c me m) (own_groups c me) (ascending_filter (λ (g : ℕ). has (pack_sites c g) me) all_groups groups_ascend)));
  by = ((λ i g y. absurd y), tt);
  plain = (tt, tt);
}
  where
    x : Told
    x = Shown (says.Join me id m)

    -- no table told anything in an epoch that its site joins only now
    never : (g : ℕ) → sync_site c m g ≡ Some me → WasTold (Tabular id g) past → ⊥
    never g s w = by_site (synced id g w)
      where
        by_site : (t : ℕ) × SyncedBy c past id g t → ⊥
        by_site r =
            let k : SyncedBy c past id g r.0 = r.1 in
            let same : k.members ≡ m = order.orderly.one r.0 me id k.members m (inr k.joined) (inl (refl, refl, refl)) in
            let here : sync_site c m g ≡ Some r.0 = subst (λ (n : Members). sync_site c n g ≡ Some r.0) same k.synced in
            let t_is : r.0 ≡ me = some_same r.0 me (sym here ∙ s) in
            order.orderly.once.0 k.members (subst (λ (t : ℕ). WasJoined past t id k.members) t_is k.joined)

    started : (g : ℕ) → sync_site c m g ≡ Some me → WasStarted (x ∷ past) id g → ⊥
    started g s (inl k) = k
    started g s (inr k) = never g s (was_started id g past k)

    released : (g : ℕ) → sync_site c m g ≡ Some me → (key : ℕ) (file : FileId) → file.group ≡ g → WasTold (ReleasedOn id key file) (x ∷ past) → HasEnded [] key
    released g s key file at (inl k) = absurd k
    released g s key file at (inr k) = absurd (never g s (subst (λ (n : ℕ). WasTold (Tabular id n) past) at (was_released id key file past k)))

    made : (g : ℕ) → is_sync_site c me m g ≡ true → TableMade c (x ∷ past) me id m (new_table g)
    made g h = record { synced = is_synced c me m g h; unstarted = λ n w. started g (is_synced c me m g h) w; all = λ e. absurd (false_true e); files = tt; opens = tt; ended = λ key file at w. released g (is_synced c me m g h) key file at w; early = tt }

first_order : (a b past : List Told) → Ordered (onto (a ++ b) past) → Ordered (onto a past)
first_order a b past h = ordered_before b (onto a past) (subst Ordered (onto_append a b past) h)

last_order : (a b past : List Told) → Ordered (onto (a ++ b) past) → Ordered (onto b (onto a past))
last_order a b past h = subst Ordered (onto_append a b past) h

-- what an outcome keeps where what it tells is orderly
abbrev InOrder : Config → ℕ → List Told → Outcome SiteView → Type 0
InOrder c me past o = Ordered (onto o.told past) → SiteKeeps c me past o

on_install_site : (c : Config) (me : ℕ) (past : List Told) (from from_boot : ℕ) (id : EpochId) (m : Members) (v : SiteView) → TabularsSynced c past → Ordered (onto (on_install c me from from_boot id m v).told past) → SiteMade c past me v → SiteKeeps c me past (on_install c me from from_boot id m v)
on_install_site c me past from from_boot id m v synced order h =
    (elim (may_install me id m v) as (λ t. InOrder c me past (elim t [ true ↦ and_then (joins c me id m v) (λ now. sends (joined_packet me from from_boot id now) now) | false ↦ sends (cond (is_in id v.epoch) (joined_packet me from from_boot id v) []) v ])) [
      | true ↦ λ o. joined o
      | false ↦ λ o. plain_site c me past v _ refl refl tt h
    ]) order
  where
    joined : Ordered (onto (and_then (joins c me id m v) (λ now. sends (joined_packet me from from_boot id now) now)).told past) → SiteKeeps c me past (and_then (joins c me id m v) (λ now. sends (joined_packet me from from_boot id now) now))
    joined o =
        let k : SiteKeeps c me past (joins c me id m v) = joins_site c me past id m v synced (first_order (joins c me id m v).told [] past o) in
        then_site c me past (joins c me id m v) (sends (joined_packet me from from_boot id (joins c me id m v).view) (joins c me id m v).view) k (plain_site c me (onto (joins c me id m v).told past) (joins c me id m v).view _ refl refl tt k.view)

on_joined_site : (c : Config) (me : ℕ) (past : List Told) (from : ℕ) (id : EpochId) (v : SiteView) → SiteMade c past me v → SiteKeeps c me past (on_joined from id v)
on_joined_site c me past from id v h =
    elim (is_in id v.epoch) as (λ b. SiteKeeps c me past (quiet (cond b (record v { installs = without_row (λ s. s) from v.installs }) v))) [
      | true ↦ plain_site c me past v (quiet (record v { installs = without_row (λ s. s) from v.installs })) refl refl tt h
      | false ↦ quiet_site c me past v h
    ]

decides_if_site : (c : Config) (me : ℕ) (past : List Told) (links : Links) (q : Round) (xs : List ℕ) (v : SiteView) → TabularsSynced c past → Ordered (onto (decides_if c me links q xs v).told past) → SiteMade c past me v → SiteKeeps c me past (decides_if c me links q xs v)
decides_if_site c me past links q [] v synced order h =
    let m : Members = chosen_members me v.boot q (chosen_set me links q) in
    let o : Outcome SiteView = joins c me q.id m v in
    let k : SiteKeeps c me past o = joins_site c me past q.id m v synced (first_order o.told [] past order) in
    then_site c me past o (installs_all me q.id m o.view) k (plain_site c me (onto o.told past) o.view _ refl refl tt k.view)
decides_if_site c me past links q (x ∷ xs) v synced order h = plain_site c me past v _ refl refl tt h

passes_over_site : (c : Config) (me : ℕ) (past : List Told) (links : Links) (o : Option Round) (v : SiteView) → TabularsSynced c past → Ordered (onto (passes_over_of c me links o v).told past) → SiteMade c past me v → SiteKeeps c me past (passes_over_of c me links o v)
passes_over_site c me past links None v synced order h = quiet_site c me past v h
passes_over_site c me past links (Some r) v synced order h = decides_if_site c me past links (passed_over links r) (unanswered (passed_over links r)) v synced order h

-- ---- the step ----

ends_site : (c : Config) (me : ℕ) (past : List Told) (links : Links) (v : SiteView) → TabularsSynced c past → Ordered (onto (ends_event c me links v).told past) → SiteMade c past me v → SiteKeeps c me past (ends_event c me links v)
ends_site c me past links v synced order h =
    let o : Outcome SiteView = passes_over c me links v in
    let k : SiteKeeps c me past o = passes_over_site c me past links v.round v synced (first_order o.told (starts_mends_of c me o.view.epoch o.view).told past order) h in
    then_site c me past o (starts_mends_of c me o.view.epoch o.view) k (mends_of_site c me (onto o.told past) o.view.epoch o.view k.view)

framed_site : (c : Config) (me : ℕ) (past : List Told) (p : Packet) (o : Option InEpoch) (v : SiteView) → v.epoch ≡ o → ((e : InEpoch) → v.epoch ≡ Some e → BodyMade c past e p.from p.body v) → Ordered (onto (takes_framed c me p o v).told past) → SiteMade c past me v → SiteKeeps c me past (takes_framed c me p o v)
framed_site c me past p None v here k law h = quiet_site c me past v h
framed_site c me past p (Some e) v here k law h = inside_site c me v.boot past p.from v e p.body here (k e here) law h

-- where no adoption is tried
untried_site : (c : Config) (me : ℕ) (past : List Told) (links : Links) (o : Outcome SiteView) → TabularsSynced c past → Ordered (onto (whole c me links o quiet).told past) → SiteKeeps c me past o → SiteKeeps c me past (whole c me links o quiet)
untried_site c me past links o synced order h =
    let last : Outcome SiteView = ends_event c me links o.view in
    let f : SiteKeeps c me past (joined_to o last) = then_site c me past o last h (ends_site c me (onto o.told past) links o.view (synced_after c me o.told past h.by synced) (last_order o.told last.told past order) h.view) in
    record { view = f.view; by = f.by; plain = f.plain }

-- an adoption, and the end of the event
adopted_site : (c : Config) (me : ℕ) (past : List Told) (links : Links) (v : SiteView) → TabularsSynced c past → Ordered (onto ((adopts_in c me v).told ++ (ends_event c me links (adopts_in c me v).view).told) past) → SiteMade c past me v → SiteKeeps c me past (joined_to (adopts_in c me v) (ends_event c me links (adopts_in c me v).view))
adopted_site c me past links v synced order h =
    let a : Outcome SiteView = adopts_in c me v in
    let k : SiteKeeps c me past a = adopts_site c me past v.epoch v refl h in
    then_site c me past a (ends_event c me links a.view) k (ends_site c me (onto a.told past) links a.view (synced_after c me a.told past k.by synced) (last_order a.told (ends_event c me links a.view).told past order) k.view)

tried_site : (c : Config) (me : ℕ) (past : List Told) (links : Links) (o : Outcome SiteView) → SiteSilent o → TabularsSynced c past → Ordered (onto (whole c me links o (adopts_in c me)).told past) → SiteKeeps c me past o → SiteKeeps c me past (whole c me links o (adopts_in c me))
tried_site c me past links o silent synced order h =
    let a : Outcome SiteView = adopts_in c me o.view in
    let last : Outcome SiteView = ends_event c me links a.view in
    let view : SiteMade c past me o.view = subst (λ (told : List Told). SiteMade c (onto told past) me o.view) silent.0 h.view in
    let ordered : Ordered (onto (a.told ++ last.told) past) = subst (λ (told : List Told). Ordered (onto (a.told ++ (told ++ last.told)) past)) silent.0 order in
    let f : SiteKeeps c me past (joined_to a last) = adopted_site c me past links o.view synced ordered view in
    subst (λ (told : List Told). SiteKeeps c me past (record { view = last.view; sent = (whole c me links o (adopts_in c me)).sent; told = a.told ++ (told ++ last.told); written = first_written a.written (first_written o.written last.written) })) (sym silent.0)
    (subst (λ (w : Option DiskWrite). SiteKeeps c me past (record { view = last.view; sent = (whole c me links o (adopts_in c me)).sent; told = a.told ++ last.told; written = first_written a.written (first_written w last.written) })) (sym silent.1)
    (record { view = f.view; by = f.by; plain = f.plain }))

-- what an event brings, by its packet
abbrev pub Brings : Config → List Told → Packet → SiteView → Type 0
Brings c past p v = (e : InEpoch) → v.epoch ≡ Some e → BodyMade c past e p.from p.body v

silent_law : (past : List Told) (a o last : List Told) → o ≡ [] → Ordered (onto (a ++ (o ++ last)) past) → Ordered (onto o past)
silent_law past a o last e h = subst (λ (xs : List Told). Ordered (onto xs past)) (sym e) (ordered_before (a ++ (o ++ last)) past h)

untried_framed : (c : Config) (me : ℕ) (past : List Told) (links : Links) (p : Packet) (v : SiteView) → Brings c past p v → TabularsSynced c past → Ordered (onto (whole c me links (takes_framed c me p v.epoch v) quiet).told past) → SiteMade c past me v → SiteKeeps c me past (whole c me links (takes_framed c me p v.epoch v) quiet)
untried_framed c me past links p v k synced order h = untried_site c me past links (takes_framed c me p v.epoch v) synced order (framed_site c me past p v.epoch v refl k (first_order (takes_framed c me p v.epoch v).told (ends_event c me links (takes_framed c me p v.epoch v).view).told past order) h)

tried_framed : (c : Config) (me : ℕ) (past : List Told) (links : Links) (p : Packet) (v : SiteView) → Brings c past p v → SiteSilent (takes_framed c me p v.epoch v) → TabularsSynced c past → Ordered (onto (whole c me links (takes_framed c me p v.epoch v) (adopts_in c me)).told past) → SiteMade c past me v → SiteKeeps c me past (whole c me links (takes_framed c me p v.epoch v) (adopts_in c me))
tried_framed c me past links p v k silent synced order h =
    let o : Outcome SiteView = takes_framed c me p v.epoch v in
    tried_site c me past links o silent synced order (framed_site c me past p v.epoch v refl k (silent_law past (adopts_in c me o.view).told o.told (ends_event c me links (adopts_in c me o.view).view).told silent.0 order) h)

received_site : (c : Config) (me : ℕ) (past : List Told) (links : Links) (p : Packet) (x : Body) (v : SiteView) → p.body ≡ x → Brings c past p v → TabularsSynced c past → Ordered (onto (whole c me links (takes c me links p x v) (tries_at c me x)).told past) → SiteMade c past me v → SiteKeeps c me past (whole c me links (takes c me links p x v) (tries_at c me x))
received_site c me past links p body.Poll v q k synced order h = untried_site c me past links _ synced order (on_poll_site c me past links p.from p.from_boot p.epoch v h)
received_site c me past links p (body.Promise reach) v q k synced order h = untried_site c me past links _ synced order (on_promise_site c me past p.from p.from_boot p.epoch reach v.round v h)
received_site c me past links p (body.Refuse promised) v q k synced order h = untried_site c me past links _ synced order (on_refuse_site c me past links p.epoch promised v.round v h)
received_site c me past links p (body.Install members) v q k synced order h = untried_site c me past links _ synced order (on_install_site c me past p.from p.from_boot p.epoch members v synced (first_order (on_install c me p.from p.from_boot p.epoch members v).told (ends_event c me links (on_install c me p.from p.from_boot p.epoch members v).view).told past order) h)
received_site c me past links p body.Joined v q k synced order h = untried_site c me past links _ synced order (on_joined_site c me past p.from p.epoch v h)
received_site c me past links p (body.Notify file kind set size stamp vector holder) v q k synced order h = tried_framed c me past links p v k (framed_notify c me p (body.Notify file kind set size stamp vector holder) v.epoch v q (λ f. notify_silent f p.from (copy_of v.store file) (record { file = file; kind = kind; set = set; size = size; stamp = stamp; vector = vector; holder = holder; base = None; wanted = None; content = [] }) v.pulls)) synced order h
received_site c me past links p (body.Page file stamp page bytes) v q k synced order h = tried_framed c me past links p v k (framed_notify c me p (body.Page file stamp page bytes) v.epoch v q (λ f. page_silent f stamp page bytes (pull_of v.pulls file) v.pulls)) synced order h
received_site c me past links p (body.Delta file wanted pages) v q k synced order h = tried_framed c me past links p v k (framed_notify c me p (body.Delta file wanted pages) v.epoch v q (λ f. delta_silent f (pages_in (copy_of v.store file)) wanted pages (pull_of v.pulls file) v.pulls)) synced order h
received_site c me past links p _ v q k synced order h = untried_framed c me past links p v k synced order h

abbrev pub EventBrings : Config → List Told → SiteView → Event → Type 0
EventBrings c past v (Receives p) = is_dropped p v ≡ false → Brings c past p v
EventBrings c past v _ = Unit {0}

pub step_site : (c : Config) (me : ℕ) (past : List Told) (links : Links) (v : SiteView) (e : Event) → EventBrings c past v e → TabularsSynced c past → Ordered (onto (step c me links v e).told past) → SiteMade c past me v → SiteKeeps c me past (step c me links v e)
step_site c me past links v (Calls process words) k synced order h =
    untried_site c me past links (takes_call c me process words v) synced order
    (user_site c me past v (on_call (call_frame c me v.boot v.epoch) (epoch_id v.epoch) process words v.users) (on_call_idle (call_frame c me v.boot v.epoch) (epoch_id v.epoch) process words v.users) h)
step_site c me past links v (Receives p) k synced order h =
    (elim (is_dropped p v) as (λ t. is_dropped p v ≡ t → InOrder c me past (elim t [ true ↦ quiet v | false ↦ whole c me links (takes c me links p p.body v) (tries_at c me p.body) ])) [
      | true ↦ λ d o. quiet_site c me past v h
      | false ↦ λ d o. received_site c me past links p p.body v refl (k d) synced o h
    ]) refl order
step_site c me past links v Ticks k synced order h = let f : SiteKeeps c me past (joined_to (adopts_in c me v) (ends_event c me links (adopts_in c me v).view)) = adopted_site c me past links v synced order h in record { view = f.view; by = f.by; plain = f.plain }
step_site c me past links v Parts k synced order h = untried_site c me past links (starts_part me links v) synced order (starts_part_site c me past links v.epoch v h)
step_site c me past links v Merges k synced order h = untried_site c me past links (starts_merge me links v) synced order (begins_site c me past links (v.promised.number + 1) (boots_where (merge_boot me links)) v h)
step_site c me past links v GivesUp k synced order h = untried_site c me past links (leaves me v) synced order (leaves_site c me past v.epoch v h)
