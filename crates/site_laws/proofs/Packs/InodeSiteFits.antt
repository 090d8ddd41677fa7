-- What each event of a site keeps and sends has inode numbers of 16 bits.
use Rattle.std.proofs.Common.{◌≤◌, ℕ, ◌+◌, ◌==◌, Bool, true, false, cond, ◌&&◌, not, List, [], ◌∷◌, ◌++◌, Option, Some, None, sym, subst}
use Rattle.std.specs.List.{flat_map}
use Rattle.locus_ids.specs.declared.ids.EpochId.{EpochId}
use Rattle.locus_ids.specs.declared.sites.Links.{Links}
use Rattle.locus_ids.specs.declared.sites.Members.{Members}
use Rattle.locus_ids.specs.declared.sites.Sites.{Sites}
use Rattle.locus_ids.specs.declared.config.Config.{Config}
use Rattle.locus_ids.specs.Sizes.{sites_max}
use Rattle.trace_book.specs.Same.{same_epoch}
use Rattle.trace_book.specs.declared.call.Call.TheVariants as call
use Rattle.wire_messages.specs.declared.packet.Packet.{Packet}
use Rattle.wire_messages.specs.declared.body.Body.{Body}
use Rattle.wire_messages.specs.declared.body.Body.TheVariants as body
use Rattle.wire_messages.specs.declared.body.ReportedCopy.{ReportedCopy}
use Rattle.role_steps.specs.Own.{Every}
use Rattle.role_steps.specs.Tables.{row, without_row, first_that}
use Rattle.role_steps.specs.Views.{Frame, Store, Users, SiteView, Promises, Outcome, Event, Calls, Receives, Ticks, Parts, Merges, GivesUp, quiet, sends, tells, and_then, packet}
use Rattle.role_steps.specs.Versions.{file_row}
use Rattle.role_steps.specs.Reports.{new_table, on_report, on_closed, on_have, on_have_of, sync_repeats}
use Rattle.role_steps.specs.Opens.{on_opened}
use Rattle.role_steps.specs.Storage.{StoreRequest, copy_key, copy_of, instance_of, report_of, reported, on_open_ss, store_repeats}
use Rattle.role_steps.specs.Pulling.{pull_key, pull_repeats}
use Rattle.role_steps.specs.Requests.{users_repeats}
use Rattle.role_steps.specs.Using.{on_call}
use Rattle.role_steps.specs.Epochs.{is_epoch_below, frame_in, with_users, leaves_of, leaves, promises, promised_view, reached, poll_packet, polled_sites, polls, round_id, begins_round, boots_where, merge_boot, starts_merge, part_boot, starts_part_of, starts_part, promise_packet, refuse_packet, on_poll, on_promise_of, on_refuse_of, report_packets, all_reports, joined_view, joins, may_install, is_in, joined_packet, on_install, on_joined, passed_over, unanswered, chosen_set, chosen_members, others_of, install_packet, installs_all, decides_if, passes_over_of, passes_over, poll_repeats, install_repeats}
use Rattle.role_steps.specs.Adoption.{notes_own_at, copy_adopted, table_group, with_store, without_pull, is_ready, adopts_pull, adopts_first, with_adopted, fits_own, content_under}
use Rattle.role_steps.specs.Mends.{mending, has_mend_in, wants_mend, starts_mend_of, starts_mend, starts_mends_in, row_file}
use Rattle.role_steps.specs.declared.copies.FileCopy.{FileCopy}
use Rattle.role_steps.specs.declared.pulls.Pull.{Pull}
use Rattle.role_steps.specs.declared.rounds.InEpoch.{InEpoch}
use Rattle.role_steps.specs.declared.rounds.Round.{Round}
use Rattle.role_steps.specs.declared.synchronizing.SyncTable.{SyncTable}
use Rattle.role_steps.specs.declared.synchronizing.FileRow.{FileRow}
use Rattle.role_steps.proofs.Sending.{every_append, every_cond, every_map, every_flat_map}
use Rattle.the_run.specs.Roles.{IsForTable, IsForStore}
use Rattle.the_run.specs.Steps.{in_order, from_user, group_of, at_table_of, is_opened_in, takes_inside, takes_framed, takes, is_dropped, adopts_of, adopts_in, tries_at, starts_mends_of, ends_event, whole, repeats_inside, repeats_of, repeats, ticks_after, call_frame, epoch_id, takes_call, step}
use Rattle.the_run.proofs.InsideSync.{every_row, every_without, Found, row_found, first_found}
use Rattle.the_run.proofs.Roles.{by_role, readers_by, users_by}
use Rattle.the_run.proofs.StepSends.{order_sent}
use Rattle.site_laws.proofs.Vectors.SyncFacts.{every_flat}
use Rattle.site_laws.specs.Packs.InodeFits.{ReportedFits, BodyFits, PacketFits, CopyFits, PullFits, StoreFits, TableFits, ViewFits, OutFits}
use Rattle.site_laws.proofs.Packs.InodeRolesSend.{carrying, users, readers, answer_fits, pull_repeats_fits, users_repeats_fits, on_call_fits}
use Rattle.site_laws.proofs.Packs.Pulls.{Begins, pulls_of}
use Rattle.site_laws.proofs.Packs.InodeStoreFits.{StoreOut, sync_fits, on_open_ss_fits, on_close_fits, on_closed_ok_fits, on_op_fits, on_read_held_fits, store_repeats_fits}
use Rattle.site_laws.proofs.Packs.InodeSyncFits.{TableOut, on_report_fits, on_open_fits, on_look_fits, on_opened_fits, on_closed_fits, on_have_fits, sync_repeats_fits}

abbrev pub SiteOut : Outcome SiteView → Type 0
SiteOut o = OutFits ViewFits o

quiet_site : (v : SiteView) → ViewFits v → SiteOut (quiet v)
quiet_site v h = record { view = h; sent = tt }

then_site : (o : Outcome SiteView) (g : SiteView → Outcome SiteView) → SiteOut o → (ViewFits o.view → SiteOut (g o.view)) → SiteOut (and_then o g)
then_site o g h next = let k : SiteOut (g o.view) = next h.view in record { view = k.view; sent = every_append PacketFits o.sent (g o.view).sent h.sent k.sent }

-- ---- roles ----

table_part : (g : SyncTable → Outcome SyncTable) (o : Option SyncTable) (v : SiteView) → Found TableFits o → ViewFits v → ((t : SyncTable) → TableFits t → TableOut (g t)) → SiteOut (at_table_of g o v)
table_part g None v k h fine = quiet_site v h
table_part g (Some t) v k h fine = let q : TableOut (g t) = fine t k in record { view = record { store = h.store; pulls = h.pulls; tables = every_row TableFits table_group (g t).view v.tables q.view h.tables }; sent = q.sent }

group_part : (g : SyncTable → Outcome SyncTable) (group : ℕ) (v : SiteView) → ViewFits v → ((t : SyncTable) → TableFits t → TableOut (g t)) → SiteOut (at_table_of g (row table_group group v.tables) v)
group_part g group v h fine = table_part g (row table_group group v.tables) v (row_found TableFits table_group group v.tables h.tables) h fine

with_part : (g : SyncTable → Outcome SyncTable) (test : SyncTable → Bool) (v : SiteView) → ViewFits v → ((t : SyncTable) → TableFits t → TableOut (g t)) → SiteOut (at_table_of g (first_that test v.tables) v)
with_part g test v h fine = table_part g (first_that test v.tables) v (first_found TableFits test v.tables h.tables) h fine

store_part : (v : SiteView) (o : Outcome Store) → ViewFits v → StoreOut o → SiteOut (record { view = with_store v o.view; sent = o.sent; told = o.told; written = o.written })
store_part v o h k = record { view = record { store = k.view; pulls = h.pulls; tables = h.tables }; sent = k.sent }

users_part : (v : SiteView) (o : Outcome Users) → ViewFits v → Every PacketFits o.sent → SiteOut (record { view = with_users v o.view; sent = o.sent; told = o.told; written = o.written })
users_part v o h k = record { view = record { store = h.store; pulls = h.pulls; tables = h.tables }; sent = k }

-- ---- packets inside the epoch ----

-- what the site makes of a packet whose numbers fit
abbrev Taken : Body → Outcome SiteView → Type 0
Taken x o = BodyFits x → SiteOut o

tables_fit : (f : Frame) (from : ℕ) (v : SiteView) → ViewFits v → (x : Body) → IsForTable x → Taken x (takes_inside f from x v)
tables_fit f from v h (body.Report group copies) is k = group_part (on_report f from copies) group v h (λ t g. on_report_fits f from copies t k g)
tables_fit f from v h (body.Open serial call process request file how) is k = group_part _ file.group v h (on_open_fits f from (record { serial = serial; call = call; process = process; request = request; file = file; how = how }))
tables_fit f from v h (body.Opened inst answer) is k = with_part (on_opened f inst answer) (is_opened_in inst) v h (λ t g. on_opened_fits f inst answer t k g)
tables_fit f from v h (body.Closed inst made) is k = with_part (on_closed f from inst made) (is_opened_in inst) v h (on_closed_fits f from inst made)
tables_fit f from v h (body.Look call process request take file what) is k = group_part _ file.group v h (on_look_fits f from (record { call = call; process = process; request = request; take = take; file = file; what = what }))
tables_fit f from v h (body.Have file stamp) is k = group_part (on_have from file stamp) file.group v h (on_have_fits from file stamp)
tables_fit f from v h _ is k = absurd is

stores_fit : (f : Frame) (from : ℕ) (v : SiteView) → f.me ≤ sites_max → ViewFits v → (x : Body) → IsForStore x → Taken x (takes_inside f from x v)
stores_fit f from v small h (body.OpenSs inst file mode set kind base vector parents) is k =
    let r : StoreRequest = record { inst = inst; file = file; mode = mode; set = set; kind = kind; base = base; vector = vector; parents = parents } in store_part v (on_open_ss f r v.store) h (on_open_ss_fits f r v.store small k h.store)
stores_fit f from v small h (body.Op serial n o seen) is k = store_part v _ h (on_op_fits f (mending v (group_of (instance_of v.store (from_user from serial)))) (from_user from serial) n o seen v.store h.store)
stores_fit f from v small h (body.ReadHeld serial n at len) is k = store_part v _ h (on_read_held_fits f (from_user from serial) n at len v.store h.store)
stores_fit f from v small h (body.Close serial) is k = store_part v _ h (on_close_fits f (from_user from serial) v.store h.store)
stores_fit f from v small h (body.ClosedOk inst) is k = store_part v _ h (on_closed_ok_fits f inst v.store h.store)
stores_fit f from v small h _ is k = absurd is

begins_fit : (x : Body) → BodyFits x → Begins PullFits x
begins_fit (body.Notify file kind set size stamp vector holder) k = k
begins_fit _ k = tt

inside_fits : (f : Frame) (from : ℕ) (x : Body) (v : SiteView) → f.me ≤ sites_max → BodyFits x → ViewFits v → SiteOut (takes_inside f from x v)
inside_fits f from x v small k h = by_role Taken f from v (record {
  tables = tables_fit f from v h;
  stores = stores_fit f from v small h;
  readers = readers_by Taken carrying f from v (readers f) answer_fits (λ y o is same part k. store_part v o h (record { view = subst StoreFits (sym same) h.store; sent = part.0 }));
  users = users_by Taken carrying f from v (users f) (λ y o is part k. users_part v o h part.0);
  pulls = λ y is k. pulls_of PullFits (λ p base wanted content g. g) carrying f (readers f) from (λ p g. tt) SiteOut v h.pulls (λ o part ps. record { view = record { store = h.store; pulls = ps; tables = h.tables }; sent = part.0 }) y is (begins_fit y k);
  reported = λ group k. record { view = record { store = h.store; pulls = h.pulls; tables = h.tables }; sent = tt };
  forming = λ y is k. quiet_site v h;
}) x k

-- ---- adoptions ----

noted_fits : (f : Frame) (p : Pull) (o : Option SyncTable) (v : SiteView) → Found TableFits o → ViewFits v → ViewFits (notes_own_at f p o v)
noted_fits f p None v k h = h
noted_fits f p (Some t) v k h =
    let u : SyncTable = on_have_of f.me p.stamp (file_row t p.file.ino) t in
    record { store = h.store; pulls = h.pulls; tables = every_row TableFits table_group u v.tables (have_there t k) h.tables }
  where
    have_there : (t : SyncTable) → TableFits t → TableFits (on_have_of f.me p.stamp (file_row t p.file.ino) t)
    have_there t g = let q : TableOut (on_have f.me p.file p.stamp t) = on_have_fits f.me p.file p.stamp t g in q.view

without_fits : (p : Pull) (v : SiteView) → ViewFits v → ViewFits (without_pull p v)
without_fits p v h = record { store = h.store; pulls = every_without PullFits pull_key (pull_key p) v.pulls h.pulls; tables = h.tables }

adopts_pull_fits : (f : Frame) (p : Pull) (v : SiteView) → PullFits p → ViewFits v → SiteOut (adopts_pull f p v)
adopts_pull_fits f p v k h =
    let w : SiteView = with_adopted p v in
    let g : ViewFits w = record { store = record { copies = every_row CopyFits copy_key (copy_adopted p (content_under v p)) v.store.copies k h.store.copies; instances = h.store.instances }; pulls = every_without PullFits pull_key (pull_key p) v.pulls h.pulls; tables = h.tables } in
    record { view = noted_fits f p (row table_group p.file.group v.tables) w (row_found TableFits table_group p.file.group v.tables h.tables) g; sent = sync_fits f p.file.group (body.Have p.file p.stamp) tt }

adopts_first_fits : (f : Frame) (ps : List Pull) (v : SiteView) → Every PullFits ps → ViewFits v → SiteOut (adopts_first f ps v)
adopts_first_fits f [] v k h = quiet_site v h
adopts_first_fits f (p ∷ ps) v k h =
    elim (is_ready v p) as (λ t. SiteOut (elim t [ true ↦ elim (fits_own p (copy_of v.store p.file)) [ true ↦ adopts_pull f p v | false ↦ adopts_first f ps (without_pull p v) ] | false ↦ adopts_first f ps v ])) [
      | true ↦ elim (fits_own p (copy_of v.store p.file)) as (λ t. SiteOut (elim t [ true ↦ adopts_pull f p v | false ↦ adopts_first f ps (without_pull p v) ])) [
        | true ↦ adopts_pull_fits f p v k.0 h
        | false ↦ adopts_first_fits f ps (without_pull p v) k.1 (without_fits p v h)
      ]
      | false ↦ adopts_first_fits f ps v k.1 h
    ]

adopts_of_fits : (c : Config) (me : ℕ) (o : Option InEpoch) (v : SiteView) → ViewFits v → SiteOut (adopts_of c me o v)
adopts_of_fits c me None v h = quiet_site v h
adopts_of_fits c me (Some e) v h = adopts_first_fits (frame_in c me v.boot e) v.pulls v h.pulls h

tries_fits : (c : Config) (me : ℕ) (x : Body) (v : SiteView) → ViewFits v → SiteOut (tries_at c me x v)
tries_fits c me (body.Notify file kind set size stamp vector holder) v h = adopts_of_fits c me v.epoch v h
tries_fits c me (body.Page file stamp page bytes) v h = adopts_of_fits c me v.epoch v h
tries_fits c me (body.Delta file wanted pages) v h = adopts_of_fits c me v.epoch v h
tries_fits c me _ v h = quiet_site v h

-- ---- mends ----

mend_fits : (f : Frame) (t : SyncTable) (o : Option FileRow) (v : SiteView) → ViewFits v → SiteOut (starts_mend_of f t o v)
mend_fits f t None v h = quiet_site v h
mend_fits f t (Some r) v h = users_part v (on_call f (Some f.epoch) 0 (call.Mend (row_file t r)) v.users) h (on_call_fits f (Some f.epoch) 0 (call.Mend (row_file t r)) v.users)

starts_mend_fits : (f : Frame) (t : SyncTable) (v : SiteView) → ViewFits v → SiteOut (starts_mend f t v)
starts_mend_fits f t v h =
    elim (t.started && not (has_mend_in v.users t.group)) as (λ x. SiteOut (elim x [ true ↦ starts_mend_of f t (first_that (wants_mend v t) t.files) v | false ↦ quiet v ])) [
      | true ↦ mend_fits f t (first_that (wants_mend v t) t.files) v h
      | false ↦ quiet_site v h
    ]

mends_fits : (f : Frame) (ts : List SyncTable) (v : SiteView) → ViewFits v → SiteOut (starts_mends_in f ts v)
mends_fits f [] v h = quiet_site v h
mends_fits f (t ∷ ts) v h = then_site (starts_mend f t v) (starts_mends_in f ts) (starts_mend_fits f t v h) (λ g. mends_fits f ts (starts_mend f t v).view g)

mends_of_fits : (c : Config) (me : ℕ) (o : Option InEpoch) (v : SiteView) → ViewFits v → SiteOut (starts_mends_of c me o v)
mends_of_fits c me None v h = quiet_site v h
mends_of_fits c me (Some e) v h = mends_fits (frame_in c me v.boot e) v.tables v h

-- ---- how an epoch is formed ----

leaves_of_fits : (me : ℕ) (e : Option InEpoch) (v : SiteView) → ViewFits v → SiteOut (leaves_of me e v)
leaves_of_fits me None v h = quiet_site v h
leaves_of_fits me (Some e) v h = record { view = record { store = record { copies = h.store.copies; instances = tt }; pulls = tt; tables = tt }; sent = tt }

promises_fits : (me : ℕ) (id : EpochId) (reach : Sites) (v : SiteView) → ViewFits v → SiteOut (promises me id reach v)
promises_fits me id reach v h = then_site (leaves me v) (λ now. tells (Promises me id reach ∷ []) (promised_view id now)) (leaves_of_fits me v.epoch v h) (λ g. record { view = record { store = g.store; pulls = g.pulls; tables = g.tables }; sent = tt })

begins_fits : (me : ℕ) (links : Links) (number : ℕ) (polled : Links) (v : SiteView) → ViewFits v → SiteOut (begins_round me links number polled v)
begins_fits me links number polled v h =
    let id : EpochId = round_id me number v in
    let o : Outcome SiteView = promises me id (reached links) v in
    then_site o (polls me id polled) (promises_fits me id (reached links) v h) (λ g. record { view = record { store = g.store; pulls = g.pulls; tables = g.tables }; sent = every_map PacketFits (poll_packet me o.view.boot id polled) (polled_sites polled) (λ t. tt) })

starts_part_fits : (me : ℕ) (links : Links) (e : Option InEpoch) (v : SiteView) → ViewFits v → SiteOut (starts_part_of me links e v)
starts_part_fits me links None v h = quiet_site v h
starts_part_fits me links (Some e) v h = begins_fits me links (v.promised.number + 1) (boots_where (part_boot me links e.members)) v h

on_poll_fits : (me : ℕ) (links : Links) (from from_boot : ℕ) (id : EpochId) (v : SiteView) → ViewFits v → SiteOut (on_poll me links from from_boot id v)
on_poll_fits me links from from_boot id v h =
    elim (is_epoch_below v.promised id) as (λ t. SiteOut (elim t [ true ↦ and_then (promises me id (reached links) v) (λ now. sends (promise_packet me links from from_boot id now) now) | false ↦ sends (cond (same_epoch id v.promised && not v.installed) (promise_packet me links from from_boot id v) (refuse_packet me from from_boot id v)) v ])) [
      | true ↦ then_site (promises me id (reached links) v) (λ now. sends (promise_packet me links from from_boot id now) now) (promises_fits me id (reached links) v h) (λ g. record { view = g; sent = (tt, tt) })
      | false ↦ record { view = h; sent = every_cond PacketFits (same_epoch id v.promised && not v.installed) (promise_packet me links from from_boot id v) (refuse_packet me from from_boot id v) (tt, tt) (tt, tt) }
    ]

on_promise_fits : (from from_boot : ℕ) (id : EpochId) (reach : Sites) (o : Option Round) (v : SiteView) → ViewFits v → SiteOut (on_promise_of from from_boot id reach o v)
on_promise_fits from from_boot id reach None v h = quiet_site v h
on_promise_fits from from_boot id reach (Some r) v h = record { view = record { store = h.store; pulls = h.pulls; tables = h.tables }; sent = tt }

on_refuse_fits : (me : ℕ) (links : Links) (id theirs : EpochId) (o : Option Round) (v : SiteView) → ViewFits v → SiteOut (on_refuse_of me links id theirs o v)
on_refuse_fits me links id theirs None v h = quiet_site v h
on_refuse_fits me links id theirs (Some r) v h =
    elim (same_epoch r.id id) as (λ t. SiteOut (elim t [ true ↦ begins_round me links (theirs.number + 1) r.polled v | false ↦ quiet v ])) [
      | true ↦ begins_fits me links (theirs.number + 1) r.polled v h
      | false ↦ quiet_site v h
    ]

report_case : (b : Bool) (x : ReportedCopy) (xs : List ReportedCopy) → ReportedFits x → Every ReportedFits xs → Every ReportedFits (cond b (x ∷ xs) xs)
report_case true x xs k h = (k, h)
report_case false x xs k h = h

report_fits : (group : ℕ) (xs : List FileCopy) → Every CopyFits xs → Every ReportedFits (report_of group xs)
report_fits group [] h = tt
report_fits group (x ∷ xs) h = report_case (x.file.group == group) (reported x) (report_of group xs) h.0 (report_fits group xs h.1)

all_reports_fits : (f : Frame) (v : SiteView) → Every CopyFits v.store.copies → Every PacketFits (all_reports f v)
all_reports_fits f v h = every_flat_map PacketFits (report_packets f v) v.reports (λ g. sync_fits f g (body.Report g (report_of g v.store.copies)) (report_fits g v.store.copies h))

joins_fits : (c : Config) (me : ℕ) (id : EpochId) (m : Members) (v : SiteView) → ViewFits v → SiteOut (joins c me id m v)
joins_fits c me id m v h = record { view = record { store = h.store; pulls = h.pulls; tables = every_map TableFits new_table _ (λ g. record { files = tt; opens = tt; looks = tt }) }; sent = all_reports_fits (frame_in c me v.boot (record { id = id; members = m })) (joined_view c me id m v) h.store.copies }

on_install_fits : (c : Config) (me from from_boot : ℕ) (id : EpochId) (m : Members) (v : SiteView) → ViewFits v → SiteOut (on_install c me from from_boot id m v)
on_install_fits c me from from_boot id m v h =
    elim (may_install me id m v) as (λ t. SiteOut (elim t [ true ↦ and_then (joins c me id m v) (λ now. sends (joined_packet me from from_boot id now) now) | false ↦ sends (cond (is_in id v.epoch) (joined_packet me from from_boot id v) []) v ])) [
      | true ↦ then_site (joins c me id m v) (λ now. sends (joined_packet me from from_boot id now) now) (joins_fits c me id m v h) (λ g. record { view = g; sent = (tt, tt) })
      | false ↦ record { view = h; sent = every_cond PacketFits (is_in id v.epoch) (joined_packet me from from_boot id v) [] (tt, tt) tt }
    ]

on_joined_fits : (from : ℕ) (id : EpochId) (v : SiteView) → ViewFits v → SiteOut (on_joined from id v)
on_joined_fits from id v h =
    elim (is_in id v.epoch) as (λ b. SiteOut (quiet (cond b (record v { installs = without_row (λ s. s) from v.installs }) v))) [
      | true ↦ record { view = record { store = h.store; pulls = h.pulls; tables = h.tables }; sent = tt }
      | false ↦ quiet_site v h
    ]

decides_fits : (c : Config) (me : ℕ) (links : Links) (r : Round) (xs : List ℕ) (v : SiteView) → ViewFits v → SiteOut (decides_if c me links r xs v)
decides_fits c me links r [] v h =
    let m : Members = chosen_members me v.boot r (chosen_set me links r) in
    then_site (joins c me r.id m v) (installs_all me r.id m) (joins_fits c me r.id m v h)
    (λ g. record { view = record { store = g.store; pulls = g.pulls; tables = g.tables }; sent = every_map PacketFits (install_packet me (joins c me r.id m v).view.boot r.id m) (others_of me m) (λ t. tt) })
decides_fits c me links r (x ∷ xs) v h = record { view = record { store = h.store; pulls = h.pulls; tables = h.tables }; sent = tt }

passes_over_fits : (c : Config) (me : ℕ) (links : Links) (o : Option Round) (v : SiteView) → ViewFits v → SiteOut (passes_over_of c me links o v)
passes_over_fits c me links None v h = quiet_site v h
passes_over_fits c me links (Some r) v h = decides_fits c me links (passed_over links r) (unanswered (passed_over links r)) v h

ends_fits : (c : Config) (me : ℕ) (links : Links) (v : SiteView) → ViewFits v → SiteOut (ends_event c me links v)
ends_fits c me links v h = then_site (passes_over c me links v) (λ now. starts_mends_of c me now.epoch now) (passes_over_fits c me links v.round v h) (λ g. mends_of_fits c me (passes_over c me links v).view.epoch (passes_over c me links v).view g)

-- ---- the step ----

whole_fits : (c : Config) (me : ℕ) (links : Links) (o : Outcome SiteView) (tries : SiteView → Outcome SiteView) → SiteOut o → ((v : SiteView) → ViewFits v → SiteOut (tries v)) → SiteOut (whole c me links o tries)
whole_fits c me links o tries h tried =
    let a : Outcome SiteView = tries o.view in
    let last : Outcome SiteView = ends_event c me links a.view in
    let k : SiteOut a = tried o.view h.view in
    let e : SiteOut last = ends_fits c me links a.view k.view in
    record { view = e.view; sent = every_append PacketFits a.sent (in_order (o.sent ++ last.sent)) k.sent (order_sent PacketFits (o.sent ++ last.sent) (every_append PacketFits o.sent last.sent h.sent e.sent)) }

untried_fits : (c : Config) (me : ℕ) (links : Links) (o : Outcome SiteView) → SiteOut o → SiteOut (whole c me links o quiet)
untried_fits c me links o h = whole_fits c me links o quiet h quiet_site

framed_fits : (c : Config) (me : ℕ) (p : Packet) (o : Option InEpoch) (v : SiteView) → me ≤ sites_max → PacketFits p → ViewFits v → SiteOut (takes_framed c me p o v)
framed_fits c me p None v small k h = quiet_site v h
framed_fits c me p (Some e) v small k h = inside_fits (frame_in c me v.boot e) p.from p.body v small k h

takes_fits : (c : Config) (me : ℕ) (links : Links) (p : Packet) (x : Body) (v : SiteView) → me ≤ sites_max → PacketFits p → ViewFits v → SiteOut (takes c me links p x v)
takes_fits c me links p body.Poll v small k h = on_poll_fits me links p.from p.from_boot p.epoch v h
takes_fits c me links p (body.Promise reach) v small k h = on_promise_fits p.from p.from_boot p.epoch reach v.round v h
takes_fits c me links p (body.Refuse promised) v small k h = on_refuse_fits me links p.epoch promised v.round v h
takes_fits c me links p (body.Install members) v small k h = on_install_fits c me p.from p.from_boot p.epoch members v h
takes_fits c me links p body.Joined v small k h = on_joined_fits p.from p.epoch v h
takes_fits c me links p _ v small k h = framed_fits c me p v.epoch v small k h

polls_fits : (me : ℕ) (v : SiteView) (r : Option Round) → Every PacketFits (poll_repeats me v r)
polls_fits me v None = tt
polls_fits me v (Some r) = every_map PacketFits (poll_packet me v.boot r.id r.polled) (unanswered r) (λ s. tt)

inside_repeats : (f : Frame) (e : InEpoch) (v : SiteView) → ViewFits v → Every PacketFits (repeats_inside f e v)
inside_repeats f e v h =
    every_append PacketFits (in_order (all_reports f v)) _ (order_sent PacketFits (all_reports f v) (all_reports_fits f v h.store.copies))
    (every_append PacketFits (users_repeats f v.users) _ (users_repeats_fits f v.users)
    (every_append PacketFits (in_order (store_repeats f v.store)) _ (order_sent PacketFits (store_repeats f v.store) (store_repeats_fits f v.store))
    (every_append PacketFits (in_order (pull_repeats f v.pulls)) _ (order_sent PacketFits (pull_repeats f v.pulls) (pull_repeats_fits f v.pulls))
    (order_sent PacketFits (flat_map (sync_repeats f) v.tables) (every_flat TableFits PacketFits (sync_repeats f) v.tables (λ t k. sync_repeats_fits f t k) h.tables)))))

repeats_fits : (c : Config) (me : ℕ) (o : Option InEpoch) (v : SiteView) → ViewFits v → Every PacketFits (repeats_of c me o v)
repeats_fits c me None v h = order_sent PacketFits (poll_repeats me v v.round) (polls_fits me v v.round)
repeats_fits c me (Some e) v h =
    every_append PacketFits (in_order (poll_repeats me v v.round ++ install_repeats me v e)) (repeats_inside (frame_in c me v.boot e) e v)
    (order_sent PacketFits (poll_repeats me v v.round ++ install_repeats me v e) (every_append PacketFits (poll_repeats me v v.round) (install_repeats me v e) (polls_fits me v v.round) (every_map PacketFits (install_packet me v.boot e.id e.members) v.installs (λ t. tt))))
    (inside_repeats (frame_in c me v.boot e) e v h)

ticks_fits : (c : Config) (me : ℕ) (links : Links) (v : SiteView) → ViewFits v → SiteOut (ticks_after c me links (adopts_in c me v))
ticks_fits c me links v h =
    let a : Outcome SiteView = adopts_in c me v in
    let last : Outcome SiteView = ends_event c me links a.view in
    let again : List Packet = repeats c me a.view in
    let k : SiteOut a = adopts_of_fits c me v.epoch v h in
    let e : SiteOut last = ends_fits c me links a.view k.view in
    record { view = e.view; sent = every_append PacketFits a.sent (again ++ in_order last.sent) k.sent (every_append PacketFits again (in_order last.sent) (repeats_fits c me a.view.epoch a.view k.view) (order_sent PacketFits last.sent e.sent)) }

abbrev pub EventFits : Event → Type 0
EventFits (Receives p) = PacketFits p
EventFits _ = Unit {0}

pub step_fits : (c : Config) (me : ℕ) (links : Links) (v : SiteView) (e : Event) → me ≤ sites_max → EventFits e → ViewFits v → SiteOut (step c me links v e)
step_fits c me links v (Calls process words) small k h = untried_fits c me links (takes_call c me process words v) (users_part v (on_call (call_frame c me v.boot v.epoch) (epoch_id v.epoch) process words v.users) h (on_call_fits (call_frame c me v.boot v.epoch) (epoch_id v.epoch) process words v.users))
step_fits c me links v (Receives p) small k h =
    elim (is_dropped p v) as (λ t. SiteOut (elim t [ true ↦ quiet v | false ↦ whole c me links (takes c me links p p.body v) (tries_at c me p.body) ])) [
      | true ↦ quiet_site v h
      | false ↦ whole_fits c me links (takes c me links p p.body v) (tries_at c me p.body) (takes_fits c me links p p.body v small k h) (tries_fits c me p.body)
    ]
step_fits c me links v Ticks small k h = ticks_fits c me links v h
step_fits c me links v Parts small k h = untried_fits c me links (starts_part me links v) (starts_part_fits me links v.epoch v h)
step_fits c me links v Merges small k h = untried_fits c me links (starts_merge me links v) (begins_fits me links (v.promised.number + 1) (boots_where (merge_boot me links)) v h)
step_fits c me links v GivesUp small k h = untried_fits c me links (leaves me v) (leaves_of_fits me v.epoch v h)
