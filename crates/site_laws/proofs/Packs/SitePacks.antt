-- What each event of a site keeps, sends and tells is as packs allow.
use Rattle.std.proofs.Common.{◌≡◌, ℕ, ◌+◌, ◌==◌, Bool, true, false, cond, ◌&&◌, not, List, [], ◌∷◌, ◌++◌, Option, Some, None, refl, sym, subst, filter, map}
use Rattle.std.specs.List.{flat_map}
use Rattle.locus_ids.specs.declared.ids.EpochId.{EpochId}
use Rattle.locus_ids.specs.declared.sites.Links.{Links}
use Rattle.locus_ids.specs.declared.sites.Members.{Members}
use Rattle.locus_ids.specs.declared.sites.Sites.{Sites}
use Rattle.locus_ids.specs.declared.config.Config.{Config}
use Rattle.trace_book.specs.Same.{same_epoch}
use Rattle.trace_book.specs.declared.call.Call.TheVariants as call
use Rattle.wire_messages.specs.declared.packet.Packet.{Packet}
use Rattle.wire_messages.specs.declared.body.Body.{Body}
use Rattle.wire_messages.specs.declared.body.Body.TheVariants as body
use Rattle.wire_messages.specs.declared.body.ReportedCopy.{ReportedCopy}
use Rattle.role_steps.specs.Own.{Every}
use Rattle.role_steps.specs.Tables.{row, without_row, first_that}
use Rattle.role_steps.specs.Views.{Frame, Store, Users, SiteView, Promises, Outcome, Event, Calls, Receives, Ticks, Parts, Merges, GivesUp, quiet, sends, tells, and_then, packet}
use Rattle.role_steps.specs.Versions.{file_row}
use Rattle.role_steps.specs.Reports.{new_table, on_report, on_closed, on_have, on_have_of, sync_repeats}
use Rattle.role_steps.specs.Opens.{on_opened}
use Rattle.role_steps.specs.Storage.{StoreRequest, copy_key, copy_of, instance_of, on_pull, on_want, report_of, reported, on_open_ss, store_repeats}
use Rattle.role_steps.specs.Pulling.{pull_key, pull_repeats}
use Rattle.role_steps.specs.Requests.{users_repeats}
use Rattle.role_steps.specs.Using.{on_call}
use Rattle.role_steps.specs.Epochs.{is_epoch_below, frame_in, with_users, leaves_of, leaves, promises, promised_view, reached, poll_packet, polled_sites, polls, round_id, begins_round, boots_where, merge_boot, starts_merge, part_boot, starts_part_of, starts_part, promise_packet, refuse_packet, on_poll, on_promise_of, on_refuse_of, report_packets, all_reports, joined_view, joins, may_install, is_in, joined_packet, on_install, on_joined, passed_over, unanswered, chosen_set, chosen_members, others_of, install_packet, installs_all, decides_if, passes_over_of, passes_over, poll_repeats, install_repeats}
use Rattle.role_steps.specs.Adoption.{notes_own_at, copy_adopted, table_group, with_store, without_pull, is_ready, adopts_pull, adopts_first, with_adopted, fits_own, content_under}
use Rattle.role_steps.specs.Mends.{mending, has_mend_in, wants_mend, starts_mend_of, starts_mend, starts_mends_in, row_file}
use Rattle.role_steps.specs.declared.copies.FileCopy.{FileCopy}
use Rattle.role_steps.specs.declared.pulls.Pull.{Pull}
use Rattle.role_steps.specs.declared.rounds.InEpoch.{InEpoch}
use Rattle.role_steps.specs.declared.rounds.Round.{Round}
use Rattle.role_steps.specs.declared.synchronizing.SyncTable.{SyncTable}
use Rattle.role_steps.specs.declared.synchronizing.FileRow.{FileRow}
use Rattle.role_steps.proofs.Sending.{every_append, every_cond, every_map}
use Rattle.the_run.specs.Roles.{IsForTable, IsForStore, IsForReader}
use Rattle.the_run.specs.Steps.{in_order, from_user, group_of, at_table_of, is_opened_in, takes_inside, takes_framed, takes, is_dropped, adopts_of, adopts_in, tries_at, starts_mends_of, ends_event, whole, repeats_inside, repeats_of, repeats, ticks_after, call_frame, epoch_id, takes_call, step}
use Rattle.the_run.proofs.InsideSync.{every_row, every_without, Found, first_found}
use Rattle.the_run.proofs.Roles.{by_role, users_by}
use Rattle.run_laws.proofs.Walks.Premises.{every_unit}
use Rattle.the_run.proofs.StepSends.{order_sent}
use Rattle.site_laws.proofs.Vectors.SyncFacts.{every_flat}
use Rattle.role_steps.proofs.of_plain_facts.Numbers.{equal}
use Rattle.locus_ids.specs.Sites.{has}
use Rattle.locus_ids.specs.declared.refusal.Refusal.TheVariants as refusal
use Rattle.trace_book.specs.declared.call.Call.{Call}
use Rattle.trace_book.specs.declared.reply.Reply.TheVariants as reply
use Rattle.role_steps.specs.Views.{serial_key, pack_sites, all_groups}
use Rattle.role_steps.specs.Epochs.{own_groups, is_sync_site}
use Rattle.role_steps.specs.Using.{changed_records, reply_record}
use Rattle.role_steps.specs.declared.users.WaitingCall.{WaitingCall}
use Rattle.site_laws.proofs.Vectors.SyncFacts.{FoundAt, row_at}
use Rattle.site_laws.specs.Packs.Packs.{HasPack, InPacks, CopyPacked, ToldPacked}
use Rattle.site_laws.specs.Packs.Packed.{ReportedPacked, BodyPacked, PacketPacked, PullPacked, TablePacked, ReportPacked, ViewPacked, TableCloses, BodyCloses, OutPacked}
use Rattle.site_laws.proofs.Packs.Sets.{every_filter, passing, every_and}
use Rattle.site_laws.proofs.Packs.RolesSend.{AllPacked, carrying, users, readers, on_pull_packed, on_want_packed, pull_repeats_packed, users_repeats_packed, on_call_packed}
use Rattle.site_laws.proofs.Packs.Pulls.{Begins, pulls_of}
use Rattle.site_laws.proofs.Packs.StorePacks.{StoreOut, sync_packed, on_open_ss_packed, on_close_packed, on_closed_ok_packed, on_op_packed, on_read_held_packed, store_repeats_packed}
use Rattle.site_laws.proofs.Packs.RowPacks.{InTable}
use Rattle.site_laws.proofs.Packs.SyncPacks.{TableOut, on_report_packed, on_open_packed, on_look_packed, on_opened_packed, on_closed_packed, on_have_packed, sync_repeats_packed}

abbrev pub SiteOut : Config → ℕ → Outcome SiteView → Type 0
SiteOut c me o = OutPacked c (ViewPacked c me) o

quiet_site : (c : Config) (me : ℕ) (v : SiteView) → ViewPacked c me v → SiteOut c me (quiet v)
quiet_site c me v h = record { view = h; sent = tt; told = tt }

then_site : (c : Config) (me : ℕ) (o : Outcome SiteView) (g : SiteView → Outcome SiteView) → SiteOut c me o → (ViewPacked c me o.view → SiteOut c me (g o.view)) → SiteOut c me (and_then o g)
then_site c me o g h next = let k : SiteOut c me (g o.view) = next h.view in record { view = k.view; sent = every_append (PacketPacked c) o.sent (g o.view).sent h.sent k.sent; told = every_append (ToldPacked c) o.told (g o.view).told h.told k.told }

-- ---- roles ----

table_part : (f : Frame) (g : SyncTable → Outcome SyncTable) (o : Option SyncTable) (v : SiteView) → ViewPacked f.config f.me v → ((t : SyncTable) → o ≡ Some t → TableOut f (g t)) → SiteOut f.config f.me (at_table_of g o v)
table_part f g None v h fine = quiet_site f.config f.me v h
table_part f g (Some t) v h fine = let q : TableOut f (g t) = fine t refl in record { view = record { store = h.store; pulls = h.pulls; tables = every_row (TablePacked f.config f.me) table_group (g t).view v.tables q.view h.tables; reports = h.reports }; sent = q.sent; told = q.told }

one_found : {A : Type 0} (P : A → Type 0) (o : Option A) (x : A) → Found P o → o ≡ Some x → P x
one_found P o x h e = subst (Found P) e h

found_is : {A : Type 0} (P : A → Type 0) (key : A → ℕ) (k : ℕ) (o : Option A) (x : A) → FoundAt P key k o → o ≡ Some x → (key x ≡ k) × P x
found_is P key k o x h e = subst (FoundAt P key k) e h

group_part : (f : Frame) (g : SyncTable → Outcome SyncTable) (group : ℕ) (v : SiteView) → ViewPacked f.config f.me v → ((t : SyncTable) → t.group ≡ group → InTable f t → TableOut f (g t)) → SiteOut f.config f.me (at_table_of g (row table_group group v.tables) v)
group_part f g group v h fine =
    table_part f g (row table_group group v.tables) v h
    (λ t q. (let k : (t.group ≡ group) × InTable f t = found_is (TablePacked f.config f.me) table_group group (row table_group group v.tables) t (row_at (TablePacked f.config f.me) table_group group v.tables h.tables) q in fine t k.0 k.1))

with_part : (f : Frame) (Q : SyncTable → Type 0) (g : SyncTable → Outcome SyncTable) (test : SyncTable → Bool) (v : SiteView) → ViewPacked f.config f.me v → Every Q v.tables → ((t : SyncTable) → InTable f t → Q t → TableOut f (g t)) → SiteOut f.config f.me (at_table_of g (first_that test v.tables) v)
with_part f Q g test v h each fine =
    table_part f g (first_that test v.tables) v h
    (λ t q. (let k : InTable f t × Q t = one_found (λ (u : SyncTable). InTable f u × Q u) (first_that test v.tables) t (first_found (λ (u : SyncTable). InTable f u × Q u) test v.tables (every_and (TablePacked f.config f.me) Q v.tables h.tables each)) q in fine t k.0 k.1))

store_part : (f : Frame) (v : SiteView) (o : Outcome Store) → ViewPacked f.config f.me v → StoreOut f o → SiteOut f.config f.me (record { view = with_store v o.view; sent = o.sent; told = o.told; written = o.written })
store_part f v o h k = record { view = record { store = k.view; pulls = h.pulls; tables = h.tables; reports = h.reports }; sent = k.sent; told = k.told }

users_part : (c : Config) (me : ℕ) (v : SiteView) (o : Outcome Users) → ViewPacked c me v → AllPacked c o → SiteOut c me (record { view = with_users v o.view; sent = o.sent; told = o.told; written = o.written })
users_part c me v o h k = record { view = record { store = h.store; pulls = h.pulls; tables = h.tables; reports = h.reports }; sent = k.0; told = k.1 }

-- ---- packets inside the epoch ----

regroup : (c : Config) (a b site : ℕ) → a ≡ b → HasPack c b site → HasPack c a site
regroup c a b site e h = subst (λ (n : ℕ). HasPack c n site) (sym e) h

copies_regroup : (c : Config) (a b : ℕ) (xs : List ReportedCopy) → a ≡ b → Every (ReportedPacked c b) xs → Every (ReportedPacked c a) xs
copies_regroup c a b xs e h = subst (λ (n : ℕ). Every (ReportedPacked c n) xs) (sym e) h

-- what the site makes of a packet that carries what packs allow, and closes only what lies here
abbrev Taken : Frame → ℕ → SiteView → Body → Outcome SiteView → Type 0
Taken f from v x o = BodyPacked f.config from f.me x → BodyCloses f.config from v x → SiteOut f.config f.me o

tables_packed : (f : Frame) (from : ℕ) (v : SiteView) → ViewPacked f.config f.me v → (x : Body) → IsForTable x → Taken f from v x (takes_inside f from x v)
tables_packed f from v h (body.Report group copies) is k d = group_part f (on_report f from copies) group v h (λ t q g. on_report_packed f from copies t (regroup f.config t.group group from q k.0) (copies_regroup f.config t.group group copies q k.1) g)
tables_packed f from v h (body.Open serial call process request file how) is k d = group_part f _ file.group v h (λ t q g. on_open_packed f from (record { serial = serial; call = call; process = process; request = request; file = file; how = how }) t (sym q) g)
tables_packed f from v h (body.Opened inst answer) is k d = with_part f (λ (t : SyncTable). Unit {0}) (on_opened f inst answer) (is_opened_in inst) v h (every_unit v.tables) (λ t g u. on_opened_packed f inst answer t g)
tables_packed f from v h (body.Closed inst made) is k d = with_part f (TableCloses f.config from (serial_key inst)) (on_closed f from inst made) (is_opened_in inst) v h d (λ t g u. on_closed_packed f from inst made t u g)
tables_packed f from v h (body.Look call process request take file what) is k d = group_part f _ file.group v h (λ t q g. on_look_packed f from (record { call = call; process = process; request = request; take = take; file = file; what = what }) t g)
tables_packed f from v h (body.Have file stamp) is k d = group_part f (on_have from file stamp) file.group v h (λ t q g. on_have_packed f from file stamp t (regroup f.config t.group file.group from q k) g)
tables_packed f from v h _ is k d = absurd is

stores_packed : (f : Frame) (from : ℕ) (v : SiteView) → ViewPacked f.config f.me v → (x : Body) → IsForStore x → Taken f from v x (takes_inside f from x v)
stores_packed f from v h (body.OpenSs inst file mode set kind base vector parents) is k d =
    let r : StoreRequest = record { inst = inst; file = file; mode = mode; set = set; kind = kind; base = base; vector = vector; parents = parents } in store_part f v (on_open_ss f r v.store) h (on_open_ss_packed f r v.store k.0 k.1 h.store)
stores_packed f from v h (body.Op serial n o seen) is k d = store_part f v _ h (on_op_packed f (mending v (group_of (instance_of v.store (from_user from serial)))) (from_user from serial) n o seen v.store h.store)
stores_packed f from v h (body.ReadHeld serial n at len) is k d = store_part f v _ h (on_read_held_packed f (from_user from serial) n at len v.store h.store)
stores_packed f from v h (body.Close serial) is k d = store_part f v _ h (on_close_packed f (from_user from serial) v.store h.store)
stores_packed f from v h (body.ClosedOk inst) is k d = store_part f v _ h (on_closed_ok_packed f inst v.store h.store)
stores_packed f from v h _ is k d = absurd is

readers_packed : (f : Frame) (from : ℕ) (v : SiteView) → ViewPacked f.config f.me v → (x : Body) → IsForReader x → Taken f from v x (takes_inside f from x v)
readers_packed f from v h (body.LookSs us call process request take file what serve) is k d = record { view = h; sent = (tt, tt); told = tt }
readers_packed f from v h (body.Pull file stamp page) is k d = let q : AllPacked f.config (on_pull f from file stamp page v.store) = on_pull_packed f.config f from file stamp page v.store in record { view = h; sent = q.0; told = q.1 }
readers_packed f from v h (body.Want file wanted own) is k d = let q : AllPacked f.config (on_want f from file wanted own v.store) = on_want_packed f.config f from file wanted own v.store in record { view = h; sent = q.0; told = q.1 }
readers_packed f from v h _ is k d = absurd is

begins_lie : (c : Config) (from me : ℕ) (x : Body) → BodyPacked c from me x → Begins (PullPacked c me) x
begins_lie c from me (body.Notify file kind set size stamp vector holder) k = k
begins_lie c from me _ k = tt

inside_packed : (f : Frame) (from : ℕ) (x : Body) (v : SiteView) → BodyPacked f.config from f.me x → BodyCloses f.config from v x → ViewPacked f.config f.me v → SiteOut f.config f.me (takes_inside f from x v)
inside_packed f from x v k d h = by_role (Taken f from v) f from v (record {
  tables = tables_packed f from v h;
  stores = stores_packed f from v h;
  readers = readers_packed f from v h;
  users = users_by (Taken f from v) (carrying f.config) f from v (users f.config f) (λ y o is part k d. users_part f.config f.me v o h (part.0, part.1));
  pulls = λ y is k d. pulls_of (PullPacked f.config f.me) (λ p base wanted content g. g) (carrying f.config) f (readers f.config f) from (λ p g. g.here) (SiteOut f.config f.me) v h.pulls
      (λ o part ps. record { view = record { store = h.store; pulls = ps; tables = h.tables; reports = h.reports }; sent = part.0; told = part.1 }) y is (begins_lie f.config from f.me y k);
  reported = λ group k d. record { view = record { store = h.store; pulls = h.pulls; tables = h.tables; reports = every_without (ReportPacked f.config f.me) (λ g. g) group v.reports h.reports }; sent = tt; told = tt };
  forming = λ y is k d. quiet_site f.config f.me v h;
}) x k d

-- ---- adoptions ----

noted_packed : (f : Frame) (p : Pull) (o : Option SyncTable) (v : SiteView) → HasPack f.config p.file.group f.me → FoundAt (TablePacked f.config f.me) table_group p.file.group o → ViewPacked f.config f.me v → ViewPacked f.config f.me (notes_own_at f p o v)
noted_packed f p None v q k h = h
noted_packed f p (Some t) v q k h =
    let u : SyncTable = on_have_of f.me p.stamp (file_row t p.file.ino) t in
    let o : TableOut f (on_have f.me p.file p.stamp t) = on_have_packed f f.me p.file p.stamp t (regroup f.config t.group p.file.group f.me k.0 q) k.1 in
    record { store = h.store; pulls = h.pulls; tables = every_row (TablePacked f.config f.me) table_group u v.tables o.view h.tables; reports = h.reports }

without_packed : (c : Config) (me : ℕ) (p : Pull) (v : SiteView) → ViewPacked c me v → ViewPacked c me (without_pull p v)
without_packed c me p v h = record { store = h.store; pulls = every_without (PullPacked c me) pull_key (pull_key p) v.pulls h.pulls; tables = h.tables; reports = h.reports }

adopts_pull_packed : (f : Frame) (p : Pull) (v : SiteView) → PullPacked f.config f.me p → ViewPacked f.config f.me v → SiteOut f.config f.me (adopts_pull f p v)
adopts_pull_packed f p v k h =
    let w : SiteView = with_adopted p v in
    let g : ViewPacked f.config f.me w = record { store = record { copies = every_row (CopyPacked f.config f.me) copy_key (copy_adopted p (content_under v p)) v.store.copies k h.store.copies; instances = h.store.instances }; pulls = every_without (PullPacked f.config f.me) pull_key (pull_key p) v.pulls h.pulls; tables = h.tables; reports = h.reports } in
    record { view = noted_packed f p (row table_group p.file.group v.tables) w k.here (row_at (TablePacked f.config f.me) table_group p.file.group v.tables h.tables) g; sent = sync_packed f p.file.group (body.Have p.file p.stamp) (λ to. k.here); told = (k.here, tt) }

adopts_first_packed : (f : Frame) (ps : List Pull) (v : SiteView) → Every (PullPacked f.config f.me) ps → ViewPacked f.config f.me v → SiteOut f.config f.me (adopts_first f ps v)
adopts_first_packed f [] v k h = quiet_site f.config f.me v h
adopts_first_packed f (p ∷ ps) v k h =
    elim (is_ready v p) as (λ t. SiteOut f.config f.me (elim t [ true ↦ elim (fits_own p (copy_of v.store p.file)) [ true ↦ adopts_pull f p v | false ↦ adopts_first f ps (without_pull p v) ] | false ↦ adopts_first f ps v ])) [
      | true ↦ elim (fits_own p (copy_of v.store p.file)) as (λ t. SiteOut f.config f.me (elim t [ true ↦ adopts_pull f p v | false ↦ adopts_first f ps (without_pull p v) ])) [
        | true ↦ adopts_pull_packed f p v k.0 h
        | false ↦ adopts_first_packed f ps (without_pull p v) k.1 (without_packed f.config f.me p v h)
      ]
      | false ↦ adopts_first_packed f ps v k.1 h
    ]

adopts_of_packed : (c : Config) (me : ℕ) (o : Option InEpoch) (v : SiteView) → ViewPacked c me v → SiteOut c me (adopts_of c me o v)
adopts_of_packed c me None v h = quiet_site c me v h
adopts_of_packed c me (Some e) v h = adopts_first_packed (frame_in c me v.boot e) v.pulls v h.pulls h

tries_packed : (c : Config) (me : ℕ) (x : Body) (v : SiteView) → ViewPacked c me v → SiteOut c me (tries_at c me x v)
tries_packed c me (body.Notify file kind set size stamp vector holder) v h = adopts_of_packed c me v.epoch v h
tries_packed c me (body.Page file stamp page bytes) v h = adopts_of_packed c me v.epoch v h
tries_packed c me (body.Delta file wanted pages) v h = adopts_of_packed c me v.epoch v h
tries_packed c me _ v h = quiet_site c me v h

-- ---- mends ----

mend_packed : (c : Config) (me : ℕ) (f : Frame) (t : SyncTable) (o : Option FileRow) (v : SiteView) → ViewPacked c me v → SiteOut c me (starts_mend_of f t o v)
mend_packed c me f t None v h = quiet_site c me v h
mend_packed c me f t (Some r) v h = users_part c me v (on_call f (Some f.epoch) 0 (call.Mend (row_file t r)) v.users) h (on_call_packed c f (Some f.epoch) 0 (call.Mend (row_file t r)) v.users)

starts_mend_packed : (c : Config) (me : ℕ) (f : Frame) (t : SyncTable) (v : SiteView) → ViewPacked c me v → SiteOut c me (starts_mend f t v)
starts_mend_packed c me f t v h =
    elim (t.started && not (has_mend_in v.users t.group)) as (λ x. SiteOut c me (elim x [ true ↦ starts_mend_of f t (first_that (wants_mend v t) t.files) v | false ↦ quiet v ])) [
      | true ↦ mend_packed c me f t (first_that (wants_mend v t) t.files) v h
      | false ↦ quiet_site c me v h
    ]

mends_packed : (c : Config) (me : ℕ) (f : Frame) (ts : List SyncTable) (v : SiteView) → ViewPacked c me v → SiteOut c me (starts_mends_in f ts v)
mends_packed c me f [] v h = quiet_site c me v h
mends_packed c me f (t ∷ ts) v h = then_site c me (starts_mend f t v) (starts_mends_in f ts) (starts_mend_packed c me f t v h) (λ g. mends_packed c me f ts (starts_mend f t v).view g)

mends_of_packed : (c : Config) (me : ℕ) (o : Option InEpoch) (v : SiteView) → ViewPacked c me v → SiteOut c me (starts_mends_of c me o v)
mends_of_packed c me None v h = quiet_site c me v h
mends_of_packed c me (Some e) v h = mends_packed c me (frame_in c me v.boot e) v.tables v h

-- ---- how an epoch is formed ----

left_told : (c : Config) (me boot : ℕ) (e : EpochId) (ws : List WaitingCall) → Every (ToldPacked c) (changed_records me boot e ws)
left_told c me boot e ws = every_map (ToldPacked c) (λ (w : WaitingCall). reply_record me boot w (reply.No (refusal.Changed e))) ws (λ w. tt)

leaves_of_packed : (c : Config) (me : ℕ) (e : Option InEpoch) (v : SiteView) → ViewPacked c me v → SiteOut c me (leaves_of me e v)
leaves_of_packed c me None v h = quiet_site c me v h
leaves_of_packed c me (Some e) v h = record { view = record { store = record { copies = h.store.copies; instances = tt }; pulls = tt; tables = tt; reports = tt }; sent = tt; told = (tt, left_told c me v.boot e.id v.users.waiting) }

promises_packed : (c : Config) (me : ℕ) (id : EpochId) (reach : Sites) (v : SiteView) → ViewPacked c me v → SiteOut c me (promises me id reach v)
promises_packed c me id reach v h = then_site c me (leaves me v) (λ now. tells (Promises me id reach ∷ []) (promised_view id now)) (leaves_of_packed c me v.epoch v h) (λ g. record { view = record { store = g.store; pulls = g.pulls; tables = g.tables; reports = g.reports }; sent = tt; told = (tt, tt) })

begins_packed : (c : Config) (me : ℕ) (links : Links) (number : ℕ) (polled : Links) (v : SiteView) → ViewPacked c me v → SiteOut c me (begins_round me links number polled v)
begins_packed c me links number polled v h =
    let id : EpochId = round_id me number v in
    let o : Outcome SiteView = promises me id (reached links) v in
    then_site c me o (polls me id polled) (promises_packed c me id (reached links) v h) (λ g. record { view = record { store = g.store; pulls = g.pulls; tables = g.tables; reports = g.reports }; sent = every_map (PacketPacked c) (poll_packet me o.view.boot id polled) (polled_sites polled) (λ t. tt); told = tt })

starts_part_packed : (c : Config) (me : ℕ) (links : Links) (e : Option InEpoch) (v : SiteView) → ViewPacked c me v → SiteOut c me (starts_part_of me links e v)
starts_part_packed c me links None v h = quiet_site c me v h
starts_part_packed c me links (Some e) v h = begins_packed c me links (v.promised.number + 1) (boots_where (part_boot me links e.members)) v h

on_poll_packed : (c : Config) (me : ℕ) (links : Links) (from from_boot : ℕ) (id : EpochId) (v : SiteView) → ViewPacked c me v → SiteOut c me (on_poll me links from from_boot id v)
on_poll_packed c me links from from_boot id v h =
    elim (is_epoch_below v.promised id) as (λ t. SiteOut c me (elim t [ true ↦ and_then (promises me id (reached links) v) (λ now. sends (promise_packet me links from from_boot id now) now) | false ↦ sends (cond (same_epoch id v.promised && not v.installed) (promise_packet me links from from_boot id v) (refuse_packet me from from_boot id v)) v ])) [
      | true ↦ then_site c me (promises me id (reached links) v) (λ now. sends (promise_packet me links from from_boot id now) now) (promises_packed c me id (reached links) v h) (λ g. record { view = g; sent = (tt, tt); told = tt })
      | false ↦ record { view = h; sent = every_cond (PacketPacked c) (same_epoch id v.promised && not v.installed) (promise_packet me links from from_boot id v) (refuse_packet me from from_boot id v) (tt, tt) (tt, tt); told = tt }
    ]

on_promise_packed : (c : Config) (me : ℕ) (from from_boot : ℕ) (id : EpochId) (reach : Sites) (o : Option Round) (v : SiteView) → ViewPacked c me v → SiteOut c me (on_promise_of from from_boot id reach o v)
on_promise_packed c me from from_boot id reach None v h = quiet_site c me v h
on_promise_packed c me from from_boot id reach (Some r) v h = record { view = record { store = h.store; pulls = h.pulls; tables = h.tables; reports = h.reports }; sent = tt; told = tt }

on_refuse_packed : (c : Config) (me : ℕ) (links : Links) (id theirs : EpochId) (o : Option Round) (v : SiteView) → ViewPacked c me v → SiteOut c me (on_refuse_of me links id theirs o v)
on_refuse_packed c me links id theirs None v h = quiet_site c me v h
on_refuse_packed c me links id theirs (Some r) v h =
    elim (same_epoch r.id id) as (λ t. SiteOut c me (elim t [ true ↦ begins_round me links (theirs.number + 1) r.polled v | false ↦ quiet v ])) [
      | true ↦ begins_packed c me links (theirs.number + 1) r.polled v h
      | false ↦ quiet_site c me v h
    ]

report_case : (c : Config) (group : ℕ) (b : Bool) (x : ReportedCopy) (xs : List ReportedCopy) → (b ≡ true → ReportedPacked c group x) → Every (ReportedPacked c group) xs → Every (ReportedPacked c group) (cond b (x ∷ xs) xs)
report_case c group true x xs k h = (k refl, h)
report_case c group false x xs k h = h

report_packed : (c : Config) (me group : ℕ) (xs : List FileCopy) → Every (CopyPacked c me) xs → Every (ReportedPacked c group) (report_of group xs)
report_packed c me group [] h = tt
report_packed c me group (x ∷ xs) h = report_case c group (x.file.group == group) (reported x) (report_of group xs) (λ e. subst (λ (n : ℕ). InPacks c n x.set) (equal x.file.group group e) h.0.all) (report_packed c me group xs h.1)

all_reports_packed : (f : Frame) (v : SiteView) → Every (CopyPacked f.config f.me) v.store.copies → Every (ReportPacked f.config f.me) v.reports → Every (PacketPacked f.config) (all_reports f v)
all_reports_packed f v h k = every_flat (ReportPacked f.config f.me) (PacketPacked f.config) (report_packets f v) v.reports (λ g p. sync_packed f g (body.Report g (report_of g v.store.copies)) (λ to. (p, report_packed f.config f.me g v.store.copies h))) k

own_packed : (c : Config) (me : ℕ) → Every (ReportPacked c me) (own_groups c me)
own_packed c me = passing (ReportPacked c me) (λ g. has (pack_sites c g) me) all_groups (λ g e. e)

every_made : (c : Config) (me : ℕ) (gs : List ℕ) → Every (ReportPacked c me) gs → Every (TablePacked c me) (map new_table gs)
every_made c me [] h = tt
every_made c me (g ∷ gs) h = (record { here = h.0; files = tt; opens = tt; looks = tt; early = tt }, every_made c me gs h.1)

joins_packed : (c : Config) (me : ℕ) (id : EpochId) (m : Members) (v : SiteView) → ViewPacked c me v → SiteOut c me (joins c me id m v)
joins_packed c me id m v h = record {
  view = record { store = h.store; pulls = h.pulls; tables = every_made c me (filter (is_sync_site c me m) (own_groups c me)) (every_filter (ReportPacked c me) (is_sync_site c me m) (own_groups c me) (own_packed c me)); reports = own_packed c me };
  sent = all_reports_packed (frame_in c me v.boot (record { id = id; members = m })) (joined_view c me id m v) h.store.copies (own_packed c me);
  told = (tt, tt);
}

on_install_packed : (c : Config) (me from from_boot : ℕ) (id : EpochId) (m : Members) (v : SiteView) → ViewPacked c me v → SiteOut c me (on_install c me from from_boot id m v)
on_install_packed c me from from_boot id m v h =
    elim (may_install me id m v) as (λ t. SiteOut c me (elim t [ true ↦ and_then (joins c me id m v) (λ now. sends (joined_packet me from from_boot id now) now) | false ↦ sends (cond (is_in id v.epoch) (joined_packet me from from_boot id v) []) v ])) [
      | true ↦ then_site c me (joins c me id m v) (λ now. sends (joined_packet me from from_boot id now) now) (joins_packed c me id m v h) (λ g. record { view = g; sent = (tt, tt); told = tt })
      | false ↦ record { view = h; sent = every_cond (PacketPacked c) (is_in id v.epoch) (joined_packet me from from_boot id v) [] (tt, tt) tt; told = tt }
    ]

on_joined_packed : (c : Config) (me : ℕ) (from : ℕ) (id : EpochId) (v : SiteView) → ViewPacked c me v → SiteOut c me (on_joined from id v)
on_joined_packed c me from id v h =
    elim (is_in id v.epoch) as (λ b. SiteOut c me (quiet (cond b (record v { installs = without_row (λ s. s) from v.installs }) v))) [
      | true ↦ record { view = record { store = h.store; pulls = h.pulls; tables = h.tables; reports = h.reports }; sent = tt; told = tt }
      | false ↦ quiet_site c me v h
    ]

decides_packed : (c : Config) (me : ℕ) (links : Links) (r : Round) (xs : List ℕ) (v : SiteView) → ViewPacked c me v → SiteOut c me (decides_if c me links r xs v)
decides_packed c me links r [] v h =
    let m : Members = chosen_members me v.boot r (chosen_set me links r) in
    then_site c me (joins c me r.id m v) (installs_all me r.id m) (joins_packed c me r.id m v h)
    (λ g. record { view = record { store = g.store; pulls = g.pulls; tables = g.tables; reports = g.reports }; sent = every_map (PacketPacked c) (install_packet me (joins c me r.id m v).view.boot r.id m) (others_of me m) (λ t. tt); told = tt })
decides_packed c me links r (x ∷ xs) v h = record { view = record { store = h.store; pulls = h.pulls; tables = h.tables; reports = h.reports }; sent = tt; told = tt }

passes_over_packed : (c : Config) (me : ℕ) (links : Links) (o : Option Round) (v : SiteView) → ViewPacked c me v → SiteOut c me (passes_over_of c me links o v)
passes_over_packed c me links None v h = quiet_site c me v h
passes_over_packed c me links (Some r) v h = decides_packed c me links (passed_over links r) (unanswered (passed_over links r)) v h

ends_packed : (c : Config) (me : ℕ) (links : Links) (v : SiteView) → ViewPacked c me v → SiteOut c me (ends_event c me links v)
ends_packed c me links v h = then_site c me (passes_over c me links v) (λ now. starts_mends_of c me now.epoch now) (passes_over_packed c me links v.round v h) (λ g. mends_of_packed c me (passes_over c me links v).view.epoch (passes_over c me links v).view g)

-- ---- the step ----

whole_packed : (c : Config) (me : ℕ) (links : Links) (o : Outcome SiteView) (tries : SiteView → Outcome SiteView) → SiteOut c me o → ((v : SiteView) → ViewPacked c me v → SiteOut c me (tries v)) → SiteOut c me (whole c me links o tries)
whole_packed c me links o tries h tried =
    let a : Outcome SiteView = tries o.view in
    let last : Outcome SiteView = ends_event c me links a.view in
    let k : SiteOut c me a = tried o.view h.view in
    let e : SiteOut c me last = ends_packed c me links a.view k.view in
    record { view = e.view; sent = every_append (PacketPacked c) a.sent (in_order (o.sent ++ last.sent)) k.sent (order_sent (PacketPacked c) (o.sent ++ last.sent) (every_append (PacketPacked c) o.sent last.sent h.sent e.sent)); told = every_append (ToldPacked c) a.told (o.told ++ last.told) k.told (every_append (ToldPacked c) o.told last.told h.told e.told) }

untried_packed : (c : Config) (me : ℕ) (links : Links) (o : Outcome SiteView) → SiteOut c me o → SiteOut c me (whole c me links o quiet)
untried_packed c me links o h = whole_packed c me links o quiet h (quiet_site c me)

framed_packed : (c : Config) (me : ℕ) (p : Packet) (o : Option InEpoch) (v : SiteView) → BodyPacked c p.from me p.body → BodyCloses c p.from v p.body → ViewPacked c me v → SiteOut c me (takes_framed c me p o v)
framed_packed c me p None v k d h = quiet_site c me v h
framed_packed c me p (Some e) v k d h = inside_packed (frame_in c me v.boot e) p.from p.body v k d h

takes_packed : (c : Config) (me : ℕ) (links : Links) (p : Packet) (x : Body) (v : SiteView) → BodyPacked c p.from me p.body → BodyCloses c p.from v p.body → ViewPacked c me v → SiteOut c me (takes c me links p x v)
takes_packed c me links p body.Poll v k d h = on_poll_packed c me links p.from p.from_boot p.epoch v h
takes_packed c me links p (body.Promise reach) v k d h = on_promise_packed c me p.from p.from_boot p.epoch reach v.round v h
takes_packed c me links p (body.Refuse promised) v k d h = on_refuse_packed c me links p.epoch promised v.round v h
takes_packed c me links p (body.Install members) v k d h = on_install_packed c me p.from p.from_boot p.epoch members v h
takes_packed c me links p body.Joined v k d h = on_joined_packed c me p.from p.epoch v h
takes_packed c me links p _ v k d h = framed_packed c me p v.epoch v k d h

polls_packed : (c : Config) (me : ℕ) (v : SiteView) (r : Option Round) → Every (PacketPacked c) (poll_repeats me v r)
polls_packed c me v None = tt
polls_packed c me v (Some r) = every_map (PacketPacked c) (poll_packet me v.boot r.id r.polled) (unanswered r) (λ s. tt)

inside_repeats : (f : Frame) (e : InEpoch) (v : SiteView) → ViewPacked f.config f.me v → Every (PacketPacked f.config) (repeats_inside f e v)
inside_repeats f e v h =
    every_append (PacketPacked f.config) (in_order (all_reports f v)) _ (order_sent (PacketPacked f.config) (all_reports f v) (all_reports_packed f v h.store.copies h.reports))
    (every_append (PacketPacked f.config) (users_repeats f v.users) _ (users_repeats_packed f.config f v.users)
    (every_append (PacketPacked f.config) (in_order (store_repeats f v.store)) _ (order_sent (PacketPacked f.config) (store_repeats f v.store) (store_repeats_packed f v.store))
    (every_append (PacketPacked f.config) (in_order (pull_repeats f v.pulls)) _ (order_sent (PacketPacked f.config) (pull_repeats f v.pulls) (pull_repeats_packed f.config f v.pulls))
    (order_sent (PacketPacked f.config) (flat_map (sync_repeats f) v.tables) (every_flat (TablePacked f.config f.me) (PacketPacked f.config) (sync_repeats f) v.tables (λ t k. sync_repeats_packed f t k) h.tables)))))

repeats_packed : (c : Config) (me : ℕ) (o : Option InEpoch) (v : SiteView) → ViewPacked c me v → Every (PacketPacked c) (repeats_of c me o v)
repeats_packed c me None v h = order_sent (PacketPacked c) (poll_repeats me v v.round) (polls_packed c me v v.round)
repeats_packed c me (Some e) v h =
    every_append (PacketPacked c) (in_order (poll_repeats me v v.round ++ install_repeats me v e)) (repeats_inside (frame_in c me v.boot e) e v)
    (order_sent (PacketPacked c) (poll_repeats me v v.round ++ install_repeats me v e) (every_append (PacketPacked c) (poll_repeats me v v.round) (install_repeats me v e) (polls_packed c me v v.round) (every_map (PacketPacked c) (install_packet me v.boot e.id e.members) v.installs (λ t. tt))))
    (inside_repeats (frame_in c me v.boot e) e v h)

ticks_packed : (c : Config) (me : ℕ) (links : Links) (v : SiteView) → ViewPacked c me v → SiteOut c me (ticks_after c me links (adopts_in c me v))
ticks_packed c me links v h =
    let a : Outcome SiteView = adopts_in c me v in
    let last : Outcome SiteView = ends_event c me links a.view in
    let again : List Packet = repeats c me a.view in
    let k : SiteOut c me a = adopts_of_packed c me v.epoch v h in
    let e : SiteOut c me last = ends_packed c me links a.view k.view in
    record { view = e.view; sent = every_append (PacketPacked c) a.sent (again ++ in_order last.sent) k.sent (every_append (PacketPacked c) again (in_order last.sent) (repeats_packed c me a.view.epoch a.view k.view) (order_sent (PacketPacked c) last.sent e.sent)); told = every_append (ToldPacked c) a.told last.told k.told e.told }

-- a packet that is let through carries what packs allow, and closes only what lies here
pub record PacketAllows (c : Config) (me : ℕ) (v : SiteView) (p : Packet) : Type 0 where
  pub packed : BodyPacked c p.from me p.body
  pub closes : is_dropped p v ≡ false → BodyCloses c p.from v p.body

abbrev pub EventPacked : Config → ℕ → SiteView → Event → Type 0
EventPacked c me v (Receives p) = PacketAllows c me v p
EventPacked c me v _ = Unit {0}

call_packed : (c : Config) (me process : ℕ) (words : Call) (v : SiteView) → ViewPacked c me v → SiteOut c me (takes_call c me process words v)
call_packed c me process words v h = users_part c me v (on_call (call_frame c me v.boot v.epoch) (epoch_id v.epoch) process words v.users) h (on_call_packed c (call_frame c me v.boot v.epoch) (epoch_id v.epoch) process words v.users)

pub step_packed : (c : Config) (me : ℕ) (links : Links) (v : SiteView) (e : Event) → EventPacked c me v e → ViewPacked c me v → SiteOut c me (step c me links v e)
step_packed c me links v (Calls process words) k h = untried_packed c me links (takes_call c me process words v) (call_packed c me process words v h)
step_packed c me links v (Receives p) k h =
    (elim (is_dropped p v) as (λ t. is_dropped p v ≡ t → SiteOut c me (elim t [ true ↦ quiet v | false ↦ whole c me links (takes c me links p p.body v) (tries_at c me p.body) ])) [
      | true ↦ λ d. quiet_site c me v h
      | false ↦ λ d. whole_packed c me links (takes c me links p p.body v) (tries_at c me p.body) (takes_packed c me links p p.body v k.packed (k.closes d) h) (tries_packed c me p.body)
    ]) refl
step_packed c me links v Ticks k h = ticks_packed c me links v h
step_packed c me links v Parts k h = untried_packed c me links (starts_part me links v) (starts_part_packed c me links v.epoch v h)
step_packed c me links v Merges k h = untried_packed c me links (starts_merge me links v) (begins_packed c me links (v.promised.number + 1) (boots_where (merge_boot me links)) v h)
step_packed c me links v GivesUp k h = untried_packed c me links (leaves me v) (leaves_of_packed c me v.epoch v h)
