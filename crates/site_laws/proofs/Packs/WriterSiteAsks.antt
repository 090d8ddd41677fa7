-- What each event of a site asks is of what it has asked to write.
use Rattle.std.proofs.Common.{◌≡◌, ℕ, ◌+◌, Bool, true, false, ◌&&◌, not, cond, List, [], ◌∷◌, ◌++◌, Option, Some, None, refl, sym, subst}
use Rattle.std.specs.List.{flat_map}
use Rattle.locus_ids.specs.declared.ids.EpochId.{EpochId}
use Rattle.locus_ids.specs.declared.sites.Links.{Links}
use Rattle.locus_ids.specs.declared.sites.Members.{Members}
use Rattle.locus_ids.specs.declared.sites.Sites.{Sites}
use Rattle.locus_ids.specs.declared.config.Config.{Config}
use Rattle.trace_book.specs.Same.{same_epoch}
use Rattle.trace_book.specs.declared.call.Call.{Call}
use Rattle.trace_book.specs.declared.call.Call.TheVariants as call
use Rattle.wire_messages.specs.declared.packet.Packet.{Packet}
use Rattle.wire_messages.specs.declared.body.Body.{Body}
use Rattle.wire_messages.specs.declared.body.Body.TheVariants as body
use Rattle.role_steps.specs.Own.{Every}
use Rattle.role_steps.specs.Tables.{row, without_row, first_that, sorted_onto, put_before}
use Rattle.role_steps.specs.Views.{Frame, Users, SiteView, Promises, Outcome, Event, Calls, Receives, Ticks, Parts, Merges, GivesUp, quiet, sends, tells, and_then, joined_to, within}
use Rattle.role_steps.specs.Reports.{new_table, sync_repeats}
use Rattle.role_steps.specs.Storage.{copy_of, store_repeats}
use Rattle.role_steps.specs.Pulling.{pull_repeats}
use Rattle.role_steps.specs.Requests.{users_repeats}
use Rattle.role_steps.specs.Using.{on_call, on_open_done, on_op_done, on_close_done, on_look_done, on_as_held}
use Rattle.role_steps.specs.Versions.{file_row}
use Rattle.role_steps.specs.Epochs.{is_epoch_below, frame_in, with_users, leaves_of, leaves, promised_view, promises, reached, poll_packet, polled_sites, polls, round_id, begins_round, starts_merge, boots_where, merge_boot, part_boot, starts_part_of, starts_part, promise_packet, refuse_packet, on_poll, on_promise_of, on_refuse_of, joined_view, report_packets, all_reports, joins, may_install, is_in, joined_packet, on_install, on_joined, passed_over, unanswered, chosen_set, chosen_members, others_of, install_packet, installs_all, decides_if, passes_over_of, passes_over, poll_repeats, install_repeats}
use Rattle.role_steps.specs.Adoption.{with_store, notes_own_at, table_group, is_ready, adopts_pull, without_pull, adopts_first, with_adopted, fits_own}
use Rattle.role_steps.specs.Mends.{kept_stamps, has_mend_in, wants_mend, row_file, starts_mend_of, starts_mend, starts_mends_in}
use Rattle.role_steps.specs.declared.pulls.Pull.{Pull}
use Rattle.role_steps.specs.declared.rounds.InEpoch.{InEpoch}
use Rattle.role_steps.specs.declared.rounds.Round.{Round}
use Rattle.role_steps.specs.declared.synchronizing.SyncTable.{SyncTable}
use Rattle.role_steps.specs.declared.synchronizing.FileRow.{FileRow}
use Rattle.role_steps.proofs.Sending.{every_append, every_cond, every_map, every_flat_map}
use Rattle.run_laws.specs.Walks.Laws.{TablePart}
use Rattle.the_run.specs.Roles.{IsForUser}
use Rattle.the_run.specs.Steps.{with_pulls, is_before, in_order, at_table_of, takes_inside, is_dropped, takes_framed, takes, adopts_of, adopts_in, tries_at, starts_mends_of, ends_event, whole, repeats_inside, repeats_of, repeats, ticks_after, call_frame, epoch_id, takes_call, step}
use Rattle.the_run.proofs.Boots.{every_weaker}
use Rattle.the_run.proofs.InsideSync.{every_row, Found, row_found}
use Rattle.the_run.proofs.Roles.{by_role, tables_of, stores_by, readers_by, pulls_by}
use Rattle.the_run.proofs.StepSends.{order_sent}
use Rattle.site_laws.specs.Packs.WriterAsking.{Serials, UsersFact, Noted, PacketFact, BodyFact, NoAsk, Askless, TableOk, ViewFact, Fine}
use Rattle.site_laws.proofs.Packs.WriterServing.{asking, tables, stores, versions, back, answer_asks_none, sync_plain, sync_repeats_plain, have_ok, store_repeats_plain, pull_repeats_plain}
use Rattle.site_laws.proofs.Packs.WriterUserAsks.{UsersFine, Gives, users_repeats_fact, on_call_gives, on_open_done_gives, on_op_done_gives, on_close_done_gives, on_look_done_gives, users_left, on_as_held_gives}

-- ---- lists ----

pub every_first : {A : Type 0} (P : A → Type 0) (xs ys : List A) → Every P (xs ++ ys) → Every P xs
every_first P [] ys h = tt
every_first P (x ∷ xs) ys h = (h.0, every_first P xs ys h.1)

pub every_last : {A : Type 0} (P : A → Type 0) (xs ys : List A) → Every P (xs ++ ys) → Every P ys
every_last P [] ys h = h
every_last P (x ∷ xs) ys h = every_last P xs ys h.1

-- what holds of each in order holds of each
put_back : {A : Type 0} (P : A → Type 0) (before : A → A → Bool) (x : A) (ys : List A) → Every P (put_before before x ys) → P x × Every P ys
put_back P before x [] h = h
put_back {A} P before x (y ∷ ys) h =
    (elim (before x y) as (λ b. Every P (elim b [ true ↦ x ∷ y ∷ ys | false ↦ y ∷ put_before before x ys ]) → P x × Every P (y ∷ ys)) [
      | true ↦ λ k. k
      | false ↦ λ k. (let r : P x × Every P ys = put_back P before x ys k.1 in (r.0, (k.0, r.1)))
    ]) h

onto_back : {A : Type 0} (P : A → Type 0) (before : A → A → Bool) (done xs : List A) → Every P (sorted_onto before done xs) → Every P done × Every P xs
onto_back P before done [] h = (h, tt)
onto_back {A} P before done (x ∷ xs) h =
    let r : Every P (put_before before x done) × Every P xs = onto_back P before (put_before before x done) xs h in
    let q : P x × Every P done = put_back P before x done r.0 in
    (q.1, (q.0, r.1))

pub order_back : (P : Packet → Type 0) (ps : List Packet) → Every P (in_order ps) → Every P ps
order_back P ps h = (onto_back P is_before [] ps h).1

-- ---- packets that ask nothing ----

no_ask : (G : Serials) (x : Body) → NoAsk x → BodyFact G x
no_ask G (body.Open serial call process request file how) h = absurd h
no_ask G (body.Op serial n o seen) h = absurd h
no_ask G _ h = tt

askless : (G : Serials) (ps : List Packet) → Every Askless ps → Every (PacketFact G) ps
askless G ps h = every_weaker Askless (PacketFact G) ps (λ p. no_ask G p.body) h

-- ---- outcomes ----

-- the view keeps its facts, and nothing is asked
record Keeps (c : Config) (G : Serials) (v : SiteView) (o : Outcome SiteView) : Type 0 where
  view : ViewFact c G v → ViewFact c G o.view
  sent : Every Askless o.sent

abbrev SiteGives : Config → Serials → Outcome SiteView → Type 0
SiteGives c G o = Every (Noted G) o.sent → Fine c G o

kept_fine : (c : Config) (G : Serials) (v : SiteView) (o : Outcome SiteView) → Keeps c G v o → ViewFact c G v → Fine c G o
kept_fine c G v o k h = record { view = k.view h; sent = askless G o.sent k.sent }

kept_gives : (c : Config) (G : Serials) (v : SiteView) (o : Outcome SiteView) → Keeps c G v o → ViewFact c G v → SiteGives c G o
kept_gives c G v o k h noted = kept_fine c G v o k h

quiet_keeps : (c : Config) (G : Serials) (v : SiteView) → Keeps c G v (quiet v)
quiet_keeps c G v = record { view = λ h. h; sent = tt }

keeps_then : (c : Config) (G : Serials) (v : SiteView) (o p : Outcome SiteView) → Keeps c G v o → Keeps c G o.view p → Keeps c G v (joined_to o p)
keeps_then c G v o p h g = record { view = λ k. g.view (h.view k); sent = every_append Askless o.sent p.sent h.sent g.sent }

gives_then : (c : Config) (G : Serials) (o p : Outcome SiteView) → SiteGives c G o → (ViewFact c G o.view → SiteGives c G p) → SiteGives c G (joined_to o p)
gives_then c G o p h g noted =
    let k : Fine c G o = h (every_first (Noted G) o.sent p.sent noted) in
    let l : Fine c G p = g k.view (every_last (Noted G) o.sent p.sent noted) in
    record { view = l.view; sent = every_append (PacketFact G) o.sent p.sent k.sent l.sent }

-- users and tables stay
alike_keeps : (c : Config) (G : Serials) (v : SiteView) (o : Outcome SiteView) → o.view.users ≡ v.users → o.view.tables ≡ v.tables → Every Askless o.sent → Keeps c G v o
alike_keeps c G v o users tables sent = record { view = λ h. record { users = subst (UsersFact c G) (sym users) h.users; tables = subst (λ (ts : List SyncTable). Every TableOk ts) (sym tables) h.tables }; sent = sent }

-- ---- adoptions ----

noted_tables : (f : Frame) (p : Pull) (o : Option SyncTable) (v : SiteView) → Found TableOk o → Every TableOk v.tables → Every TableOk (notes_own_at f p o v).tables
noted_tables f p None v k h = h
noted_tables f p (Some t) v k h = every_row TableOk table_group _ v.tables (have_ok f.me p.stamp (file_row t p.file.ino) t k) h

noted_users : (f : Frame) (p : Pull) (o : Option SyncTable) (v : SiteView) → (notes_own_at f p o v).users ≡ v.users
noted_users f p None v = refl
noted_users f p (Some t) v = refl

adopts_pull_keeps : (c : Config) (G : Serials) (f : Frame) (p : Pull) (v : SiteView) → Keeps c G v (adopts_pull f p v)
adopts_pull_keeps c G f p v =
    let now : SiteView = with_adopted p v in
    record {
      view = λ h. record { users = subst (UsersFact c G) (sym (noted_users f p (row table_group p.file.group v.tables) now)) h.users; tables = noted_tables f p (row table_group p.file.group v.tables) now (row_found TableOk table_group p.file.group v.tables h.tables) h.tables };
      sent = sync_plain f p.file.group _ tt;
    }

adopts_first_keeps : (c : Config) (G : Serials) (f : Frame) (ps : List Pull) (v : SiteView) → Keeps c G v (adopts_first f ps v)
adopts_first_keeps c G f [] v = quiet_keeps c G v
adopts_first_keeps c G f (p ∷ ps) v =
    elim (is_ready v p) as (λ t. Keeps c G v (elim t [ true ↦ elim (fits_own p (copy_of v.store p.file)) [ true ↦ adopts_pull f p v | false ↦ adopts_first f ps (without_pull p v) ] | false ↦ adopts_first f ps v ])) [
      | true ↦ elim (fits_own p (copy_of v.store p.file)) as (λ t. Keeps c G v (elim t [ true ↦ adopts_pull f p v | false ↦ adopts_first f ps (without_pull p v) ])) [
        | true ↦ adopts_pull_keeps c G f p v
        | false ↦ (let g : Keeps c G (without_pull p v) (adopts_first f ps (without_pull p v)) = adopts_first_keeps c G f ps (without_pull p v) in record { view = λ h. g.view (record { users = h.users; tables = h.tables }); sent = g.sent })
      ]
      | false ↦ adopts_first_keeps c G f ps v
    ]

adopts_keeps : (c : Config) (G : Serials) (me : ℕ) (e : Option InEpoch) (v : SiteView) → Keeps c G v (adopts_of c me e v)
adopts_keeps c G me None v = quiet_keeps c G v
adopts_keeps c G me (Some e) v = adopts_first_keeps c G (frame_in c me v.boot e) v.pulls v

tries_keeps : (c : Config) (G : Serials) (me : ℕ) (x : Body) (v : SiteView) → Keeps c G v (tries_at c me x v)
tries_keeps c G me (body.Notify file kind set size stamp vector holder) v = adopts_keeps c G me v.epoch v
tries_keeps c G me (body.Page file stamp page bytes) v = adopts_keeps c G me v.epoch v
tries_keeps c G me (body.Delta file wanted pages) v = adopts_keeps c G me v.epoch v
tries_keeps c G me _ v = quiet_keeps c G v

-- ---- the users of a site ----

users_gives : (c : Config) (G : Serials) (v : SiteView) (o : Outcome Users) → Gives c G o → ViewFact c G v → SiteGives c G (record { view = with_users v o.view; sent = o.sent; told = o.told; written = o.written })
users_gives c G v o g h noted = let k : UsersFine c G o = g noted in record { view = record { users = k.view; tables = h.tables }; sent = k.sent }

-- ---- mends ----

mend_gives : (G : Serials) (f : Frame) (t : SyncTable) (o : Option FileRow) (v : SiteView) → ViewFact f.config G v → SiteGives f.config G (starts_mend_of f t o v)
mend_gives G f t None v h noted = kept_fine f.config G v (quiet v) (quiet_keeps f.config G v) h
mend_gives G f t (Some r) v h noted = users_gives f.config G v (on_call f (Some f.epoch) 0 (call.Mend (row_file t r)) v.users) (on_call_gives G f (Some f.epoch) 0 (call.Mend (row_file t r)) v.users h.users) h noted

starts_mend_gives : (G : Serials) (f : Frame) (t : SyncTable) (v : SiteView) → ViewFact f.config G v → SiteGives f.config G (starts_mend f t v)
starts_mend_gives G f t v h =
    elim (t.started && not (has_mend_in v.users t.group)) as (λ x. SiteGives f.config G (elim x [ true ↦ starts_mend_of f t (first_that (wants_mend v t) t.files) v | false ↦ quiet v ])) [
      | true ↦ mend_gives G f t (first_that (wants_mend v t) t.files) v h
      | false ↦ kept_gives f.config G v (quiet v) (quiet_keeps f.config G v) h
    ]

mends_gives : (G : Serials) (f : Frame) (ts : List SyncTable) (v : SiteView) → ViewFact f.config G v → SiteGives f.config G (starts_mends_in f ts v)
mends_gives G f [] v h = kept_gives f.config G v (quiet v) (quiet_keeps f.config G v) h
mends_gives G f (t ∷ ts) v h = gives_then f.config G (starts_mend f t v) (starts_mends_in f ts (starts_mend f t v).view) (starts_mend_gives G f t v h) (λ k. mends_gives G f ts (starts_mend f t v).view k)

mends_of_gives : (c : Config) (G : Serials) (me : ℕ) (e : Option InEpoch) (v : SiteView) → ViewFact c G v → SiteGives c G (starts_mends_of c me e v)
mends_of_gives c G me None v h = kept_gives c G v (quiet v) (quiet_keeps c G v) h
mends_of_gives c G me (Some e) v h = mends_gives G (frame_in c me v.boot e) v.tables v h

-- ---- how an epoch is formed ----

leaves_keeps : (c : Config) (G : Serials) (me : ℕ) (e : Option InEpoch) (v : SiteView) → Keeps c G v (leaves_of me e v)
leaves_keeps c G me None v = quiet_keeps c G v
leaves_keeps c G me (Some e) v = record { view = λ h. record { users = users_left c G me v.boot e.id v.users h.users; tables = tt }; sent = tt }

promises_keeps : (c : Config) (G : Serials) (me : ℕ) (id : EpochId) (reach : Sites) (v : SiteView) → Keeps c G v (promises me id reach v)
promises_keeps c G me id reach v = keeps_then c G v (leaves me v) (tells (Promises me id reach ∷ []) (promised_view id (leaves me v).view)) (leaves_keeps c G me v.epoch v) (alike_keeps c G (leaves me v).view (tells (Promises me id reach ∷ []) (promised_view id (leaves me v).view)) refl refl tt)

begins_keeps : (c : Config) (G : Serials) (me : ℕ) (links : Links) (number : ℕ) (polled : Links) (v : SiteView) → Keeps c G v (begins_round me links number polled v)
begins_keeps c G me links number polled v =
    let id : EpochId = round_id me number v in
    let o : Outcome SiteView = promises me id (reached links) v in
    keeps_then c G v o (polls me id polled o.view) (promises_keeps c G me id (reached links) v) (alike_keeps c G o.view (polls me id polled o.view) refl refl (every_map Askless (poll_packet me o.view.boot id polled) (polled_sites polled) (λ s. tt)))

starts_part_keeps : (c : Config) (G : Serials) (me : ℕ) (links : Links) (e : Option InEpoch) (v : SiteView) → Keeps c G v (starts_part_of me links e v)
starts_part_keeps c G me links None v = quiet_keeps c G v
starts_part_keeps c G me links (Some e) v = begins_keeps c G me links (v.promised.number + 1) (boots_where (part_boot me links e.members)) v

on_poll_keeps : (c : Config) (G : Serials) (me : ℕ) (links : Links) (from from_boot : ℕ) (id : EpochId) (v : SiteView) → Keeps c G v (on_poll me links from from_boot id v)
on_poll_keeps c G me links from from_boot id v =
    elim (is_epoch_below v.promised id) as (λ t. Keeps c G v (elim t [ true ↦ and_then (promises me id (reached links) v) (λ now. sends (promise_packet me links from from_boot id now) now) | false ↦ sends (cond (same_epoch id v.promised && not v.installed) (promise_packet me links from from_boot id v) (refuse_packet me from from_boot id v)) v ])) [
      | true ↦ keeps_then c G v (promises me id (reached links) v) (sends (promise_packet me links from from_boot id (promises me id (reached links) v).view) (promises me id (reached links) v).view) (promises_keeps c G me id (reached links) v) (alike_keeps c G (promises me id (reached links) v).view _ refl refl (tt, tt))
      | false ↦ alike_keeps c G v _ refl refl (every_cond Askless (same_epoch id v.promised && not v.installed) (promise_packet me links from from_boot id v) (refuse_packet me from from_boot id v) (tt, tt) (tt, tt))
    ]

on_promise_keeps : (c : Config) (G : Serials) (from from_boot : ℕ) (id : EpochId) (reach : Sites) (o : Option Round) (v : SiteView) → Keeps c G v (on_promise_of from from_boot id reach o v)
on_promise_keeps c G from from_boot id reach None v = quiet_keeps c G v
on_promise_keeps c G from from_boot id reach (Some r) v = alike_keeps c G v (on_promise_of from from_boot id reach (Some r) v) refl refl tt

on_refuse_keeps : (c : Config) (G : Serials) (me : ℕ) (links : Links) (id theirs : EpochId) (o : Option Round) (v : SiteView) → Keeps c G v (on_refuse_of me links id theirs o v)
on_refuse_keeps c G me links id theirs None v = quiet_keeps c G v
on_refuse_keeps c G me links id theirs (Some r) v =
    elim (same_epoch r.id id) as (λ t. Keeps c G v (elim t [ true ↦ begins_round me links (theirs.number + 1) r.polled v | false ↦ quiet v ])) [
      | true ↦ begins_keeps c G me links (theirs.number + 1) r.polled v
      | false ↦ quiet_keeps c G v
    ]

reports_askless : (f : Frame) (v : SiteView) → Every Askless (all_reports f v)
reports_askless f v = every_flat_map Askless (report_packets f v) v.reports (λ g. sync_plain f g _ tt)

joins_keeps : (c : Config) (G : Serials) (me : ℕ) (id : EpochId) (m : Members) (v : SiteView) → Keeps c G v (joins c me id m v)
joins_keeps c G me id m v =
    let now : SiteView = joined_view c me id m v in
    record {
      view = λ h. record { users = h.users; tables = every_map TableOk new_table _ (λ g. tt) };
      sent = reports_askless (frame_in c me v.boot (record { id = id; members = m })) now;
    }

on_install_keeps : (c : Config) (G : Serials) (me from from_boot : ℕ) (id : EpochId) (m : Members) (v : SiteView) → Keeps c G v (on_install c me from from_boot id m v)
on_install_keeps c G me from from_boot id m v =
    elim (may_install me id m v) as (λ t. Keeps c G v (elim t [ true ↦ and_then (joins c me id m v) (λ now. sends (joined_packet me from from_boot id now) now) | false ↦ sends (cond (is_in id v.epoch) (joined_packet me from from_boot id v) []) v ])) [
      | true ↦ keeps_then c G v (joins c me id m v) (sends (joined_packet me from from_boot id (joins c me id m v).view) (joins c me id m v).view) (joins_keeps c G me id m v) (alike_keeps c G (joins c me id m v).view _ refl refl (tt, tt))
      | false ↦ alike_keeps c G v _ refl refl (every_cond Askless (is_in id v.epoch) (joined_packet me from from_boot id v) [] (tt, tt) tt)
    ]

on_joined_keeps : (c : Config) (G : Serials) (from : ℕ) (id : EpochId) (v : SiteView) → Keeps c G v (on_joined from id v)
on_joined_keeps c G from id v =
    elim (is_in id v.epoch) as (λ b. Keeps c G v (quiet (cond b (record v { installs = without_row (λ s. s) from v.installs }) v))) [
      | true ↦ alike_keeps c G v (quiet (record v { installs = without_row (λ s. s) from v.installs })) refl refl tt
      | false ↦ quiet_keeps c G v
    ]

decides_keeps : (c : Config) (G : Serials) (me : ℕ) (links : Links) (q : Round) (xs : List ℕ) (v : SiteView) → Keeps c G v (decides_if c me links q xs v)
decides_keeps c G me links q [] v =
    let m : Members = chosen_members me v.boot q (chosen_set me links q) in
    let o : Outcome SiteView = joins c me q.id m v in
    keeps_then c G v o (installs_all me q.id m o.view) (joins_keeps c G me q.id m v) (alike_keeps c G o.view (installs_all me q.id m o.view) refl refl (every_map Askless (install_packet me o.view.boot q.id m) (others_of me m) (λ s. tt)))
decides_keeps c G me links q (x ∷ xs) v = alike_keeps c G v _ refl refl tt

passes_keeps : (c : Config) (G : Serials) (me : ℕ) (links : Links) (o : Option Round) (v : SiteView) → Keeps c G v (passes_over_of c me links o v)
passes_keeps c G me links None v = quiet_keeps c G v
passes_keeps c G me links (Some r) v = decides_keeps c G me links (passed_over links r) (unanswered (passed_over links r)) v

ends_gives : (c : Config) (G : Serials) (me : ℕ) (links : Links) (v : SiteView) → ViewFact c G v → SiteGives c G (ends_event c me links v)
ends_gives c G me links v h =
    let o : Outcome SiteView = passes_over c me links v in
    gives_then c G o (starts_mends_of c me o.view.epoch o.view) (kept_gives c G v o (passes_keeps c G me links v.round v) h) (λ k. mends_of_gives c G me o.view.epoch o.view k)

-- ---- packets inside the epoch ----

-- an outcome that leaves users and tables
part_gives : (c : Config) (G : Serials) (v : SiteView) (o : Outcome SiteView) → o.view.users ≡ v.users → o.view.tables ≡ v.tables → Every Askless o.sent → ViewFact c G v → SiteGives c G o
part_gives c G v o users tables sent h = kept_gives c G v o (alike_keeps c G v o users tables sent) h

table_gives : (c : Config) (G : Serials) (g : SyncTable → Outcome SyncTable) (o : Option SyncTable) (v : SiteView) → Found TableOk o → ((t : SyncTable) → TableOk t → TablePart asking t (g t)) → ViewFact c G v → SiteGives c G (at_table_of g o v)
table_gives c G g None v found still h noted = kept_fine c G v (quiet v) (quiet_keeps c G v) h
table_gives c G g (Some t) v found still h noted = let r : TablePart asking t (g t) = still t found in record { view = record { users = h.users; tables = every_row TableOk table_group (g t).view v.tables r.3 h.tables }; sent = askless G (g t).sent r.0 }

users_give : (G : Serials) (f : Frame) (from : ℕ) (v : SiteView) → ViewFact f.config G v → (x : Body) → IsForUser x → SiteGives f.config G (takes_inside f from x v)
users_give G f from v h (body.OpenDone serial answer) is = users_gives f.config G v (on_open_done f (kept_stamps v) serial answer v.users) (on_open_done_gives G f (kept_stamps v) serial answer v.users h.users) h
users_give G f from v h (body.OpDone serial n result) is = users_gives f.config G v (on_op_done f serial n result v.users) (on_op_done_gives G f serial n result v.users h.users) h
users_give G f from v h (body.AsHeld serial n len) is = users_gives f.config G v (on_as_held f serial n v.users) (on_as_held_gives G f serial n v.users h.users) h
users_give G f from v h (body.CloseDone serial answer) is = users_gives f.config G v (on_close_done f serial answer v.users) (on_close_done_gives G f serial answer v.users h.users) h
users_give G f from v h (body.LookDone call request take answer) is = users_gives f.config G v (on_look_done f call request take answer v.users) (on_look_done_gives G f call request take answer v.users h.users) h
users_give G f from v h _ is = absurd is

inside_gives : (G : Serials) (f : Frame) (from : ℕ) (x : Body) (v : SiteView) → ViewFact f.config G v → SiteGives f.config G (takes_inside f from x v)
inside_gives G f from x v h = by_role Q f from v (record {
  tables = tables_of Q asking f from v (tables f) (back f from) h.tables (λ y g o is found still. table_gives f.config G g o v found still h);
  stores = stores_by Q asking f from v (stores f) versions (λ y o is part. part_gives f.config G v (within (with_store v) o) refl refl part.0 h);
  readers = readers_by Q asking f from v (stores f).reads answer_asks_none (λ y o is same part. part_gives f.config G v (within (with_store v) o) refl refl part.0 h);
  users = users_give G f from v h;
  pulls = pulls_by Q asking f from v (stores f).reads answer_asks_none (λ y o is part. part_gives f.config G v (within (with_pulls v) o) refl refl part.0 h);
  reported = λ group. part_gives f.config G v (takes_inside f from (body.ReportOk group) v) refl refl tt h;
  forming = λ y is. kept_gives f.config G v (quiet v) (quiet_keeps f.config G v) h;
}) x
  where
    Q : Body → Outcome SiteView → Type 0
    Q y o = SiteGives f.config G o

framed_gives : (c : Config) (G : Serials) (me : ℕ) (p : Packet) (e : Option InEpoch) (v : SiteView) → ViewFact c G v → SiteGives c G (takes_framed c me p e v)
framed_gives c G me p None v h = kept_gives c G v (quiet v) (quiet_keeps c G v) h
framed_gives c G me p (Some e) v h = inside_gives G (frame_in c me v.boot e) p.from p.body v h

takes_gives : (c : Config) (G : Serials) (me : ℕ) (links : Links) (p : Packet) (x : Body) (v : SiteView) → ViewFact c G v → SiteGives c G (takes c me links p x v)
takes_gives c G me links p body.Poll v h = kept_gives c G v _ (on_poll_keeps c G me links p.from p.from_boot p.epoch v) h
takes_gives c G me links p (body.Promise reach) v h = kept_gives c G v _ (on_promise_keeps c G p.from p.from_boot p.epoch reach v.round v) h
takes_gives c G me links p (body.Refuse promised) v h = kept_gives c G v _ (on_refuse_keeps c G me links p.epoch promised v.round v) h
takes_gives c G me links p (body.Install members) v h = kept_gives c G v _ (on_install_keeps c G me p.from p.from_boot p.epoch members v) h
takes_gives c G me links p body.Joined v h = kept_gives c G v _ (on_joined_keeps c G p.from p.epoch v) h
takes_gives c G me links p _ v h = framed_gives c G me p v.epoch v h

-- ---- the step ----

whole_gives : (c : Config) (G : Serials) (me : ℕ) (links : Links) (o : Outcome SiteView) (tries : SiteView → Outcome SiteView) → SiteGives c G o → Keeps c G o.view (tries o.view) → SiteGives c G (whole c me links o tries)
whole_gives c G me links o tries h t noted =
    let a : Outcome SiteView = tries o.view in
    let last : Outcome SiteView = ends_event c me links a.view in
    let both : Every (Noted G) (o.sent ++ last.sent) = order_back (Noted G) (o.sent ++ last.sent) (every_last (Noted G) a.sent (in_order (o.sent ++ last.sent)) noted) in
    let k : Fine c G o = h (every_first (Noted G) o.sent last.sent both) in
    let l : Fine c G last = ends_gives c G me links a.view (t.view k.view) (every_last (Noted G) o.sent last.sent both) in
    record {
      view = l.view;
      sent = every_append (PacketFact G) a.sent (in_order (o.sent ++ last.sent)) (askless G a.sent t.sent) (order_sent (PacketFact G) (o.sent ++ last.sent) (every_append (PacketFact G) o.sent last.sent k.sent l.sent));
    }

-- what is sent again
inside_repeats : (c : Config) (G : Serials) (f : Frame) (e : InEpoch) (v : SiteView) → ViewFact c G v → Every (PacketFact G) (repeats_inside f e v)
inside_repeats c G f e v h =
    every_append (PacketFact G) (in_order (all_reports f v)) _ (order_sent (PacketFact G) (all_reports f v) (askless G (all_reports f v) (reports_askless f v)))
    (every_append (PacketFact G) (users_repeats f v.users) _ (users_repeats_fact c G f v.users h.users)
    (every_append (PacketFact G) (in_order (store_repeats f v.store)) _ (order_sent (PacketFact G) (store_repeats f v.store) (askless G (store_repeats f v.store) (store_repeats_plain f v.store)))
    (every_append (PacketFact G) (in_order (pull_repeats f v.pulls)) _ (order_sent (PacketFact G) (pull_repeats f v.pulls) (askless G (pull_repeats f v.pulls) (pull_repeats_plain f v.pulls)))
    (order_sent (PacketFact G) (flat_map (sync_repeats f) v.tables) (askless G (flat_map (sync_repeats f) v.tables) (every_flat_map Askless (sync_repeats f) v.tables (sync_repeats_plain f)))))))

polls_askless : (me : ℕ) (v : SiteView) (r : Option Round) → Every Askless (poll_repeats me v r)
polls_askless me v None = tt
polls_askless me v (Some r) = every_map Askless (poll_packet me v.boot r.id r.polled) (unanswered r) (λ s. tt)

repeats_fact : (c : Config) (G : Serials) (me : ℕ) (e : Option InEpoch) (v : SiteView) → ViewFact c G v → Every (PacketFact G) (repeats_of c me e v)
repeats_fact c G me None v h = order_sent (PacketFact G) (poll_repeats me v v.round) (askless G (poll_repeats me v v.round) (polls_askless me v v.round))
repeats_fact c G me (Some e) v h =
    every_append (PacketFact G) (in_order (poll_repeats me v v.round ++ install_repeats me v e)) _
    (order_sent (PacketFact G) (poll_repeats me v v.round ++ install_repeats me v e) (askless G (poll_repeats me v v.round ++ install_repeats me v e) (every_append Askless (poll_repeats me v v.round) (install_repeats me v e) (polls_askless me v v.round) (every_map Askless (install_packet me v.boot e.id e.members) v.installs (λ s. tt)))))
    (inside_repeats c G (frame_in c me v.boot e) e v h)

ticks_gives : (c : Config) (G : Serials) (me : ℕ) (links : Links) (v : SiteView) → ViewFact c G v → SiteGives c G (ticks_after c me links (adopts_in c me v))
ticks_gives c G me links v h noted =
    let a : Outcome SiteView = adopts_in c me v in
    let t : Keeps c G v a = adopts_keeps c G me v.epoch v in
    let again : List Packet = repeats c me a.view in
    let last : Outcome SiteView = ends_event c me links a.view in
    let l : Fine c G last = ends_gives c G me links a.view (t.view h) (order_back (Noted G) last.sent (every_last (Noted G) again (in_order last.sent) (every_last (Noted G) a.sent (again ++ in_order last.sent) noted))) in
    record {
      view = l.view;
      sent = every_append (PacketFact G) a.sent (again ++ in_order last.sent) (askless G a.sent t.sent) (every_append (PacketFact G) again (in_order last.sent) (repeats_fact c G me a.view.epoch a.view (t.view h)) (order_sent (PacketFact G) last.sent l.sent));
    }

call_gives : (c : Config) (G : Serials) (me process : ℕ) (words : Call) (e : Option InEpoch) (v : SiteView) → ViewFact c G v → Gives c G (on_call (call_frame c me v.boot e) (epoch_id e) process words v.users)
call_gives c G me process words None v h = on_call_gives G (call_frame c me v.boot None) None process words v.users h.users
call_gives c G me process words (Some e) v h = on_call_gives G (call_frame c me v.boot (Some e)) (Some e.id) process words v.users h.users

-- each event of a site
pub step_gives : (c : Config) (G : Serials) (me : ℕ) (links : Links) (v : SiteView) (e : Event) → ViewFact c G v → Every (Noted G) (step c me links v e).sent → Fine c G (step c me links v e)
step_gives c G me links v (Calls process words) h = whole_gives c G me links (takes_call c me process words v) quiet (users_gives c G v (on_call (call_frame c me v.boot v.epoch) (epoch_id v.epoch) process words v.users) (call_gives c G me process words v.epoch v h) h) (quiet_keeps c G (takes_call c me process words v).view)
step_gives c G me links v (Receives p) h =
    elim (is_dropped p v) as (λ t. SiteGives c G (elim t [ true ↦ quiet v | false ↦ whole c me links (takes c me links p p.body v) (tries_at c me p.body) ])) [
      | true ↦ kept_gives c G v (quiet v) (quiet_keeps c G v) h
      | false ↦ whole_gives c G me links (takes c me links p p.body v) (tries_at c me p.body) (takes_gives c G me links p p.body v h) (tries_keeps c G me p.body (takes c me links p p.body v).view)
    ]
step_gives c G me links v Ticks h = ticks_gives c G me links v h
step_gives c G me links v Parts h = whole_gives c G me links (starts_part me links v) quiet (kept_gives c G v (starts_part me links v) (starts_part_keeps c G me links v.epoch v) h) (quiet_keeps c G (starts_part me links v).view)
step_gives c G me links v Merges h = whole_gives c G me links (starts_merge me links v) quiet (kept_gives c G v (starts_merge me links v) (begins_keeps c G me links (v.promised.number + 1) (boots_where (merge_boot me links)) v) h) (quiet_keeps c G (starts_merge me links v).view)
step_gives c G me links v GivesUp h = whole_gives c G me links (leaves me v) quiet (kept_gives c G v (leaves me v) (leaves_keeps c G me v.epoch v) h) (quiet_keeps c G (leaves me v).view)
