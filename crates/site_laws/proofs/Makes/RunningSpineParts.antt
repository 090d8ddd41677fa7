-- What the parts of an event keep of facts about the instances of a site: packets inside the epoch, adoptions, mends, and how
-- an epoch is formed.
use Rattle.std.proofs.Common.{◌≡◌, ℕ, ◌+◌, true, false, cond, ◌&&◌, not, List, [], ◌∷◌, Option, Some, None, refl, sym, ap, subst, inl, inr}
use Rattle.role_steps.proofs.of_plain_facts.Tests.{both_true}
use Rattle.locus_ids.specs.declared.ids.EpochId.{EpochId}
use Rattle.locus_ids.specs.declared.sites.Members.{Members}
use Rattle.locus_ids.specs.declared.sites.Sites.{Sites}
use Rattle.locus_ids.specs.declared.sites.Links.{Links}
use Rattle.locus_ids.specs.declared.config.Config.{Config}
use Rattle.trace_book.specs.Same.{same_epoch}
use Rattle.trace_book.specs.declared.call.Call.TheVariants as call
use Rattle.trace_book.specs.declared.record.Record.{Record}
use Rattle.trace_book.specs.declared.record.Record.TheVariants as says
use Rattle.wire_messages.specs.declared.body.Body.{Body}
use Rattle.wire_messages.specs.declared.body.Body.TheVariants as body
use Rattle.role_steps.specs.Own.{Every}
use Rattle.role_steps.specs.Tables.{row, without_row, first_that}
use Rattle.role_steps.specs.Views.{Frame, Store, Users, SiteView, Told, Shown, Begins, Shuts, Reserves, Promises, Outcome, quiet, sends, tells, and_then, within}
use Rattle.role_steps.specs.Storage.{copy_of, instance_of, on_open_ss, on_close, on_closed_ok}
use Rattle.role_steps.specs.Operations.{on_op, on_read_held}
use Rattle.role_steps.specs.Using.{on_call}
use Rattle.role_steps.specs.Epochs.{is_epoch_below, frame_in, with_users, leaves_of, leaves, promises, promised_view, reached, polls, round_id, begins_round, boots_where, part_boot, starts_part_of, promise_packet, refuse_packet, on_poll, on_promise_of, on_refuse_of, joins, may_install, is_in, joined_packet, on_install, on_joined, passed_over, unanswered, chosen_members, chosen_set, installs_all, decides_if, passes_over_of, passes_over}
use Rattle.role_steps.specs.Adoption.{notes_own_at, table_group, with_store, without_pull, is_ready, adopts_pull, adopts_first, with_adopted, fits_own}
use Rattle.role_steps.specs.Mends.{mending, has_mend_in, wants_mend, starts_mend_of, starts_mend, starts_mends_in, row_file}
use Rattle.role_steps.specs.declared.pulls.Pull.{Pull}
use Rattle.role_steps.specs.declared.rounds.InEpoch.{InEpoch}
use Rattle.role_steps.specs.declared.rounds.Round.{Round}
use Rattle.role_steps.specs.declared.synchronizing.SyncTable.{SyncTable}
use Rattle.role_steps.specs.declared.synchronizing.FileRow.{FileRow}
use Rattle.the_run.specs.KindLaws.{Part, TablePart}
use Rattle.the_run.specs.Roles.{IsForStore}
use Rattle.the_run.proofs.Roles.{by_role, tables_by, readers_by, users_by, pulls_by}
use Rattle.the_run.specs.Steps.{from_user, group_of, at_table_of, takes_inside, adopts_of, starts_mends_of, ends_event, with_pulls}
use Rattle.the_run.proofs.Boots.{every_weaker}
use Rattle.run_laws.specs.Naming.{Deeds, ViewOk}
use Rattle.site_laws.specs.Vectors.Written.{WasTold}
use Rattle.site_laws.specs.Vectors.Facts.{onto}
use Rattle.site_laws.proofs.Vectors.SiteDisks.{starts_mends_keeps, mends_of_keeps}
use Rattle.site_laws.specs.Locks.Joins.{WasJoined, JoinsAreOnce}
use Rattle.site_laws.proofs.Locks.Facts.{onto_later}
use Rattle.site_laws.proofs.Makes.RunningFree.{freely, tables, back, readers, users, call_part, left_free}
use Rattle.site_laws.proofs.Makes.RunningSpine.{Facts, Owed, Free, IsStoreOf, Mine, JoinedTold, StoresJoined, Spine, InSite, SiteFact, AllOwed, DiskOwed, Keeps, alike, plain_keeps, quiet_keeps, then_keeps, in_epoch, free_owed, free_mine, free_joins}

-- ---- the store ----

-- what a packet has the store do
abbrev pub takes_store : Frame → ℕ → Body → SiteView → Outcome Store
takes_store f from (body.OpenSs inst file mode set kind base vector parents) v = on_open_ss f (record { inst = inst; file = file; mode = mode; set = set; kind = kind; base = base; vector = vector; parents = parents }) v.store
takes_store f from (body.Op serial n o seen) v = on_op f (mending v (group_of (instance_of v.store (from_user from serial)))) (from_user from serial) n o seen v.store
takes_store f from (body.ReadHeld serial n at len) v = on_read_held f (from_user from serial) n at len v.store
takes_store f from (body.Close serial) v = on_close f (from_user from serial) v.store
takes_store f from (body.ClosedOk inst) v = on_closed_ok f inst v.store
takes_store f from _ v = quiet v.store

-- what a store tells is of this site, in this epoch
abbrev pub HereRecord : ℕ → EpochId → Record → Type 0
HereRecord me e (says.Commit file s stamp parents content) = s ≡ me
HereRecord me e _ = Unit {0}

abbrev pub Here : ℕ → EpochId → Told → Type 0
Here me e (Shown r) = HereRecord me e r
Here me e (Begins s at inst file) = (s ≡ me) × (at ≡ e)
Here me e (Shuts s at inst) = (s ≡ me) × (at ≡ e)
Here me e (Reserves s at inst file) = (s ≡ me) × (at ≡ e)
Here me e _ = Unit {0}

here_mine_record : (me : ℕ) (e : EpochId) (r : Record) → HereRecord me e r → Mine me (Shown r)
here_mine_record me e (says.Commit file s stamp parents content) h = h
here_mine_record me e _ h = tt

here_mine : (me : ℕ) (e : EpochId) (x : Told) → Here me e x → Mine me x
here_mine me e (Shown r) h = here_mine_record me e r h
here_mine me e (Begins s at inst file) h = h.0
here_mine me e (Shuts s at inst) h = h.0
here_mine me e (Reserves s at inst file) h = h.0
here_mine me e _ h = tt

moved : (now : List Told) (me s : ℕ) (e at : EpochId) (m : Members) → s ≡ me → at ≡ e → WasJoined now me e m → WasJoined now s at m
moved now me s e at m p q h = subst (λ (n : ℕ). WasJoined now n at m) (sym p) (subst (λ (i : EpochId). WasJoined now me i m) (sym q) h)

here_joined : (now : List Told) (me : ℕ) (e : EpochId) (m : Members) → WasJoined now me e m → (x : Told) → Here me e x → JoinedTold now x
here_joined now me e m j (Shown r) h = tt
here_joined now me e m j (Begins s at inst file) h = (m, moved now me s e at m h.0 h.1 j)
here_joined now me e m j (Shuts s at inst) h = (m, moved now me s e at m h.0 h.1 j)
here_joined now me e m j (Reserves s at inst file) h = (m, moved now me s e at m h.0 h.1 j)
here_joined now me e m j _ h = tt

-- what a store's outcome owes
pub record StoreDone (F : Facts) (G : Owed) (me : ℕ) (past : List Told) (e : InEpoch) (o : Outcome Store) : Type 0 where
  pub view : F (onto o.told past) me e o.view.instances
  pub owed : AllOwed G past o.told
  pub here : Every (Here me e.id) o.told
  pub disk : DiskOwed G me past o.written

store_part : (F : Facts) (G : Owed) (me : ℕ) (past : List Told) (v : SiteView) (e : InEpoch) (o : Outcome Store) → v.epoch ≡ Some e → InSite F past me v v.epoch → StoreDone F G me past e o → Keeps F G me past (record { view = with_store v o.view; sent = o.sent; told = o.told; written = o.written })
store_part F G me past v e o here h k =
    let now : List Told = onto o.told past in
    let joined : WasJoined now me e.id e.members = onto_later o.told past _ (in_epoch F past me v e here h).0 in
    record {
      view = λ order. subst (InSite F now me (with_store v o.view)) (sym here) (joined, k.view);
      owed = k.owed;
      mine = every_weaker (Here me e.id) (Mine me) o.told (here_mine me e.id) k.here;
      joined = every_weaker (Here me e.id) (JoinedTold now) o.told (here_joined now me e.id e.members joined) k.here;
      disk = k.disk;
    }

-- ---- packets inside the epoch ----

user_part : (F : Facts) (G : Owed) → Spine F G → (me : ℕ) (past : List Told) (v : SiteView) (o : Outcome Users) → Part freely o → SiteFact F past me v → Keeps F G me past (within (with_users v) o)
user_part F G s me past v o k h = plain_keeps F G s me past v (within (with_users v) o) refl refl k.1 k.2 h

-- what comes of a packet of the epoch keeps the facts, where what the store does of it does
abbrev Kept : Facts → Owed → ℕ → List Told → Frame → ℕ → SiteView → InEpoch → Body → Outcome SiteView → Type 0
Kept F G me past f from v e x o = StoreDone F G me past e (takes_store f from x v) → Keeps F G me past o

stores_keep : (F : Facts) (G : Owed) (me : ℕ) (past : List Told) (f : Frame) (from : ℕ) (v : SiteView) (e : InEpoch) → v.epoch ≡ Some e → InSite F past me v v.epoch → (x : Body) → IsForStore x → Kept F G me past f from v e x (takes_inside f from x v)
stores_keep F G me past f from v e here h (body.OpenSs inst file mode set kind base vector parents) is k = store_part F G me past v e (takes_store f from (body.OpenSs inst file mode set kind base vector parents) v) here h k
stores_keep F G me past f from v e here h (body.Op serial n o seen) is k = store_part F G me past v e (takes_store f from (body.Op serial n o seen) v) here h k
stores_keep F G me past f from v e here h (body.ReadHeld serial n at len) is k = store_part F G me past v e (takes_store f from (body.ReadHeld serial n at len) v) here h k
stores_keep F G me past f from v e here h (body.Close serial) is k = store_part F G me past v e (takes_store f from (body.Close serial) v) here h k
stores_keep F G me past f from v e here h (body.ClosedOk inst) is k = store_part F G me past v e (takes_store f from (body.ClosedOk inst) v) here h k
stores_keep F G me past f from v e here h _ is k = absurd is

pub inside_keeps : (F : Facts) (G : Owed) → Spine F G → (c : Config) (me boot : ℕ) (past : List Told) (from : ℕ) (v : SiteView) (e : InEpoch) (x : Body) → v.epoch ≡ Some e → StoreDone F G me past e (takes_store (frame_in c me boot e) from x v) → InSite F past me v v.epoch → Keeps F G me past (takes_inside (frame_in c me boot e) from x v)
inside_keeps F G s c me boot past from v e x here k h = by_role Q f from v (record {
  tables = tables_by Q freely f from v (tables f) (back f from) (λ t. tt) (λ y g o is part k. free_table o g part);
  stores = stores_keep F G me past f from v e here h;
  readers = readers_by Q freely f from v (readers f) (λ b is. tt) (λ y o is same part k. plain_keeps F G s me past v (within (with_store v) o) (ap (λ (u : Store). u.instances) same) refl part.1 part.2 (λ order. h));
  users = users_by Q freely f from v (users f) (λ y o is part k. user_part F G s me past v o part (λ order. h));
  pulls = pulls_by Q freely f from v (readers f) (λ b is. tt) (λ y o is part k. plain_keeps F G s me past v (within (with_pulls v) o) refl refl part.1 part.2 (λ order. h));
  reported = λ group k. plain_keeps F G s me past v (takes_inside f from (body.ReportOk group) v) refl refl tt tt (λ order. h);
  forming = λ y is k. quiet_keeps F G me past v (λ order. h);
}) x k
  where
    f : Frame
    f = frame_in c me boot e

    Q : Body → Outcome SiteView → Type 0
    Q = Kept F G me past f from v e

    free_table : (o : Option SyncTable) (g : SyncTable → Outcome SyncTable) → ((t : SyncTable) → TablePart freely t (g t)) → Keeps F G me past (at_table_of g o v)
    free_table None g part = quiet_keeps F G me past v (λ order. h)
    free_table (Some t) g part = plain_keeps F G s me past v (at_table_of g (Some t) v) refl refl (part t).1 (part t).2 (λ order. h)

-- ---- adoptions and mends ----

noted_instances : (f : Frame) (p : Pull) (o : Option SyncTable) (v : SiteView) → ((notes_own_at f p o v).store.instances ≡ v.store.instances) × ((notes_own_at f p o v).epoch ≡ v.epoch)
noted_instances f p None v = (refl, refl)
noted_instances f p (Some t) v = (refl, refl)

adopts_pull_part : (F : Facts) (G : Owed) → Spine F G → (me : ℕ) (past : List Told) (f : Frame) (p : Pull) (v : SiteView) → SiteFact F past me v → Keeps F G me past (adopts_pull f p v)
adopts_pull_part F G s me past f p v h =
    let w : SiteView = with_adopted p v in
    let k : _ × _ = noted_instances f p (row table_group p.file.group v.tables) w in
    plain_keeps F G s me past v (adopts_pull f p v) k.0 k.1 (tt, tt) tt h

adopts_first_part : (F : Facts) (G : Owed) → Spine F G → (me : ℕ) (past : List Told) (f : Frame) (ps : List Pull) (v : SiteView) → SiteFact F past me v → Keeps F G me past (adopts_first f ps v)
adopts_first_part F G s me past f [] v h = quiet_keeps F G me past v h
adopts_first_part F G s me past f (p ∷ ps) v h =
    elim (is_ready v p) as (λ t. Keeps F G me past (elim t [ true ↦ elim (fits_own p (copy_of v.store p.file)) [ true ↦ adopts_pull f p v | false ↦ adopts_first f ps (without_pull p v) ] | false ↦ adopts_first f ps v ])) [
      | true ↦ elim (fits_own p (copy_of v.store p.file)) as (λ t. Keeps F G me past (elim t [ true ↦ adopts_pull f p v | false ↦ adopts_first f ps (without_pull p v) ])) [
        | true ↦ adopts_pull_part F G s me past f p v h
        | false ↦ adopts_first_part F G s me past f ps (without_pull p v) (alike F past me v (without_pull p v) refl refl h)
      ]
      | false ↦ adopts_first_part F G s me past f ps v h
    ]

pub adopts_part : (F : Facts) (G : Owed) → Spine F G → (c : Config) (me : ℕ) (past : List Told) (o : Option InEpoch) (v : SiteView) → SiteFact F past me v → Keeps F G me past (adopts_of c me o v)
adopts_part F G s c me past None v h = quiet_keeps F G me past v h
adopts_part F G s c me past (Some e) v h = adopts_first_part F G s me past (frame_in c me v.boot e) v.pulls v h

mend_part : (F : Facts) (G : Owed) → Spine F G → (me : ℕ) (past : List Told) (f : Frame) (t : SyncTable) (o : Option FileRow) (v : SiteView) → SiteFact F past me v → Keeps F G me past (starts_mend_of f t o v)
mend_part F G s me past f t None v h = quiet_keeps F G me past v h
mend_part F G s me past f t (Some r) v h = user_part F G s me past v (on_call f (Some f.epoch) 0 (call.Mend (row_file t r)) v.users) (call_part f (Some f.epoch) 0 (call.Mend (row_file t r)) v.users) h

starts_mend_part : (F : Facts) (G : Owed) → Spine F G → (me : ℕ) (past : List Told) (f : Frame) (t : SyncTable) (v : SiteView) → SiteFact F past me v → Keeps F G me past (starts_mend f t v)
starts_mend_part F G s me past f t v h =
    elim (t.started && not (has_mend_in v.users t.group)) as (λ x. Keeps F G me past (elim x [ true ↦ starts_mend_of f t (first_that (wants_mend v t) t.files) v | false ↦ quiet v ])) [
      | true ↦ mend_part F G s me past f t (first_that (wants_mend v t) t.files) v h
      | false ↦ quiet_keeps F G me past v h
    ]

mends_part : (F : Facts) (G : Owed) → Spine F G → (me : ℕ) (past : List Told) (f : Frame) (ts : List SyncTable) (v : SiteView) → SiteFact F past me v → Keeps F G me past (starts_mends_in f ts v)
mends_part F G s me past f [] v h = quiet_keeps F G me past v h
mends_part F G s me past f (t ∷ ts) v h =
    let o : Outcome SiteView = starts_mend f t v in
    let k : Keeps F G me past o = starts_mend_part F G s me past f t v h in
    then_keeps F G me past o (starts_mends_in f ts o.view) (starts_mends_keeps f ts o.view).none k (mends_part F G s me (onto o.told past) f ts o.view k.view)

mends_of_part : (F : Facts) (G : Owed) → Spine F G → (c : Config) (me : ℕ) (past : List Told) (o : Option InEpoch) (v : SiteView) → SiteFact F past me v → Keeps F G me past (starts_mends_of c me o v)
mends_of_part F G s c me past None v h = quiet_keeps F G me past v h
mends_of_part F G s c me past (Some e) v h = mends_part F G s me past (frame_in c me v.boot e) v.tables v h

-- ---- how an epoch is formed ----

pub leaves_part : (F : Facts) (G : Owed) → Spine F G → (me : ℕ) (past : List Told) (e : Option InEpoch) (v : SiteView) → SiteFact F past me v → Keeps F G me past (leaves_of me e v)
leaves_part F G s me past None v h = quiet_keeps F G me past v h
leaves_part F G s me past (Some e) v h =
    let o : Outcome SiteView = leaves_of me (Some e) v in
    let free : Every Free o.told = (tt, left_free me v.boot e.id v.users) in
    record {
      view = λ order. refl;
      owed = free_owed F G s past o.told free;
      mine = every_weaker Free (Mine me) o.told (free_mine me) free;
      joined = free_joins (onto o.told past) o.told free;
      disk = tt;
    }

promises_part : (F : Facts) (G : Owed) → Spine F G → (me : ℕ) (past : List Told) (id : EpochId) (reach : Sites) (v : SiteView) → SiteFact F past me v → Keeps F G me past (promises me id reach v)
promises_part F G s me past id reach v h =
    let o : Outcome SiteView = leaves me v in
    let k : Keeps F G me past o = leaves_part F G s me past v.epoch v h in
    then_keeps F G me past o (tells (Promises me id reach ∷ []) (promised_view id o.view)) refl k (plain_keeps F G s me (onto o.told past) o.view (tells (Promises me id reach ∷ []) (promised_view id o.view)) refl refl (tt, tt) tt k.view)

pub begins_part : (F : Facts) (G : Owed) → Spine F G → (me : ℕ) (past : List Told) (links : Links) (number : ℕ) (polled : Links) (v : SiteView) → SiteFact F past me v → Keeps F G me past (begins_round me links number polled v)
begins_part F G s me past links number polled v h =
    let o : Outcome SiteView = promises me (round_id me number v) (reached links) v in
    let k : Keeps F G me past o = promises_part F G s me past (round_id me number v) (reached links) v h in
    then_keeps F G me past o (polls me (round_id me number v) polled o.view) refl k (plain_keeps F G s me (onto o.told past) o.view (polls me (round_id me number v) polled o.view) refl refl tt tt k.view)

pub starts_part_part : (F : Facts) (G : Owed) → Spine F G → (me : ℕ) (past : List Told) (links : Links) (e : Option InEpoch) (v : SiteView) → SiteFact F past me v → Keeps F G me past (starts_part_of me links e v)
starts_part_part F G s me past links None v h = quiet_keeps F G me past v h
starts_part_part F G s me past links (Some e) v h = begins_part F G s me past links (v.promised.number + 1) (boots_where (part_boot me links e.members)) v h

pub on_poll_part : (F : Facts) (G : Owed) → Spine F G → (me : ℕ) (past : List Told) (links : Links) (from from_boot : ℕ) (id : EpochId) (v : SiteView) → SiteFact F past me v → Keeps F G me past (on_poll me links from from_boot id v)
on_poll_part F G s me past links from from_boot id v h =
    let o : Outcome SiteView = promises me id (reached links) v in
    let k : Keeps F G me past o = promises_part F G s me past id (reached links) v h in
    elim (is_epoch_below v.promised id) as (λ t. Keeps F G me past (elim t [ true ↦ and_then (promises me id (reached links) v) (λ now. sends (promise_packet me links from from_boot id now) now) | false ↦ sends (cond (same_epoch id v.promised && not v.installed) (promise_packet me links from from_boot id v) (refuse_packet me from from_boot id v)) v ])) [
      | true ↦ then_keeps F G me past o (sends (promise_packet me links from from_boot id o.view) o.view) refl k (plain_keeps F G s me (onto o.told past) o.view _ refl refl tt tt k.view)
      | false ↦ plain_keeps F G s me past v _ refl refl tt tt h
    ]

pub on_promise_part : (F : Facts) (G : Owed) → Spine F G → (me : ℕ) (past : List Told) (from from_boot : ℕ) (id : EpochId) (reach : Sites) (o : Option Round) (v : SiteView) → SiteFact F past me v → Keeps F G me past (on_promise_of from from_boot id reach o v)
on_promise_part F G s me past from from_boot id reach None v h = quiet_keeps F G me past v h
on_promise_part F G s me past from from_boot id reach (Some r) v h = plain_keeps F G s me past v _ refl refl tt tt h

pub on_refuse_part : (F : Facts) (G : Owed) → Spine F G → (me : ℕ) (past : List Told) (links : Links) (id theirs : EpochId) (o : Option Round) (v : SiteView) → SiteFact F past me v → Keeps F G me past (on_refuse_of me links id theirs o v)
on_refuse_part F G s me past links id theirs None v h = quiet_keeps F G me past v h
on_refuse_part F G s me past links id theirs (Some r) v h =
    elim (same_epoch r.id id) as (λ t. Keeps F G me past (elim t [ true ↦ begins_round me links (theirs.number + 1) r.polled v | false ↦ quiet v ])) [
      | true ↦ begins_part F G s me past links (theirs.number + 1) r.polled v h
      | false ↦ quiet_keeps F G me past v h
    ]

-- ---- joining ----

joins_part : (F : Facts) (G : Owed) → Spine F G → (c : Config) (me : ℕ) (past : List Told) (id : EpochId) (m : Members) (v : SiteView) → v.epoch ≡ None → StoresJoined past → SiteFact F past me v → Keeps F G me past (joins c me id m v)
joins_part F G s c me past id m v gone stores h = record {
  view = λ order. (inl (refl, refl, refl), subst (F (x ∷ past) me e) (sym (none order.1)) (s.fresh (x ∷ past) me e (never order)));
  owed = (s.free past x tt, tt);
  mine = (tt, tt);
  joined = (tt, tt);
  disk = tt;
}
  where
    x : Told
    x = Shown (says.Join me id m)

    e : InEpoch
    e = record { id = id; members = m }

    none : JoinsAreOnce past → v.store.instances ≡ []
    none order = subst (InSite F past me v) gone (h order)

    never : JoinsAreOnce (x ∷ past) → WasTold (IsStoreOf me id) (x ∷ past) → ⊥
    never order (inl k) = k
    never order (inr k) = let r : (n : Members) × WasJoined past me id n = stores me id k in order.0 r.0 r.1

not_true : (a : _) → not a ≡ true → a ≡ false
not_true true h = absurd (cc)
not_true false h = refl

pub on_install_part : (F : Facts) (G : Owed) → Spine F G → (K : Deeds) (c : Config) (me : ℕ) (past : List Told) (from from_boot : ℕ) (id : EpochId) (m : Members) (v : SiteView) → ViewOk K v → StoresJoined past → SiteFact F past me v → Keeps F G me past (on_install c me from from_boot id m v)
on_install_part F G s K c me past from from_boot id m v ok stores h =
    (elim (may_install me id m v) as (λ t. may_install me id m v ≡ t → Keeps F G me past (elim t [ true ↦ and_then (joins c me id m v) (λ now. sends (joined_packet me from from_boot id now) now) | false ↦ sends (cond (is_in id v.epoch) (joined_packet me from from_boot id v) []) v ])) [
      | true ↦ λ q. joined q
      | false ↦ λ q. plain_keeps F G s me past v _ refl refl tt tt h
    ]) refl
  where
    joined : may_install me id m v ≡ true → Keeps F G me past (and_then (joins c me id m v) (λ now. sends (joined_packet me from from_boot id now) now))
    joined q =
        let a : (same_epoch id v.promised ≡ true) × (_ ≡ true) = both_true (same_epoch id v.promised) _ q in
        let b : (not v.installed ≡ true) × (_ ≡ true) = both_true (not v.installed) _ a.1 in
        let o : Outcome SiteView = joins c me id m v in
        let k : Keeps F G me past o = joins_part F G s c me past id m v (ok.waits (not_true v.installed b.0)).0 stores h in
        then_keeps F G me past o (sends (joined_packet me from from_boot id o.view) o.view) refl k (plain_keeps F G s me (onto o.told past) o.view _ refl refl tt tt k.view)

pub on_joined_part : (F : Facts) (G : Owed) → Spine F G → (me : ℕ) (past : List Told) (from : ℕ) (id : EpochId) (v : SiteView) → SiteFact F past me v → Keeps F G me past (on_joined from id v)
on_joined_part F G s me past from id v h =
    elim (is_in id v.epoch) as (λ b. Keeps F G me past (quiet (cond b (record v { installs = without_row (λ s. s) from v.installs }) v))) [
      | true ↦ plain_keeps F G s me past v (quiet (record v { installs = without_row (λ s. s) from v.installs })) refl refl tt tt h
      | false ↦ quiet_keeps F G me past v h
    ]

decides_if_part : (F : Facts) (G : Owed) → Spine F G → (K : Deeds) (c : Config) (me : ℕ) (past : List Told) (links : Links) (r q : Round) (xs : List ℕ) (v : SiteView) → v.round ≡ Some r → ViewOk K v → StoresJoined past → SiteFact F past me v → Keeps F G me past (decides_if c me links q xs v)
decides_if_part F G s K c me past links r q [] v here ok stores h =
    let m : Members = chosen_members me v.boot q (chosen_set me links q) in
    let o : Outcome SiteView = joins c me q.id m v in
    let k : Keeps F G me past o = joins_part F G s c me past q.id m v (ok.waits (ok.round_is r here).1).0 stores h in
    then_keeps F G me past o (installs_all me q.id m o.view) refl k (plain_keeps F G s me (onto o.told past) o.view _ refl refl tt tt k.view)
decides_if_part F G s K c me past links r q (x ∷ xs) v here ok stores h = plain_keeps F G s me past v _ refl refl tt tt h

passes_over_part : (F : Facts) (G : Owed) → Spine F G → (K : Deeds) (c : Config) (me : ℕ) (past : List Told) (links : Links) (o : Option Round) (v : SiteView) → v.round ≡ o → ViewOk K v → StoresJoined past → SiteFact F past me v → Keeps F G me past (passes_over_of c me links o v)
passes_over_part F G s K c me past links None v here ok stores h = quiet_keeps F G me past v h
passes_over_part F G s K c me past links (Some r) v here ok stores h = decides_if_part F G s K c me past links r (passed_over links r) (unanswered (passed_over links r)) v here ok stores h

pub ends_part : (F : Facts) (G : Owed) → Spine F G → (K : Deeds) (c : Config) (me : ℕ) (past : List Told) (links : Links) (v : SiteView) → ViewOk K v → StoresJoined past → SiteFact F past me v → Keeps F G me past (ends_event c me links v)
ends_part F G s K c me past links v ok stores h =
    let o : Outcome SiteView = passes_over c me links v in
    let k : Keeps F G me past o = passes_over_part F G s K c me past links v.round v refl ok stores h in
    then_keeps F G me past o (starts_mends_of c me o.view.epoch o.view) (mends_of_keeps c me o.view.epoch o.view).none k (mends_of_part F G s c me (onto o.told past) o.view.epoch o.view k.view)
