-- What each event of a site does to its disk: it writes at most one version, and tells it once.
use Rattle.std.proofs.Common.{◌≡◌, ℕ, ◌+◌, true, false, cond, ◌&&◌, not, List, [], ◌∷◌, ◌++◌, Option, Some, None, refl, sym, ap, subst, inl, inr}
use Rattle.locus_ids.specs.declared.ids.EpochId.{EpochId}
use Rattle.locus_ids.specs.declared.sites.Links.{Links}
use Rattle.locus_ids.specs.declared.sites.Members.{Members}
use Rattle.locus_ids.specs.declared.sites.Sites.{Sites}
use Rattle.locus_ids.specs.declared.config.Config.{Config}
use Rattle.trace_book.specs.Same.{same_epoch}
use Rattle.trace_book.specs.declared.call.Call.TheVariants as call
use Rattle.run_laws.specs.of_wire_messages.declared.packet.Packet.{Packet}
use Rattle.run_laws.specs.of_wire_messages.declared.body.Body.{Body}
use Rattle.run_laws.specs.of_wire_messages.declared.body.Body.TheVariants as body
use Rattle.run_laws.specs.of_role_steps.Tables.{row, without_row, first_that}
use Rattle.run_laws.specs.of_role_steps.Views.{Frame, Store, SiteView, Promises, DiskWrite, Outcome, Event, Calls, Receives, Ticks, Parts, Merges, GivesUp, quiet, sends, tells, and_then, first_written}
use Rattle.run_laws.specs.of_role_steps.Storage.{copy_of, instance_of}
use Rattle.run_laws.specs.of_role_steps.Using.{reply_record}
use Rattle.run_laws.specs.of_role_steps.Epochs.{is_epoch_below, frame_in, leaves_of, leaves, promises, promised_view, reached, polls, round_id, begins_round, starts_merge, boots_where, merge_boot, part_boot, starts_part_of, starts_part, promise_packet, refuse_packet, on_poll, on_promise_of, on_refuse_of, joins, may_install, is_in, joined_packet, on_install, on_joined, passed_over, unanswered, chosen_members, chosen_set, installs_all, decides_if, passes_over_of, passes_over}
use Rattle.run_laws.specs.of_role_steps.Adoption.{notes_own_at, copy_adopted, adopt_write, table_group, without_pull, is_ready, is_above_own, adopts_pull, adopts_first, with_adopted, fits_own, content_under}
use Rattle.run_laws.specs.of_role_steps.Mends.{mending, has_mend_in, wants_mend, starts_mend_of, starts_mend, starts_mends_in, row_file}
use Rattle.run_laws.specs.of_role_steps.declared.copies.FileCopy.{FileCopy}
use Rattle.run_laws.specs.of_role_steps.declared.pulls.Pull.{Pull}
use Rattle.run_laws.specs.of_role_steps.declared.rounds.InEpoch.{InEpoch}
use Rattle.run_laws.specs.of_role_steps.declared.rounds.Round.{Round}
use Rattle.run_laws.specs.of_role_steps.declared.synchronizing.SyncTable.{SyncTable}
use Rattle.run_laws.specs.of_role_steps.declared.synchronizing.FileRow.{FileRow}
use Rattle.run_laws.specs.of_role_steps.declared.users.WaitingCall.{WaitingCall}
use Rattle.run_laws.proofs.of_role_steps.Fitting.{fits_above}
use Rattle.run_laws.proofs.of_role_steps.Sending.{every_map}
use Rattle.run_laws.specs.of_the_run.Steps.{from_user, group_of, at_table_of, takes_inside, is_dropped, takes_framed, takes, adopts_of, adopts_in, tries_at, starts_mends_of, ends_event, whole, ticks_after, call_frame, epoch_id, takes_call, step}
use Rattle.run_laws.specs.Words.{Talk, Talks}
use Rattle.run_laws.proofs.Telling.{tells_talk, on_notify_talks, on_page_talks, on_delta_talks, on_call_talks}
use Rattle.run_laws.specs.Walks.Laws.{Law, frame_law, TablesKeep, ReadersKeep, UsersKeep}
use Rattle.run_laws.proofs.Walks.Premises.{table_tells, call_tells, frame_tables, frame_users}
use Rattle.run_laws.specs.FactWalks.Roles.{IsForStore}
use Rattle.run_laws.proofs.FactWalks.Roles.{by_role, tables_by, readers_by, users_by, pulls_by}
use Rattle.site_laws.specs.Vectors.Held.{RisesOver, Still, Untouched, OnDisk}
use Rattle.site_laws.proofs.Vectors.Disks.{talk_still, talks_untouched, untouched_then, disk_then}
use Rattle.site_laws.proofs.Vectors.StoreDisks.{on_open_ss_keeps, on_close_disk, on_closed_ok_keeps, on_op_disk, on_read_held_disk, on_read_held_disk}

abbrev pub Keeps : SiteView → Outcome SiteView → Type 0
Keeps v o = Untouched v.store.copies o.view.store.copies o.told o.written

abbrev pub SiteDisk : ℕ → SiteView → Outcome SiteView → Type 0
SiteDisk me v o = OnDisk me v.store.copies o.view.store.copies o.told o.written

pub quiet_keeps : (v : SiteView) → Keeps v (quiet v)
quiet_keeps v = record { copies = refl; still = tt; none = refl }

then_keeps : (v : SiteView) (o : Outcome SiteView) (g : SiteView → Outcome SiteView) → Keeps v o → Keeps o.view (g o.view) → Keeps v (and_then o g)
then_keeps v o g h k = untouched_then v.store.copies o.view.store.copies (g o.view).view.store.copies o.told (g o.view).told o.written (g o.view).written h k

-- ---- packets inside the epoch ----

table_keeps : (g : SyncTable → Outcome SyncTable) (o : Option SyncTable) (v : SiteView) → ((t : SyncTable) → Talks (g t)) → Keeps v (at_table_of g o v)
table_keeps g None v h = quiet_keeps v
table_keeps g (Some t) v h = record { copies = refl; still = talk_still (g t).told (h t).0; none = (h t).1 }

abbrev telling : Law
telling = frame_law (λ p. Unit {0}) Talk (λ w. w ≡ None)

tables : (f : Frame) → TablesKeep telling f
tables f = frame_tables (λ p. Unit {0}) Talk (λ w. w ≡ None) f (λ to b. tt) (λ t h. tells_talk t (table_tells t h)) refl

users : (f : Frame) → UsersKeep telling f
users f = frame_users (λ p. Unit {0}) Talk (λ w. w ≡ None) f (λ to b. tt) (λ t h. tells_talk t (call_tells t h)) refl

readers : (f : Frame) → ReadersKeep telling f
readers f = record { sends = λ to b h. tt; unwritten = refl }

stores_disk : (f : Frame) (from : ℕ) (x : Body) (v : SiteView) → IsForStore x → SiteDisk f.me v (takes_inside f from x v)
stores_disk f from (body.OpenSs inst file mode set kind base vector parents) v is = inl (on_open_ss_keeps f (record { inst = inst; file = file; mode = mode; set = set; kind = kind; base = base; vector = vector; parents = parents }) v.store)
stores_disk f from (body.Op serial n o seen) v is = on_op_disk f (mending v (group_of (instance_of v.store (from_user from serial)))) (from_user from serial) n o seen v.store
stores_disk f from (body.ReadHeld serial n at len) v is = on_read_held_disk f (from_user from serial) n at len v.store
stores_disk f from (body.Close serial) v is = on_close_disk f (from_user from serial) v.store
stores_disk f from (body.ClosedOk inst) v is = inl (on_closed_ok_keeps f inst v.store)
stores_disk f from _ v is = absurd is

inside_disk : (f : Frame) (from : ℕ) (x : Body) (v : SiteView) → SiteDisk f.me v (takes_inside f from x v)
inside_disk f from x v =
    by_role Q f from v (record {
      tables = tables_by Q telling f from v (tables f) (record { reported = λ t h. tt; closed = λ inst. tt }) (λ t. tt) (λ y g o is p. inl (table_keeps g o v (λ t. ((p t).1, (p t).2))));
      stores = λ y is. stores_disk f from y v is;
      readers = readers_by Q telling f from v (readers f) (λ b h. tt) (λ y o is same p. inl (talks_untouched v.store.copies o.view.copies o.told o.written (ap (λ (s : Store). s.copies) same) (p.1, p.2)));
      users = users_by Q telling f from v (users f) (λ y o is p. inl (talks_untouched v.store.copies v.store.copies o.told o.written refl (p.1, p.2)));
      pulls = pulls_by Q telling f from v (readers f) (λ b h. tt) (λ y o is p. inl (talks_untouched v.store.copies v.store.copies o.told o.written refl (p.1, p.2)));
      reported = λ group. inl (record { copies = refl; still = tt; none = refl });
      forming = λ y is. inl (quiet_keeps v);
    }) x
  where
    Q : Body → Outcome SiteView → Type 0
    Q y o = SiteDisk f.me v o

framed_disk : (c : Config) (me : ℕ) (p : Packet) (e : Option InEpoch) (v : SiteView) → SiteDisk me v (takes_framed c me p e v)
framed_disk c me p None v = inl (quiet_keeps v)
framed_disk c me p (Some e) v = inside_disk (frame_in c me v.boot e) p.from p.body v

-- ---- adoptions and mends ----

noted_copies : (f : Frame) (p : Pull) (o : Option SyncTable) (v : SiteView) → (notes_own_at f p o v).store.copies ≡ v.store.copies
noted_copies f p None v = refl
noted_copies f p (Some t) v = refl

rises_over : (p : Pull) (own : List ℕ) (o : Option FileCopy) → is_above_own p o ≡ true → RisesOver (copy_adopted p own) o
rises_over p content None e = tt
rises_over p content (Some own) e = e

adopts_pull_disk : (f : Frame) (p : Pull) (v : SiteView) → fits_own p (copy_of v.store p.file) ≡ true → SiteDisk f.me v (adopts_pull f p v)
adopts_pull_disk f p v fits = inr (
  d,
  record {
    is_written = refl;
    copies = noted_copies f p (row table_group p.file.group v.tables) (with_adopted p v);
    says_so = (refl, refl, refl);
    above = rises_over p (content_under v p) (copy_of v.store p.file) (fits_above p (copy_of v.store p.file) fits);
    before = [];
    after = [];
    told_is = refl;
    still_before = tt;
    still_after = tt;
  },
)
  where
    d : DiskWrite
    d = adopt_write f p (content_under v p)

adopts_first_disk : (f : Frame) (ps : List Pull) (v : SiteView) → SiteDisk f.me v (adopts_first f ps v)
adopts_first_disk f [] v = inl (quiet_keeps v)
adopts_first_disk f (p ∷ ps) v =
    elim (is_ready v p) as (λ t. SiteDisk f.me v (elim t [ true ↦ elim (fits_own p (copy_of v.store p.file)) [ true ↦ adopts_pull f p v | false ↦ adopts_first f ps (without_pull p v) ] | false ↦ adopts_first f ps v ])) [
      | true ↦ (elim (fits_own p (copy_of v.store p.file)) as (λ t. fits_own p (copy_of v.store p.file) ≡ t → SiteDisk f.me v (elim t [ true ↦ adopts_pull f p v | false ↦ adopts_first f ps (without_pull p v) ])) [
        | true ↦ λ e. adopts_pull_disk f p v e
        | false ↦ λ e. adopts_first_disk f ps (without_pull p v)
      ]) refl
      | false ↦ adopts_first_disk f ps v
    ]

pub adopts_of_disk : (c : Config) (me : ℕ) (e : Option InEpoch) (v : SiteView) → SiteDisk me v (adopts_of c me e v)
adopts_of_disk c me None v = inl (quiet_keeps v)
adopts_of_disk c me (Some e) v = adopts_first_disk (frame_in c me v.boot e) v.pulls v

starts_mend_of_keeps : (f : Frame) (t : SyncTable) (o : Option FileRow) (v : SiteView) → Keeps v (starts_mend_of f t o v)
starts_mend_of_keeps f t None v = quiet_keeps v
starts_mend_of_keeps f t (Some r) v = talks_untouched v.store.copies v.store.copies _ _ refl (on_call_talks f (Some f.epoch) 0 (call.Mend (row_file t r)) v.users)

pub starts_mend_keeps : (f : Frame) (t : SyncTable) (v : SiteView) → Keeps v (starts_mend f t v)
starts_mend_keeps f t v =
    elim (t.started && not (has_mend_in v.users t.group)) as (λ x. Keeps v (elim x [ true ↦ starts_mend_of f t (first_that (wants_mend v t) t.files) v | false ↦ quiet v ])) [
      | true ↦ starts_mend_of_keeps f t (first_that (wants_mend v t) t.files) v
      | false ↦ quiet_keeps v
    ]

pub starts_mends_keeps : (f : Frame) (ts : List SyncTable) (v : SiteView) → Keeps v (starts_mends_in f ts v)
starts_mends_keeps f [] v = quiet_keeps v
starts_mends_keeps f (t ∷ ts) v = then_keeps v (starts_mend f t v) (starts_mends_in f ts) (starts_mend_keeps f t v) (starts_mends_keeps f ts (starts_mend f t v).view)

pub mends_of_keeps : (c : Config) (me : ℕ) (e : Option InEpoch) (v : SiteView) → Keeps v (starts_mends_of c me e v)
mends_of_keeps c me None v = quiet_keeps v
mends_of_keeps c me (Some e) v = starts_mends_keeps (frame_in c me v.boot e) v.tables v

-- ---- how an epoch is formed ----

leaves_of_keeps : (me : ℕ) (e : Option InEpoch) (v : SiteView) → Keeps v (leaves_of me e v)
leaves_of_keeps me None v = quiet_keeps v
leaves_of_keeps me (Some e) v = record { copies = refl; still = (tt, every_map Still (λ (w : WaitingCall). reply_record me v.boot w _) v.users.waiting (λ w. tt)); none = refl }

promises_keeps : (me : ℕ) (id : EpochId) (reach : Sites) (v : SiteView) → Keeps v (promises me id reach v)
promises_keeps me id reach v = then_keeps v (leaves me v) (λ now. tells (Promises me id reach ∷ []) (promised_view id now)) (leaves_of_keeps me v.epoch v) (record { copies = refl; still = (tt, tt); none = refl })

begins_keeps : (me : ℕ) (links : Links) (number : ℕ) (polled : Links) (v : SiteView) → Keeps v (begins_round me links number polled v)
begins_keeps me links number polled v = then_keeps v (promises me (round_id me number v) (reached links) v) (polls me (round_id me number v) polled) (promises_keeps me (round_id me number v) (reached links) v) (record { copies = refl; still = tt; none = refl })

starts_part_keeps : (me : ℕ) (links : Links) (e : Option InEpoch) (v : SiteView) → Keeps v (starts_part_of me links e v)
starts_part_keeps me links None v = quiet_keeps v
starts_part_keeps me links (Some e) v = begins_keeps me links (v.promised.number + 1) (boots_where (part_boot me links e.members)) v

on_poll_keeps : (me : ℕ) (links : Links) (from from_boot : ℕ) (id : EpochId) (v : SiteView) → Keeps v (on_poll me links from from_boot id v)
on_poll_keeps me links from from_boot id v =
    elim (is_epoch_below v.promised id) as (λ t. Keeps v (elim t [ true ↦ and_then (promises me id (reached links) v) (λ now. sends (promise_packet me links from from_boot id now) now) | false ↦ sends (cond (same_epoch id v.promised && not v.installed) (promise_packet me links from from_boot id v) (refuse_packet me from from_boot id v)) v ])) [
      | true ↦ then_keeps v (promises me id (reached links) v) (λ now. sends (promise_packet me links from from_boot id now) now) (promises_keeps me id (reached links) v) (record { copies = refl; still = tt; none = refl })
      | false ↦ record { copies = refl; still = tt; none = refl }
    ]

on_promise_keeps : (from from_boot : ℕ) (id : EpochId) (reach : Sites) (o : Option Round) (v : SiteView) → Keeps v (on_promise_of from from_boot id reach o v)
on_promise_keeps from from_boot id reach None v = quiet_keeps v
on_promise_keeps from from_boot id reach (Some r) v = record { copies = refl; still = tt; none = refl }

on_refuse_keeps : (me : ℕ) (links : Links) (id theirs : EpochId) (o : Option Round) (v : SiteView) → Keeps v (on_refuse_of me links id theirs o v)
on_refuse_keeps me links id theirs None v = quiet_keeps v
on_refuse_keeps me links id theirs (Some r) v =
    elim (same_epoch r.id id) as (λ t. Keeps v (elim t [ true ↦ begins_round me links (theirs.number + 1) r.polled v | false ↦ quiet v ])) [
      | true ↦ begins_keeps me links (theirs.number + 1) r.polled v
      | false ↦ quiet_keeps v
    ]

joins_keeps : (c : Config) (me : ℕ) (id : EpochId) (m : Members) (v : SiteView) → Keeps v (joins c me id m v)
joins_keeps c me id m v = record { copies = refl; still = (tt, tt); none = refl }

on_install_keeps : (c : Config) (me from from_boot : ℕ) (id : EpochId) (m : Members) (v : SiteView) → Keeps v (on_install c me from from_boot id m v)
on_install_keeps c me from from_boot id m v =
    elim (may_install me id m v) as (λ t. Keeps v (elim t [ true ↦ and_then (joins c me id m v) (λ now. sends (joined_packet me from from_boot id now) now) | false ↦ sends (cond (is_in id v.epoch) (joined_packet me from from_boot id v) []) v ])) [
      | true ↦ then_keeps v (joins c me id m v) (λ now. sends (joined_packet me from from_boot id now) now) (joins_keeps c me id m v) (record { copies = refl; still = tt; none = refl })
      | false ↦ record { copies = refl; still = tt; none = refl }
    ]

on_joined_keeps : (from : ℕ) (id : EpochId) (v : SiteView) → Keeps v (on_joined from id v)
on_joined_keeps from id v =
    elim (is_in id v.epoch) as (λ b. Keeps v (quiet (cond b (record v { installs = without_row (λ s. s) from v.installs }) v))) [ true ↦ record { copies = refl; still = tt; none = refl } | false ↦ quiet_keeps v ]

decides_if_keeps : (c : Config) (me : ℕ) (links : Links) (r : Round) (xs : List ℕ) (v : SiteView) → Keeps v (decides_if c me links r xs v)
decides_if_keeps c me links r [] v =
    let m : Members = chosen_members me v.boot r (chosen_set me links r) in
    then_keeps v (joins c me r.id m v) (installs_all me r.id m) (joins_keeps c me r.id m v) (record { copies = refl; still = tt; none = refl })
decides_if_keeps c me links r (x ∷ xs) v = record { copies = refl; still = tt; none = refl }

pub passes_over_keeps : (c : Config) (me : ℕ) (links : Links) (o : Option Round) (v : SiteView) → Keeps v (passes_over_of c me links o v)
passes_over_keeps c me links None v = quiet_keeps v
passes_over_keeps c me links (Some r) v = decides_if_keeps c me links (passed_over links r) (unanswered (passed_over links r)) v

pub ends_keeps : (c : Config) (me : ℕ) (links : Links) (v : SiteView) → Keeps v (ends_event c me links v)
ends_keeps c me links v = then_keeps v (passes_over c me links v) (λ now. starts_mends_of c me now.epoch now) (passes_over_keeps c me links v.round v) (mends_of_keeps c me (passes_over c me links v).view.epoch (passes_over c me links v).view)

-- ---- the step ----

-- where the event itself may write, no adoption is tried
writes_disk : (c : Config) (me : ℕ) (links : Links) (v : SiteView) (o : Outcome SiteView) → SiteDisk me v o → SiteDisk me v (whole c me links o quiet)
writes_disk c me links v o h =
    let last : Outcome SiteView = ends_event c me links o.view in
    disk_then me v.store.copies o.view.store.copies last.view.store.copies o.told last.told o.written last.written h (ends_keeps c me links o.view)

-- an adoption that is tried is told before all else; the event itself writes nothing then
tried_disk : (c : Config) (me : ℕ) (links : Links) (v : SiteView) (o : Outcome SiteView) → Keeps v o → SiteDisk me v (whole c me links o (adopts_in c me))
tried_disk c me links v o h =
    let a : Outcome SiteView = adopts_in c me o.view in
    let last : Outcome SiteView = ends_event c me links a.view in
    let rest : Untouched a.view.store.copies last.view.store.copies (o.told ++ last.told) (first_written o.written last.written) =
    untouched_then a.view.store.copies a.view.store.copies last.view.store.copies o.told last.told o.written last.written (record { copies = refl; still = h.still; none = h.none }) (ends_keeps c me links a.view) in
    disk_then me v.store.copies a.view.store.copies last.view.store.copies a.told (o.told ++ last.told) a.written (first_written o.written last.written)
    (subst (λ (xs : List FileCopy). OnDisk me xs a.view.store.copies a.told a.written) h.copies (adopts_of_disk c me o.view.epoch o.view)) rest

received_disk : (c : Config) (me : ℕ) (links : Links) (p : Packet) (x : Body) (v : SiteView) → p.body ≡ x → SiteDisk me v (whole c me links (takes c me links p x v) (tries_at c me x))
received_disk c me links p body.Poll v e = writes_disk c me links v (takes c me links p body.Poll v) (inl (on_poll_keeps me links p.from p.from_boot p.epoch v))
received_disk c me links p (body.Promise reach) v e = writes_disk c me links v (takes c me links p (body.Promise reach) v) (inl (on_promise_keeps p.from p.from_boot p.epoch reach v.round v))
received_disk c me links p (body.Refuse promised) v e = writes_disk c me links v (takes c me links p (body.Refuse promised) v) (inl (on_refuse_keeps me links p.epoch promised v.round v))
received_disk c me links p (body.Install members) v e = writes_disk c me links v (takes c me links p (body.Install members) v) (inl (on_install_keeps c me p.from p.from_boot p.epoch members v))
received_disk c me links p body.Joined v e = writes_disk c me links v (takes c me links p body.Joined v) (inl (on_joined_keeps p.from p.epoch v))
received_disk c me links p (body.Notify file kind set size stamp vector holder) v e = tried_disk c me links v (takes_framed c me p v.epoch v) (notify_keeps v.epoch)
  where
    notify_keeps : (o : Option InEpoch) → Keeps v (takes_framed c me p o v)
    notify_keeps None = quiet_keeps v
    notify_keeps (Some i) = subst (λ (y : Body). Keeps v (takes_inside (frame_in c me v.boot i) p.from y v)) (sym e)
        (talks_untouched v.store.copies v.store.copies _ _ refl (on_notify_talks (frame_in c me v.boot i) p.from (copy_of v.store file) (record { file = file; kind = kind; set = set; size = size; stamp = stamp; vector = vector; holder = holder; base = None; wanted = None; content = [] }) v.pulls))
received_disk c me links p (body.Page file stamp page bytes) v e = tried_disk c me links v (takes_framed c me p v.epoch v) (page_keeps v.epoch)
  where
    page_keeps : (o : Option InEpoch) → Keeps v (takes_framed c me p o v)
    page_keeps None = quiet_keeps v
    page_keeps (Some i) = subst (λ (y : Body). Keeps v (takes_inside (frame_in c me v.boot i) p.from y v)) (sym e) (talks_untouched v.store.copies v.store.copies _ _ refl (on_page_talks (frame_in c me v.boot i) file stamp page bytes v.pulls))
received_disk c me links p (body.Delta file wanted pages) v e = tried_disk c me links v (takes_framed c me p v.epoch v) (delta_keeps v.epoch)
  where
    delta_keeps : (o : Option InEpoch) → Keeps v (takes_framed c me p o v)
    delta_keeps None = quiet_keeps v
    delta_keeps (Some i) = subst (λ (y : Body). Keeps v (takes_inside (frame_in c me v.boot i) p.from y v)) (sym e) (talks_untouched v.store.copies v.store.copies _ _ refl (on_delta_talks (frame_in c me v.boot i) (copy_of v.store file) file wanted pages v.pulls))
received_disk c me links p _ v e = writes_disk c me links v (takes_framed c me p v.epoch v) (framed_disk c me p v.epoch v)

ticks_disk : (c : Config) (me : ℕ) (links : Links) (v : SiteView) → SiteDisk me v (ticks_after c me links (adopts_in c me v))
ticks_disk c me links v =
    let a : Outcome SiteView = adopts_in c me v in
    let last : Outcome SiteView = ends_event c me links a.view in
    disk_then me v.store.copies a.view.store.copies last.view.store.copies a.told last.told a.written last.written (adopts_of_disk c me v.epoch v) (ends_keeps c me links a.view)

pub step_disk : (c : Config) (me : ℕ) (links : Links) (v : SiteView) (e : Event) → SiteDisk me v (step c me links v e)
step_disk c me links v (Calls process words) = writes_disk c me links v (takes_call c me process words v) (inl (talks_untouched v.store.copies v.store.copies _ _ refl (on_call_talks (call_frame c me v.boot v.epoch) (epoch_id v.epoch) process words v.users)))
step_disk c me links v (Receives p) =
    elim (is_dropped p v) as (λ t. SiteDisk me v (elim t [ true ↦ quiet v | false ↦ whole c me links (takes c me links p p.body v) (tries_at c me p.body) ])) [
      | true ↦ inl (quiet_keeps v)
      | false ↦ received_disk c me links p p.body v refl
    ]
step_disk c me links v Ticks = ticks_disk c me links v
step_disk c me links v Parts = writes_disk c me links v (starts_part me links v) (inl (starts_part_keeps me links v.epoch v))
step_disk c me links v Merges = writes_disk c me links v (starts_merge me links v) (inl (begins_keeps me links (v.promised.number + 1) (boots_where (merge_boot me links)) v))
step_disk c me links v GivesUp = writes_disk c me links v (leaves me v) (inl (leaves_of_keeps me v.epoch v))
