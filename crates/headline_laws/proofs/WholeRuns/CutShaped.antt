-- What a step of a site writes, it tells first of all.
use Rattle.std.proofs.Common.{◌≡◌, ℕ, ◌+◌, true, false, List, [], ◌∷◌, ◌++◌, Option, Some, None, refl, sym, ◌∙◌, ap, subst, inl, inr, ◌⊎◌}
use Rattle.locus_ids.specs.declared.config.Config.{Config}
use Rattle.locus_ids.specs.declared.sites.Links.{Links}
use Rattle.trace_book.specs.declared.operation.Op.TheVariants as op
use Rattle.trace_book.specs.declared.record.Record.{Record}
use Rattle.trace_book.specs.declared.record.Record.TheVariants as says
use Rattle.wire_messages.specs.declared.body.Body.{Body}
use Rattle.wire_messages.specs.declared.body.Body.TheVariants as body
use Rattle.wire_messages.specs.declared.packet.Packet.{Packet}
use Rattle.role_steps.specs.Looks.{LookRequest}
use Rattle.role_steps.specs.Mends.{kept_stamps, mending}
use Rattle.role_steps.specs.Opens.{OpenRequest, on_opened}
use Rattle.role_steps.specs.of_dir_format.Entries.{nothing_seen}
use Rattle.role_steps.specs.Operations.{in_form, nothing_to_mend, on_op}
use Rattle.role_steps.specs.declared.instances.Instance.{Instance}
use Rattle.role_steps.specs.Own.{Every}
use Rattle.role_steps.specs.Adoption.{table_group}
use Rattle.role_steps.specs.Epochs.{frame_in, on_poll, on_promise_of, on_refuse_of, on_install, on_joined, starts_merge, boots_where, merge_boot, starts_part, leaves}
use Rattle.role_steps.specs.Reports.{on_report, on_open, on_look, on_closed, on_have}
use Rattle.role_steps.specs.Storage.{StoreRequest, copy_of, instance_of, on_open_ss}
use Rattle.role_steps.specs.Tables.{row, first_that}
use Rattle.role_steps.specs.Views.{Frame, SiteView, Store, Told, Shown, DiskWrite, Outcome, Event, Calls, Receives, Ticks, Parts, Merges, GivesUp, quiet, first_written}
use Rattle.role_steps.specs.declared.copies.FileCopy.{FileCopy}
use Rattle.role_steps.specs.declared.pulls.Pull.{Pull}
use Rattle.role_steps.specs.declared.rounds.InEpoch.{InEpoch}
use Rattle.role_steps.specs.declared.synchronizing.SyncTable.{SyncTable}
use Rattle.the_run.specs.Steps.{at_table_of, from_user, group_of, is_opened_in, is_dropped, takes_inside, takes_framed, takes, tries_at, adopts_in, ends_event, whole, call_frame, epoch_id, takes_call, step}
use Rattle.run_laws.specs.Words.{Talks}
use Rattle.run_laws.proofs.Telling.{on_open_ss_talks, on_closed_ok_talks, on_notify_talks, on_page_talks, on_delta_talks, on_call_talks, on_open_done_talks, on_op_done_talks, on_as_held_talks, on_close_done_talks, on_look_done_talks, on_opened_talks, on_open_talks, on_look_talks, on_report_talks, on_closed_talks, on_have_talks}
use Rattle.rest_laws.specs.of_site_laws.Vectors.Held.{StillRecord, Still, IsOf, OnDisk}
use Rattle.rest_laws.proofs.of_site_laws.Vectors.SiteDisks.{step_disk, ends_keeps}
use Rattle.rest_laws.proofs.of_store_laws.OneTree.Deeds.{IsShaped, on_close_shaped, on_op_shaped, adopts_shaped}
use Rattle.rest_laws.proofs.of_store_laws.OneTree.Cuts.{leaves_none, begins_none, part_none, poll_none, promise_none, refuse_none, install_none}

abbrev pub FirstTold : List Told → Option DiskWrite → Type 0
FirstTold told None = Unit {0}
FirstTold told (Some d) = (rest : List Told) × (told ≡ Shown d.says ∷ rest)

abbrev First : Outcome SiteView → Type 0
First o = FirstTold o.told o.written

shaped_first : (told : List Told) (w : Option DiskWrite) → IsShaped told w → FirstTold told w
shaped_first told None h = tt
shaped_first told (Some d) h = (h.0, h.1)

none_first : (told : List Told) (w : Option DiskWrite) → w ≡ None → FirstTold told w
none_first told w e = subst (FirstTold told) (sym e) tt

-- whatever else is told after it, where nothing more is written
first_then : (a b : List Told) (w x : Option DiskWrite) → x ≡ None → FirstTold a w → FirstTold (a ++ b) (first_written w x)
first_then a b None x e h = none_first (a ++ b) x e
first_then a b (Some d) x e h = (h.0 ++ b, ap (λ (xs : List Told). xs ++ b) h.1)

-- ---- a packet of the epoch ----

table_first : (g : SyncTable → Outcome SyncTable) (o : Option SyncTable) (v : SiteView) → ((t : SyncTable) → Talks (g t)) → First (at_table_of g o v)
table_first g None v h = tt
table_first g (Some t) v h = none_first (g t).told (g t).written (h t).1

-- a held read tells and writes what a read does
held_first : (x : Option Instance) (o : Outcome Store) → FirstTold o.told o.written → FirstTold (in_form x o).told (in_form x o).written
held_first None o h = h
held_first (Some x) o h = h

inside_first : (f : Frame) (from : ℕ) (x : Body) (v : SiteView) → First (takes_inside f from x v)
inside_first f from (body.Report group copies) v = table_first (on_report f from copies) (row table_group group v.tables) v (on_report_talks f from copies)
inside_first f from (body.Open serial call process request file how) v =
    let o : OpenRequest = record { serial = serial; call = call; process = process; request = request; file = file; how = how } in table_first (on_open f from o) (row table_group file.group v.tables) v (on_open_talks f from o)
inside_first f from (body.OpenSs inst file mode set kind base vector parents) v =
    let o : StoreRequest = record { inst = inst; file = file; mode = mode; set = set; kind = kind; base = base; vector = vector; parents = parents } in none_first (on_open_ss f o v.store).told (on_open_ss f o v.store).written (on_open_ss_talks f o v.store).1
inside_first f from (body.Opened inst answer) v = table_first (on_opened f inst answer) (first_that (is_opened_in inst) v.tables) v (on_opened_talks f inst answer)
inside_first f from (body.OpenDone serial answer) v = none_first _ _ (on_open_done_talks f (kept_stamps v) serial answer v.users).1
inside_first f from (body.Op serial k o seen) v = shaped_first _ _ (on_op_shaped f (mending v (group_of (instance_of v.store (from_user from serial)))) (from_user from serial) k o seen v.store)
inside_first f from (body.ReadHeld serial k at len) v =
    held_first (instance_of v.store (from_user from serial)) (on_op f nothing_to_mend (from_user from serial) k (op.Read at len) nothing_seen v.store) (shaped_first _ _ (on_op_shaped f nothing_to_mend (from_user from serial) k (op.Read at len) nothing_seen v.store))
inside_first f from (body.AsHeld serial k len) v = none_first _ _ (on_as_held_talks f serial k v.users).1
inside_first f from (body.OpDone serial k result) v = none_first _ _ (on_op_done_talks f serial k result v.users).1
inside_first f from (body.Close serial) v = shaped_first _ _ (on_close_shaped f (from_user from serial) v.store)
inside_first f from (body.Closed inst made) v = table_first (on_closed f from inst made) (first_that (is_opened_in inst) v.tables) v (on_closed_talks f from inst made)
inside_first f from (body.ClosedOk inst) v = none_first _ _ (on_closed_ok_talks f inst v.store).1
inside_first f from (body.CloseDone serial answer) v = none_first _ _ (on_close_done_talks f serial answer v.users).1
inside_first f from (body.Look call process request take file what) v =
    let l : LookRequest = record { call = call; process = process; request = request; take = take; file = file; what = what } in table_first (on_look f from l) (row table_group file.group v.tables) v (on_look_talks f from l)
inside_first f from (body.LookDone call request take answer) v = none_first _ _ (on_look_done_talks f call request take answer v.users).1
inside_first f from (body.Notify file kind set size stamp vector holder) v =
    let pull : Pull = record { file = file; kind = kind; set = set; size = size; stamp = stamp; vector = vector; holder = holder; base = None; wanted = None; content = [] } in none_first _ _ (on_notify_talks f from (copy_of v.store file) pull v.pulls).1
inside_first f from (body.Page file stamp page bytes) v = none_first _ _ (on_page_talks f file stamp page bytes v.pulls).1
inside_first f from (body.Delta file wanted pages) v = none_first _ _ (on_delta_talks f (copy_of v.store file) file wanted pages v.pulls).1
inside_first f from (body.Have file stamp) v = table_first (on_have from file stamp) (row table_group file.group v.tables) v (on_have_talks from file stamp)
inside_first f from _ v = tt

framed_first : (c : Config) (me : ℕ) (p : Packet) (e : Option InEpoch) (v : SiteView) → First (takes_framed c me p e v)
framed_first c me p None v = tt
framed_first c me p (Some e) v = inside_first (frame_in c me v.boot e) p.from p.body v

-- ---- the whole step ----

-- nothing else of an event writes
whole_first : (c : Config) (me : ℕ) (links : Links) (o : Outcome SiteView) → First o → First (whole c me links o quiet)
whole_first c me links o h = first_then o.told (ends_event c me links o.view).told o.written (ends_event c me links o.view).written (ends_keeps c me links o.view).none h

still_first : (c : Config) (me : ℕ) (links : Links) (o : Outcome SiteView) → o.written ≡ None → First (whole c me links o quiet)
still_first c me links o e = whole_first c me links o (none_first o.told o.written e)

both_none : (w x : Option DiskWrite) → w ≡ None → x ≡ None → first_written w x ≡ None
both_none w x e f = ap (λ (y : Option DiskWrite). first_written y x) e ∙ f

adopts_first : (c : Config) (me : ℕ) (v : SiteView) → First (adopts_in c me v)
adopts_first c me v = shaped_first (adopts_in c me v).told (adopts_in c me v).written (adopts_shaped c me v.epoch v)

tried_first : (c : Config) (me : ℕ) (links : Links) (o : Outcome SiteView) → o.written ≡ None → First (whole c me links o (adopts_in c me))
tried_first c me links o e =
    let a : Outcome SiteView = adopts_in c me o.view in
    let last : Outcome SiteView = ends_event c me links a.view in
    first_then a.told (o.told ++ last.told) a.written (first_written o.written last.written) (both_none o.written last.written e (ends_keeps c me links a.view).none) (adopts_first c me o.view)

notified_none : (c : Config) (me : ℕ) (p : Packet) (e : Option InEpoch) (v : SiteView) (x : Body) → p.body ≡ x → ((f : Frame) → (takes_inside f p.from x v).written ≡ None) → (takes_framed c me p e v).written ≡ None
notified_none c me p None v x q h = refl
notified_none c me p (Some e) v x q h = subst (λ (y : Body). (takes_inside (frame_in c me v.boot e) p.from y v).written ≡ None) (sym q) (h (frame_in c me v.boot e))

packet_first : (c : Config) (me : ℕ) (links : Links) (p : Packet) (x : Body) (v : SiteView) → p.body ≡ x → First (whole c me links (takes c me links p x v) (tries_at c me x))
packet_first c me links p body.Poll v q = still_first c me links (on_poll me links p.from p.from_boot p.epoch v) (poll_none me links p.from p.from_boot p.epoch v)
packet_first c me links p (body.Promise reach) v q = still_first c me links (on_promise_of p.from p.from_boot p.epoch reach v.round v) (promise_none p.from p.from_boot p.epoch reach v.round v)
packet_first c me links p (body.Refuse promised) v q = still_first c me links (on_refuse_of me links p.epoch promised v.round v) (refuse_none me links p.epoch promised v.round v)
packet_first c me links p (body.Install members) v q = still_first c me links (on_install c me p.from p.from_boot p.epoch members v) (install_none c me p.from p.from_boot p.epoch members v)
packet_first c me links p body.Joined v q = still_first c me links (on_joined p.from p.epoch v) refl
packet_first c me links p (body.Notify file kind set size stamp vector holder) v q =
    let pull : Pull = record { file = file; kind = kind; set = set; size = size; stamp = stamp; vector = vector; holder = holder; base = None; wanted = None; content = [] } in
    tried_first c me links (takes_framed c me p v.epoch v) (notified_none c me p v.epoch v (body.Notify file kind set size stamp vector holder) q (λ f. (on_notify_talks f p.from (copy_of v.store file) pull v.pulls).1))
packet_first c me links p (body.Page file stamp page bytes) v q = tried_first c me links (takes_framed c me p v.epoch v) (notified_none c me p v.epoch v (body.Page file stamp page bytes) q (λ f. (on_page_talks f file stamp page bytes v.pulls).1))
packet_first c me links p (body.Delta file wanted pages) v q = tried_first c me links (takes_framed c me p v.epoch v) (notified_none c me p v.epoch v (body.Delta file wanted pages) q (λ f. (on_delta_talks f (copy_of v.store file) file wanted pages v.pulls).1))
packet_first c me links p _ v q = whole_first c me links (takes_framed c me p v.epoch v) (framed_first c me p v.epoch v)

pub step_first : (c : Config) (me : ℕ) (links : Links) (v : SiteView) (e : Event) → FirstTold (step c me links v e).told (step c me links v e).written
step_first c me links v (Calls process words) = still_first c me links (takes_call c me process words v) (on_call_talks (call_frame c me v.boot v.epoch) (epoch_id v.epoch) process words v.users).1
step_first c me links v (Receives p) =
    elim (is_dropped p v) as (λ t. First (elim t [ true ↦ quiet v | false ↦ whole c me links (takes c me links p p.body v) (tries_at c me p.body) ])) [
      | true ↦ tt
      | false ↦ packet_first c me links p p.body v refl
    ]
step_first c me links v Ticks = first_then (adopts_in c me v).told (ends_event c me links (adopts_in c me v).view).told (adopts_in c me v).written (ends_event c me links (adopts_in c me v).view).written (ends_keeps c me links (adopts_in c me v).view).none (adopts_first c me v)
step_first c me links v Parts = still_first c me links (starts_part me links v) (part_none me links v.epoch v)
step_first c me links v Merges = still_first c me links (starts_merge me links v) (begins_none me links (v.promised.number + 1) (boots_where (merge_boot me links)) v)
step_first c me links v GivesUp = still_first c me links (leaves me v) (leaves_none me v.epoch v)

-- ---- an event that writes ----

-- one version is written, told first of all, and no other
pub record WritesFirst (s : ℕ) (told : List Told) (written : Option DiskWrite) (d : DiskWrite) : Type 0 where
  pub is_written : written ≡ Some d
  pub says_so : IsOf s d.says d.copy
  pub rest : List Told
  pub told_is : told ≡ Shown d.says ∷ rest
  pub still : Every Still rest

never_still : (s : ℕ) (r : Record) (x : FileCopy) → IsOf s r x → StillRecord r → ⊥
never_still s (says.Commit file t stamp parents content) x h k = k
never_still s (says.Adopt file t stamp) x h k = k
never_still s _ x h k = absurd h

same_head : (x y : Told) (xs ys : List Told) → ◌≡◌ {A = List Told} (x ∷ xs) (y ∷ ys) → x ≡ y
same_head x y xs ys e = cc

of_parts : (s : ℕ) (told : List Told) (written : Option DiskWrite) (d : DiskWrite) (first after : List Told) → written ≡ Some d → IsOf s d.says d.copy → told ≡ first ++ Shown d.says ∷ after → Every Still first → Every Still after → FirstTold told (Some d) → WritesFirst s told written d
of_parts s told written d [] after e says_so is still_first still_after h = record { is_written = e; says_so = says_so; rest = after; told_is = is; still = still_after }
of_parts s told written d (x ∷ first) after e says_so is still_first still_after h = absurd (never_still s d.says d.copy says_so (subst Still (same_head x (Shown d.says) (first ++ Shown d.says ∷ after) h.0 (sym is ∙ h.1)) still_first.0))

abbrev pub DiskFirst : ℕ → List Told → Option DiskWrite → Type 0
DiskFirst s told written = ((written ≡ None) × Every Still told) ⊎ ((d : DiskWrite) × WritesFirst s told written d)

disk_first : (s : ℕ) (old new : List FileCopy) (told : List Told) (written : Option DiskWrite) → OnDisk s old new told written → FirstTold told written → DiskFirst s told written
disk_first s old new told written (inl u) h = inl (u.none, u.still)
disk_first s old new told written (inr (d, w)) h = inr (d, of_parts s told written d w.before w.after w.is_written w.says_so w.told_is w.still_before w.still_after (subst (FirstTold told) w.is_written h))

pub step_writes_first : (c : Config) (me : ℕ) (links : Links) (v : SiteView) (e : Event) → DiskFirst me (step c me links v e).told (step c me links v e).written
step_writes_first c me links v e = disk_first me v.store.copies (step c me links v e).view.store.copies (step c me links v e).told (step c me links v e).written (step_disk c me links v e) (step_first c me links v e)
