-- Each event of a site keeps the requests of its waiting calls within their bounds.
use Rattle.std.proofs.Common.{ℕ, ◌+◌, true, false, cond, ◌&&◌, not, List, [], ◌∷◌, Option, Some, None}
use Rattle.locus_ids.specs.declared.ids.EpochId.{EpochId}
use Rattle.locus_ids.specs.declared.sites.Sites.{Sites}
use Rattle.locus_ids.specs.declared.sites.Members.{Members}
use Rattle.locus_ids.specs.declared.sites.Links.{Links}
use Rattle.locus_ids.specs.declared.config.Config.{Config}
use Rattle.trace_book.specs.Same.{same_epoch}
use Rattle.trace_book.specs.declared.call.Call.TheVariants as call
use Rattle.wire_messages.specs.declared.packet.Packet.{Packet}
use Rattle.wire_messages.specs.declared.body.Body.{Body}
use Rattle.wire_messages.specs.declared.body.Body.TheVariants as body
use Rattle.role_steps.specs.Tables.{row, without_row, first_that}
use Rattle.role_steps.specs.Views.{Frame, SiteView, Outcome, Event, Calls, Receives, Ticks, Parts, Merges, GivesUp, quiet, sends, and_then}
use Rattle.role_steps.specs.Storage.{copy_of}
use Rattle.role_steps.specs.Adoption.{notes_own_at, table_group, is_ready, adopts_pull, without_pull, adopts_first, with_adopted, fits_own}
use Rattle.role_steps.specs.Mends.{kept_stamps, has_mend_in, wants_mend, row_file, starts_mend_of, starts_mend, starts_mends_in}
use Rattle.role_steps.specs.Epochs.{is_epoch_below, frame_in, leaves_of, leaves, promises, reached, begins_round, starts_merge, starts_part_of, starts_part, promise_packet, refuse_packet, on_poll, on_promise_of, on_refuse_of, joins, may_install, is_in, joined_packet, on_install, on_joined, passed_over, unanswered, decides_if, passes_over_of, passes_over}
use Rattle.role_steps.specs.declared.pulls.Pull.{Pull}
use Rattle.role_steps.specs.declared.rounds.InEpoch.{InEpoch}
use Rattle.role_steps.specs.declared.rounds.Round.{Round}
use Rattle.role_steps.specs.declared.synchronizing.FileRow.{FileRow}
use Rattle.role_steps.specs.declared.synchronizing.SyncTable.{SyncTable}
use Rattle.the_run.specs.Steps.{at_table_of, is_opened_in, takes_inside, is_dropped, takes_framed, takes, adopts_of, adopts_in, tries_at, starts_mends_of, ends_event, whole, call_frame, epoch_id, takes_call, step}
use Rattle.row_laws.proofs.Bounds.Asking.{UsersBounded, on_call_bounded, on_open_done_bounded, on_op_done_bounded, on_close_done_bounded, on_look_done_bounded, on_as_held_bounded}

abbrev pub ViewBounded : SiteView → Type 0
ViewBounded v = UsersBounded v.users

-- so it is after a part of an event
abbrev Leaves : Outcome SiteView → Type 0
Leaves o = ViewBounded o.view

-- what a part of an event does keeps it so
abbrev Keeps : SiteView → Outcome SiteView → Type 0
Keeps v o = ViewBounded v → Leaves o

-- ---- parts that leave the users as they are ----

table_keeps : (g : SyncTable → Outcome SyncTable) (o : Option SyncTable) (v : SiteView) → Keeps v (at_table_of g o v)
table_keeps g None v h = h
table_keeps g (Some t) v h = h

noted_keeps : (f : Frame) (p : Pull) (o : Option SyncTable) (v : SiteView) → ViewBounded v → ViewBounded (notes_own_at f p o v)
noted_keeps f p None v h = h
noted_keeps f p (Some t) v h = h

adopts_keeps : (f : Frame) (ps : List Pull) (v : SiteView) → Keeps v (adopts_first f ps v)
adopts_keeps f [] v h = h
adopts_keeps f (p ∷ ps) v h =
    elim (is_ready v p) as (λ t. Leaves (elim t [ true ↦ elim (fits_own p (copy_of v.store p.file)) [ true ↦ adopts_pull f p v | false ↦ adopts_first f ps (without_pull p v) ] | false ↦ adopts_first f ps v ])) [
      | true ↦ elim (fits_own p (copy_of v.store p.file)) as (λ t. Leaves (elim t [ true ↦ adopts_pull f p v | false ↦ adopts_first f ps (without_pull p v) ])) [
        | true ↦ (let now : SiteView = with_adopted p v in noted_keeps f p (row table_group p.file.group now.tables) now h)
        | false ↦ adopts_keeps f ps (without_pull p v) h
      ]
      | false ↦ adopts_keeps f ps v h
    ]

adopts_of_keeps : (c : Config) (me : ℕ) (e : Option InEpoch) (v : SiteView) → Keeps v (adopts_of c me e v)
adopts_of_keeps c me None v h = h
adopts_of_keeps c me (Some e) v h = adopts_keeps (frame_in c me v.boot e) v.pulls v h

tries_keeps : (c : Config) (me : ℕ) (x : Body) (v : SiteView) → Keeps v (tries_at c me x v)
tries_keeps c me (body.Notify file kind set size stamp vector holder) v h = adopts_of_keeps c me v.epoch v h
tries_keeps c me (body.Page file stamp page bytes) v h = adopts_of_keeps c me v.epoch v h
tries_keeps c me (body.Delta file wanted pages) v h = adopts_of_keeps c me v.epoch v h
tries_keeps c me _ v h = h

-- ---- mends ----

mend_keeps : (f : Frame) (t : SyncTable) (o : Option FileRow) (v : SiteView) → Keeps v (starts_mend_of f t o v)
mend_keeps f t None v h = h
mend_keeps f t (Some r) v h = on_call_bounded f (Some f.epoch) 0 (call.Mend (row_file t r)) v.users h

starts_mend_keeps : (f : Frame) (t : SyncTable) (v : SiteView) → Keeps v (starts_mend f t v)
starts_mend_keeps f t v h =
    elim (t.started && not (has_mend_in v.users t.group)) as (λ x. Leaves (elim x [ true ↦ starts_mend_of f t (first_that (wants_mend v t) t.files) v | false ↦ quiet v ])) [
      | true ↦ mend_keeps f t (first_that (wants_mend v t) t.files) v h
      | false ↦ h
    ]

mends_keeps : (f : Frame) (ts : List SyncTable) (v : SiteView) → Keeps v (starts_mends_in f ts v)
mends_keeps f [] v h = h
mends_keeps f (t ∷ ts) v h = mends_keeps f ts (starts_mend f t v).view (starts_mend_keeps f t v h)

mends_of_keeps : (c : Config) (me : ℕ) (e : Option InEpoch) (v : SiteView) → Keeps v (starts_mends_of c me e v)
mends_of_keeps c me None v h = h
mends_of_keeps c me (Some e) v h = mends_keeps (frame_in c me v.boot e) v.tables v h

-- ---- how an epoch is formed ----

leaves_keeps : (me : ℕ) (e : Option InEpoch) (v : SiteView) → Keeps v (leaves_of me e v)
leaves_keeps me None v h = h
leaves_keeps me (Some e) v h = tt

part_keeps : (me : ℕ) (links : Links) (e : Option InEpoch) (v : SiteView) → Keeps v (starts_part_of me links e v)
part_keeps me links None v h = h
part_keeps me links (Some e) v h = leaves_keeps me v.epoch v h

poll_keeps : (me : ℕ) (links : Links) (from from_boot : ℕ) (id : EpochId) (v : SiteView) → Keeps v (on_poll me links from from_boot id v)
poll_keeps me links from from_boot id v h =
    elim (is_epoch_below v.promised id) as (λ t. Leaves (elim t [
      | true ↦ and_then (promises me id (reached links) v) (λ now. sends (promise_packet me links from from_boot id now) now)
      | false ↦ sends (cond (same_epoch id v.promised && not v.installed) (promise_packet me links from from_boot id v) (refuse_packet me from from_boot id v)) v
    ])) [
      | true ↦ leaves_keeps me v.epoch v h
      | false ↦ h
    ]

promise_keeps : (from from_boot : ℕ) (id : EpochId) (reach : Sites) (o : Option Round) (v : SiteView) → Keeps v (on_promise_of from from_boot id reach o v)
promise_keeps from from_boot id reach None v h = h
promise_keeps from from_boot id reach (Some r) v h = h

refuse_keeps : (me : ℕ) (links : Links) (id theirs : EpochId) (o : Option Round) (v : SiteView) → Keeps v (on_refuse_of me links id theirs o v)
refuse_keeps me links id theirs None v h = h
refuse_keeps me links id theirs (Some r) v h =
    elim (same_epoch r.id id) as (λ t. Leaves (elim t [ true ↦ begins_round me links (theirs.number + 1) r.polled v | false ↦ quiet v ])) [
      | true ↦ leaves_keeps me v.epoch v h
      | false ↦ h
    ]

install_keeps : (c : Config) (me from from_boot : ℕ) (id : EpochId) (m : Members) (v : SiteView) → Keeps v (on_install c me from from_boot id m v)
install_keeps c me from from_boot id m v h =
    elim (may_install me id m v) as (λ t. Leaves (elim t [ true ↦ and_then (joins c me id m v) (λ now. sends (joined_packet me from from_boot id now) now) | false ↦ sends (cond (is_in id v.epoch) (joined_packet me from from_boot id v) []) v ])) [
      | true ↦ h
      | false ↦ h
    ]

joined_keeps : (from : ℕ) (id : EpochId) (v : SiteView) → Keeps v (on_joined from id v)
joined_keeps from id v h = elim (is_in id v.epoch) as (λ b. ViewBounded (cond b (record v { installs = without_row (λ s. s) from v.installs }) v)) [ true ↦ h | false ↦ h ]

decides_keeps : (c : Config) (me : ℕ) (links : Links) (r : Round) (xs : List ℕ) (v : SiteView) → Keeps v (decides_if c me links r xs v)
decides_keeps c me links r [] v h = h
decides_keeps c me links r (x ∷ xs) v h = h

over_keeps : (c : Config) (me : ℕ) (links : Links) (o : Option Round) (v : SiteView) → Keeps v (passes_over_of c me links o v)
over_keeps c me links None v h = h
over_keeps c me links (Some r) v h = decides_keeps c me links (passed_over links r) (unanswered (passed_over links r)) v h

ends_keeps : (c : Config) (me : ℕ) (links : Links) (v : SiteView) → Keeps v (ends_event c me links v)
ends_keeps c me links v h = (let o : Outcome SiteView = passes_over c me links v in mends_of_keeps c me o.view.epoch o.view (over_keeps c me links v.round v h))

-- ---- a packet ----

inside_keeps : (f : Frame) (from : ℕ) (x : Body) (v : SiteView) → Keeps v (takes_inside f from x v)
inside_keeps f from (body.Report group copies) v h = table_keeps _ (row table_group group v.tables) v h
inside_keeps f from (body.Open serial call process request file how) v h = table_keeps _ (row table_group file.group v.tables) v h
inside_keeps f from (body.Opened inst answer) v h = table_keeps _ (first_that (is_opened_in inst) v.tables) v h
inside_keeps f from (body.OpenDone serial answer) v h = on_open_done_bounded f (kept_stamps v) serial answer v.users h
inside_keeps f from (body.OpDone serial n result) v h = on_op_done_bounded f serial n result v.users h
inside_keeps f from (body.AsHeld serial n len) v h = on_as_held_bounded f serial n v.users h
inside_keeps f from (body.CloseDone serial answer) v h = on_close_done_bounded f serial answer v.users h
inside_keeps f from (body.Closed inst made) v h = table_keeps _ (first_that (is_opened_in inst) v.tables) v h
inside_keeps f from (body.Look call process request take file what) v h = table_keeps _ (row table_group file.group v.tables) v h
inside_keeps f from (body.LookDone call request take answer) v h = on_look_done_bounded f call request take answer v.users h
inside_keeps f from (body.Have file stamp) v h = table_keeps _ (row table_group file.group v.tables) v h
inside_keeps f from _ v h = h

framed_keeps : (c : Config) (me : ℕ) (p : Packet) (e : Option InEpoch) (v : SiteView) → Keeps v (takes_framed c me p e v)
framed_keeps c me p None v h = h
framed_keeps c me p (Some e) v h = inside_keeps (frame_in c me v.boot e) p.from p.body v h

takes_keeps : (c : Config) (me : ℕ) (links : Links) (p : Packet) (x : Body) (v : SiteView) → Keeps v (takes c me links p x v)
takes_keeps c me links p body.Poll v h = poll_keeps me links p.from p.from_boot p.epoch v h
takes_keeps c me links p (body.Promise reach) v h = promise_keeps p.from p.from_boot p.epoch reach v.round v h
takes_keeps c me links p (body.Refuse promised) v h = refuse_keeps me links p.epoch promised v.round v h
takes_keeps c me links p (body.Install members) v h = install_keeps c me p.from p.from_boot p.epoch members v h
takes_keeps c me links p body.Joined v h = joined_keeps p.from p.epoch v h
takes_keeps c me links p _ v h = framed_keeps c me p v.epoch v h

-- ---- the step ----

whole_keeps : (c : Config) (me : ℕ) (links : Links) (o : Outcome SiteView) (tries : SiteView → Outcome SiteView) → ViewBounded o.view → Keeps o.view (tries o.view) → ViewBounded (whole c me links o tries).view
whole_keeps c me links o tries h t = ends_keeps c me links (tries o.view).view (t h)

pub step_bounded : (c : Config) (me : ℕ) (links : Links) (v : SiteView) (e : Event) → ViewBounded v → ViewBounded (step c me links v e).view
step_bounded c me links v (Calls process words) h = whole_keeps c me links (takes_call c me process words v) quiet (on_call_bounded (call_frame c me v.boot v.epoch) (epoch_id v.epoch) process words v.users h) (λ k. k)
step_bounded c me links v (Receives p) h =
    elim (is_dropped p v) as (λ t. Leaves (elim t [ true ↦ quiet v | false ↦ whole c me links (takes c me links p p.body v) (tries_at c me p.body) ])) [
      | true ↦ h
      | false ↦ whole_keeps c me links (takes c me links p p.body v) (tries_at c me p.body) (takes_keeps c me links p p.body v h) (tries_keeps c me p.body (takes c me links p p.body v).view)
    ]
step_bounded c me links v Ticks h = ends_keeps c me links (adopts_in c me v).view (adopts_of_keeps c me v.epoch v h)
step_bounded c me links v Parts h = whole_keeps c me links (starts_part me links v) quiet (part_keeps me links v.epoch v h) (λ k. k)
step_bounded c me links v Merges h = whole_keeps c me links (starts_merge me links v) quiet (leaves_keeps me v.epoch v h) (λ k. k)
step_bounded c me links v GivesUp h = whole_keeps c me links (leaves me v) quiet (leaves_keeps me v.epoch v h) (λ k. k)
