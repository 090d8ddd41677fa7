-- Each event of a site keeps the order of its pulls: a Notify and a Page put one in its place, an adoption takes one away, and who leaves
-- an epoch pulls nothing any more.
use Rattle.std.proofs.Common.{ℕ, ◌+◌, true, false, cond, not, ◌&&◌, ◌++◌, List, [], ◌∷◌, Option, Some, None}
use Rattle.locus_ids.specs.declared.config.Config.{Config}
use Rattle.locus_ids.specs.declared.ids.EpochId.{EpochId}
use Rattle.locus_ids.specs.declared.ids.Stamp.{Stamp}
use Rattle.locus_ids.specs.declared.sites.Links.{Links}
use Rattle.locus_ids.specs.declared.sites.Members.{Members}
use Rattle.locus_ids.specs.declared.sites.Sites.{Sites}
use Rattle.trace_book.specs.Same.{same_epoch}
use Rattle.wire_messages.specs.declared.body.Body.{Body}
use Rattle.wire_messages.specs.declared.body.Body.TheVariants as body
use Rattle.wire_messages.specs.declared.packet.Packet.{Packet}
use Rattle.role_steps.specs.Adoption.{notes_own_at, table_group, without_pull, is_ready, adopts_pull, adopts_first, with_adopted, fits_own}
use Rattle.role_steps.specs.Epochs.{is_epoch_below, frame_in, leaves_of, leaves, promises, reached, begins_round, starts_part_of, starts_part, starts_merge, promise_packet, refuse_packet, on_poll, on_promise_of, on_refuse_of, joins, may_install, is_in, joined_packet, on_install, on_joined, passed_over, unanswered, decides_if, passes_over_of, passes_over}
use Rattle.role_steps.specs.Mends.{has_mend_in, wants_mend, starts_mend_of, starts_mend, starts_mends_in}
use Rattle.role_steps.specs.Pulling.{pull_key, pull_of, replaces_pull, goes_on, begins_pull, pull_over, on_notify, is_awaited, pages_in, is_delta, on_page_of, on_delta_of}
use Rattle.role_steps.specs.Reports.{on_report, on_open, on_look, on_closed, on_have}
use Rattle.role_steps.specs.Opens.{on_opened}
use Rattle.role_steps.specs.Storage.{copy_of}
use Rattle.role_steps.specs.Tables.{row, without_row, first_that}
use Rattle.role_steps.specs.Versions.{is_below}
use Rattle.commit_graph.specs.Versions.{same_stamp}
use Rattle.role_steps.specs.Views.{Frame, SiteView, Event, Calls, Receives, Ticks, Parts, Merges, GivesUp, Outcome, quiet, sends, and_then, packet}
use Rattle.role_steps.specs.declared.copies.FileCopy.{FileCopy}
use Rattle.role_steps.specs.declared.pulls.Pull.{Pull}
use Rattle.role_steps.specs.declared.rounds.InEpoch.{InEpoch}
use Rattle.role_steps.specs.declared.rounds.Round.{Round}
use Rattle.role_steps.specs.declared.synchronizing.FileRow.{FileRow}
use Rattle.role_steps.specs.declared.synchronizing.SyncTable.{SyncTable}
use Rattle.schedule_lines.specs.declared.line.ScheduleLine.{ScheduleLine}
use Rattle.the_run.specs.Kept.{Kept}
use Rattle.the_run.specs.Runs.{run_in}
use Rattle.the_run.specs.Steps.{at_table_of, is_dropped, is_opened_in, takes_inside, takes_framed, takes, adopts_of, adopts_in, tries_at, starts_mends_of, ends_event, whole, takes_call, step}
use Rattle.the_run.specs.Worlds.{first_world}
use Rattle.the_run.proofs.Runs.{every_run}
use Rattle.tree_laws.specs.Stores.{Ascends}
use Rattle.store_laws.proofs.Users.Tabled.{ascends_with, ascends_without}
use Rattle.row_laws.proofs.Bounds.EachView.{KeepsViews, views_kept, views_first}
use Rattle.calm_laws.specs.Pulls.Pulls.{OwnPullsAscend, PullsAscend}

abbrev Ascend : List Pull → Type 0
Ascend ps = Ascends pull_key ps

-- what the outcome leaves ascends, where it did before
abbrev Keeps : SiteView → Outcome SiteView → Type 0
Keeps v o = Ascend v.pulls → Ascend o.view.pulls

abbrev KeepsList : List Pull → Outcome (List Pull) → Type 0
KeepsList ps o = Ascend ps → Ascend o.view

-- ---- Notify and Page ----

begins_keeps : (f : Frame) (own : Option FileCopy) (p : Pull) (ps : List Pull) → KeepsList ps (begins_pull f own p ps)
begins_keeps f own p ps = elim (replaces_pull own p (pull_of ps p.file)) as (λ b. KeepsList ps (elim b [ true ↦ goes_on f (pull_over own p) ps | false ↦ quiet ps ])) [
  | true ↦ λ h. ascends_with pull_key (pull_over own p) ps h
  | false ↦ λ h. h
]

pub notify_keeps : (f : Frame) (from : ℕ) (own : Option FileCopy) (p : Pull) (ps : List Pull) → KeepsList ps (on_notify f from own p ps)
notify_keeps f from None p ps = begins_keeps f None p ps
notify_keeps f from (Some own) p ps =
    elim (same_stamp own.stamp p.stamp) as (λ b. KeepsList ps (elim b [ true ↦ sends (packet f from (body.Have p.file p.stamp) ∷ []) ps | false ↦ elim (is_below own.vector p.vector) [ true ↦ begins_pull f (Some own) p ps | false ↦ quiet ps ] ])) [
      | true ↦ λ h. h
      | false ↦ elim (is_below own.vector p.vector) as (λ b. KeepsList ps (elim b [ true ↦ begins_pull f (Some own) p ps | false ↦ quiet ps ])) [ true ↦ begins_keeps f (Some own) p ps | false ↦ λ h. h ]
    ]

pub delta_keeps : (f : Frame) (own : ℕ) (stamp : Stamp) (pages : List ℕ) (o : Option Pull) (ps : List Pull) → KeepsList ps (on_delta_of f own stamp pages o ps)
delta_keeps f own stamp pages None ps = λ h. h
delta_keeps f own stamp pages (Some p) ps =
    elim (is_delta own p stamp pages) as (λ b. KeepsList ps (elim b [ true ↦ goes_on f (record p { wanted = Some pages }) ps | false ↦ quiet ps ])) [
      | true ↦ λ h. ascends_with pull_key (record p { wanted = Some pages }) ps h
      | false ↦ λ h. h
    ]

pub page_keeps : (f : Frame) (stamp : Stamp) (page : ℕ) (bytes : List ℕ) (o : Option Pull) (ps : List Pull) → KeepsList ps (on_page_of f stamp page bytes o ps)
page_keeps f stamp page bytes None ps = λ h. h
page_keeps f stamp page bytes (Some p) ps =
    elim (is_awaited p stamp page bytes) as (λ b. KeepsList ps (elim b [ true ↦ goes_on f (record p { content = p.content ++ bytes }) ps | false ↦ quiet ps ])) [
      | true ↦ λ h. ascends_with pull_key (record p { content = p.content ++ bytes }) ps h
      | false ↦ λ h. h
    ]

-- ---- adoptions ----

notes_keeps : (f : Frame) (p : Pull) (o : Option SyncTable) (v : SiteView) → Ascend v.pulls → Ascend (notes_own_at f p o v).pulls
notes_keeps f p None v h = h
notes_keeps f p (Some t) v h = h

pulls_keeps : (f : Frame) (p : Pull) (v : SiteView) → Keeps v (adopts_pull f p v)
pulls_keeps f p v = λ h. (let mid : SiteView = with_adopted p v in notes_keeps f p (row table_group p.file.group mid.tables) mid (ascends_without pull_key (pull_key p) v.pulls h))

pub adopts_keeps : (f : Frame) (ps : List Pull) (v : SiteView) → Keeps v (adopts_first f ps v)
adopts_keeps f [] v = λ h. h
adopts_keeps f (p ∷ ps) v =
    elim (is_ready v p) as (λ t. Keeps v (elim t [ true ↦ elim (fits_own p (copy_of v.store p.file)) [ true ↦ adopts_pull f p v | false ↦ adopts_first f ps (without_pull p v) ] | false ↦ adopts_first f ps v ])) [
      | true ↦ elim (fits_own p (copy_of v.store p.file)) as (λ t. Keeps v (elim t [ true ↦ adopts_pull f p v | false ↦ adopts_first f ps (without_pull p v) ])) [
        | true ↦ pulls_keeps f p v
        | false ↦ λ h. adopts_keeps f ps (without_pull p v) (ascends_without pull_key (pull_key p) v.pulls h)
      ]
      | false ↦ adopts_keeps f ps v
    ]

adopts_of_keeps : (c : Config) (me : ℕ) (e : Option InEpoch) (v : SiteView) → Keeps v (adopts_of c me e v)
adopts_of_keeps c me None v = λ h. h
adopts_of_keeps c me (Some e) v = adopts_keeps (frame_in c me v.boot e) v.pulls v

tries_keeps : (c : Config) (me : ℕ) (x : Body) (v : SiteView) → Keeps v (tries_at c me x v)
tries_keeps c me (body.Notify file kind set size stamp vector holder) v = adopts_of_keeps c me v.epoch v
tries_keeps c me (body.Page file stamp page bytes) v = adopts_of_keeps c me v.epoch v
tries_keeps c me (body.Delta file wanted pages) v = adopts_of_keeps c me v.epoch v
tries_keeps c me _ v = λ h. h

-- ---- packets of the epoch ----

table_keeps : (g : SyncTable → Outcome SyncTable) (o : Option SyncTable) (v : SiteView) → Keeps v (at_table_of g o v)
table_keeps g None v = λ h. h
table_keeps g (Some t) v = λ h. h

inside_keeps : (f : Frame) (from : ℕ) (x : Body) (v : SiteView) → Keeps v (takes_inside f from x v)
inside_keeps f from (body.Report group copies) v = table_keeps (on_report f from copies) (row table_group group v.tables) v
inside_keeps f from (body.Open serial call process request file how) v = table_keeps (on_open f from (record { serial = serial; call = call; process = process; request = request; file = file; how = how })) (row table_group file.group v.tables) v
inside_keeps f from (body.Opened inst answer) v = table_keeps (on_opened f inst answer) (first_that (is_opened_in inst) v.tables) v
inside_keeps f from (body.Closed inst made) v = table_keeps (on_closed f from inst made) (first_that (is_opened_in inst) v.tables) v
inside_keeps f from (body.Look call process request take file what) v = table_keeps (on_look f from (record { call = call; process = process; request = request; take = take; file = file; what = what })) (row table_group file.group v.tables) v
inside_keeps f from (body.Have file stamp) v = table_keeps (on_have from file stamp) (row table_group file.group v.tables) v
inside_keeps f from (body.Notify file kind set size stamp vector holder) v = notify_keeps f from (copy_of v.store file) (record { file = file; kind = kind; set = set; size = size; stamp = stamp; vector = vector; holder = holder; base = None; wanted = None; content = [] }) v.pulls
inside_keeps f from (body.Page file stamp page bytes) v = page_keeps f stamp page bytes (pull_of v.pulls file) v.pulls
inside_keeps f from (body.Delta file wanted pages) v = delta_keeps f (pages_in (copy_of v.store file)) wanted pages (pull_of v.pulls file) v.pulls
inside_keeps f from _ v = λ h. h

framed_keeps : (c : Config) (me : ℕ) (p : Packet) (e : Option InEpoch) (v : SiteView) → Keeps v (takes_framed c me p e v)
framed_keeps c me p None v = λ h. h
framed_keeps c me p (Some e) v = inside_keeps (frame_in c me v.boot e) p.from p.body v

-- ---- epochs ----

leaves_keeps : (me : ℕ) (e : Option InEpoch) (v : SiteView) → Keeps v (leaves_of me e v)
leaves_keeps me None v = λ h. h
leaves_keeps me (Some e) v = λ h. tt

part_keeps : (me : ℕ) (links : Links) (e : Option InEpoch) (v : SiteView) → Keeps v (starts_part_of me links e v)
part_keeps me links None v = λ h. h
part_keeps me links (Some e) v = leaves_keeps me v.epoch v

poll_keeps : (me : ℕ) (links : Links) (from from_boot : ℕ) (id : EpochId) (v : SiteView) → Keeps v (on_poll me links from from_boot id v)
poll_keeps me links from from_boot id v =
    elim (is_epoch_below v.promised id) as (λ t. Keeps v (elim t [ true ↦ and_then (promises me id (reached links) v) (λ now. sends (promise_packet me links from from_boot id now) now) | false ↦ sends (cond (same_epoch id v.promised && not v.installed) (promise_packet me links from from_boot id v) (refuse_packet me from from_boot id v)) v ])) [
      | true ↦ leaves_keeps me v.epoch v
      | false ↦ λ h. h
    ]

promise_keeps : (from from_boot : ℕ) (id : EpochId) (reach : Sites) (o : Option Round) (v : SiteView) → Keeps v (on_promise_of from from_boot id reach o v)
promise_keeps from from_boot id reach None v = λ h. h
promise_keeps from from_boot id reach (Some r) v = λ h. h

refuse_keeps : (me : ℕ) (links : Links) (id theirs : EpochId) (o : Option Round) (v : SiteView) → Keeps v (on_refuse_of me links id theirs o v)
refuse_keeps me links id theirs None v = λ h. h
refuse_keeps me links id theirs (Some r) v = elim (same_epoch r.id id) as (λ t. Keeps v (elim t [ true ↦ begins_round me links (theirs.number + 1) r.polled v | false ↦ quiet v ])) [ true ↦ leaves_keeps me v.epoch v | false ↦ λ h. h ]

install_keeps : (c : Config) (me from from_boot : ℕ) (id : EpochId) (m : Members) (v : SiteView) → Keeps v (on_install c me from from_boot id m v)
install_keeps c me from from_boot id m v =
    elim (may_install me id m v) as (λ t. Keeps v (elim t [ true ↦ and_then (joins c me id m v) (λ now. sends (joined_packet me from from_boot id now) now) | false ↦ sends (cond (is_in id v.epoch) (joined_packet me from from_boot id v) []) v ])) [
      | true ↦ λ h. h
      | false ↦ λ h. h
    ]

joined_keeps : (from : ℕ) (id : EpochId) (v : SiteView) → Keeps v (on_joined from id v)
joined_keeps from id v =
    elim (is_in id v.epoch) as (λ b. Keeps v (quiet (cond b (record v { installs = without_row (λ (s : ℕ). s) from v.installs }) v))) [ true ↦ λ h. h | false ↦ λ h. h ]

takes_keeps : (c : Config) (me : ℕ) (links : Links) (p : Packet) (x : Body) (v : SiteView) → Keeps v (takes c me links p x v)
takes_keeps c me links p body.Poll v = poll_keeps me links p.from p.from_boot p.epoch v
takes_keeps c me links p (body.Promise reach) v = promise_keeps p.from p.from_boot p.epoch reach v.round v
takes_keeps c me links p (body.Refuse promised) v = refuse_keeps me links p.epoch promised v.round v
takes_keeps c me links p (body.Install members) v = install_keeps c me p.from p.from_boot p.epoch members v
takes_keeps c me links p body.Joined v = joined_keeps p.from p.epoch v
takes_keeps c me links p _ v = framed_keeps c me p v.epoch v

-- ---- the end of an event ----

decides_keeps : (c : Config) (me : ℕ) (links : Links) (q : Round) (xs : List ℕ) (v : SiteView) → Keeps v (decides_if c me links q xs v)
decides_keeps c me links q [] v = λ h. h
decides_keeps c me links q (x ∷ xs) v = λ h. h

passes_keeps : (c : Config) (me : ℕ) (links : Links) (o : Option Round) (v : SiteView) → Keeps v (passes_over_of c me links o v)
passes_keeps c me links None v = λ h. h
passes_keeps c me links (Some r) v = decides_keeps c me links (passed_over links r) (unanswered (passed_over links r)) v

mend_keeps : (f : Frame) (t : SyncTable) (o : Option FileRow) (v : SiteView) → Keeps v (starts_mend_of f t o v)
mend_keeps f t None v = λ h. h
mend_keeps f t (Some r) v = λ h. h

starts_keeps : (f : Frame) (t : SyncTable) (v : SiteView) → Keeps v (starts_mend f t v)
starts_keeps f t v = elim (t.started && not (has_mend_in v.users t.group)) as (λ b. Keeps v (elim b [ true ↦ starts_mend_of f t (first_that (wants_mend v t) t.files) v | false ↦ quiet v ])) [
  | true ↦ mend_keeps f t (first_that (wants_mend v t) t.files) v
  | false ↦ λ h. h
]

mends_keep : (f : Frame) (ts : List SyncTable) (v : SiteView) → Keeps v (starts_mends_in f ts v)
mends_keep f [] v = λ h. h
mends_keep f (t ∷ ts) v = λ h. mends_keep f ts (starts_mend f t v).view (starts_keeps f t v h)

mends_of_keep : (c : Config) (me : ℕ) (e : Option InEpoch) (v : SiteView) → Keeps v (starts_mends_of c me e v)
mends_of_keep c me None v = λ h. h
mends_of_keep c me (Some e) v = mends_keep (frame_in c me v.boot e) v.tables v

ends_keeps : (c : Config) (me : ℕ) (links : Links) (v : SiteView) → Keeps v (ends_event c me links v)
ends_keeps c me links v = λ h. mends_of_keep c me (passes_over c me links v).view.epoch (passes_over c me links v).view (passes_keeps c me links v.round v h)

whole_keeps : (c : Config) (me : ℕ) (links : Links) (v : SiteView) (o : Outcome SiteView) (tries : SiteView → Outcome SiteView) → Keeps v o → Keeps o.view (tries o.view) → Keeps v (whole c me links o tries)
whole_keeps c me links v o tries a b = λ h. ends_keeps c me links (tries o.view).view (b (a h))

-- ---- each event ----

step_keeps : (c : Config) (me : ℕ) (links : Links) (v : SiteView) (e : Event) → Keeps v (step c me links v e)
step_keeps c me links v (Calls process words) = whole_keeps c me links v (takes_call c me process words v) quiet (λ h. h) (λ h. h)
step_keeps c me links v (Receives p) =
    elim (is_dropped p v) as (λ t. Keeps v (elim t [ true ↦ quiet v | false ↦ whole c me links (takes c me links p p.body v) (tries_at c me p.body) ])) [
      | true ↦ λ h. h
      | false ↦ whole_keeps c me links v (takes c me links p p.body v) (tries_at c me p.body) (takes_keeps c me links p p.body v) (tries_keeps c me p.body (takes c me links p p.body v).view)
    ]
step_keeps c me links v Ticks = λ h. ends_keeps c me links (adopts_in c me v).view (adopts_of_keeps c me v.epoch v h)
step_keeps c me links v Parts = whole_keeps c me links v (starts_part me links v) quiet (part_keeps me links v.epoch v) (λ h. h)
step_keeps c me links v Merges = whole_keeps c me links v (starts_merge me links v) quiet (leaves_keeps me v.epoch v) (λ h. h)
step_keeps c me links v GivesUp = whole_keeps c me links v (leaves me v) quiet (leaves_keeps me v.epoch v) (λ h. h)

-- ---- every run ----

keeps_views : (c : Config) → KeepsViews c OwnPullsAscend
keeps_views c = record { steps = λ me links v e h. step_keeps c me links v e h; booted = λ boot copies. tt }

pub ascend_kept : (c : Config) → Kept c PullsAscend
ascend_kept c = views_kept c OwnPullsAscend (keeps_views c)

pub first_ascend : (c : Config) → PullsAscend (first_world c)
first_ascend c = views_first c OwnPullsAscend (keeps_views c)

pub run_ascends : (c : Config) (lines : List ScheduleLine) → PullsAscend (run_in c lines)
run_ascends c lines = every_run c PullsAscend (ascend_kept c) (first_ascend c) lines
