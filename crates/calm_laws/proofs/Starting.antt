-- A group starts once all members that have a pack of it have reported: each event of a site keeps that.
use Rattle.std.proofs.Common.{◌≡◌, ℕ, ◌+◌, Bool, true, false, cond, ◌&&◌, not, List, [], ◌∷◌, ◌++◌, map, filter, Option, Some, None, refl, sym, ◌∙◌, subst, ap}
use Rattle.locus_ids.specs.Sites.{has}
use Rattle.locus_ids.specs.declared.ids.EpochId.{EpochId}
use Rattle.locus_ids.specs.declared.sites.Members.{Members}
use Rattle.locus_ids.specs.declared.sites.Sites.{Sites}
use Rattle.locus_ids.specs.declared.sites.Links.{Links}
use Rattle.locus_ids.specs.declared.config.Config.{Config}
use Rattle.trace_book.specs.Same.{same_epoch}
use Rattle.wire_messages.specs.declared.packet.Packet.{Packet}
use Rattle.wire_messages.specs.declared.body.Body.{Body}
use Rattle.wire_messages.specs.declared.body.Body.TheVariants as body
use Rattle.role_steps.specs.Own.{Every}
use Rattle.role_steps.specs.Tables.{row, without_row, first_that}
use Rattle.role_steps.specs.Views.{Frame, SiteView, Event, Calls, Receives, Ticks, Parts, Merges, GivesUp, Outcome, quiet, sends, and_then, pack_sites, packet, process_key, members_of, first_site}
use Rattle.role_steps.specs.Reports.{new_table, on_have_of, on_report, on_open, on_look, on_closed, on_have, waits_early, is_early_of, takes_early, takes_all_early, starts, starts_if, have_all_reported, with_report, published, closes_at, on_closed_of}
use Rattle.role_steps.specs.Opens.{on_opened, OpenRequest, Decision, Denies, Grants, decision, decides, on_open_of, takes_open, open_row, answers_open, by_stage, on_opened_of, with_open}
use Rattle.role_steps.specs.Storage.{copy_of}
use Rattle.role_steps.specs.Versions.{file_row}
use Rattle.role_steps.specs.Epochs.{is_epoch_below, frame_in, leaves_of, leaves, promises, reached, begins_round, starts_part_of, starts_part, starts_merge, promise_packet, refuse_packet, on_poll, on_promise_of, on_refuse_of, own_groups, is_sync_site, joins, may_install, is_in, joined_packet, on_install, on_joined, passed_over, unanswered, chosen_members, chosen_set, decides_if, passes_over_of, passes_over}
use Rattle.role_steps.specs.Adoption.{notes_own_at, table_group, without_pull, is_ready, adopts_pull, adopts_first, with_adopted, fits_own}
use Rattle.role_steps.specs.Mends.{has_mend_in, wants_mend, starts_mend_of, starts_mend, starts_mends_in}
use Rattle.role_steps.specs.declared.pulls.Pull.{Pull}
use Rattle.role_steps.specs.declared.rounds.InEpoch.{InEpoch}
use Rattle.role_steps.specs.declared.rounds.Round.{Round}
use Rattle.role_steps.specs.declared.synchronizing.SyncTable.{SyncTable}
use Rattle.role_steps.specs.declared.synchronizing.FileRow.{FileRow}
use Rattle.the_run.specs.Steps.{at_table_of, is_dropped, takes_framed, takes, adopts_in, tries_at, whole, takes_call, step, adopts_of, starts_mends_of, ends_event, is_opened_in, takes_inside}
use Rattle.the_run.proofs.InsideSync.{Found, row_found, every_row, first_found}
use Rattle.locus_ids.specs.declared.ids.Stamp.{Stamp}
use Rattle.wire_messages.specs.declared.body.OpenedAs.{OpenedAs}
use Rattle.wire_messages.specs.declared.body.OpenedAs.TheVariants as opened
use Rattle.wire_messages.specs.declared.body.MadeVersion.{MadeVersion}
use Rattle.wire_messages.specs.declared.body.ReportedCopy.{ReportedCopy}
use Rattle.role_steps.specs.Looks.{LookRequest, is_look_before, is_same_look, new_look, after_last, takes_look, look_key}
use Rattle.role_steps.specs.declared.synchronizing.OpenRow.{OpenRow}
use Rattle.role_steps.specs.declared.synchronizing.OpenStage.{OpenStage}
use Rattle.role_steps.specs.declared.synchronizing.OpenStage.TheVariants as stage
use Rattle.role_steps.specs.declared.synchronizing.LastLook.{LastLook}
use Rattle.role_steps.specs.declared.synchronizing.Early.{Early}
use Rattle.std.specs.List.{list_any, list_all}
use Rattle.std.proofs.lemmas.Nat.Bits.{bit_at-zero}
use Rattle.std.proofs.Common.{◌-◌}
use Rattle.role_steps.proofs.of_plain_facts.Tests.{true_false}
use Rattle.site_laws.proofs.Locks.GrantSites.{is_synced}
use Rattle.role_steps.specs.Reports.{on_report}

-- ---- a table keeps what it waits for ----

pub record SameStart (t n : SyncTable) : Type 0 where
  pub group : n.group ≡ t.group
  pub reported : n.reported ≡ t.reported
  pub started : n.started ≡ t.started

same_then : (t n k : SyncTable) → SameStart t n → SameStart n k → SameStart t k
same_then t n k a b = record { group = b.group ∙ a.group; reported = b.reported ∙ a.reported; started = b.started ∙ a.started }

abbrev Waits : SyncTable → Outcome SyncTable → Type 0
Waits t o = SameStart t o.view

decides_waits : (f : Frame) (t : SyncTable) (us : ℕ) (o : OpenRequest) (d : Decision) → Waits t (decides f t us o d)
decides_waits f t us o (Denies why) = record { group = refl; reported = refl; started = refl }
decides_waits f t us o (Grants ss stamp vector parents set k) = record { group = refl; reported = refl; started = refl }

open_of_waits : (f : Frame) (t : SyncTable) (us : ℕ) (o : OpenRequest) (r : Option OpenRow) → Waits t (on_open_of f t us o r)
open_of_waits f t us o None = decides_waits f t us o (decision f t us o o.how)
open_of_waits f t us o (Some r) = record { group = refl; reported = refl; started = refl }

takes_open_waits : (f : Frame) (us : ℕ) (o : OpenRequest) (t : SyncTable) → Waits t (takes_open f us o t)
takes_open_waits f us o t = open_of_waits f t us o (open_row t (record { us = us; serial = o.serial }))

last_waits : (f : Frame) (us : ℕ) (l : LookRequest) (o : Option LastLook) (t : SyncTable) → Waits t (after_last f us l o t)
last_waits f us l None t = record { group = refl; reported = refl; started = refl }
last_waits f us l (Some last) t =
    elim (is_look_before l last) as (λ b. Waits t (elim b [ true ↦ quiet t | false ↦ elim (is_same_look l last) [ true ↦ sends (packet f last.to last.body ∷ []) t | false ↦ new_look f us l (file_row t l.file.ino) t ] ])) [
      | true ↦ record { group = refl; reported = refl; started = refl }
      | false ↦ elim (is_same_look l last) as (λ b. Waits t (elim b [ true ↦ sends (packet f last.to last.body ∷ []) t | false ↦ new_look f us l (file_row t l.file.ino) t ])) [ true ↦ record { group = refl; reported = refl; started = refl } | false ↦ record { group = refl; reported = refl; started = refl } ]
    ]

takes_look_waits : (f : Frame) (us : ℕ) (l : LookRequest) (t : SyncTable) → Waits t (takes_look f us l t)
takes_look_waits f us l t = last_waits f us l (row look_key (process_key us l.process) t.looks) t

waits_waits : (site process : ℕ) (b : Body) (t : SyncTable) → Waits t (quiet (waits_early site process b t))
waits_waits site process b t = by_test (list_any (is_early_of site process) t.early)
  where
    by_test : (x : Bool) → Waits t (quiet (cond x t (record t { early = t.early ++ record { site = site; process = process; body = b } ∷ [] })))
    by_test true = record { group = refl; reported = refl; started = refl }
    by_test false = record { group = refl; reported = refl; started = refl }

open_waits : (f : Frame) (us : ℕ) (o : OpenRequest) (t : SyncTable) → Waits t (on_open f us o t)
open_waits f us o t =
    elim t.started as (λ b. Waits t (elim b [ true ↦ takes_open f us o t | false ↦ quiet (waits_early us o.process (body.Open o.serial o.call o.process o.request o.file o.how) t) ])) [
      | true ↦ takes_open_waits f us o t
      | false ↦ waits_waits us o.process (body.Open o.serial o.call o.process o.request o.file o.how) t
    ]

look_waits : (f : Frame) (us : ℕ) (l : LookRequest) (t : SyncTable) → Waits t (on_look f us l t)
look_waits f us l t =
    elim t.started as (λ b. Waits t (elim b [ true ↦ takes_look f us l t | false ↦ quiet (waits_early us l.process (body.Look l.call l.process l.request l.take l.file l.what) t) ])) [
      | true ↦ takes_look_waits f us l t
      | false ↦ waits_waits us l.process (body.Look l.call l.process l.request l.take l.file l.what) t
    ]

early_waits : (f : Frame) (us : ℕ) (b : Body) (t : SyncTable) → Waits t (takes_early f us b t)
early_waits f us (body.Open serial call process request file how) t = takes_open_waits f us (record { serial = serial; call = call; process = process; request = request; file = file; how = how }) t
early_waits f us (body.Look call process request take file what) t = takes_look_waits f us (record { call = call; process = process; request = request; take = take; file = file; what = what }) t
early_waits f us _ t = record { group = refl; reported = refl; started = refl }

all_early_waits : (f : Frame) (es : List Early) (t : SyncTable) → Waits t (takes_all_early f es t)
all_early_waits f [] t = record { group = refl; reported = refl; started = refl }
all_early_waits f (e ∷ es) t = same_then t (takes_early f e.site e.body t).view (takes_all_early f es (takes_early f e.site e.body t).view).view (early_waits f e.site e.body t) (all_early_waits f es (takes_early f e.site e.body t).view)

answers_waits : (f : Frame) (r : OpenRow) (a : OpenedAs) (t : SyncTable) → Waits t (answers_open f r a t)
answers_waits f r (opened.Open ino size) t = record { group = refl; reported = refl; started = refl }
answers_waits f r (opened.No why) t = record { group = refl; reported = refl; started = refl }

stage_waits : (f : Frame) (r : OpenRow) (a : OpenedAs) (s : OpenStage) (t : SyncTable) → Waits t (by_stage f r a s t)
stage_waits f r a stage.Asked t = answers_waits f r a t
stage_waits f r a stage.Granted t = record { group = refl; reported = refl; started = refl }
stage_waits f r a (stage.Refused why) t = record { group = refl; reported = refl; started = refl }
stage_waits f r a stage.Ended t = record { group = refl; reported = refl; started = refl }

opened_waits : (f : Frame) (a : OpenedAs) (o : Option OpenRow) (t : SyncTable) → Waits t (on_opened_of f a o t)
opened_waits f a None t = record { group = refl; reported = refl; started = refl }
opened_waits f a (Some r) t = stage_waits f r a r.stage t

published_waits : (ss : ℕ) (r : OpenRow) (made : Option MadeVersion) (t : SyncTable) → SameStart t (published ss r made t)
published_waits ss r None t = record { group = refl; reported = refl; started = refl }
published_waits ss r (Some v) t = record { group = refl; reported = refl; started = refl }

closes_waits : (f : Frame) (ss : ℕ) (r : OpenRow) (made : Option MadeVersion) (s : OpenStage) (t : SyncTable) → Waits t (closes_at f ss r made s t)
closes_waits f ss r made stage.Asked t = record { group = refl; reported = refl; started = refl }
closes_waits f ss r made stage.Granted t = (let k : SameStart (with_open (record r { stage = stage.Ended }) t) (published ss r made (with_open (record r { stage = stage.Ended }) t)) = published_waits ss r made (with_open (record r { stage = stage.Ended }) t) in record { group = k.group; reported = k.reported; started = k.started })
closes_waits f ss r made (stage.Refused why) t = record { group = refl; reported = refl; started = refl }
closes_waits f ss r made stage.Ended t = record { group = refl; reported = refl; started = refl }

closed_waits : (f : Frame) (ss : ℕ) (made : Option MadeVersion) (o : Option OpenRow) (t : SyncTable) → Waits t (on_closed_of f ss made o t)
closed_waits f ss made None t = record { group = refl; reported = refl; started = refl }
closed_waits f ss made (Some r) t = closes_waits f ss r made r.stage t

have_waits : (from : ℕ) (stamp : Stamp) (o : Option FileRow) (t : SyncTable) → SameStart t (on_have_of from stamp o t)
have_waits from stamp None t = record { group = refl; reported = refl; started = refl }
have_waits from stamp (Some r) t = record { group = refl; reported = refl; started = refl }

-- ---- a table starts in time ----

-- a table that hasn't started lacks the report of some member
abbrev pub Starts : Config → Members → SyncTable → Type 0
Starts c m t = t.started ≡ false → list_all (has t.reported) (members_of m (pack_sites c t.group)) ≡ false

start_kept : (c : Config) (m : Members) (t n : SyncTable) → SameStart t n → Starts c m t → Starts c m n
start_kept c m t n k s = λ h.
    subst (λ (x : Sites). list_all (has x) (members_of m (pack_sites c n.group)) ≡ false) (sym k.reported)
    (subst (λ (g : ℕ). list_all (has t.reported) (members_of m (pack_sites c g)) ≡ false) (sym k.group) (s (sym k.started ∙ h)))

abbrev StartsBy : Frame → Outcome SyncTable → Type 0
StartsBy f o = Starts f.config f.members o.view

starts_if_starts : (f : Frame) (t : SyncTable) → StartsBy f (starts_if f t)
starts_if_starts f t = (elim (have_all_reported f t) as (λ b. have_all_reported f t ≡ b → StartsBy f (elim b [ true ↦ starts f t | false ↦ quiet t ])) [
  | true ↦ λ e h. absurd (true_false (sym (all_early_waits f t.early (record t { started = true; early = [] })).started ∙ h))
  | false ↦ λ e h. e
]) refl

report_starts : (f : Frame) (from : ℕ) (xs : List ReportedCopy) (t : SyncTable) → Starts f.config f.members t → StartsBy f (on_report f from xs t)
report_starts f from xs t h = by_test (has t.reported from)
  where
    by_test : (b : Bool) → StartsBy f (elim b [ true ↦ quiet t | false ↦ starts_if f (with_report from xs t) ])
    by_test true = h
    by_test false = starts_if_starts f (with_report from xs t)

-- so do the tables of a site, by the epoch that it is in
abbrev pub InTable : Config → Option InEpoch → SyncTable → Type 0
InTable c None t = Unit {0}
InTable c (Some e) t = Starts c e.members t

abbrev pub InTime : Config → Option InEpoch → List SyncTable → Type 0
InTime c o ts = Every (InTable c o) ts

table_kept : (c : Config) (o : Option InEpoch) (t n : SyncTable) → SameStart t n → InTable c o t → InTable c o n
table_kept c None t n k h = tt
table_kept c (Some e) t n k h = start_kept c e.members t n k h

-- ---- a site ----

-- the tables start in time, where they did
abbrev Keeps : Config → SiteView → Outcome SiteView → Type 0
Keeps c v o = InTime c v.epoch v.tables → InTime c o.view.epoch o.view.tables

table_keeps : (c : Config) (g : SyncTable → Outcome SyncTable) (o : Option SyncTable) (v : SiteView) → Found (InTable c v.epoch) o → ((t : SyncTable) → InTable c v.epoch t → InTable c v.epoch (g t).view) → Keeps c v (at_table_of g o v)
table_keeps c g None v k h ts = ts
table_keeps c g (Some t) v k h ts = every_row (InTable c v.epoch) table_group (g t).view v.tables (h t k) ts

group_keeps : (c : Config) (g : SyncTable → Outcome SyncTable) (group : ℕ) (v : SiteView) → ((t : SyncTable) → Waits t (g t)) → Keeps c v (at_table_of g (row table_group group v.tables) v)
group_keeps c g group v h ts = table_keeps c g (row table_group group v.tables) v (row_found (InTable c v.epoch) table_group group v.tables ts) (λ t. table_kept c v.epoch t (g t).view (h t)) ts

with_keeps : (c : Config) (g : SyncTable → Outcome SyncTable) (test : SyncTable → Bool) (v : SiteView) → ((t : SyncTable) → Waits t (g t)) → Keeps c v (at_table_of g (first_that test v.tables) v)
with_keeps c g test v h ts = table_keeps c g (first_that test v.tables) v (first_found (InTable c v.epoch) test v.tables ts) (λ t. table_kept c v.epoch t (g t).view (h t)) ts

-- a report that comes
report_keeps : (c : Config) (me : ℕ) (e : InEpoch) (group from : ℕ) (copies : List ReportedCopy) (v : SiteView) → v.epoch ≡ Some e → Keeps c v (at_table_of (on_report (frame_in c me v.boot e) from copies) (row table_group group v.tables) v)
report_keeps c me e group from copies v inside ts = table_keeps c (on_report (frame_in c me v.boot e) from copies) (row table_group group v.tables) v (row_found (InTable c v.epoch) table_group group v.tables ts)
    (λ t h. subst (λ (o : Option InEpoch). InTable c o (on_report (frame_in c me v.boot e) from copies t).view) (sym inside) (report_starts (frame_in c me v.boot e) from copies t (subst (λ (o : Option InEpoch). InTable c o t) inside h))) ts

inside_keeps : (c : Config) (me : ℕ) (e : InEpoch) (from : ℕ) (x : Body) (v : SiteView) → v.epoch ≡ Some e → Keeps c v (takes_inside (frame_in c me v.boot e) from x v)
inside_keeps c me e from (body.Report group copies) v inside = report_keeps c me e group from copies v inside
inside_keeps c me e from (body.Open serial call process request file how) v inside = group_keeps c _ file.group v (open_waits (frame_in c me v.boot e) from (record { serial = serial; call = call; process = process; request = request; file = file; how = how }))
inside_keeps c me e from (body.Opened inst answer) v inside = with_keeps c (on_opened (frame_in c me v.boot e) inst answer) (is_opened_in inst) v (λ t. opened_waits (frame_in c me v.boot e) answer (open_row t inst) t)
inside_keeps c me e from (body.Closed inst made) v inside = with_keeps c (on_closed (frame_in c me v.boot e) from inst made) (is_opened_in inst) v (λ t. closed_waits (frame_in c me v.boot e) from made (open_row t inst) t)
inside_keeps c me e from (body.Look call process request take file what) v inside = group_keeps c _ file.group v (look_waits (frame_in c me v.boot e) from (record { call = call; process = process; request = request; take = take; file = file; what = what }))
inside_keeps c me e from (body.Have file stamp) v inside = group_keeps c (on_have from file stamp) file.group v (λ t. have_waits from stamp (file_row t file.ino) t)
inside_keeps c me e from _ v inside = λ ts. ts

noted_keeps : (c : Config) (f : Frame) (p : Pull) (o : Option SyncTable) (v : SiteView) → Found (InTable c v.epoch) o → Keeps c v (quiet (notes_own_at f p o v))
noted_keeps c f p None v k ts = ts
noted_keeps c f p (Some t) v k ts = every_row (InTable c v.epoch) table_group (on_have_of f.me p.stamp (file_row t p.file.ino) t) v.tables (table_kept c v.epoch t (on_have_of f.me p.stamp (file_row t p.file.ino) t) (have_waits f.me p.stamp (file_row t p.file.ino) t) k) ts

first_keeps : (c : Config) (f : Frame) (ps : List Pull) (v : SiteView) → Keeps c v (adopts_first f ps v)
first_keeps c f [] v = λ ts. ts
first_keeps c f (p ∷ ps) v =
    elim (is_ready v p) as (λ t. Keeps c v (elim t [ true ↦ elim (fits_own p (copy_of v.store p.file)) [ true ↦ adopts_pull f p v | false ↦ adopts_first f ps (without_pull p v) ] | false ↦ adopts_first f ps v ])) [
      | true ↦ elim (fits_own p (copy_of v.store p.file)) as (λ t. Keeps c v (elim t [ true ↦ adopts_pull f p v | false ↦ adopts_first f ps (without_pull p v) ])) [
        | true ↦ λ ts. noted_keeps c f p (row table_group p.file.group v.tables) (with_adopted p v) (row_found (InTable c v.epoch) table_group p.file.group v.tables ts) ts
        | false ↦ first_keeps c f ps (without_pull p v)
      ]
      | false ↦ first_keeps c f ps v
    ]

adopts_keeps : (c : Config) (me : ℕ) (e : Option InEpoch) (v : SiteView) → Keeps c v (adopts_of c me e v)
adopts_keeps c me None v = λ ts. ts
adopts_keeps c me (Some e) v = first_keeps c (frame_in c me v.boot e) v.pulls v

tries_keeps : (c : Config) (me : ℕ) (x : Body) (v : SiteView) → Keeps c v (tries_at c me x v)
tries_keeps c me (body.Notify file kind set size stamp vector holder) v = adopts_keeps c me v.epoch v
tries_keeps c me (body.Page file stamp page bytes) v = adopts_keeps c me v.epoch v
tries_keeps c me (body.Delta file wanted pages) v = adopts_keeps c me v.epoch v
tries_keeps c me _ v = λ ts. ts

mend_keeps : (c : Config) (f : Frame) (t : SyncTable) (o : Option FileRow) (v : SiteView) → Keeps c v (starts_mend_of f t o v)
mend_keeps c f t None v = λ ts. ts
mend_keeps c f t (Some r) v = λ ts. ts

starts_mend_keeps : (c : Config) (f : Frame) (t : SyncTable) (v : SiteView) → Keeps c v (starts_mend f t v)
starts_mend_keeps c f t v =
    elim (t.started && not (has_mend_in v.users t.group)) as (λ x. Keeps c v (elim x [ true ↦ starts_mend_of f t (first_that (wants_mend v t) t.files) v | false ↦ quiet v ])) [
      | true ↦ mend_keeps c f t (first_that (wants_mend v t) t.files) v
      | false ↦ λ ts. ts
    ]

mends_keep : (c : Config) (f : Frame) (us : List SyncTable) (v : SiteView) → Keeps c v (starts_mends_in f us v)
mends_keep c f [] v = λ ts. ts
mends_keep c f (u ∷ us) v = λ ts. mends_keep c f us (starts_mend f u v).view (starts_mend_keeps c f u v ts)

mends_of_keep : (c : Config) (me : ℕ) (e : Option InEpoch) (v : SiteView) → Keeps c v (starts_mends_of c me e v)
mends_of_keep c me None v = λ ts. ts
mends_of_keep c me (Some e) v = mends_keep c (frame_in c me v.boot e) v.tables v

leaves_keeps : (c : Config) (me : ℕ) (e : Option InEpoch) (v : SiteView) → Keeps c v (leaves_of me e v)
leaves_keeps c me None v = λ ts. ts
leaves_keeps c me (Some e) v = λ ts. tt

part_keeps : (c : Config) (me : ℕ) (links : Links) (e : Option InEpoch) (v : SiteView) → Keeps c v (starts_part_of me links e v)
part_keeps c me links None v = λ ts. ts
part_keeps c me links (Some e) v = leaves_keeps c me v.epoch v

on_poll_keeps : (c : Config) (me : ℕ) (links : Links) (from from_boot : ℕ) (id : EpochId) (v : SiteView) → Keeps c v (on_poll me links from from_boot id v)
on_poll_keeps c me links from from_boot id v =
    elim (is_epoch_below v.promised id) as (λ t. Keeps c v (elim t [ true ↦ and_then (promises me id (reached links) v) (λ now. sends (promise_packet me links from from_boot id now) now) | false ↦ sends (cond (same_epoch id v.promised && not v.installed) (promise_packet me links from from_boot id v) (refuse_packet me from from_boot id v)) v ])) [
      | true ↦ leaves_keeps c me v.epoch v
      | false ↦ λ ts. ts
    ]

on_promise_keeps : (c : Config) (from from_boot : ℕ) (id : EpochId) (reach : Sites) (o : Option Round) (v : SiteView) → Keeps c v (on_promise_of from from_boot id reach o v)
on_promise_keeps c from from_boot id reach None v = λ ts. ts
on_promise_keeps c from from_boot id reach (Some r) v = λ ts. ts

on_refuse_keeps : (c : Config) (me : ℕ) (links : Links) (id theirs : EpochId) (o : Option Round) (v : SiteView) → Keeps c v (on_refuse_of me links id theirs o v)
on_refuse_keeps c me links id theirs None v = λ ts. ts
on_refuse_keeps c me links id theirs (Some r) v = elim (same_epoch r.id id) as (λ t. Keeps c v (elim t [ true ↦ begins_round me links (theirs.number + 1) r.polled v | false ↦ quiet v ])) [ true ↦ leaves_keeps c me v.epoch v | false ↦ λ ts. ts ]

-- each that is left by a test passes it
filtered : (test : ℕ → Bool) (gs : List ℕ) → Every (λ (g : ℕ). test g ≡ true) (filter test gs)
filtered test [] = tt
filtered test (g ∷ gs) = over (test g) refl (filtered test gs)
  where
    over : (b : Bool) → test g ≡ b → Every (λ (x : ℕ). test x ≡ true) (filter test gs) → Every (λ (x : ℕ). test x ≡ true) (cond b (g ∷ filter test gs) (filter test gs))
    over true e h = (e, h)
    over false e h = h

has_none : (s : ℕ) → has (record { 0 = 0 }) s ≡ false
has_none s = rw (bit_at-zero (s - 1)) refl

-- a new table lacks the report of its own site
new_starts : (c : Config) (me : ℕ) (m : Members) (group : ℕ) → is_sync_site c me m group ≡ true → Starts c m (new_table group)
new_starts c me m group synced h = over (members_of m (pack_sites c group)) (is_synced c me m group synced)
  where
    none_some : (s : ℕ) → ◌≡◌ {A = Option ℕ} None (Some s) → ⊥
    none_some s e = cc

    over : (xs : List ℕ) → first_site xs ≡ Some me → list_all (has (record { 0 = 0 })) xs ≡ false
    over [] e = absurd (none_some me e)
    over (x ∷ xs) e = ap (λ (b : Bool). b && list_all (has (record { 0 = 0 })) xs) (has_none x)

mapped : (c : Config) (me : ℕ) (m : Members) (gs : List ℕ) → Every (λ (g : ℕ). is_sync_site c me m g ≡ true) gs → Every (Starts c m) (map new_table gs)
mapped c me m [] h = tt
mapped c me m (g ∷ gs) h = (new_starts c me m g h.0, mapped c me m gs h.1)

joins_at : (c : Config) (me : ℕ) (m : Members) → Every (Starts c m) (map new_table (filter (is_sync_site c me m) (own_groups c me)))
joins_at c me m = mapped c me m (filter (is_sync_site c me m) (own_groups c me)) (filtered (is_sync_site c me m) (own_groups c me))

on_install_keeps : (c : Config) (me from from_boot : ℕ) (id : EpochId) (m : Members) (v : SiteView) → Keeps c v (on_install c me from from_boot id m v)
on_install_keeps c me from from_boot id m v =
    elim (may_install me id m v) as (λ t. Keeps c v (elim t [ true ↦ and_then (joins c me id m v) (λ now. sends (joined_packet me from from_boot id now) now) | false ↦ sends (cond (is_in id v.epoch) (joined_packet me from from_boot id v) []) v ])) [
      | true ↦ λ ts. joins_at c me m
      | false ↦ λ ts. ts
    ]

on_joined_keeps : (c : Config) (from : ℕ) (id : EpochId) (v : SiteView) → Keeps c v (on_joined from id v)
on_joined_keeps c from id v =
    elim (is_in id v.epoch) as (λ b. Keeps c v (quiet (cond b (record v { installs = without_row (λ s. s) from v.installs }) v))) [ true ↦ λ ts. ts | false ↦ λ ts. ts ]

decides_keeps : (c : Config) (me : ℕ) (links : Links) (q : Round) (xs : List ℕ) (v : SiteView) → Keeps c v (decides_if c me links q xs v)
decides_keeps c me links q [] v = λ ts. joins_at c me (chosen_members me v.boot q (chosen_set me links q))
decides_keeps c me links q (x ∷ xs) v = λ ts. ts

passes_keeps : (c : Config) (me : ℕ) (links : Links) (o : Option Round) (v : SiteView) → Keeps c v (passes_over_of c me links o v)
passes_keeps c me links None v = λ ts. ts
passes_keeps c me links (Some r) v = decides_keeps c me links (passed_over links r) (unanswered (passed_over links r)) v

ends_keeps : (c : Config) (me : ℕ) (links : Links) (v : SiteView) → Keeps c v (ends_event c me links v)
ends_keeps c me links v = λ ts. mends_of_keep c me (passes_over c me links v).view.epoch (passes_over c me links v).view (passes_keeps c me links v.round v ts)

framed_keeps : (c : Config) (me : ℕ) (p : Packet) (e : Option InEpoch) (v : SiteView) → v.epoch ≡ e → Keeps c v (takes_framed c me p e v)
framed_keeps c me p None v inside = λ ts. ts
framed_keeps c me p (Some e) v inside = inside_keeps c me e p.from p.body v inside

takes_keeps : (c : Config) (me : ℕ) (links : Links) (p : Packet) (x : Body) (v : SiteView) → Keeps c v (takes c me links p x v)
takes_keeps c me links p body.Poll v = on_poll_keeps c me links p.from p.from_boot p.epoch v
takes_keeps c me links p (body.Promise reach) v = on_promise_keeps c p.from p.from_boot p.epoch reach v.round v
takes_keeps c me links p (body.Refuse promised) v = on_refuse_keeps c me links p.epoch promised v.round v
takes_keeps c me links p (body.Install members) v = on_install_keeps c me p.from p.from_boot p.epoch members v
takes_keeps c me links p body.Joined v = on_joined_keeps c p.from p.epoch v
takes_keeps c me links p _ v = framed_keeps c me p v.epoch v refl

whole_keeps : (c : Config) (me : ℕ) (links : Links) (v : SiteView) (o : Outcome SiteView) (tries : SiteView → Outcome SiteView) → Keeps c v o → Keeps c o.view (tries o.view) → Keeps c v (whole c me links o tries)
whole_keeps c me links v o tries h t = λ ts. ends_keeps c me links (tries o.view).view (t (h ts))

-- each event keeps that
pub step_keeps : (c : Config) (me : ℕ) (links : Links) (v : SiteView) (e : Event) → Keeps c v (step c me links v e)
step_keeps c me links v (Calls process words) = whole_keeps c me links v (takes_call c me process words v) quiet (λ ts. ts) (λ ts. ts)
step_keeps c me links v (Receives p) =
    elim (is_dropped p v) as (λ t. Keeps c v (elim t [ true ↦ quiet v | false ↦ whole c me links (takes c me links p p.body v) (tries_at c me p.body) ])) [
      | true ↦ λ ts. ts
      | false ↦ whole_keeps c me links v (takes c me links p p.body v) (tries_at c me p.body) (takes_keeps c me links p p.body v) (tries_keeps c me p.body (takes c me links p p.body v).view)
    ]
step_keeps c me links v Ticks = λ ts. ends_keeps c me links (adopts_in c me v).view (adopts_keeps c me v.epoch v ts)
step_keeps c me links v Parts = whole_keeps c me links v (starts_part me links v) quiet (part_keeps c me links v.epoch v) (λ ts. ts)
step_keeps c me links v Merges = whole_keeps c me links v (starts_merge me links v) quiet (leaves_keeps c me v.epoch v) (λ ts. ts)
step_keeps c me links v GivesUp = whole_keeps c me links v (leaves me v) quiet (leaves_keeps c me v.epoch v) (λ ts. ts)
