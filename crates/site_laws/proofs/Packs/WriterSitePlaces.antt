-- Each plain grant that an event tells is of an open that is sent on in the same event to the site that it names.
use Rattle.std.proofs.Common.{◌≡◌, ℕ, ◌+◌, true, false, ◌&&◌, not, cond, List, [], ◌∷◌, ◌++◌, Option, Some, None, refl, subst}
use Rattle.locus_ids.specs.Sites.{has}
use Rattle.locus_ids.specs.declared.ids.EpochId.{EpochId}
use Rattle.locus_ids.specs.declared.ids.Mode.{Mode}
use Rattle.locus_ids.specs.declared.ids.Mode.TheVariants as mode
use Rattle.locus_ids.specs.declared.ids.Serial.{Serial}
use Rattle.locus_ids.specs.declared.refusal.Refusal.TheVariants as refusal
use Rattle.locus_ids.specs.declared.sites.Links.{Links}
use Rattle.locus_ids.specs.declared.sites.Members.{Members}
use Rattle.locus_ids.specs.declared.sites.Sites.{Sites}
use Rattle.locus_ids.specs.declared.config.Config.{Config}
use Rattle.trace_book.specs.Same.{same_epoch}
use Rattle.trace_book.specs.declared.record.Record.{Record}
use Rattle.trace_book.specs.declared.record.Record.TheVariants as says
use Rattle.trace_book.specs.declared.reply.Reply.TheVariants as reply
use Rattle.trace_book.specs.declared.call.Call.TheVariants as call
use Rattle.wire_messages.specs.declared.packet.Packet.{Packet}
use Rattle.wire_messages.specs.declared.body.Body.{Body}
use Rattle.wire_messages.specs.declared.body.Body.TheVariants as body
use Rattle.wire_messages.specs.declared.body.OpenedAs.{OpenedAs}
use Rattle.wire_messages.specs.declared.body.OpenedAs.TheVariants as opened
use Rattle.wire_messages.specs.declared.body.MadeVersion.{MadeVersion}
use Rattle.wire_messages.specs.declared.body.ReportedCopy.{ReportedCopy}
use Rattle.role_steps.specs.Own.{Every}
use Rattle.role_steps.specs.Tables.{row, first_that}
use Rattle.role_steps.specs.Views.{Frame, SiteView, Told, Shown, Promises, Outcome, Event, Calls, Receives, Ticks, Parts, Merges, GivesUp, quiet, sends, tells, and_then, joined_to, within, first_written, packet, serial_key, process_key}
use Rattle.role_steps.specs.Opens.{OpenRequest, Decision, Denies, Grants, decision, decides, asked_row, granted_row, granted_at_once, granted_at_last, on_open_of, takes_open, open_row, answers_open, by_stage, on_opened_of, on_opened}
use Rattle.role_steps.specs.Looks.{LookRequest, is_look_before, is_same_look, new_look, after_last, takes_look, look_key}
use Rattle.role_steps.specs.Reports.{waits_early, on_open, on_look, takes_early, takes_all_early, starts, starts_if, have_all_reported, counts_report, with_report, on_report, closes_at, on_closed_of, on_closed, on_have}
use Rattle.role_steps.specs.Notices.{notices}
use Rattle.role_steps.specs.Storage.{copy_of}
use Rattle.role_steps.specs.Using.{on_call, reply_record}
use Rattle.role_steps.specs.Versions.{file_row}
use Rattle.role_steps.specs.Epochs.{with_users, is_epoch_below, frame_in, leaves_of, leaves, promised_view, promises, reached, polls, round_id, begins_round, starts_merge, boots_where, merge_boot, part_boot, starts_part_of, starts_part, promise_packet, refuse_packet, on_poll, on_promise_of, on_refuse_of, joins, may_install, is_in, joined_packet, on_install, on_joined, passed_over, unanswered, decides_if, passes_over_of, passes_over}
use Rattle.role_steps.specs.Adoption.{with_store, table_group, is_ready, adopts_pull, without_pull, adopts_first, fits_own}
use Rattle.role_steps.specs.Mends.{has_mend_in, wants_mend, row_file, starts_mend_of, starts_mend, starts_mends_in}
use Rattle.role_steps.specs.declared.pulls.Pull.{Pull}
use Rattle.role_steps.specs.declared.rounds.InEpoch.{InEpoch}
use Rattle.role_steps.specs.declared.rounds.Round.{Round}
use Rattle.role_steps.specs.declared.synchronizing.SyncTable.{SyncTable}
use Rattle.role_steps.specs.declared.synchronizing.FileRow.{FileRow}
use Rattle.role_steps.specs.declared.synchronizing.OpenRow.{OpenRow}
use Rattle.role_steps.specs.declared.synchronizing.OpenStage.{OpenStage}
use Rattle.role_steps.specs.declared.synchronizing.OpenStage.TheVariants as stage
use Rattle.role_steps.specs.declared.synchronizing.LastLook.{LastLook}
use Rattle.role_steps.specs.declared.synchronizing.Early.{Early}
use Rattle.role_steps.specs.declared.users.WaitingCall.{WaitingCall}
use Rattle.role_steps.proofs.Sending.{every_append, every_map}
use Rattle.the_run.specs.Roles.{IsForTable}
use Rattle.the_run.specs.Steps.{with_pulls, in_order, at_table_of, is_opened_in, takes_inside, is_dropped, takes_framed, takes, adopts_of, adopts_in, tries_at, starts_mends_of, ends_event, whole, repeats, ticks_after, call_frame, epoch_id, takes_call, step}
use Rattle.the_run.proofs.Boots.{every_weaker}
use Rattle.the_run.proofs.Roles.{by_role, stores_by, readers_by, users_by, pulls_by}
use Rattle.run_laws.proofs.Telling.{on_opened_talks, on_open_talks, on_look_talks, on_report_talks, on_closed_talks}
use Rattle.site_laws.specs.Locks.Locks.{IsOfAFile}
use Rattle.site_laws.proofs.Locks.GrantTold.{BareRecord, Bare}
use Rattle.site_laws.proofs.Locks.BareRoles.{BareWrite, stores, versions, users, on_call_bare}
use Rattle.site_laws.proofs.Locks.GrantSites.{none_bare, first_bare}
use Rattle.site_laws.specs.Packs.WriterGranting.{Places, Noted, PlacedRecord, PlacedTold}
use Rattle.site_laws.proofs.Packs.WriterSiteAsks.{every_first, every_last, order_back}

-- ---- what tells no plain grant ----

bare_record : (P : Places) (r : Record) → BareRecord r → PlacedRecord P r
bare_record P (says.Grant e call request inst m file stamp ss) h = λ it. absurd (h it)
bare_record P _ h = tt

bare_told : (P : Places) (x : Told) → Bare x → PlacedTold P x
bare_told P (Shown r) h = bare_record P r h
bare_told P _ h = tt

pub bares : (P : Places) (xs : List Told) → Every Bare xs → Every (PlacedTold P) xs
bares P xs h = every_weaker Bare (PlacedTold P) xs (bare_told P) h

-- ---- the synchronization site ----

abbrev TableTells : Places → Outcome SyncTable → Type 0
TableTells P o = Every (Noted P) o.sent → Every (PlacedTold P) o.told

once_tells : (P : Places) (f : Frame) (r : OpenRow) (m : Mode) → P f.epoch (serial_key r.inst) r.ss → Every (PlacedTold P) (granted_at_once f r m)
once_tells P f r mode.Make p = tt
once_tells P f r _ p = (λ it. p, tt)

last_tells : (P : Places) (f : Frame) (r : OpenRow) (m : Mode) → r.mode ≡ m → Every (PlacedTold P) (granted_at_last f r m)
last_tells P f r mode.Make e = (λ it. absurd (subst IsOfAFile e it), tt)
last_tells P f r _ e = tt

decides_tells : (P : Places) (f : Frame) (t : SyncTable) (us : ℕ) (o : OpenRequest) (d : Decision) → TableTells P (decides f t us o d)
decides_tells P f t us o (Denies why) noted = (tt, tt)
decides_tells P f t us o (Grants ss stamp vector parents set k) noted =
    let r : OpenRow = asked_row us o ss stamp vector parents set k in
    once_tells P f r r.mode noted.0

open_of_tells : (P : Places) (f : Frame) (t : SyncTable) (us : ℕ) (o : OpenRequest) (r : Option OpenRow) → TableTells P (on_open_of f t us o r)
open_of_tells P f t us o None noted = decides_tells P f t us o (decision f t us o o.how) noted
open_of_tells P f t us o (Some r) noted = tt

takes_open_tells : (P : Places) (f : Frame) (us : ℕ) (o : OpenRequest) (t : SyncTable) → TableTells P (takes_open f us o t)
takes_open_tells P f us o t noted = open_of_tells P f t us o (open_row t (record { us = us; serial = o.serial })) noted

on_open_tells : (P : Places) (f : Frame) (us : ℕ) (o : OpenRequest) (t : SyncTable) → TableTells P (on_open f us o t)
on_open_tells P f us o t =
    elim t.started as (λ b. TableTells P (elim b [ true ↦ takes_open f us o t | false ↦ quiet (waits_early us o.process (body.Open o.serial o.call o.process o.request o.file o.how) t) ])) [
      | true ↦ takes_open_tells P f us o t
      | false ↦ λ noted. tt
    ]

answers_tells : (P : Places) (f : Frame) (r : OpenRow) (a : OpenedAs) (t : SyncTable) → TableTells P (answers_open f r a t)
answers_tells P f r (opened.Open ino size) t noted = last_tells P f (granted_row r ino size) (granted_row r ino size).mode refl
answers_tells P f r (opened.No why) t noted = (tt, tt)

stage_tells : (P : Places) (f : Frame) (r : OpenRow) (a : OpenedAs) (s : OpenStage) (t : SyncTable) → TableTells P (by_stage f r a s t)
stage_tells P f r a stage.Asked t noted = answers_tells P f r a t noted
stage_tells P f r a stage.Granted t noted = tt
stage_tells P f r a (stage.Refused why) t noted = tt
stage_tells P f r a stage.Ended t noted = tt

opened_of_tells : (P : Places) (f : Frame) (a : OpenedAs) (o : Option OpenRow) (t : SyncTable) → TableTells P (on_opened_of f a o t)
opened_of_tells P f a None t noted = tt
opened_of_tells P f a (Some r) t noted = stage_tells P f r a r.stage t noted

on_opened_tells : (P : Places) (f : Frame) (inst : Serial) (a : OpenedAs) (t : SyncTable) → TableTells P (on_opened f inst a t)
on_opened_tells P f inst a t noted = opened_of_tells P f a (open_row t inst) t noted

last_look_tells : (P : Places) (f : Frame) (us : ℕ) (l : LookRequest) (o : Option LastLook) (t : SyncTable) → TableTells P (after_last f us l o t)
last_look_tells P f us l None t = λ noted. (tt, tt)
last_look_tells P f us l (Some last) t =
    elim (is_look_before l last) as (λ b. TableTells P (elim b [ true ↦ quiet t | false ↦ elim (is_same_look l last) [ true ↦ sends (packet f last.to last.body ∷ []) t | false ↦ new_look f us l (file_row t l.file.ino) t ] ])) [
      | true ↦ λ noted. tt
      | false ↦ elim (is_same_look l last) as (λ b. TableTells P (elim b [ true ↦ sends (packet f last.to last.body ∷ []) t | false ↦ new_look f us l (file_row t l.file.ino) t ])) [
        | true ↦ λ noted. tt
        | false ↦ λ noted. (tt, tt)
      ]
    ]

takes_look_tells : (P : Places) (f : Frame) (us : ℕ) (l : LookRequest) (t : SyncTable) → TableTells P (takes_look f us l t)
takes_look_tells P f us l t noted = last_look_tells P f us l (row look_key (process_key us l.process) t.looks) t noted

on_look_tells : (P : Places) (f : Frame) (us : ℕ) (l : LookRequest) (t : SyncTable) → TableTells P (on_look f us l t)
on_look_tells P f us l t =
    elim t.started as (λ b. TableTells P (elim b [ true ↦ takes_look f us l t | false ↦ quiet (waits_early us l.process (body.Look l.call l.process l.request l.take l.file l.what) t) ])) [
      | true ↦ takes_look_tells P f us l t
      | false ↦ λ noted. tt
    ]

early_tells : (P : Places) (f : Frame) (us : ℕ) (b : Body) (t : SyncTable) → TableTells P (takes_early f us b t)
early_tells P f us (body.Open serial call process request file how) t noted = takes_open_tells P f us (record { serial = serial; call = call; process = process; request = request; file = file; how = how }) t noted
early_tells P f us (body.Look call process request take file what) t noted = takes_look_tells P f us (record { call = call; process = process; request = request; take = take; file = file; what = what }) t noted
early_tells P f us _ t noted = tt

all_early_tells : (P : Places) (f : Frame) (es : List Early) (t : SyncTable) → TableTells P (takes_all_early f es t)
all_early_tells P f [] t noted = tt
all_early_tells P f (e ∷ es) t noted =
    let o : Outcome SyncTable = takes_early f e.site e.body t in
    let p : Outcome SyncTable = takes_all_early f es o.view in
    every_append (PlacedTold P) o.told p.told (early_tells P f e.site e.body t (every_first (Noted P) o.sent p.sent noted)) (all_early_tells P f es o.view (every_last (Noted P) o.sent p.sent noted))

starts_tells : (P : Places) (f : Frame) (t : SyncTable) → TableTells P (starts f t)
starts_tells P f t noted = (tt, all_early_tells P f t.early (record t { started = true; early = [] }) (every_last (Noted P) (notices f t) (takes_all_early f t.early (record t { started = true; early = [] })).sent noted))

starts_if_tells : (P : Places) (f : Frame) (t : SyncTable) → TableTells P (starts_if f t)
starts_if_tells P f t = elim (have_all_reported f t) as (λ b. TableTells P (elim b [ true ↦ starts f t | false ↦ quiet t ])) [ true ↦ starts_tells P f t | false ↦ λ noted. tt ]

counts_tells : (P : Places) (f : Frame) (from : ℕ) (xs : List ReportedCopy) (t : SyncTable) → TableTells P (counts_report f from xs t)
counts_tells P f from xs t = elim (has t.reported from) as (λ b. TableTells P (elim b [ true ↦ quiet t | false ↦ starts_if f (with_report from xs t) ])) [ true ↦ λ noted. tt | false ↦ starts_if_tells P f (with_report from xs t) ]

on_report_tells : (P : Places) (f : Frame) (from : ℕ) (xs : List ReportedCopy) (t : SyncTable) → TableTells P (on_report f from xs t)
on_report_tells P f from xs t noted = counts_tells P f from xs t noted.1

closes_tells : (P : Places) (f : Frame) (ss : ℕ) (r : OpenRow) (made : Option MadeVersion) (s : OpenStage) (t : SyncTable) → TableTells P (closes_at f ss r made s t)
closes_tells P f ss r made stage.Granted t noted = (tt, tt)
closes_tells P f ss r made stage.Ended t noted = tt
closes_tells P f ss r made stage.Asked t noted = tt
closes_tells P f ss r made (stage.Refused why) t noted = tt

closed_of_tells : (P : Places) (f : Frame) (ss : ℕ) (made : Option MadeVersion) (o : Option OpenRow) (t : SyncTable) → TableTells P (on_closed_of f ss made o t)
closed_of_tells P f ss made None t noted = tt
closed_of_tells P f ss made (Some r) t noted = closes_tells P f ss r made r.stage t noted

on_closed_tells : (P : Places) (f : Frame) (ss : ℕ) (inst : Serial) (made : Option MadeVersion) (t : SyncTable) → TableTells P (on_closed f ss inst made t)
on_closed_tells P f ss inst made t noted = closed_of_tells P f ss made (open_row t inst) t noted

-- ---- outcomes of a site ----

pub record Tells (P : Places) (o : Outcome SiteView) : Type 0 where
  pub told : Every (PlacedTold P) o.told
  pub written : BareWrite o.written

abbrev SiteTells : Places → Outcome SiteView → Type 0
SiteTells P o = Every (Noted P) o.sent → Tells P o

bare_tells : (P : Places) (o : Outcome SiteView) → Every Bare o.told → BareWrite o.written → SiteTells P o
bare_tells P o told written noted = record { told = bares P o.told told; written = written }

none_tells : (P : Places) (o : Outcome SiteView) → Every Bare o.told → o.written ≡ None → SiteTells P o
none_tells P o told none noted = record { told = bares P o.told told; written = none_bare o.written none }

tells_then : (P : Places) (o p : Outcome SiteView) → SiteTells P o → SiteTells P p → SiteTells P (joined_to o p)
tells_then P o p h g noted =
    let k : Tells P o = h (every_first (Noted P) o.sent p.sent noted) in
    let l : Tells P p = g (every_last (Noted P) o.sent p.sent noted) in
    record { told = every_append (PlacedTold P) o.told p.told k.told l.told; written = first_bare o.written p.written k.written l.written }

quiet_tells : (P : Places) (v : SiteView) → SiteTells P (quiet v)
quiet_tells P v noted = record { told = tt; written = tt }

-- ---- adoptions and mends ----

first_tells : (P : Places) (f : Frame) (ps : List Pull) (v : SiteView) → SiteTells P (adopts_first f ps v)
first_tells P f [] v = quiet_tells P v
first_tells P f (p ∷ ps) v =
    elim (is_ready v p) as (λ t. SiteTells P (elim t [ true ↦ elim (fits_own p (copy_of v.store p.file)) [ true ↦ adopts_pull f p v | false ↦ adopts_first f ps (without_pull p v) ] | false ↦ adopts_first f ps v ])) [
      | true ↦ elim (fits_own p (copy_of v.store p.file)) as (λ t. SiteTells P (elim t [ true ↦ adopts_pull f p v | false ↦ adopts_first f ps (without_pull p v) ])) [
        | true ↦ λ noted. record { told = (tt, tt); written = tt }
        | false ↦ first_tells P f ps (without_pull p v)
      ]
      | false ↦ first_tells P f ps v
    ]

adopts_tells : (P : Places) (c : Config) (me : ℕ) (e : Option InEpoch) (v : SiteView) → SiteTells P (adopts_of c me e v)
adopts_tells P c me None v = quiet_tells P v
adopts_tells P c me (Some e) v = first_tells P (frame_in c me v.boot e) v.pulls v

tries_tells : (P : Places) (c : Config) (me : ℕ) (x : Body) (v : SiteView) → SiteTells P (tries_at c me x v)
tries_tells P c me (body.Notify file kind set size stamp vector holder) v = adopts_tells P c me v.epoch v
tries_tells P c me (body.Page file stamp page bytes) v = adopts_tells P c me v.epoch v
tries_tells P c me (body.Delta file wanted pages) v = adopts_tells P c me v.epoch v
tries_tells P c me _ v = quiet_tells P v

mend_tells : (P : Places) (f : Frame) (t : SyncTable) (o : Option FileRow) (v : SiteView) → SiteTells P (starts_mend_of f t o v)
mend_tells P f t None v = quiet_tells P v
mend_tells P f t (Some r) v =
    let k : Every Bare (on_call f (Some f.epoch) 0 (call.Mend (row_file t r)) v.users).told × ((on_call f (Some f.epoch) 0 (call.Mend (row_file t r)) v.users).written ≡ None) = on_call_bare f (Some f.epoch) 0 (call.Mend (row_file t r)) v.users in
    none_tells P (starts_mend_of f t (Some r) v) k.0 k.1

starts_mend_tells : (P : Places) (f : Frame) (t : SyncTable) (v : SiteView) → SiteTells P (starts_mend f t v)
starts_mend_tells P f t v =
    elim (t.started && not (has_mend_in v.users t.group)) as (λ x. SiteTells P (elim x [ true ↦ starts_mend_of f t (first_that (wants_mend v t) t.files) v | false ↦ quiet v ])) [
      | true ↦ mend_tells P f t (first_that (wants_mend v t) t.files) v
      | false ↦ quiet_tells P v
    ]

mends_tells : (P : Places) (f : Frame) (ts : List SyncTable) (v : SiteView) → SiteTells P (starts_mends_in f ts v)
mends_tells P f [] v = quiet_tells P v
mends_tells P f (t ∷ ts) v = tells_then P (starts_mend f t v) (starts_mends_in f ts (starts_mend f t v).view) (starts_mend_tells P f t v) (mends_tells P f ts (starts_mend f t v).view)

mends_of_tells : (P : Places) (c : Config) (me : ℕ) (e : Option InEpoch) (v : SiteView) → SiteTells P (starts_mends_of c me e v)
mends_of_tells P c me None v = quiet_tells P v
mends_of_tells P c me (Some e) v = mends_tells P (frame_in c me v.boot e) v.tables v

-- ---- how an epoch is formed ----

leaves_tells : (P : Places) (me : ℕ) (e : Option InEpoch) (v : SiteView) → SiteTells P (leaves_of me e v)
leaves_tells P me None v = quiet_tells P v
leaves_tells P me (Some e) v = bare_tells P (leaves_of me (Some e) v) (tt, every_map Bare (λ (w : WaitingCall). reply_record me v.boot w (reply.No (refusal.Changed e.id))) v.users.waiting (λ w. tt)) tt

promises_tells : (P : Places) (me : ℕ) (id : EpochId) (reach : Sites) (v : SiteView) → SiteTells P (promises me id reach v)
promises_tells P me id reach v = tells_then P (leaves me v) (tells (Promises me id reach ∷ []) (promised_view id (leaves me v).view)) (leaves_tells P me v.epoch v) (bare_tells P _ (tt, tt) tt)

begins_tells : (P : Places) (me : ℕ) (links : Links) (number : ℕ) (polled : Links) (v : SiteView) → SiteTells P (begins_round me links number polled v)
begins_tells P me links number polled v =
    let o : Outcome SiteView = promises me (round_id me number v) (reached links) v in
    tells_then P o (polls me (round_id me number v) polled o.view) (promises_tells P me (round_id me number v) (reached links) v) (bare_tells P _ tt tt)

part_tells : (P : Places) (me : ℕ) (links : Links) (e : Option InEpoch) (v : SiteView) → SiteTells P (starts_part_of me links e v)
part_tells P me links None v = quiet_tells P v
part_tells P me links (Some e) v = begins_tells P me links (v.promised.number + 1) (boots_where (part_boot me links e.members)) v

on_poll_tells : (P : Places) (me : ℕ) (links : Links) (from from_boot : ℕ) (id : EpochId) (v : SiteView) → SiteTells P (on_poll me links from from_boot id v)
on_poll_tells P me links from from_boot id v =
    elim (is_epoch_below v.promised id) as (λ t. SiteTells P (elim t [ true ↦ and_then (promises me id (reached links) v) (λ now. sends (promise_packet me links from from_boot id now) now) | false ↦ sends (cond (same_epoch id v.promised && not v.installed) (promise_packet me links from from_boot id v) (refuse_packet me from from_boot id v)) v ])) [
      | true ↦ tells_then P (promises me id (reached links) v) (sends (promise_packet me links from from_boot id (promises me id (reached links) v).view) (promises me id (reached links) v).view) (promises_tells P me id (reached links) v) (bare_tells P _ tt tt)
      | false ↦ bare_tells P _ tt tt
    ]

on_promise_tells : (P : Places) (from from_boot : ℕ) (id : EpochId) (reach : Sites) (o : Option Round) (v : SiteView) → SiteTells P (on_promise_of from from_boot id reach o v)
on_promise_tells P from from_boot id reach None v = quiet_tells P v
on_promise_tells P from from_boot id reach (Some r) v = bare_tells P _ tt tt

on_refuse_tells : (P : Places) (me : ℕ) (links : Links) (id theirs : EpochId) (o : Option Round) (v : SiteView) → SiteTells P (on_refuse_of me links id theirs o v)
on_refuse_tells P me links id theirs None v = quiet_tells P v
on_refuse_tells P me links id theirs (Some r) v = elim (same_epoch r.id id) as (λ t. SiteTells P (elim t [ true ↦ begins_round me links (theirs.number + 1) r.polled v | false ↦ quiet v ])) [ true ↦ begins_tells P me links (theirs.number + 1) r.polled v | false ↦ quiet_tells P v ]

on_install_tells : (P : Places) (c : Config) (me from from_boot : ℕ) (id : EpochId) (m : Members) (v : SiteView) → SiteTells P (on_install c me from from_boot id m v)
on_install_tells P c me from from_boot id m v =
    elim (may_install me id m v) as (λ t. SiteTells P (elim t [ true ↦ and_then (joins c me id m v) (λ now. sends (joined_packet me from from_boot id now) now) | false ↦ sends (cond (is_in id v.epoch) (joined_packet me from from_boot id v) []) v ])) [
      | true ↦ bare_tells P _ (tt, tt) tt
      | false ↦ bare_tells P _ tt tt
    ]

on_joined_tells : (P : Places) (from : ℕ) (id : EpochId) (v : SiteView) → SiteTells P (on_joined from id v)
on_joined_tells P from id v = bare_tells P _ tt tt

decides_if_tells : (P : Places) (c : Config) (me : ℕ) (links : Links) (q : Round) (xs : List ℕ) (v : SiteView) → SiteTells P (decides_if c me links q xs v)
decides_if_tells P c me links q [] v = bare_tells P _ (tt, tt) tt
decides_if_tells P c me links q (x ∷ xs) v = bare_tells P _ tt tt

passes_tells : (P : Places) (c : Config) (me : ℕ) (links : Links) (o : Option Round) (v : SiteView) → SiteTells P (passes_over_of c me links o v)
passes_tells P c me links None v = quiet_tells P v
passes_tells P c me links (Some r) v = decides_if_tells P c me links (passed_over links r) (unanswered (passed_over links r)) v

ends_tells : (P : Places) (c : Config) (me : ℕ) (links : Links) (v : SiteView) → SiteTells P (ends_event c me links v)
ends_tells P c me links v =
    let o : Outcome SiteView = passes_over c me links v in
    tells_then P o (starts_mends_of c me o.view.epoch o.view) (passes_tells P c me links v.round v) (mends_of_tells P c me o.view.epoch o.view)

-- ---- packets inside the epoch ----

table_tells : (P : Places) (g : SyncTable → Outcome SyncTable) (o : Option SyncTable) (v : SiteView) → ((t : SyncTable) → TableTells P (g t)) → ((t : SyncTable) → (g t).written ≡ None) → SiteTells P (at_table_of g o v)
table_tells P g None v h none noted = record { told = tt; written = tt }
table_tells P g (Some t) v h none noted = record { told = h t noted; written = none_bare (g t).written (none t) }

tables_tell : (P : Places) (f : Frame) (from : ℕ) (v : SiteView) → (x : Body) → IsForTable x → SiteTells P (takes_inside f from x v)
tables_tell P f from v (body.Report group copies) is = table_tells P (on_report f from copies) (row table_group group v.tables) v (on_report_tells P f from copies) (λ t. (on_report_talks f from copies t).1)
tables_tell P f from v (body.Open serial call process request file how) is = table_tells P _ (row table_group file.group v.tables) v (on_open_tells P f from (record { serial = serial; call = call; process = process; request = request; file = file; how = how })) (λ t. (on_open_talks f from (record { serial = serial; call = call; process = process; request = request; file = file; how = how }) t).1)
tables_tell P f from v (body.Opened inst answer) is = table_tells P (on_opened f inst answer) (first_that (is_opened_in inst) v.tables) v (on_opened_tells P f inst answer) (λ t. (on_opened_talks f inst answer t).1)
tables_tell P f from v (body.Closed inst made) is = table_tells P (on_closed f from inst made) (first_that (is_opened_in inst) v.tables) v (on_closed_tells P f from inst made) (λ t. (on_closed_talks f from inst made t).1)
tables_tell P f from v (body.Look call process request take file what) is = table_tells P _ (row table_group file.group v.tables) v (on_look_tells P f from (record { call = call; process = process; request = request; take = take; file = file; what = what })) (λ t. (on_look_talks f from (record { call = call; process = process; request = request; take = take; file = file; what = what }) t).1)
tables_tell P f from v (body.Have file stamp) is = table_tells P (on_have from file stamp) (row table_group file.group v.tables) v (λ t noted. tt) (λ t. refl)
tables_tell P f from v _ is = absurd is

inside_tells : (P : Places) (f : Frame) (from : ℕ) (x : Body) (v : SiteView) → SiteTells P (takes_inside f from x v)
inside_tells P f from x v = by_role Q f from v (record {
  tables = tables_tell P f from v;
  stores = stores_by Q _ f from v (stores f) versions (λ y o is part. bare_tells P (within (with_store v) o) part.1 part.2);
  readers = readers_by Q _ f from v (stores f).reads (λ b is. tt) (λ y o is same part. bare_tells P (within (with_store v) o) part.1 part.2);
  users = users_by Q _ f from v (users f) (λ y o is part. none_tells P (within (with_users v) o) part.1 part.2);
  pulls = pulls_by Q _ f from v (stores f).reads (λ b is. tt) (λ y o is part. bare_tells P (within (with_pulls v) o) part.1 part.2);
  reported = λ group. bare_tells P (takes_inside f from (body.ReportOk group) v) tt tt;
  forming = λ y is. quiet_tells P v;
}) x
  where
    Q : Body → Outcome SiteView → Type 0
    Q y o = SiteTells P o

framed_tells : (P : Places) (c : Config) (me : ℕ) (p : Packet) (e : Option InEpoch) (v : SiteView) → SiteTells P (takes_framed c me p e v)
framed_tells P c me p None v = quiet_tells P v
framed_tells P c me p (Some e) v = inside_tells P (frame_in c me v.boot e) p.from p.body v

takes_tells : (P : Places) (c : Config) (me : ℕ) (links : Links) (p : Packet) (x : Body) (v : SiteView) → SiteTells P (takes c me links p x v)
takes_tells P c me links p body.Poll v = on_poll_tells P me links p.from p.from_boot p.epoch v
takes_tells P c me links p (body.Promise reach) v = on_promise_tells P p.from p.from_boot p.epoch reach v.round v
takes_tells P c me links p (body.Refuse promised) v = on_refuse_tells P me links p.epoch promised v.round v
takes_tells P c me links p (body.Install members) v = on_install_tells P c me p.from p.from_boot p.epoch members v
takes_tells P c me links p body.Joined v = on_joined_tells P p.from p.epoch v
takes_tells P c me links p _ v = framed_tells P c me p v.epoch v

-- ---- the step ----

whole_tells : (P : Places) (c : Config) (me : ℕ) (links : Links) (o : Outcome SiteView) (tries : SiteView → Outcome SiteView) → SiteTells P o → SiteTells P (tries o.view) → SiteTells P (whole c me links o tries)
whole_tells P c me links o tries h t noted =
    let a : Outcome SiteView = tries o.view in
    let last : Outcome SiteView = ends_event c me links a.view in
    let both : Every (Noted P) (o.sent ++ last.sent) = order_back (Noted P) (o.sent ++ last.sent) (every_last (Noted P) a.sent (in_order (o.sent ++ last.sent)) noted) in
    let j : Tells P a = t (every_first (Noted P) a.sent (in_order (o.sent ++ last.sent)) noted) in
    let k : Tells P o = h (every_first (Noted P) o.sent last.sent both) in
    let l : Tells P last = ends_tells P c me links a.view (every_last (Noted P) o.sent last.sent both) in
    record {
      told = every_append (PlacedTold P) a.told (o.told ++ last.told) j.told (every_append (PlacedTold P) o.told last.told k.told l.told);
      written = first_bare a.written (first_written o.written last.written) j.written (first_bare o.written last.written k.written l.written);
    }

ticks_tells : (P : Places) (c : Config) (me : ℕ) (links : Links) (v : SiteView) → SiteTells P (ticks_after c me links (adopts_in c me v))
ticks_tells P c me links v noted =
    let a : Outcome SiteView = adopts_in c me v in
    let again : List Packet = repeats c me a.view in
    let last : Outcome SiteView = ends_event c me links a.view in
    let j : Tells P a = adopts_tells P c me v.epoch v (every_first (Noted P) a.sent (again ++ in_order last.sent) noted) in
    let l : Tells P last = ends_tells P c me links a.view (order_back (Noted P) last.sent (every_last (Noted P) again (in_order last.sent) (every_last (Noted P) a.sent (again ++ in_order last.sent) noted))) in
    record { told = every_append (PlacedTold P) a.told last.told j.told l.told; written = first_bare a.written last.written j.written l.written }

-- each event of a site
pub step_tells : (P : Places) (c : Config) (me : ℕ) (links : Links) (v : SiteView) (e : Event) → Every (Noted P) (step c me links v e).sent → Tells P (step c me links v e)
step_tells P c me links v (Calls process words) = whole_tells P c me links (takes_call c me process words v) quiet (none_tells P (takes_call c me process words v) (on_call_bare (call_frame c me v.boot v.epoch) (epoch_id v.epoch) process words v.users).0 (on_call_bare (call_frame c me v.boot v.epoch) (epoch_id v.epoch) process words v.users).1) (quiet_tells P (takes_call c me process words v).view)
step_tells P c me links v (Receives p) =
    elim (is_dropped p v) as (λ t. SiteTells P (elim t [ true ↦ quiet v | false ↦ whole c me links (takes c me links p p.body v) (tries_at c me p.body) ])) [
      | true ↦ quiet_tells P v
      | false ↦ whole_tells P c me links (takes c me links p p.body v) (tries_at c me p.body) (takes_tells P c me links p p.body v) (tries_tells P c me p.body (takes c me links p p.body v).view)
    ]
step_tells P c me links v Ticks = ticks_tells P c me links v
step_tells P c me links v Parts = whole_tells P c me links (starts_part me links v) quiet (part_tells P me links v.epoch v) (quiet_tells P (starts_part me links v).view)
step_tells P c me links v Merges = whole_tells P c me links (starts_merge me links v) quiet (begins_tells P me links (v.promised.number + 1) (boots_where (merge_boot me links)) v) (quiet_tells P (starts_merge me links v).view)
step_tells P c me links v GivesUp = whole_tells P c me links (leaves me v) quiet (leaves_tells P me v.epoch v) (quiet_tells P (leaves me v).view)
