-- The inode numbers that a synchronization site knows have 16 bits: those of reported copies, and of what was begun.
use Rattle.std.proofs.Common.{◌≡◌, ℕ, Bool, true, false, cond, List, [], ◌∷◌, ◌++◌, Option, Some, None, refl, subst}
use Rattle.std.specs.List.{list_any, flat_map}
use Rattle.locus_ids.specs.Sites.{has}
use Rattle.locus_ids.specs.declared.ids.FileId.{FileId}
use Rattle.locus_ids.specs.declared.ids.Kind.{Kind}
use Rattle.locus_ids.specs.declared.ids.Mode.{Mode}
use Rattle.locus_ids.specs.declared.ids.Mode.TheVariants as mode
use Rattle.locus_ids.specs.declared.ids.Serial.{Serial}
use Rattle.locus_ids.specs.declared.ids.Stamp.{Stamp}
use Rattle.locus_ids.specs.declared.sites.Sites.{Sites}
use Rattle.locus_ids.specs.declared.refusal.Refusal.{Refusal}
use Rattle.trace_book.specs.declared.operation.What.{What}
use Rattle.trace_book.specs.declared.operation.What.TheVariants as what
use Rattle.trace_book.specs.declared.record.Record.TheVariants as says
use Rattle.wire_messages.specs.declared.body.Body.{Body}
use Rattle.wire_messages.specs.declared.body.Body.TheVariants as body
use Rattle.wire_messages.specs.declared.body.Opening.{Opening}
use Rattle.wire_messages.specs.declared.body.Opening.TheVariants as how
use Rattle.wire_messages.specs.declared.body.OpenedAs.{OpenedAs}
use Rattle.wire_messages.specs.declared.body.OpenedAs.TheVariants as opened
use Rattle.wire_messages.specs.declared.body.MadeVersion.{MadeVersion}
use Rattle.wire_messages.specs.declared.body.ReportedCopy.{ReportedCopy}
use Rattle.role_steps.specs.Own.{Every}
use Rattle.role_steps.specs.Tables.{row}
use Rattle.role_steps.specs.Views.{Frame, Shown, Outcome, quiet, sends, and_then, packet, process_key, serial_key}
use Rattle.role_steps.specs.Versions.{row_ino, file_row, with_file, with_version, unknown_file, known_or, with_holder, holders_of, holding_of, version_of, rises_to, noted_at, noted_of, noted, chosen_site}
use Rattle.role_steps.specs.Notices.{lagging, notice, notices_of, notices_by, file_notices, notices, row_notices}
use Rattle.role_steps.specs.Opens.{OpenRequest, Decision, Denies, Grants, mode_of, decision, file_decision, unless_refused, grant_on, decides, denied_row, asked_row, granted_row, numbered_file, repeats_open, on_open_of, takes_open, open_row, open_key, with_open, answers_open, by_stage, on_opened_of, on_opened}
use Rattle.role_steps.specs.Versions.{kept}
use Rattle.role_steps.specs.Looks.{LookRequest, Service, Denies as Unserved, Serves, service, letter, serving_letter, last_look, is_look_before, is_same_look, new_look, after_last, takes_look, look_key}
use Rattle.role_steps.specs.Reports.{brought_files, waits_early, is_early_of, on_open, on_look, takes_early, takes_all_early, starts, starts_if, have_all_reported, counts_report, version_reported, with_reported, with_all_reported, with_report, on_report, published_row, published, published_notices, closed_ok, releases, closes_at, on_closed_of, on_closed, on_have_of, on_have, sync_repeats}
use Rattle.role_steps.specs.declared.synchronizing.SyncTable.{SyncTable}
use Rattle.role_steps.specs.declared.synchronizing.FileRow.{FileRow}
use Rattle.role_steps.specs.declared.synchronizing.VersionRow.{VersionRow}
use Rattle.role_steps.specs.declared.synchronizing.Holding.{Holding}
use Rattle.role_steps.specs.declared.synchronizing.OpenRow.{OpenRow}
use Rattle.role_steps.specs.declared.synchronizing.OpenStage.{OpenStage}
use Rattle.role_steps.specs.declared.synchronizing.OpenStage.TheVariants as stage
use Rattle.role_steps.specs.declared.synchronizing.LastLook.{LastLook}
use Rattle.role_steps.specs.declared.synchronizing.Early.{Early}
use Rattle.role_steps.proofs.Sending.{every_append, every_cond, every_map}
use Rattle.the_run.proofs.InsideSync.{every_row, Found, row_found}
use Rattle.site_laws.proofs.Vectors.SyncFacts.{FoundAt, row_at, every_latest, every_flat}
use Rattle.site_laws.specs.Packs.InodeFits.{Fits, ReportedFits, AskedFits, AnswerFits, BodyFits, PacketFits, RowFits, StageFits, OpenFits, LookFits, TableFits, OutFits}

abbrev pub TableOut : Outcome SyncTable → Type 0
TableOut o = OutFits TableFits o

table_then : (o : Outcome SyncTable) (g : SyncTable → Outcome SyncTable) → TableOut o → TableOut (g o.view) → TableOut (and_then o g)
table_then o g h k = record { view = k.view; sent = every_append PacketFits o.sent (g o.view).sent h.sent k.sent }

quiet_fits : (t : SyncTable) → TableFits t → TableOut (quiet t)
quiet_fits t h = record { view = h; sent = tt }

table_open : (t : SyncTable) (r : OpenRow) → OpenFits r → TableFits t → TableFits (with_open r t)
table_open t r k h = record { files = h.files; opens = every_latest OpenFits open_key r t.opens k h.opens; looks = h.looks }

table_file : (t : SyncTable) (r : FileRow) → RowFits r → TableFits t → TableFits (with_file r t)
table_file t r k h = record { files = every_row RowFits row_ino r t.files k h.files; opens = h.opens; looks = h.looks }

-- ---- rows of files ----

known_fits : (ino : ℕ) (k : Kind) (set : Sites) (o : Option FileRow) → Fits ino → Found RowFits o → RowFits (known_or (unknown_file ino k set) o)
known_fits ino k set None h g = h
known_fits ino k set (Some r) h g = g

cond_fits : (b : Bool) (r q : FileRow) → RowFits r → RowFits q → RowFits (cond b r q)
cond_fits true r q h g = h
cond_fits false r q h g = g

noted_at_fits : (r : FileRow) (site : ℕ) (v : VersionRow) (o : Option Holding) → RowFits r → RowFits (noted_at r site v o)
noted_at_fits r site v None h = h
noted_at_fits r site v (Some x) h = cond_fits (rises_to v (version_of r x.stamp)) (with_holder site v.stamp r) r h h

noted_of_fits : (r : FileRow) (site : ℕ) (o : Option VersionRow) → RowFits r → RowFits (noted_of r site o)
noted_of_fits r site None h = h
noted_of_fits r site (Some v) h = noted_at_fits r site v (holding_of r site) h

noted_fits : (site : ℕ) (stamp : Stamp) (r : FileRow) → RowFits r → RowFits (noted site stamp r)
noted_fits site stamp r h = noted_of_fits r site (version_of r stamp) h

row_there : (t : SyncTable) (ino : ℕ) → TableFits t → Found RowFits (file_row t ino)
row_there t ino h = row_found RowFits row_ino ino t.files h.files

-- ---- notices ----

notices_of_fits : (f : Frame) (group : ℕ) (r : FileRow) (v : VersionRow) (o : Option ℕ) → RowFits r → Every PacketFits (notices_of f group r v o)
notices_of_fits f group r v None h = tt
notices_of_fits f group r v (Some holder) h = every_map PacketFits (notice f group r v holder) (lagging f r (holders_of r v.stamp)) (λ s. h)

notices_by_fits : (f : Frame) (group : ℕ) (r : FileRow) (vs : List VersionRow) → RowFits r → Every PacketFits (notices_by f group r vs)
notices_by_fits f group r [] h = tt
notices_by_fits f group r (v ∷ []) h = notices_of_fits f group r v (chosen_site f.me f.me (holders_of r v.stamp)) h
notices_by_fits f group r (v ∷ w ∷ others) h = tt

notices_fits : (f : Frame) (t : SyncTable) → TableFits t → Every PacketFits (notices f t)
notices_fits f t h = every_flat RowFits PacketFits (file_notices f t.group) t.files (λ r k. notices_by_fits f t.group r r.kept k) h.files

row_notices_fits : (f : Frame) (group : ℕ) (o : Option FileRow) → Found RowFits o → Every PacketFits (row_notices f group o)
row_notices_fits f group None h = tt
row_notices_fits f group (Some r) h = notices_by_fits f group r r.kept h

pub sync_repeats_fits : (f : Frame) (t : SyncTable) → TableFits t → Every PacketFits (sync_repeats f t)
sync_repeats_fits f t h = every_cond PacketFits t.started (notices f t) [] (notices_fits f t h) tt

-- ---- the decision ----

-- a file that is granted is known, but for a make
abbrev DecisionFits : FileId → Mode → Decision → Type 0
DecisionFits file m (Denies why) = Unit {0}
DecisionFits file m (Grants ss stamp vector parents set k) = AskedFits m file

asked_fits : (m : Mode) (file : FileId) → Fits file.ino → AskedFits m file
asked_fits mode.Make file h = tt
asked_fits mode.Read file h = h
asked_fits mode.Write file h = h
asked_fits mode.Resolve file h = h
asked_fits mode.Mend file h = h

any_fits : (file : FileId) (m : Mode) (d : Decision) → AskedFits m file → DecisionFits file m d
any_fits file m (Denies why) h = tt
any_fits file m (Grants ss stamp vector parents set k) h = h

unless_fits : (f : Frame) (us : ℕ) (o : OpenRequest) (known : Option FileRow) (why : Option Refusal) → FoundAt RowFits row_ino o.file.ino known → DecisionFits o.file (mode_of o.how) (unless_refused f us o known why)
unless_fits f us o known (Some why) h = tt
unless_fits f us o None None h = tt
unless_fits f us o (Some r) None h = any_fits o.file (mode_of o.how) (grant_on f us r (kept (Some r)) o.how) (asked_fits (mode_of o.how) o.file (subst Fits h.0 h.1))

file_decision_fits : (f : Frame) (t : SyncTable) (us : ℕ) (o : OpenRequest) → TableFits t → DecisionFits o.file (mode_of o.how) (file_decision f t us o)
file_decision_fits f t us o h = unless_fits f us o (file_row t o.file.ino) _ (row_at RowFits row_ino o.file.ino t.files h.files)

decision_fits : (f : Frame) (t : SyncTable) (us : ℕ) (o : OpenRequest) (x : Opening) → o.how ≡ x → TableFits t → DecisionFits o.file (mode_of x) (decision f t us o x)
decision_fits f t us o (how.Make set k) q h = any_fits o.file mode.Make (decision f t us o (how.Make set k)) tt
decision_fits f t us o how.Read q h = subst (λ (y : Opening). DecisionFits o.file (mode_of y) (file_decision f t us o)) q (file_decision_fits f t us o h)
decision_fits f t us o how.Write q h = subst (λ (y : Opening). DecisionFits o.file (mode_of y) (file_decision f t us o)) q (file_decision_fits f t us o h)
decision_fits f t us o (how.Resolve site) q h = subst (λ (y : Opening). DecisionFits o.file (mode_of y) (file_decision f t us o)) q (file_decision_fits f t us o h)
decision_fits f t us o how.Mend q h = subst (λ (y : Opening). DecisionFits o.file (mode_of y) (file_decision f t us o)) q (file_decision_fits f t us o h)

-- ---- opens ----

decides_fits : (f : Frame) (t : SyncTable) (us : ℕ) (o : OpenRequest) (d : Decision) → DecisionFits o.file (mode_of o.how) d → TableFits t → TableOut (decides f t us o d)
decides_fits f t us o (Denies why) k h = record { view = table_open t (denied_row us o why) tt h; sent = (tt, tt) }
decides_fits f t us o (Grants ss stamp vector parents set kind) k h = record { view = table_open t (asked_row us o ss stamp vector parents set kind) k h; sent = (k, tt) }

repeats_open_fits : (f : Frame) (r : OpenRow) (s : OpenStage) → StageFits r s → Every PacketFits (repeats_open f r s)
repeats_open_fits f r stage.Asked h = (h, tt)
repeats_open_fits f r stage.Granted h = (tt, tt)
repeats_open_fits f r (stage.Refused why) h = (tt, tt)
repeats_open_fits f r stage.Ended h = tt

open_of_fits : (f : Frame) (t : SyncTable) (us : ℕ) (o : OpenRequest) (r : Option OpenRow) → Found OpenFits r → TableFits t → TableOut (on_open_of f t us o r)
open_of_fits f t us o None k h = decides_fits f t us o (decision f t us o o.how) (decision_fits f t us o o.how refl h) h
open_of_fits f t us o (Some r) k h = record { view = h; sent = repeats_open_fits f r r.stage k }

takes_open_fits : (f : Frame) (us : ℕ) (o : OpenRequest) (t : SyncTable) → TableFits t → TableOut (takes_open f us o t)
takes_open_fits f us o t h = open_of_fits f t us o (open_row t (record { us = us; serial = o.serial })) (row_found OpenFits open_key _ t.opens h.opens) h

numbered_fits : (m : Mode) (file : FileId) (ino : ℕ) → AskedFits m file → Fits ino → Fits (numbered_file m file ino).ino
numbered_fits mode.Make file ino h k = k
numbered_fits mode.Read file ino h k = h
numbered_fits mode.Write file ino h k = h
numbered_fits mode.Resolve file ino h k = h
numbered_fits mode.Mend file ino h k = h

answers_fits : (f : Frame) (r : OpenRow) (a : OpenedAs) (t : SyncTable) → AskedFits r.mode r.file → AnswerFits a → TableFits t → TableOut (answers_open f r a t)
answers_fits f r (opened.Open ino size) t k a h = record { view = table_open t (granted_row r ino size) (numbered_fits r.mode r.file ino k a) h; sent = (tt, tt) }
answers_fits f r (opened.No why) t k a h = record { view = table_open t (record r { stage = stage.Refused why }) tt h; sent = (tt, tt) }

by_stage_fits : (f : Frame) (r : OpenRow) (a : OpenedAs) (s : OpenStage) (t : SyncTable) → StageFits r s → AnswerFits a → TableFits t → TableOut (by_stage f r a s t)
by_stage_fits f r a stage.Asked t k q h = answers_fits f r a t k q h
by_stage_fits f r a stage.Granted t k q h = quiet_fits t h
by_stage_fits f r a (stage.Refused why) t k q h = quiet_fits t h
by_stage_fits f r a stage.Ended t k q h = quiet_fits t h

opened_of_fits : (f : Frame) (a : OpenedAs) (o : Option OpenRow) (t : SyncTable) → Found OpenFits o → AnswerFits a → TableFits t → TableOut (on_opened_of f a o t)
opened_of_fits f a None t k q h = quiet_fits t h
opened_of_fits f a (Some r) t k q h = by_stage_fits f r a r.stage t k q h

pub on_opened_fits : (f : Frame) (inst : Serial) (a : OpenedAs) (t : SyncTable) → AnswerFits a → TableFits t → TableOut (on_opened f inst a t)
on_opened_fits f inst a t q h = opened_of_fits f a (open_row t inst) t (row_found OpenFits open_key (serial_key inst) t.opens h.opens) q h

-- ---- looks ----

serving_fits : (us : ℕ) (l : LookRequest) (r : FileRow) (v : VersionRow) (site : ℕ) (w : What) → BodyFits (serving_letter us l r v site w).body
serving_fits us l r v site (what.Name component) = tt
serving_fits us l r v site what.List = tt
serving_fits us l r v site what.Stat = tt
serving_fits us l r v site (what.Whole stamp) = tt

letter_fits : (us : ℕ) (l : LookRequest) (known : Option FileRow) (s : Service) → BodyFits (letter us l known s).body
letter_fits us l known (Unserved why) = tt
letter_fits us l None (Serves v site) = tt
letter_fits us l (Some r) (Serves v site) = serving_fits us l r v site l.what

new_look_fits : (f : Frame) (us : ℕ) (l : LookRequest) (known : Option FileRow) (t : SyncTable) → TableFits t → TableOut (new_look f us l known t)
new_look_fits f us l known t h =
    let s : Service = service f us l.what known in
    let p : BodyFits (letter us l known s).body = letter_fits us l known s in
    record { view = record { files = h.files; opens = h.opens; looks = every_row LookFits look_key (last_look us l (letter us l known s)) t.looks p h.looks }; sent = (p, tt) }

after_last_fits : (f : Frame) (us : ℕ) (l : LookRequest) (o : Option LastLook) (t : SyncTable) → Found LookFits o → TableFits t → TableOut (after_last f us l o t)
after_last_fits f us l None t k h = new_look_fits f us l (file_row t l.file.ino) t h
after_last_fits f us l (Some last) t k h =
    elim (is_look_before l last) as (λ b. TableOut (elim b [ true ↦ quiet t | false ↦ elim (is_same_look l last) [ true ↦ sends (packet f last.to last.body ∷ []) t | false ↦ new_look f us l (file_row t l.file.ino) t ] ])) [
      | true ↦ quiet_fits t h
      | false ↦ elim (is_same_look l last) as (λ b. TableOut (elim b [ true ↦ sends (packet f last.to last.body ∷ []) t | false ↦ new_look f us l (file_row t l.file.ino) t ])) [
        | true ↦ record { view = h; sent = (k, tt) }
        | false ↦ new_look_fits f us l (file_row t l.file.ino) t h
      ]
    ]

takes_look_fits : (f : Frame) (us : ℕ) (l : LookRequest) (t : SyncTable) → TableFits t → TableOut (takes_look f us l t)
takes_look_fits f us l t h = after_last_fits f us l (row look_key (process_key us l.process) t.looks) t (row_found LookFits look_key (process_key us l.process) t.looks h.looks) h

-- ---- requests that wait for the start ----

cond_table : (b : Bool) (t u : SyncTable) → TableFits t → TableFits u → TableFits (cond b t u)
cond_table true t u h g = h
cond_table false t u h g = g

waits_fits : (site process : ℕ) (b : Body) (t : SyncTable) → TableFits t → TableFits (waits_early site process b t)
waits_fits site process b t h = cond_table (list_any (is_early_of site process) t.early) t (record t { early = t.early ++ record { site = site; process = process; body = b } ∷ [] }) h (record { files = h.files; opens = h.opens; looks = h.looks })

pub on_open_fits : (f : Frame) (us : ℕ) (o : OpenRequest) (t : SyncTable) → TableFits t → TableOut (on_open f us o t)
on_open_fits f us o t h =
    elim t.started as (λ b. TableOut (elim b [ true ↦ takes_open f us o t | false ↦ quiet (waits_early us o.process (body.Open o.serial o.call o.process o.request o.file o.how) t) ])) [
      | true ↦ takes_open_fits f us o t h
      | false ↦ quiet_fits (waits_early us o.process (body.Open o.serial o.call o.process o.request o.file o.how) t) (waits_fits us o.process (body.Open o.serial o.call o.process o.request o.file o.how) t h)
    ]

pub on_look_fits : (f : Frame) (us : ℕ) (l : LookRequest) (t : SyncTable) → TableFits t → TableOut (on_look f us l t)
on_look_fits f us l t h =
    elim t.started as (λ b. TableOut (elim b [ true ↦ takes_look f us l t | false ↦ quiet (waits_early us l.process (body.Look l.call l.process l.request l.take l.file l.what) t) ])) [
      | true ↦ takes_look_fits f us l t h
      | false ↦ quiet_fits (waits_early us l.process (body.Look l.call l.process l.request l.take l.file l.what) t) (waits_fits us l.process (body.Look l.call l.process l.request l.take l.file l.what) t h)
    ]

early_fits : (f : Frame) (us : ℕ) (b : Body) (t : SyncTable) → TableFits t → TableOut (takes_early f us b t)
early_fits f us (body.Open serial call process request file how) t h = takes_open_fits f us (record { serial = serial; call = call; process = process; request = request; file = file; how = how }) t h
early_fits f us (body.Look call process request take file what) t h = takes_look_fits f us (record { call = call; process = process; request = request; take = take; file = file; what = what }) t h
early_fits f us _ t h = quiet_fits t h

all_early_fits : (f : Frame) (es : List Early) (t : SyncTable) → TableFits t → TableOut (takes_all_early f es t)
all_early_fits f [] t h = quiet_fits t h
all_early_fits f (e ∷ es) t h =
    let k : TableOut (takes_early f e.site e.body t) = early_fits f e.site e.body t h in
    table_then (takes_early f e.site e.body t) (takes_all_early f es) k (all_early_fits f es (takes_early f e.site e.body t).view k.view)

-- ---- reports ----

starts_fits : (f : Frame) (t : SyncTable) → TableFits t → TableOut (starts f t)
starts_fits f t h =
    let now : SyncTable = record t { started = true; early = [] } in
    let first : Outcome SyncTable = record { view = now; sent = notices f t; told = Shown (says.Start f.epoch t.group (flat_map brought_files t.files)) ∷ []; written = None } in
    let k : TableFits now = record { files = h.files; opens = h.opens; looks = h.looks } in
    table_then first (takes_all_early f t.early) (record { view = k; sent = notices_fits f t h }) (all_early_fits f t.early now k)

starts_if_fits : (f : Frame) (t : SyncTable) → TableFits t → TableOut (starts_if f t)
starts_if_fits f t h = elim (have_all_reported f t) as (λ b. TableOut (elim b [ true ↦ starts f t | false ↦ quiet t ])) [ true ↦ starts_fits f t h | false ↦ quiet_fits t h ]

all_reported_fits : (from : ℕ) (xs : List ReportedCopy) (t : SyncTable) → Every ReportedFits xs → TableFits t → TableFits (with_all_reported from xs t)
all_reported_fits from [] t k h = h
all_reported_fits from (x ∷ xs) t k h =
    all_reported_fits from xs (with_reported from x t) k.1
    (table_file t (with_holder from x.stamp (with_version (version_reported x) (known_or (unknown_file x.ino x.kind x.set) (file_row t x.ino)))) (known_fits x.ino x.kind x.set (file_row t x.ino) k.0 (row_there t x.ino h)) h)

counts_fits : (f : Frame) (from : ℕ) (xs : List ReportedCopy) (t : SyncTable) → Every ReportedFits xs → TableFits t → TableOut (counts_report f from xs t)
counts_fits f from xs t k h =
    elim (has t.reported from) as (λ b. TableOut (elim b [ true ↦ quiet t | false ↦ starts_if f (with_report from xs t) ])) [
      | true ↦ quiet_fits t h
      | false ↦ starts_if_fits f (with_report from xs t) (all_reported_fits from xs _ k (record { files = h.files; opens = h.opens; looks = h.looks }))
    ]

pub on_report_fits : (f : Frame) (from : ℕ) (xs : List ReportedCopy) (t : SyncTable) → Every ReportedFits xs → TableFits t → TableOut (on_report f from xs t)
on_report_fits f from xs t k h = let q : TableOut (counts_report f from xs t) = counts_fits f from xs t k h in record { view = q.view; sent = (tt, q.sent) }

-- ---- closes ----

published_fits : (ss : ℕ) (r : OpenRow) (made : Option MadeVersion) (t : SyncTable) → Fits r.file.ino → TableFits t → TableFits (published ss r made t)
published_fits ss r None t k h = h
published_fits ss r (Some v) t k h =
    table_file t (published_row ss r v (file_row t r.file.ino)) (noted_fits ss v.stamp _ (known_fits r.file.ino r.kind r.set (file_row t r.file.ino) k (row_there t r.file.ino h))) h

published_sent : (f : Frame) (r : OpenRow) (made : Option MadeVersion) (t : SyncTable) → TableFits t → Every PacketFits (published_notices f r made t)
published_sent f r None t h = tt
published_sent f r (Some v) t h = row_notices_fits f t.group (file_row t r.file.ino) (row_there t r.file.ino h)

releases_fits : (f : Frame) (ss : ℕ) (r : OpenRow) (made : Option MadeVersion) (t : SyncTable) → Fits r.file.ino → TableFits t → TableOut (releases f ss r made t)
releases_fits f ss r made t k h =
    let ended : SyncTable = with_open (record r { stage = stage.Ended }) t in
    let a : TableFits (published ss r made ended) = published_fits ss r made ended k (table_open t (record r { stage = stage.Ended }) tt h) in
    record { view = a; sent = every_append PacketFits (published_notices f r made (published ss r made ended)) (closed_ok f ss r.inst) (published_sent f r made (published ss r made ended) a) (tt, tt) }

closes_at_fits : (f : Frame) (ss : ℕ) (r : OpenRow) (made : Option MadeVersion) (s : OpenStage) (t : SyncTable) → StageFits r s → TableFits t → TableOut (closes_at f ss r made s t)
closes_at_fits f ss r made stage.Asked t k h = quiet_fits t h
closes_at_fits f ss r made stage.Granted t k h = releases_fits f ss r made t k h
closes_at_fits f ss r made (stage.Refused why) t k h = quiet_fits t h
closes_at_fits f ss r made stage.Ended t k h = record { view = h; sent = (tt, tt) }

closed_of_fits : (f : Frame) (ss : ℕ) (made : Option MadeVersion) (o : Option OpenRow) (t : SyncTable) → Found OpenFits o → TableFits t → TableOut (on_closed_of f ss made o t)
closed_of_fits f ss made None t k h = quiet_fits t h
closed_of_fits f ss made (Some r) t k h = closes_at_fits f ss r made r.stage t k h

pub on_closed_fits : (f : Frame) (ss : ℕ) (inst : Serial) (made : Option MadeVersion) (t : SyncTable) → TableFits t → TableOut (on_closed f ss inst made t)
on_closed_fits f ss inst made t h = closed_of_fits f ss made (open_row t inst) t (row_found OpenFits open_key (serial_key inst) t.opens h.opens) h

-- ---- what a member tells that it holds ----

pub have_fits : (from : ℕ) (stamp : Stamp) (o : Option FileRow) (t : SyncTable) → Found RowFits o → TableFits t → TableFits (on_have_of from stamp o t)
have_fits from stamp None t k h = h
have_fits from stamp (Some r) t k h = table_file t (noted from stamp r) (noted_fits from stamp r k) h

pub on_have_fits : (from : ℕ) (file : FileId) (stamp : Stamp) (t : SyncTable) → TableFits t → TableOut (on_have from file stamp t)
on_have_fits from file stamp t h = quiet_fits (on_have_of from stamp (file_row t file.ino) t) (have_fits from stamp (file_row t file.ino) t (row_there t file.ino h) h)
