-- What the synchronization site does in an epoch keeps each law by kinds.
use Rattle.std.proofs.Common.{◌≡◌, refl, ◌∙◌, ℕ, Bool, true, false, cond, List, [], ◌∷◌, Option, Some, None}
use Rattle.locus_ids.specs.Sites.{has}
use Rattle.locus_ids.specs.declared.ids.FileId.{FileId}
use Rattle.locus_ids.specs.declared.ids.Mode.{Mode}
use Rattle.locus_ids.specs.declared.ids.Mode.TheVariants as mode
use Rattle.locus_ids.specs.declared.ids.Serial.{Serial}
use Rattle.locus_ids.specs.declared.ids.Stamp.{Stamp}
use Rattle.role_steps.specs.of_trace_book.declared.operation.What.{What}
use Rattle.role_steps.specs.of_trace_book.declared.operation.What.TheVariants as what
use Rattle.role_steps.specs.of_wire_messages.declared.body.Body.{Body}
use Rattle.role_steps.specs.of_wire_messages.declared.body.Body.TheVariants as body
use Rattle.role_steps.specs.of_wire_messages.declared.body.OpenedAs.{OpenedAs}
use Rattle.role_steps.specs.of_wire_messages.declared.body.OpenedAs.TheVariants as opened
use Rattle.role_steps.specs.of_wire_messages.declared.body.MadeVersion.{MadeVersion}
use Rattle.role_steps.specs.of_wire_messages.declared.body.ReportedCopy.{ReportedCopy}
use Rattle.role_steps.specs.Own.{Every}
use Rattle.role_steps.specs.Tables.{row}
use Rattle.role_steps.specs.Views.{Frame, Outcome, DiskWrite, quiet, sends, and_then, first_written, packet, process_key, to_some, to_sync, sync_site}
use Rattle.role_steps.specs.Versions.{holders_of, chosen_site, file_row}
use Rattle.role_steps.specs.Notices.{lagging, notice, notices_of, notices_by, file_notices, notices, row_notices}
use Rattle.role_steps.specs.Opens.{OpenRequest, Decision, Denies, Grants, decision, decides, asked_row, granted_row, granted_at_once, granted_at_last, repeats_open, on_open_of, takes_open, open_row, with_open, answers_open, by_stage, on_opened_of, on_opened}
use Rattle.role_steps.specs.Looks.{LookRequest, Service, Denies as Unserved, Serves, service, letter, serving_letter, last_look, is_look_before, is_same_look, new_look, after_last, takes_look, look_key}
use Rattle.role_steps.specs.Reports.{waits_early, on_open, on_look, takes_early, takes_all_early, starts, starts_if, have_all_reported, counts_report, with_reported, with_all_reported, with_report, on_report, published, published_notices, closed_ok, releases_into, closes_at, on_closed_of, on_closed, on_have_of, on_have, sync_repeats}
use Rattle.role_steps.specs.declared.synchronizing.SyncTable.{SyncTable}
use Rattle.role_steps.specs.declared.synchronizing.FileRow.{FileRow}
use Rattle.role_steps.specs.declared.synchronizing.VersionRow.{VersionRow}
use Rattle.role_steps.specs.declared.synchronizing.OpenRow.{OpenRow}
use Rattle.role_steps.specs.declared.synchronizing.OpenStage.{OpenStage}
use Rattle.role_steps.specs.declared.synchronizing.OpenStage.TheVariants as stage
use Rattle.role_steps.specs.declared.synchronizing.LastLook.{LastLook}
use Rattle.role_steps.specs.declared.synchronizing.Early.{Early}
use Rattle.role_steps.proofs.Sending.{every_append, every_cond, every_map, every_flat_map}
use Rattle.the_run.proofs.Rows.{Found, every_row, row_found}
use Rattle.the_run.specs.Kinds.{IsOfTable}
use Rattle.the_run.specs.KindLaws.{Law, TablesKeep, TableAnswers, KeptLooks, TablePart}

-- ---- outcomes ----

-- a packet to the synchronization site of the group, if there is one
pub sync_walk : (law : Law) (f : Frame) (group : ℕ) (b : Body) → ((to : ℕ) → sync_site f.config f.members group ≡ Some to → law.sent (packet f to b)) → Every law.sent (to_sync f group b)
sync_walk law f group b asks = some (sync_site f.config f.members group) refl
  where
    some : (o : Option ℕ) → sync_site f.config f.members group ≡ o → Every law.sent (to_some f b o)
    some None e = tt
    some (Some to) e = (asks to e, tt)

pub then_written : (law : Law) (a b : Option DiskWrite) → law.written a → law.written b → law.written (first_written a b)
then_written law None b h g = g
then_written law (Some d) b h g = h

table_then : (law : Law) (f : Frame) (kinds : TablesKeep law f) (t : SyncTable) (o : Outcome SyncTable) (g : SyncTable → Outcome SyncTable) → TablePart law t o → TablePart law o.view (g o.view) → TablePart law t (and_then o g)
table_then law f kinds t o g h k = (every_append law.sent o.sent (g o.view).sent h.0 k.0, every_append law.told o.told (g o.view).told h.1 k.1, then_written law o.written (g o.view).written h.2 k.2, k.3, k.4 ∙ h.4)

-- ---- notices ----

notices_of_walk : (law : Law) (f : Frame) (kinds : TablesKeep law f) (group : ℕ) (r : FileRow) (v : VersionRow) (o : Option ℕ) → Every law.sent (notices_of f group r v o)
notices_of_walk law f kinds group r v None = tt
notices_of_walk law f kinds group r v (Some holder) = every_map law.sent (notice f group r v holder) (lagging f r (holders_of r v.stamp)) (λ s. kinds.sends _ _ tt)

notices_by_walk : (law : Law) (f : Frame) (kinds : TablesKeep law f) (group : ℕ) (r : FileRow) (vs : List VersionRow) → Every law.sent (notices_by f group r vs)
notices_by_walk law f kinds group r [] = tt
notices_by_walk law f kinds group r (v ∷ []) = notices_of_walk law f kinds group r v (chosen_site f.me f.me (holders_of r v.stamp))
notices_by_walk law f kinds group r (v ∷ w ∷ others) = tt

notices_walk : (law : Law) (f : Frame) (kinds : TablesKeep law f) (t : SyncTable) → Every law.sent (notices f t)
notices_walk law f kinds t = every_flat_map law.sent (file_notices f t.group) t.files (λ r. notices_by_walk law f kinds t.group r r.kept)

row_notices_walk : (law : Law) (f : Frame) (kinds : TablesKeep law f) (group : ℕ) (o : Option FileRow) → Every law.sent (row_notices f group o)
row_notices_walk law f kinds group None = tt
row_notices_walk law f kinds group (Some r) = notices_by_walk law f kinds group r r.kept

pub sync_repeats_walk : (law : Law) (f : Frame) (kinds : TablesKeep law f) (t : SyncTable) → Every law.sent (sync_repeats f t)
sync_repeats_walk law f kinds t = every_cond law.sent t.started (notices f t) [] (notices_walk law f kinds t) tt

-- ---- opens ----

once_walk : (law : Law) (f : Frame) (kinds : TablesKeep law f) (r : OpenRow) (m : Mode) → Every law.told (granted_at_once f r m)
once_walk law f kinds r mode.Make = tt
once_walk law f kinds r _ = (kinds.tells _ tt, tt)

last_walk : (law : Law) (f : Frame) (kinds : TablesKeep law f) (r : OpenRow) (m : Mode) → Every law.told (granted_at_last f r m)
last_walk law f kinds r mode.Make = (kinds.tells _ tt, tt)
last_walk law f kinds r _ = tt

decides_walk : (law : Law) (f : Frame) (kinds : TablesKeep law f) (t : SyncTable) (us : ℕ) (o : OpenRequest) (d : Decision) → KeptLooks law t → TablePart law t (decides f t us o d)
decides_walk law f kinds t us o (Denies why) h = ((kinds.sends _ _ tt, tt), (kinds.tells _ tt, tt), kinds.unwritten, h, refl)
decides_walk law f kinds t us o (Grants ss stamp vector parents set k) h =
    let r : OpenRow = asked_row us o ss stamp vector parents set k in
    ((kinds.sends _ _ tt, tt), once_walk law f kinds r r.mode, kinds.unwritten, h, refl)

repeats_open_walk : (law : Law) (f : Frame) (kinds : TablesKeep law f) (r : OpenRow) (s : OpenStage) → Every law.sent (repeats_open f r s)
repeats_open_walk law f kinds r stage.Asked = (kinds.sends _ _ tt, tt)
repeats_open_walk law f kinds r stage.Granted = (kinds.sends _ _ tt, tt)
repeats_open_walk law f kinds r (stage.Refused why) = (kinds.sends _ _ tt, tt)
repeats_open_walk law f kinds r stage.Ended = tt

on_open_of_walk : (law : Law) (f : Frame) (kinds : TablesKeep law f) (t : SyncTable) (us : ℕ) (o : OpenRequest) (r : Option OpenRow) → KeptLooks law t → TablePart law t (on_open_of f t us o r)
on_open_of_walk law f kinds t us o None h = decides_walk law f kinds t us o (decision f t us o o.how) h
on_open_of_walk law f kinds t us o (Some r) h = (repeats_open_walk law f kinds r r.stage, tt, kinds.unwritten, h, refl)

takes_open_walk : (law : Law) (f : Frame) (kinds : TablesKeep law f) (us : ℕ) (o : OpenRequest) (t : SyncTable) → KeptLooks law t → TablePart law t (takes_open f us o t)
takes_open_walk law f kinds us o t h = on_open_of_walk law f kinds t us o (open_row t (record { us = us; serial = o.serial })) h

answers_open_walk : (law : Law) (f : Frame) (kinds : TablesKeep law f) (r : OpenRow) (a : OpenedAs) (t : SyncTable) → KeptLooks law t → TablePart law t (answers_open f r a t)
answers_open_walk law f kinds r (opened.Open ino size) t h = ((kinds.sends _ _ tt, tt), last_walk law f kinds (granted_row r ino size) (granted_row r ino size).mode, kinds.unwritten, h, refl)
answers_open_walk law f kinds r (opened.No why) t h = ((kinds.sends _ _ tt, tt), (kinds.tells _ tt, tt), kinds.unwritten, h, refl)

by_stage_walk : (law : Law) (f : Frame) (kinds : TablesKeep law f) (r : OpenRow) (a : OpenedAs) (s : OpenStage) (t : SyncTable) → KeptLooks law t → TablePart law t (by_stage f r a s t)
by_stage_walk law f kinds r a stage.Asked t h = answers_open_walk law f kinds r a t h
by_stage_walk law f kinds r a stage.Granted t h = (tt, tt, kinds.unwritten, h, refl)
by_stage_walk law f kinds r a (stage.Refused why) t h = (tt, tt, kinds.unwritten, h, refl)
by_stage_walk law f kinds r a stage.Ended t h = (tt, tt, kinds.unwritten, h, refl)

on_opened_of_walk : (law : Law) (f : Frame) (kinds : TablesKeep law f) (a : OpenedAs) (o : Option OpenRow) (t : SyncTable) → KeptLooks law t → TablePart law t (on_opened_of f a o t)
on_opened_of_walk law f kinds a None t h = (tt, tt, kinds.unwritten, h, refl)
on_opened_of_walk law f kinds a (Some r) t h = by_stage_walk law f kinds r a r.stage t h

pub on_opened_walk : (law : Law) (f : Frame) (kinds : TablesKeep law f) (inst : Serial) (a : OpenedAs) (t : SyncTable) → KeptLooks law t → TablePart law t (on_opened f inst a t)
on_opened_walk law f kinds inst a t h = on_opened_of_walk law f kinds a (open_row t inst) t h

-- ---- looks ----

serving_walk : (us : ℕ) (l : LookRequest) (r : FileRow) (v : VersionRow) (site : ℕ) (w : What) → IsOfTable (serving_letter us l r v site w).body
serving_walk us l r v site (what.Name component) = tt
serving_walk us l r v site what.List = tt
serving_walk us l r v site what.Stat = tt
serving_walk us l r v site (what.Whole stamp) = tt

letter_walk : (us : ℕ) (l : LookRequest) (known : Option FileRow) (s : Service) → IsOfTable (letter us l known s).body
letter_walk us l known (Unserved why) = tt
letter_walk us l None (Serves v site) = tt
letter_walk us l (Some r) (Serves v site) = serving_walk us l r v site l.what

new_look_walk : (law : Law) (f : Frame) (kinds : TablesKeep law f) (us : ℕ) (l : LookRequest) (known : Option FileRow) (t : SyncTable) → KeptLooks law t → TablePart law t (new_look f us l known t)
new_look_walk law f kinds us l known t h =
    let s : Service = service f us l.what known in
    let p : IsOfTable (letter us l known s).body = letter_walk us l known s in
    ((kinds.sends _ _ p, tt), (kinds.tells _ tt, tt), kinds.unwritten, every_row law.look look_key (last_look us l (letter us l known s)) t.looks (kinds.keeps _ p) h, refl)

after_last_walk : (law : Law) (f : Frame) (kinds : TablesKeep law f) (us : ℕ) (l : LookRequest) (o : Option LastLook) (t : SyncTable) → Found law.look o → KeptLooks law t → TablePart law t (after_last f us l o t)
after_last_walk law f kinds us l None t k h = new_look_walk law f kinds us l (file_row t l.file.ino) t h
after_last_walk law f kinds us l (Some last) t k h =
    elim (is_look_before l last) as (λ b. TablePart law t (elim b [ true ↦ quiet t | false ↦ elim (is_same_look l last) [ true ↦ sends (packet f last.to last.body ∷ []) t | false ↦ new_look f us l (file_row t l.file.ino) t ] ])) [
      | true ↦ (tt, tt, kinds.unwritten, h, refl)
      | false ↦ elim (is_same_look l last) as (λ b. TablePart law t (elim b [ true ↦ sends (packet f last.to last.body ∷ []) t | false ↦ new_look f us l (file_row t l.file.ino) t ])) [
        | true ↦ ((kinds.repeats last k, tt), tt, kinds.unwritten, h, refl)
        | false ↦ new_look_walk law f kinds us l (file_row t l.file.ino) t h
      ]
    ]

takes_look_walk : (law : Law) (f : Frame) (kinds : TablesKeep law f) (us : ℕ) (l : LookRequest) (t : SyncTable) → KeptLooks law t → TablePart law t (takes_look f us l t)
takes_look_walk law f kinds us l t h = after_last_walk law f kinds us l (row look_key (process_key us l.process) t.looks) t (row_found law.look look_key (process_key us l.process) t.looks h) h

-- ---- requests before the start ----

waits_ok : (law : Law) (b : Bool) (t u : SyncTable) → KeptLooks law t → KeptLooks law u → KeptLooks law (cond b t u)
waits_ok law true t u h g = h
waits_ok law false t u h g = g

waits_group : (b : Bool) (t u : SyncTable) → u.group ≡ t.group → (cond b t u).group ≡ t.group
waits_group true t u e = refl
waits_group false t u e = e

early_ok : (law : Law) (site process : ℕ) (b : Body) (t : SyncTable) → KeptLooks law t → KeptLooks law (waits_early site process b t)
early_ok law site process b t h = waits_ok law _ t _ h h

pub on_open_walk : (law : Law) (f : Frame) (kinds : TablesKeep law f) (us : ℕ) (o : OpenRequest) (t : SyncTable) → KeptLooks law t → TablePart law t (on_open f us o t)
on_open_walk law f kinds us o t h =
    elim t.started as (λ b. TablePart law t (elim b [ true ↦ takes_open f us o t | false ↦ quiet (waits_early us o.process (body.Open o.serial o.call o.process o.request o.file o.how) t) ])) [
      | true ↦ takes_open_walk law f kinds us o t h
      | false ↦ (tt, tt, kinds.unwritten, early_ok law us o.process (body.Open o.serial o.call o.process o.request o.file o.how) t h, waits_group _ t _ refl)
    ]

pub on_look_walk : (law : Law) (f : Frame) (kinds : TablesKeep law f) (us : ℕ) (l : LookRequest) (t : SyncTable) → KeptLooks law t → TablePart law t (on_look f us l t)
on_look_walk law f kinds us l t h =
    elim t.started as (λ b. TablePart law t (elim b [ true ↦ takes_look f us l t | false ↦ quiet (waits_early us l.process (body.Look l.call l.process l.request l.take l.file l.what) t) ])) [
      | true ↦ takes_look_walk law f kinds us l t h
      | false ↦ (tt, tt, kinds.unwritten, early_ok law us l.process (body.Look l.call l.process l.request l.take l.file l.what) t h, waits_group _ t _ refl)
    ]

takes_early_walk : (law : Law) (f : Frame) (kinds : TablesKeep law f) (us : ℕ) (b : Body) (t : SyncTable) → KeptLooks law t → TablePart law t (takes_early f us b t)
takes_early_walk law f kinds us (body.Open serial call process request file how) t h = takes_open_walk law f kinds us (record { serial = serial; call = call; process = process; request = request; file = file; how = how }) t h
takes_early_walk law f kinds us (body.Look call process request take file what) t h = takes_look_walk law f kinds us (record { call = call; process = process; request = request; take = take; file = file; what = what }) t h
takes_early_walk law f kinds us _ t h = (tt, tt, kinds.unwritten, h, refl)

takes_all_early_walk : (law : Law) (f : Frame) (kinds : TablesKeep law f) (es : List Early) (t : SyncTable) → KeptLooks law t → TablePart law t (takes_all_early f es t)
takes_all_early_walk law f kinds [] t h = (tt, tt, kinds.unwritten, h, refl)
takes_all_early_walk law f kinds (e ∷ es) t h =
    let o : TablePart law t (takes_early f e.site e.body t) = takes_early_walk law f kinds e.site e.body t h in
    table_then law f kinds t (takes_early f e.site e.body t) (takes_all_early f es) o (takes_all_early_walk law f kinds es (takes_early f e.site e.body t).view o.3)

-- ---- reports ----

starts_walk : (law : Law) (f : Frame) (kinds : TablesKeep law f) (t : SyncTable) → KeptLooks law t → TablePart law t (starts f t)
starts_walk law f kinds t h =
    let now : SyncTable = record t { started = true; early = [] } in
    let e : TablePart law now (takes_all_early f t.early now) = takes_all_early_walk law f kinds t.early now h in
    (every_append law.sent (notices f t) (takes_all_early f t.early now).sent (notices_walk law f kinds t) e.0, (kinds.tells _ tt, e.1), e.2, e.3, e.4)

starts_if_walk : (law : Law) (f : Frame) (kinds : TablesKeep law f) (t : SyncTable) → KeptLooks law t → TablePart law t (starts_if f t)
starts_if_walk law f kinds t h = elim (have_all_reported f t) as (λ b. TablePart law t (elim b [ true ↦ starts f t | false ↦ quiet t ])) [ true ↦ starts_walk law f kinds t h | false ↦ (tt, tt, kinds.unwritten, h, refl) ]

reported_ok : (law : Law) (from : ℕ) (xs : List ReportedCopy) (t : SyncTable) → KeptLooks law t → KeptLooks law (with_all_reported from xs t)
reported_ok law from [] t h = h
reported_ok law from (x ∷ xs) t h = reported_ok law from xs (with_reported from x t) h

reported_group : (from : ℕ) (xs : List ReportedCopy) (t : SyncTable) → (with_all_reported from xs t).group ≡ t.group
reported_group from [] t = refl
reported_group from (x ∷ xs) t = reported_group from xs (with_reported from x t)

counts_walk : (law : Law) (f : Frame) (kinds : TablesKeep law f) (from : ℕ) (xs : List ReportedCopy) (t : SyncTable) → KeptLooks law t → TablePart law t (counts_report f from xs t)
counts_walk law f kinds from xs t h = elim (has t.reported from) as (λ b. TablePart law t (elim b [ true ↦ quiet t | false ↦ starts_if f (with_report from xs t) ])) [
  | true ↦ (tt, tt, kinds.unwritten, h, refl)
  | false ↦ (let e : TablePart law (with_report from xs t) (starts_if f (with_report from xs t)) = starts_if_walk law f kinds (with_report from xs t) (reported_ok law from xs (record t { reported = _ }) h) in (e.0, e.1, e.2, e.3, e.4 ∙ reported_group from xs (record t { reported = _ })))
]

pub on_report_walk : (law : Law) (f : Frame) (kinds : TablesKeep law f) (from : ℕ) (xs : List ReportedCopy) (t : SyncTable) → law.sent (packet f from (body.ReportOk t.group)) → KeptLooks law t → TablePart law t (on_report f from xs t)
on_report_walk law f kinds from xs t accepted h = let e : TablePart law t (counts_report f from xs t) = counts_walk law f kinds from xs t h in ((accepted, e.0), e.1, e.2, e.3, e.4)

-- ---- closes ----

published_walk : (law : Law) (f : Frame) (kinds : TablesKeep law f) (r : OpenRow) (made : Option MadeVersion) (t : SyncTable) → Every law.sent (published_notices f r made t)
published_walk law f kinds r None t = tt
published_walk law f kinds r (Some v) t = row_notices_walk law f kinds t.group (file_row t r.file.ino)

published_ok : (law : Law) (ss : ℕ) (r : OpenRow) (made : Option MadeVersion) (t : SyncTable) → KeptLooks law t → KeptLooks law (published ss r made t)
published_ok law ss r None t h = h
published_ok law ss r (Some v) t h = h

published_group : (ss : ℕ) (r : OpenRow) (made : Option MadeVersion) (t : SyncTable) → (published ss r made t).group ≡ t.group
published_group ss r None t = refl
published_group ss r (Some v) t = refl

releases_into_walk : (law : Law) (f : Frame) (kinds : TablesKeep law f) (ss : ℕ) (back : TableAnswers law f ss) (r : OpenRow) (made : Option MadeVersion) (t : SyncTable) → KeptLooks law t → TablePart law t (releases_into f ss r made t)
releases_into_walk law f kinds ss back r made t h = (every_append law.sent (published_notices f r made t) (closed_ok f ss r.inst) (published_walk law f kinds r made t) (back.closed _, tt), (kinds.tells _ tt, tt), kinds.unwritten, h, refl)

closes_at_walk : (law : Law) (f : Frame) (kinds : TablesKeep law f) (ss : ℕ) (back : TableAnswers law f ss) (r : OpenRow) (made : Option MadeVersion) (s : OpenStage) (t : SyncTable) → KeptLooks law t → TablePart law t (closes_at f ss r made s t)
closes_at_walk law f kinds ss back r made stage.Granted t h =
    let ended : SyncTable = with_open (record r { stage = stage.Ended }) t in
    let e : TablePart law (published ss r made ended) (releases_into f ss r made (published ss r made ended)) = releases_into_walk law f kinds ss back r made (published ss r made ended) (published_ok law ss r made ended h) in
    (e.0, e.1, e.2, e.3, e.4 ∙ published_group ss r made ended)
closes_at_walk law f kinds ss back r made stage.Ended t h = ((back.closed _, tt), tt, kinds.unwritten, h, refl)
closes_at_walk law f kinds ss back r made stage.Asked t h = (tt, tt, kinds.unwritten, h, refl)
closes_at_walk law f kinds ss back r made (stage.Refused why) t h = (tt, tt, kinds.unwritten, h, refl)

on_closed_of_walk : (law : Law) (f : Frame) (kinds : TablesKeep law f) (ss : ℕ) (back : TableAnswers law f ss) (made : Option MadeVersion) (o : Option OpenRow) (t : SyncTable) → KeptLooks law t → TablePart law t (on_closed_of f ss made o t)
on_closed_of_walk law f kinds ss back made None t h = (tt, tt, kinds.unwritten, h, refl)
on_closed_of_walk law f kinds ss back made (Some r) t h = closes_at_walk law f kinds ss back r made r.stage t h

pub on_closed_walk : (law : Law) (f : Frame) (kinds : TablesKeep law f) (ss : ℕ) (back : TableAnswers law f ss) (inst : Serial) (made : Option MadeVersion) (t : SyncTable) → KeptLooks law t → TablePart law t (on_closed f ss inst made t)
on_closed_walk law f kinds ss back inst made t h = on_closed_of_walk law f kinds ss back made (open_row t inst) t h

pub have_ok : (law : Law) (from : ℕ) (stamp : Stamp) (o : Option FileRow) (t : SyncTable) → KeptLooks law t → KeptLooks law (on_have_of from stamp o t)
have_ok law from stamp None t h = h
have_ok law from stamp (Some r) t h = h

pub have_group : (from : ℕ) (stamp : Stamp) (o : Option FileRow) (t : SyncTable) → (on_have_of from stamp o t).group ≡ t.group
have_group from stamp None t = refl
have_group from stamp (Some r) t = refl

pub on_have_walk : (law : Law) (f : Frame) (kinds : TablesKeep law f) (from : ℕ) (file : FileId) (stamp : Stamp) (t : SyncTable) → KeptLooks law t → TablePart law t (on_have from file stamp t)
on_have_walk law f kinds from file stamp t h = (tt, tt, kinds.unwritten, have_ok law from stamp (file_row t file.ino) t h, have_group from stamp (file_row t file.ino) t)
