-- What a synchronization site knows, sends and tells is as packs allow.
use Rattle.std.proofs.Common.{◌≡◌, ℕ, Bool, true, false, not, cond, List, [], ◌∷◌, ◌++◌, map, Option, Some, None, refl, sym, ◌∙◌, subst}
use Rattle.std.specs.List.{list_any, flat_map}
use Rattle.locus_ids.specs.Sites.{has}
use Rattle.locus_ids.specs.declared.config.Config.{Config}
use Rattle.locus_ids.specs.declared.ids.FileId.{FileId}
use Rattle.locus_ids.specs.declared.ids.Mode.{Mode}
use Rattle.locus_ids.specs.declared.ids.Mode.TheVariants as mode
use Rattle.locus_ids.specs.declared.ids.Serial.{Serial}
use Rattle.locus_ids.specs.declared.ids.Stamp.{Stamp}
use Rattle.locus_ids.specs.declared.sites.Sites.{Sites}
use Rattle.trace_book.specs.declared.operation.What.{What}
use Rattle.trace_book.specs.declared.operation.What.TheVariants as what
use Rattle.trace_book.specs.declared.record.Record.TheVariants as says
use Rattle.wire_messages.specs.declared.packet.Packet.{Packet}
use Rattle.wire_messages.specs.declared.body.Body.{Body}
use Rattle.wire_messages.specs.declared.body.Body.TheVariants as body
use Rattle.wire_messages.specs.declared.body.OpenedAs.{OpenedAs}
use Rattle.wire_messages.specs.declared.body.OpenedAs.TheVariants as opened
use Rattle.wire_messages.specs.declared.body.MadeVersion.{MadeVersion}
use Rattle.wire_messages.specs.declared.body.ReportedCopy.{ReportedCopy}
use Rattle.role_steps.specs.Own.{Every}
use Rattle.role_steps.specs.Tables.{row}
use Rattle.role_steps.specs.Views.{Frame, Shown, Outcome, quiet, sends, and_then, packet, process_key, serial_key, members_of}
use Rattle.role_steps.specs.Versions.{row_ino, file_row, with_file, with_version, unknown_file, known_or, with_holder, holders_of, noted, chosen_site, is_among}
use Rattle.role_steps.specs.Notices.{lagging, notice, notices_of, notices_by, file_notices, notices, row_notices}
use Rattle.role_steps.specs.Opens.{OpenRequest, Decision, Denies, Grants, mode_of, decision, granted_at_once, granted_at_last, decides, denied_row, asked_row, granted_row, numbered_file, repeats_open, on_open_of, takes_open, open_row, open_key, with_open, answers_open, by_stage, on_opened_of, on_opened}
use Rattle.role_steps.specs.Looks.{LookRequest, Service, Denies as Unserved, Serves, service, letter, serving_letter, last_look, is_look_before, is_same_look, new_look, after_last, takes_look, look_key}
use Rattle.role_steps.specs.Reports.{brought_files, waits_early, is_early_of, on_open, on_look, takes_early, takes_all_early, starts, starts_if, have_all_reported, counts_report, version_reported, with_reported, with_all_reported, with_report, on_report, published_row, published, published_notices, closed_ok, releases, closes_at, on_closed_of, on_closed, on_have_of, on_have, sync_repeats}
use Rattle.role_steps.specs.declared.synchronizing.SyncTable.{SyncTable}
use Rattle.role_steps.specs.declared.synchronizing.FileRow.{FileRow}
use Rattle.role_steps.specs.declared.synchronizing.VersionRow.{VersionRow}
use Rattle.role_steps.specs.declared.synchronizing.OpenRow.{OpenRow}
use Rattle.role_steps.specs.declared.synchronizing.OpenStage.{OpenStage}
use Rattle.role_steps.specs.declared.synchronizing.OpenStage.TheVariants as stage
use Rattle.role_steps.specs.declared.synchronizing.LastLook.{LastLook}
use Rattle.role_steps.specs.declared.synchronizing.Early.{Early}
use Rattle.role_steps.proofs.Sending.{every_append, every_cond}
use Rattle.the_run.proofs.InsideSync.{every_row, Found, row_found}
use Rattle.site_laws.proofs.Vectors.SyncFacts.{FoundAt, row_at, every_latest, every_flat}
use Rattle.site_laws.specs.Vectors.Facts.{WaitingFact, EarlyFact}
use Rattle.site_laws.specs.Packs.Packs.{HasPack, InPacks, LiesAt, ToldPacked}
use Rattle.site_laws.specs.Packs.Packed.{ReportedPacked, BodyPacked, PacketPacked, NoPack, RowPacked, StagePacked, OpenPacked, LookPacked, StageCloses, RowCloses, TableCloses, OutPacked}
use Rattle.site_laws.proofs.Packs.Sets.{every_filter, members_packed, every_and}
use Rattle.site_laws.proofs.Packs.RowPacks.{InTable, IsPlaced, known_packed, version_packed, held_packed, noted_packed, row_there, DecisionPacked, decision_packed}

abbrev pub TableOut : Frame → Outcome SyncTable → Type 0
TableOut f o = OutPacked f.config (InTable f) o

table_then : (f : Frame) (o : Outcome SyncTable) (g : SyncTable → Outcome SyncTable) → TableOut f o → TableOut f (g o.view) → TableOut f (and_then o g)
table_then f o g h k = record { view = k.view; sent = every_append (PacketPacked f.config) o.sent (g o.view).sent h.sent k.sent; told = every_append (ToldPacked f.config) o.told (g o.view).told h.told k.told }

quiet_packed : (f : Frame) (t : SyncTable) → InTable f t → TableOut f (quiet t)
quiet_packed f t h = record { view = h; sent = tt; told = tt }

sends_packed : (f : Frame) (ps : List Packet) (t : SyncTable) → Every (PacketPacked f.config) ps → InTable f t → TableOut f (sends ps t)
sends_packed f ps t k h = record { view = h; sent = k; told = tt }

table_open : (f : Frame) (t : SyncTable) (r : OpenRow) → OpenPacked f.config t.group r → InTable f t → InTable f (with_open r t)
table_open f t r k h = record { here = h.here; files = h.files; opens = every_latest (OpenPacked f.config t.group) open_key r t.opens k h.opens; looks = h.looks; early = h.early }

table_file : (f : Frame) (t : SyncTable) (r : FileRow) → RowPacked f.config t.group r → InTable f t → InTable f (with_file r t)
table_file f t r k h = record { here = h.here; files = every_row (RowPacked f.config t.group) row_ino r t.files k h.files; opens = h.opens; looks = h.looks; early = h.early }

-- ---- notices ----

lagging_packed : (c : Config) (group : ℕ) (f : Frame) (r : FileRow) (holders : List ℕ) → InPacks c group r.set → Every (HasPack c group) (lagging f r holders)
lagging_packed c group f r holders h = every_filter (HasPack c group) (λ s. not (is_among s holders)) (members_of f.members r.set) (members_packed c group f.members r.set h)

each_notice : (c : Config) (f : Frame) (group : ℕ) (r : FileRow) (v : VersionRow) (holder : ℕ) (xs : List ℕ) → InPacks c group r.set → Every (HasPack c group) xs → Every (PacketPacked c) (map (notice f group r v holder) xs)
each_notice c f group r v holder [] h g = tt
each_notice c f group r v holder (x ∷ xs) h g = (record { here = g.0; all = h }, each_notice c f group r v holder xs h g.1)

notices_of_packed : (f : Frame) (group : ℕ) (r : FileRow) (v : VersionRow) (o : Option ℕ) → InPacks f.config group r.set → Every (PacketPacked f.config) (notices_of f group r v o)
notices_of_packed f group r v None h = tt
notices_of_packed f group r v (Some holder) h = each_notice f.config f group r v holder (lagging f r (holders_of r v.stamp)) h (lagging_packed f.config group f r (holders_of r v.stamp) h)

notices_by_packed : (f : Frame) (group : ℕ) (r : FileRow) (vs : List VersionRow) → InPacks f.config group r.set → Every (PacketPacked f.config) (notices_by f group r vs)
notices_by_packed f group r [] h = tt
notices_by_packed f group r (v ∷ []) h = notices_of_packed f group r v (chosen_site f.me f.me (holders_of r v.stamp)) h
notices_by_packed f group r (v ∷ w ∷ others) h = tt

notices_packed : (f : Frame) (t : SyncTable) → InTable f t → Every (PacketPacked f.config) (notices f t)
notices_packed f t h = every_flat (RowPacked f.config t.group) (PacketPacked f.config) (file_notices f t.group) t.files (λ r k. notices_by_packed f t.group r r.kept k.all) h.files

row_notices_packed : (f : Frame) (group : ℕ) (o : Option FileRow) → Found (RowPacked f.config group) o → Every (PacketPacked f.config) (row_notices f group o)
row_notices_packed f group None h = tt
row_notices_packed f group (Some r) h = notices_by_packed f group r r.kept h.all

pub sync_repeats_packed : (f : Frame) (t : SyncTable) → InTable f t → Every (PacketPacked f.config) (sync_repeats f t)
sync_repeats_packed f t h = every_cond (PacketPacked f.config) t.started (notices f t) [] (notices_packed f t h) tt

-- ---- opens ----

of_group : (c : Config) (site a b : ℕ) (set : Sites) → a ≡ b → LiesAt c site b set → LiesAt c site a set
of_group c site a b set e h = subst (λ (n : ℕ). LiesAt c site n set) (sym e) h

once_told : (f : Frame) (r : OpenRow) (m : Mode) → HasPack f.config r.file.group r.ss → Every (ToldPacked f.config) (granted_at_once f r m)
once_told f r mode.Make p = tt
once_told f r mode.Read p = (p, tt)
once_told f r mode.Write p = (p, tt)
once_told f r mode.Resolve p = (p, tt)
once_told f r mode.Mend p = (p, tt)

last_told : (f : Frame) (r : OpenRow) (m : Mode) → HasPack f.config r.file.group r.ss → Every (ToldPacked f.config) (granted_at_last f r m)
last_told f r mode.Make p = (p, tt)
last_told f r mode.Read p = tt
last_told f r mode.Write p = tt
last_told f r mode.Resolve p = tt
last_told f r mode.Mend p = tt

decides_packed : (f : Frame) (t : SyncTable) (us : ℕ) (o : OpenRequest) (d : Decision) → o.file.group ≡ t.group → DecisionPacked f.config t.group (mode_of o.how) d → InTable f t → TableOut f (decides f t us o d)
decides_packed f t us o (Denies why) g k h = record { view = table_open f t (denied_row us o why) (record { group_is = g; lies = tt }) h; sent = (tt, tt); told = (tt, tt) }
decides_packed f t us o (Grants ss stamp vector parents set kind) g k h =
    let q : LiesAt f.config ss o.file.group set = of_group f.config ss o.file.group t.group set g k.0 in
    record { view = table_open f t (asked_row us o ss stamp vector parents set kind) (record { group_is = g; lies = (q, k.1) }) h; sent = ((q, k.1), tt); told = once_told f (asked_row us o ss stamp vector parents set kind) (mode_of o.how) q.here }

repeats_open_packed : (f : Frame) (r : OpenRow) (s : OpenStage) → StagePacked f.config r s → Every (PacketPacked f.config) (repeats_open f r s)
repeats_open_packed f r stage.Asked h = (h, tt)
repeats_open_packed f r stage.Granted h = (tt, tt)
repeats_open_packed f r (stage.Refused why) h = (tt, tt)
repeats_open_packed f r stage.Ended h = tt

open_of_packed : (f : Frame) (t : SyncTable) (us : ℕ) (o : OpenRequest) (r : Option OpenRow) → o.file.group ≡ t.group → Found (OpenPacked f.config t.group) r → InTable f t → TableOut f (on_open_of f t us o r)
open_of_packed f t us o None g k h = decides_packed f t us o (decision f t us o o.how) g (decision_packed f t us o o.how h) h
open_of_packed f t us o (Some r) g k h = sends_packed f (repeats_open f r r.stage) t (repeats_open_packed f r r.stage k.lies) h

takes_open_packed : (f : Frame) (us : ℕ) (o : OpenRequest) (t : SyncTable) → o.file.group ≡ t.group → InTable f t → TableOut f (takes_open f us o t)
takes_open_packed f us o t g h = open_of_packed f t us o (open_row t (record { us = us; serial = o.serial })) g (row_found (OpenPacked f.config t.group) open_key _ t.opens h.opens) h

numbered_group : (m : Mode) (file : FileId) (ino : ℕ) → (numbered_file m file ino).group ≡ file.group
numbered_group mode.Make file ino = refl
numbered_group mode.Read file ino = refl
numbered_group mode.Write file ino = refl
numbered_group mode.Resolve file ino = refl
numbered_group mode.Mend file ino = refl

answers_packed : (f : Frame) (r : OpenRow) (a : OpenedAs) (t : SyncTable) → r.file.group ≡ t.group → LiesAt f.config r.ss r.file.group r.set → InTable f t → TableOut f (answers_open f r a t)
answers_packed f r (opened.Open ino size) t g k h =
    let q : LiesAt f.config r.ss (numbered_file r.mode r.file ino).group r.set = of_group f.config r.ss (numbered_file r.mode r.file ino).group r.file.group r.set (numbered_group r.mode r.file ino) k in
    record { view = table_open f t (granted_row r ino size) (record { group_is = numbered_group r.mode r.file ino ∙ g; lies = q }) h; sent = (tt, tt); told = last_told f (granted_row r ino size) r.mode q.here }
answers_packed f r (opened.No why) t g k h = record { view = table_open f t (record r { stage = stage.Refused why }) (record { group_is = g; lies = tt }) h; sent = (tt, tt); told = (tt, tt) }

by_stage_packed : (f : Frame) (r : OpenRow) (a : OpenedAs) (s : OpenStage) (t : SyncTable) → r.file.group ≡ t.group → StagePacked f.config r s → InTable f t → TableOut f (by_stage f r a s t)
by_stage_packed f r a stage.Asked t g k h = answers_packed f r a t g k.0 h
by_stage_packed f r a stage.Granted t g k h = quiet_packed f t h
by_stage_packed f r a (stage.Refused why) t g k h = quiet_packed f t h
by_stage_packed f r a stage.Ended t g k h = quiet_packed f t h

opened_of_packed : (f : Frame) (a : OpenedAs) (o : Option OpenRow) (t : SyncTable) → Found (OpenPacked f.config t.group) o → InTable f t → TableOut f (on_opened_of f a o t)
opened_of_packed f a None t k h = quiet_packed f t h
opened_of_packed f a (Some r) t k h = by_stage_packed f r a r.stage t k.group_is k.lies h

pub on_opened_packed : (f : Frame) (inst : Serial) (a : OpenedAs) (t : SyncTable) → InTable f t → TableOut f (on_opened f inst a t)
on_opened_packed f inst a t h = opened_of_packed f a (open_row t inst) t (row_found (OpenPacked f.config t.group) open_key (serial_key inst) t.opens h.opens) h

-- ---- looks ----

no_pack : (c : Config) (from to : ℕ) (b : Body) → NoPack b → BodyPacked c from to b
no_pack c from to (body.Report group copies) h = absurd h
no_pack c from to (body.OpenSs inst file mode set kind base vector parents) h = absurd h
no_pack c from to (body.Notify file kind set size stamp vector holder) h = absurd h
no_pack c from to (body.Have file stamp) h = absurd h
no_pack c from to _ h = tt

serving_packed : (us : ℕ) (l : LookRequest) (r : FileRow) (v : VersionRow) (site : ℕ) (w : What) → NoPack (serving_letter us l r v site w).body
serving_packed us l r v site (what.Name component) = tt
serving_packed us l r v site what.List = tt
serving_packed us l r v site what.Stat = tt
serving_packed us l r v site (what.Whole stamp) = tt

letter_packed : (us : ℕ) (l : LookRequest) (known : Option FileRow) (s : Service) → NoPack (letter us l known s).body
letter_packed us l known (Unserved why) = tt
letter_packed us l None (Serves v site) = tt
letter_packed us l (Some r) (Serves v site) = serving_packed us l r v site l.what

new_look_packed : (f : Frame) (us : ℕ) (l : LookRequest) (known : Option FileRow) (t : SyncTable) → InTable f t → TableOut f (new_look f us l known t)
new_look_packed f us l known t h =
    let s : Service = service f us l.what known in
    let p : NoPack (letter us l known s).body = letter_packed us l known s in
    record { view = record { here = h.here; files = h.files; opens = h.opens; looks = every_row LookPacked look_key (last_look us l (letter us l known s)) t.looks p h.looks; early = h.early }; sent = (no_pack f.config f.me _ (letter us l known s).body p, tt); told = (tt, tt) }

after_last_packed : (f : Frame) (us : ℕ) (l : LookRequest) (o : Option LastLook) (t : SyncTable) → Found LookPacked o → InTable f t → TableOut f (after_last f us l o t)
after_last_packed f us l None t k h = new_look_packed f us l (file_row t l.file.ino) t h
after_last_packed f us l (Some last) t k h =
    elim (is_look_before l last) as (λ b. TableOut f (elim b [ true ↦ quiet t | false ↦ elim (is_same_look l last) [ true ↦ sends (packet f last.to last.body ∷ []) t | false ↦ new_look f us l (file_row t l.file.ino) t ] ])) [
      | true ↦ quiet_packed f t h
      | false ↦ elim (is_same_look l last) as (λ b. TableOut f (elim b [ true ↦ sends (packet f last.to last.body ∷ []) t | false ↦ new_look f us l (file_row t l.file.ino) t ])) [
        | true ↦ sends_packed f (packet f last.to last.body ∷ []) t (no_pack f.config f.me last.to last.body k, tt) h
        | false ↦ new_look_packed f us l (file_row t l.file.ino) t h
      ]
    ]

takes_look_packed : (f : Frame) (us : ℕ) (l : LookRequest) (t : SyncTable) → InTable f t → TableOut f (takes_look f us l t)
takes_look_packed f us l t h = after_last_packed f us l (row look_key (process_key us l.process) t.looks) t (row_found LookPacked look_key (process_key us l.process) t.looks h.looks) h

-- ---- requests that wait for the start ----

cond_table : (f : Frame) (b : Bool) (t u : SyncTable) → InTable f t → InTable f u → InTable f (cond b t u)
cond_table f true t u h g = h
cond_table f false t u h g = g

waits_packed : (f : Frame) (site process : ℕ) (b : Body) (t : SyncTable) → WaitingFact t.group b → InTable f t → InTable f (waits_early site process b t)
waits_packed f site process b t g h =
    cond_table f (list_any (is_early_of site process) t.early) t (record t { early = t.early ++ record { site = site; process = process; body = b } ∷ [] }) h
    (record { here = h.here; files = h.files; opens = h.opens; looks = h.looks; early = every_append (EarlyFact t.group) t.early (record { site = site; process = process; body = b } ∷ []) h.early (g, tt) })

pub on_open_packed : (f : Frame) (us : ℕ) (o : OpenRequest) (t : SyncTable) → o.file.group ≡ t.group → InTable f t → TableOut f (on_open f us o t)
on_open_packed f us o t g h =
    elim t.started as (λ b. TableOut f (elim b [ true ↦ takes_open f us o t | false ↦ quiet (waits_early us o.process (body.Open o.serial o.call o.process o.request o.file o.how) t) ])) [
      | true ↦ takes_open_packed f us o t g h
      | false ↦ quiet_packed f (waits_early us o.process (body.Open o.serial o.call o.process o.request o.file o.how) t) (waits_packed f us o.process (body.Open o.serial o.call o.process o.request o.file o.how) t g h)
    ]

pub on_look_packed : (f : Frame) (us : ℕ) (l : LookRequest) (t : SyncTable) → InTable f t → TableOut f (on_look f us l t)
on_look_packed f us l t h =
    elim t.started as (λ b. TableOut f (elim b [ true ↦ takes_look f us l t | false ↦ quiet (waits_early us l.process (body.Look l.call l.process l.request l.take l.file l.what) t) ])) [
      | true ↦ takes_look_packed f us l t h
      | false ↦ quiet_packed f (waits_early us l.process (body.Look l.call l.process l.request l.take l.file l.what) t) (waits_packed f us l.process (body.Look l.call l.process l.request l.take l.file l.what) t tt h)
    ]

early_packed : (f : Frame) (us : ℕ) (b : Body) (t : SyncTable) → WaitingFact t.group b → InTable f t → TableOut f (takes_early f us b t)
early_packed f us (body.Open serial call process request file how) t g h = takes_open_packed f us (record { serial = serial; call = call; process = process; request = request; file = file; how = how }) t g h
early_packed f us (body.Look call process request take file what) t g h = takes_look_packed f us (record { call = call; process = process; request = request; take = take; file = file; what = what }) t h
early_packed f us _ t g h = quiet_packed f t h

-- the group of a table stays
decides_group : (f : Frame) (t : SyncTable) (us : ℕ) (o : OpenRequest) (d : Decision) → (decides f t us o d).view.group ≡ t.group
decides_group f t us o (Denies why) = refl
decides_group f t us o (Grants ss stamp vector parents set k) = refl

open_of_group : (f : Frame) (t : SyncTable) (us : ℕ) (o : OpenRequest) (r : Option OpenRow) → (on_open_of f t us o r).view.group ≡ t.group
open_of_group f t us o None = decides_group f t us o (decision f t us o o.how)
open_of_group f t us o (Some r) = refl

takes_open_group : (f : Frame) (us : ℕ) (o : OpenRequest) (t : SyncTable) → (takes_open f us o t).view.group ≡ t.group
takes_open_group f us o t = open_of_group f t us o (open_row t (record { us = us; serial = o.serial }))

abbrev SameGroup : SyncTable → Outcome SyncTable → Type 0
SameGroup t o = o.view.group ≡ t.group

after_last_group : (f : Frame) (us : ℕ) (l : LookRequest) (o : Option LastLook) (t : SyncTable) → SameGroup t (after_last f us l o t)
after_last_group f us l None t = refl
after_last_group f us l (Some last) t =
    elim (is_look_before l last) as (λ b. SameGroup t (elim b [ true ↦ quiet t | false ↦ elim (is_same_look l last) [ true ↦ sends (packet f last.to last.body ∷ []) t | false ↦ new_look f us l (file_row t l.file.ino) t ] ])) [
      | true ↦ refl
      | false ↦ elim (is_same_look l last) as (λ b. SameGroup t (elim b [ true ↦ sends (packet f last.to last.body ∷ []) t | false ↦ new_look f us l (file_row t l.file.ino) t ])) [ true ↦ refl | false ↦ refl ]
    ]

takes_look_group : (f : Frame) (us : ℕ) (l : LookRequest) (t : SyncTable) → (takes_look f us l t).view.group ≡ t.group
takes_look_group f us l t = after_last_group f us l (row look_key (process_key us l.process) t.looks) t

takes_early_group : (f : Frame) (us : ℕ) (b : Body) (t : SyncTable) → (takes_early f us b t).view.group ≡ t.group
takes_early_group f us (body.Open serial call process request file how) t = takes_open_group f us (record { serial = serial; call = call; process = process; request = request; file = file; how = how }) t
takes_early_group f us (body.Look call process request take file what) t = takes_look_group f us (record { call = call; process = process; request = request; take = take; file = file; what = what }) t
takes_early_group f us _ t = refl

all_early_packed : (f : Frame) (es : List Early) (t : SyncTable) → Every (EarlyFact t.group) es → InTable f t → TableOut f (takes_all_early f es t)
all_early_packed f [] t g h = quiet_packed f t h
all_early_packed f (e ∷ es) t g h =
    let o : Outcome SyncTable = takes_early f e.site e.body t in
    let k : TableOut f o = early_packed f e.site e.body t g.0 h in
    table_then f o (takes_all_early f es) k (all_early_packed f es o.view (subst (λ (n : ℕ). Every (EarlyFact n) es) (sym (takes_early_group f e.site e.body t)) g.1) k.view)

-- ---- reports ----

starts_packed : (f : Frame) (t : SyncTable) → InTable f t → TableOut f (starts f t)
starts_packed f t h =
    let now : SyncTable = record t { started = true; early = [] } in
    let first : Outcome SyncTable = record { view = now; sent = notices f t; told = Shown (says.Start f.epoch t.group (flat_map brought_files t.files)) ∷ []; written = None } in
    let k : InTable f now = record { here = h.here; files = h.files; opens = h.opens; looks = h.looks; early = tt } in
    table_then f first (takes_all_early f t.early) (record { view = k; sent = notices_packed f t h; told = (tt, tt) }) (all_early_packed f t.early now h.early k)

starts_if_packed : (f : Frame) (t : SyncTable) → InTable f t → TableOut f (starts_if f t)
starts_if_packed f t h = elim (have_all_reported f t) as (λ b. TableOut f (elim b [ true ↦ starts f t | false ↦ quiet t ])) [ true ↦ starts_packed f t h | false ↦ quiet_packed f t h ]

reported_row : (f : Frame) (from : ℕ) (x : ReportedCopy) (t : SyncTable) → HasPack f.config t.group from → ReportedPacked f.config t.group x → InTable f t → InTable f (with_reported from x t)
reported_row f from x t p k h =
    let old : IsPlaced f.config t.group (known_or (unknown_file x.ino x.kind x.set) (file_row t x.ino)) = known_packed f.config t.group x.ino x.kind x.set (file_row t x.ino) k (row_there f t x.ino h) in
    let new : RowPacked f.config t.group (with_version (version_reported x) (known_or (unknown_file x.ino x.kind x.set) (file_row t x.ino))) = version_packed f.config t.group (version_reported x) (known_or (unknown_file x.ino x.kind x.set) (file_row t x.ino)) old in
    table_file f t (with_holder from x.stamp (with_version (version_reported x) (known_or (unknown_file x.ino x.kind x.set) (file_row t x.ino))))
    (held_packed f.config t.group from x.stamp (with_version (version_reported x) (known_or (unknown_file x.ino x.kind x.set) (file_row t x.ino))) p new) h

all_reported_packed : (f : Frame) (from : ℕ) (xs : List ReportedCopy) (t : SyncTable) → HasPack f.config t.group from → Every (ReportedPacked f.config t.group) xs → InTable f t → InTable f (with_all_reported from xs t)
all_reported_packed f from [] t p k h = h
all_reported_packed f from (x ∷ xs) t p k h = all_reported_packed f from xs (with_reported from x t) p k.1 (reported_row f from x t p k.0 h)

counts_packed : (f : Frame) (from : ℕ) (xs : List ReportedCopy) (t : SyncTable) → HasPack f.config t.group from → Every (ReportedPacked f.config t.group) xs → InTable f t → TableOut f (counts_report f from xs t)
counts_packed f from xs t p k h =
    elim (has t.reported from) as (λ b. TableOut f (elim b [ true ↦ quiet t | false ↦ starts_if f (with_report from xs t) ])) [
      | true ↦ quiet_packed f t h
      | false ↦ starts_if_packed f (with_report from xs t) (all_reported_packed f from xs _ p k (record { here = h.here; files = h.files; opens = h.opens; looks = h.looks; early = h.early }))
    ]

pub on_report_packed : (f : Frame) (from : ℕ) (xs : List ReportedCopy) (t : SyncTable) → HasPack f.config t.group from → Every (ReportedPacked f.config t.group) xs → InTable f t → TableOut f (on_report f from xs t)
on_report_packed f from xs t p k h = let q : TableOut f (counts_report f from xs t) = counts_packed f from xs t p k h in record { view = q.view; sent = (tt, q.sent); told = q.told }

-- ---- closes ----

published_packed : (f : Frame) (ss : ℕ) (r : OpenRow) (made : Option MadeVersion) (t : SyncTable) → HasPack f.config t.group ss → InPacks f.config t.group r.set → InTable f t → InTable f (published ss r made t)
published_packed f ss r None t p k h = h
published_packed f ss r (Some v) t p k h =
    let old : IsPlaced f.config t.group (known_or (unknown_file r.file.ino r.kind r.set) (file_row t r.file.ino)) = known_packed f.config t.group r.file.ino r.kind r.set (file_row t r.file.ino) k (row_there f t r.file.ino h) in
    table_file f t (published_row ss r v (file_row t r.file.ino)) (noted_packed f.config t.group ss v.stamp (with_version (record { stamp = v.stamp; vector = v.vector; size = v.size }) (known_or (unknown_file r.file.ino r.kind r.set) (file_row t r.file.ino))) p (version_packed f.config t.group (record { stamp = v.stamp; vector = v.vector; size = v.size }) (known_or (unknown_file r.file.ino r.kind r.set) (file_row t r.file.ino)) old)) h

published_sent : (f : Frame) (r : OpenRow) (made : Option MadeVersion) (t : SyncTable) → InTable f t → Every (PacketPacked f.config) (published_notices f r made t)
published_sent f r None t h = tt
published_sent f r (Some v) t h = row_notices_packed f t.group (file_row t r.file.ino) (row_there f t r.file.ino h)

releases_packed : (f : Frame) (ss : ℕ) (r : OpenRow) (made : Option MadeVersion) (t : SyncTable) → r.file.group ≡ t.group → HasPack f.config t.group ss → LiesAt f.config r.ss r.file.group r.set → InTable f t → TableOut f (releases f ss r made t)
releases_packed f ss r made t g p k h =
    let ended : SyncTable = with_open (record r { stage = stage.Ended }) t in
    let q : LiesAt f.config r.ss t.group r.set = of_group f.config r.ss t.group r.file.group r.set (sym g) k in
    let a : InTable f (published ss r made ended) = published_packed f ss r made ended p q.all (table_open f t (record r { stage = stage.Ended }) (record { group_is = g; lies = tt }) h) in
    record { view = a; sent = every_append (PacketPacked f.config) (published_notices f r made (published ss r made ended)) (closed_ok f ss r.inst) (published_sent f r made (published ss r made ended) a) (tt, tt); told = (tt, tt) }

closes_at_packed : (f : Frame) (ss key : ℕ) (r : OpenRow) (made : Option MadeVersion) (s : OpenStage) (t : SyncTable) → serial_key r.inst ≡ key → r.file.group ≡ t.group → StagePacked f.config r s → StageCloses f.config ss key t.group r s → InTable f t → TableOut f (closes_at f ss r made s t)
closes_at_packed f ss key r made stage.Asked t e g k c h = quiet_packed f t h
closes_at_packed f ss key r made stage.Granted t e g k c h = releases_packed f ss r made t g (c e) k h
closes_at_packed f ss key r made (stage.Refused why) t e g k c h = quiet_packed f t h
closes_at_packed f ss key r made stage.Ended t e g k c h = sends_packed f (closed_ok f ss r.inst) t (tt, tt) h

abbrev Closing : Frame → ℕ → ℕ → ℕ → OpenRow → Type 0
Closing f ss key group r = OpenPacked f.config group r × RowCloses f.config ss key group r

closed_of_packed : (f : Frame) (ss key : ℕ) (made : Option MadeVersion) (o : Option OpenRow) (t : SyncTable) → FoundAt (Closing f ss key t.group) open_key key o → InTable f t → TableOut f (on_closed_of f ss made o t)
closed_of_packed f ss key made None t k h = quiet_packed f t h
closed_of_packed f ss key made (Some r) t k h = closes_at_packed f ss key r made r.stage t k.0 k.1.0.group_is k.1.0.lies k.1.1 h

pub on_closed_packed : (f : Frame) (ss : ℕ) (inst : Serial) (made : Option MadeVersion) (t : SyncTable) → TableCloses f.config ss (serial_key inst) t → InTable f t → TableOut f (on_closed f ss inst made t)
on_closed_packed f ss inst made t c h = closed_of_packed f ss (serial_key inst) made (open_row t inst) t (row_at (Closing f ss (serial_key inst) t.group) open_key (serial_key inst) t.opens (every_and (OpenPacked f.config t.group) (RowCloses f.config ss (serial_key inst) t.group) t.opens h.opens c)) h

-- ---- what a member tells that it holds ----

pub have_packed : (f : Frame) (from : ℕ) (stamp : Stamp) (o : Option FileRow) (t : SyncTable) → HasPack f.config t.group from → Found (RowPacked f.config t.group) o → InTable f t → InTable f (on_have_of from stamp o t)
have_packed f from stamp None t p k h = h
have_packed f from stamp (Some r) t p k h = table_file f t (noted from stamp r) (noted_packed f.config t.group from stamp r p k) h

pub on_have_packed : (f : Frame) (from : ℕ) (file : FileId) (stamp : Stamp) (t : SyncTable) → HasPack f.config t.group from → InTable f t → TableOut f (on_have from file stamp t)
on_have_packed f from file stamp t p h = quiet_packed f (on_have_of from stamp (file_row t file.ino) t) (have_packed f from stamp (file_row t file.ino) t p (row_there f t file.ino h) h)
