-- Looks, reports, the start of a group, and closes: what the synchronization site then keeps of instances.
use Rattle.std.proofs.Common.{◌≡◌, ℕ, Bool, true, false, cond, List, [], ◌∷◌, ◌++◌, Option, Some, None, refl, sym, subst}
use Rattle.std.specs.List.{list_any, flat_map}
use Rattle.locus_ids.specs.Sites.{has}
use Rattle.locus_ids.specs.declared.ids.FileId.{FileId}
use Rattle.locus_ids.specs.declared.ids.Serial.{Serial}
use Rattle.locus_ids.specs.declared.ids.Stamp.{Stamp}
use Rattle.trace_book.specs.declared.operation.What.{What}
use Rattle.trace_book.specs.declared.operation.What.TheVariants as what
use Rattle.trace_book.specs.declared.record.Record.TheVariants as says
use Rattle.wire_messages.specs.declared.packet.Packet.{Packet}
use Rattle.wire_messages.specs.declared.body.Body.{Body}
use Rattle.wire_messages.specs.declared.body.Body.TheVariants as body
use Rattle.wire_messages.specs.declared.body.MadeVersion.{MadeVersion}
use Rattle.wire_messages.specs.declared.body.ReportedCopy.{ReportedCopy}
use Rattle.role_steps.specs.Own.{Every}
use Rattle.role_steps.specs.Tables.{row}
use Rattle.role_steps.specs.Views.{Frame, Shown, Outcome, quiet, sends, packet, process_key, serial_key}
use Rattle.role_steps.specs.Versions.{file_row, holders_of, chosen_site}
use Rattle.role_steps.specs.Notices.{lagging, notice, notices_of, notices_by, file_notices, notices, row_notices}
use Rattle.role_steps.specs.Opens.{OpenRequest, takes_open, open_row, open_key, with_open}
use Rattle.role_steps.specs.Looks.{LookRequest, Service, Denies as Unserved, Serves, service, letter, serving_letter, last_look, is_look_before, is_same_look, new_look, after_last, takes_look, look_key}
use Rattle.role_steps.specs.Reports.{brought_files, waits_early, is_early_of, on_open, on_look, takes_early, takes_all_early, starts, starts_if, have_all_reported, counts_report, with_reported, with_all_reported, with_report, on_report, published, published_notices, closed_ok, releases, closes_at, on_closed_of, on_closed, on_have_of, on_have, sync_repeats}
use Rattle.role_steps.specs.declared.synchronizing.SyncTable.{SyncTable}
use Rattle.role_steps.specs.declared.synchronizing.FileRow.{FileRow}
use Rattle.role_steps.specs.declared.synchronizing.VersionRow.{VersionRow}
use Rattle.role_steps.specs.declared.synchronizing.OpenRow.{OpenRow}
use Rattle.role_steps.specs.declared.synchronizing.OpenStage.{OpenStage}
use Rattle.role_steps.specs.declared.synchronizing.OpenStage.TheVariants as stage
use Rattle.role_steps.specs.declared.synchronizing.LastLook.{LastLook}
use Rattle.role_steps.specs.declared.synchronizing.Early.{Early}
use Rattle.role_steps.proofs.Sending.{every_append, every_cond, every_map, every_flat_map}
use Rattle.the_run.specs.Kept.{Among}
use Rattle.the_run.proofs.InsideSync.{every_row, Found, row_found}
use Rattle.site_laws.specs.Packs.InstanceBook.{Listed, Book, AskedBy, Sound}
use Rattle.site_laws.specs.Packs.InstanceFacts.{PacketFact, NoFact, Factless, OpenFact, own_serial, EarlyOf, EarlyFact, LookFact, TableFact}
use Rattle.site_laws.proofs.Packs.InstanceBooks.{no_fact, factless, earlies_later}
use Rattle.site_laws.proofs.Packs.InstanceSyncFacts.{InTable, TableFine, still, table_then, table_open, takes_open_fine}

-- ---- notices ----

notices_of_factless : (f : Frame) (group : ℕ) (r : FileRow) (v : VersionRow) (o : Option ℕ) → Every Factless (notices_of f group r v o)
notices_of_factless f group r v None = tt
notices_of_factless f group r v (Some holder) = every_map Factless (notice f group r v holder) (lagging f r (holders_of r v.stamp)) (λ s. tt)

notices_by_factless : (f : Frame) (group : ℕ) (r : FileRow) (vs : List VersionRow) → Every Factless (notices_by f group r vs)
notices_by_factless f group r [] = tt
notices_by_factless f group r (v ∷ []) = notices_of_factless f group r v (chosen_site f.me f.me (holders_of r v.stamp))
notices_by_factless f group r (v ∷ w ∷ others) = tt

notices_factless : (f : Frame) (t : SyncTable) → Every Factless (notices f t)
notices_factless f t = every_flat_map Factless (file_notices f t.group) t.files (λ r. notices_by_factless f t.group r r.kept)

row_notices_factless : (f : Frame) (group : ℕ) (o : Option FileRow) → Every Factless (row_notices f group o)
row_notices_factless f group None = tt
row_notices_factless f group (Some r) = notices_by_factless f group r r.kept

pub sync_repeats_factless : (f : Frame) (t : SyncTable) → Every Factless (sync_repeats f t)
sync_repeats_factless f t = every_cond Factless t.started (notices f t) [] (notices_factless f t) tt

-- ---- looks ----

serving_factless : (us : ℕ) (l : LookRequest) (r : FileRow) (v : VersionRow) (site : ℕ) (w : What) → NoFact (serving_letter us l r v site w).body
serving_factless us l r v site (what.Name component) = tt
serving_factless us l r v site what.List = tt
serving_factless us l r v site what.Stat = tt
serving_factless us l r v site (what.Whole stamp) = tt

letter_factless : (us : ℕ) (l : LookRequest) (known : Option FileRow) (x : Service) → NoFact (letter us l known x).body
letter_factless us l known (Unserved why) = tt
letter_factless us l None (Serves v site) = tt
letter_factless us l (Some r) (Serves v site) = serving_factless us l r v site l.what

new_look_fine : (f : Frame) (book : Book) (us : ℕ) (l : LookRequest) (known : Option FileRow) (t : SyncTable) → Sound f.config book → TableFact book f t → TableFine f t.group book (new_look f us l known t)
new_look_fine f book us l known t s h =
    let x : Service = service f us l.what known in
    let p : NoFact (letter us l known x).body = letter_factless us l known x in
    still f t.group book (new_look f us l known t) s
    (record { css_is = h.css_is; boot_is = h.boot_is; opens = h.opens; looks = every_row LookFact look_key (last_look us l (letter us l known x)) t.looks p h.looks; early = h.early; has = h.has }, refl)
    (no_fact book (packet f (letter us l known x).to (letter us l known x).body) (letter us l known x).body p, tt) (tt, tt)

after_last_fine : (f : Frame) (book : Book) (us : ℕ) (l : LookRequest) (o : Option LastLook) (t : SyncTable) → Sound f.config book → Found LookFact o → TableFact book f t → TableFine f t.group book (after_last f us l o t)
after_last_fine f book us l None t s k h = new_look_fine f book us l (file_row t l.file.ino) t s h
after_last_fine f book us l (Some last) t s k h =
    elim (is_look_before l last) as (λ b. TableFine f t.group book (elim b [ true ↦ quiet t | false ↦ elim (is_same_look l last) [ true ↦ sends (packet f last.to last.body ∷ []) t | false ↦ new_look f us l (file_row t l.file.ino) t ] ])) [
      | true ↦ still f t.group book (quiet t) s (h, refl) tt tt
      | false ↦ elim (is_same_look l last) as (λ b. TableFine f t.group book (elim b [ true ↦ sends (packet f last.to last.body ∷ []) t | false ↦ new_look f us l (file_row t l.file.ino) t ])) [
        | true ↦ still f t.group book (sends (packet f last.to last.body ∷ []) t) s (h, refl) (no_fact book (packet f last.to last.body) last.body k, tt) tt
        | false ↦ new_look_fine f book us l (file_row t l.file.ino) t s h
      ]
    ]

takes_look_fine : (f : Frame) (book : Book) (us : ℕ) (l : LookRequest) (t : SyncTable) → Sound f.config book → TableFact book f t → TableFine f t.group book (takes_look f us l t)
takes_look_fine f book us l t s h = after_last_fine f book us l (row look_key (process_key us l.process) t.looks) t s (row_found LookFact look_key (process_key us l.process) t.looks h.looks) h

-- ---- requests that wait for the start ----

cond_table : (P : SyncTable → Type 0) (b : Bool) (t u : SyncTable) → P t → P u → P (cond b t u)
cond_table P true t u h g = h
cond_table P false t u h g = g

waits_fact : (book : Book) (f : Frame) (site process : ℕ) (b : Body) (t : SyncTable) → EarlyOf book f t.group site b → TableFact book f t → InTable f t.group book (waits_early site process b t)
waits_fact book f site process b t k h =
    cond_table (InTable f t.group book) (list_any (is_early_of site process) t.early) t (record t { early = t.early ++ record { site = site; process = process; body = b } ∷ [] }) (h, refl)
    (record { css_is = h.css_is; boot_is = h.boot_is; opens = h.opens; looks = h.looks; early = every_append (EarlyFact book f t.group) t.early (record { site = site; process = process; body = b } ∷ []) h.early (k, tt); has = h.has }, refl)

pub on_open_fine : (f : Frame) (book : Book) (us : ℕ) (o : OpenRequest) (t : SyncTable) → Sound f.config book → Among (Listed f.epoch f.members) book → AskedBy book f.members (own_serial us o.serial) o.file o.how → o.file.group ≡ t.group → TableFact book f t → TableFine f t.group book (on_open f us o t)
on_open_fine f book us o t s listed asked group h =
    elim t.started as (λ b. TableFine f t.group book (elim b [ true ↦ takes_open f us o t | false ↦ quiet (waits_early us o.process (body.Open o.serial o.call o.process o.request o.file o.how) t) ])) [
      | true ↦ takes_open_fine f book t us o s (record { listed = listed; asked = asked; group_is = group }) h
      | false ↦ still f t.group book (quiet (waits_early us o.process (body.Open o.serial o.call o.process o.request o.file o.how) t)) s (waits_fact book f us o.process (body.Open o.serial o.call o.process o.request o.file o.how) t (asked, group) h) tt tt
    ]

pub on_look_fine : (f : Frame) (book : Book) (us : ℕ) (l : LookRequest) (t : SyncTable) → Sound f.config book → TableFact book f t → TableFine f t.group book (on_look f us l t)
on_look_fine f book us l t s h =
    elim t.started as (λ b. TableFine f t.group book (elim b [ true ↦ takes_look f us l t | false ↦ quiet (waits_early us l.process (body.Look l.call l.process l.request l.take l.file l.what) t) ])) [
      | true ↦ takes_look_fine f book us l t s h
      | false ↦ still f t.group book (quiet (waits_early us l.process (body.Look l.call l.process l.request l.take l.file l.what) t)) s (waits_fact book f us l.process (body.Look l.call l.process l.request l.take l.file l.what) t tt h) tt tt
    ]

early_fine : (f : Frame) (book : Book) (us : ℕ) (b : Body) (t : SyncTable) → Sound f.config book → Among (Listed f.epoch f.members) book → EarlyOf book f t.group us b → TableFact book f t → TableFine f t.group book (takes_early f us b t)
early_fine f book us (body.Open serial call process request file how) t s listed k h = takes_open_fine f book t us (record { serial = serial; call = call; process = process; request = request; file = file; how = how }) s (record { listed = listed; asked = k.0; group_is = k.1 }) h
early_fine f book us (body.Look call process request take file what) t s listed k h = takes_look_fine f book us (record { call = call; process = process; request = request; take = take; file = file; what = what }) t s h
early_fine f book us _ t s listed k h = still f t.group book (quiet t) s (h, refl) tt tt

-- the group of the table is known by its number
early_at : (f : Frame) (group : ℕ) (book : Book) (us : ℕ) (b : Body) (t : SyncTable) → Sound f.config book → Among (Listed f.epoch f.members) book → EarlyOf book f group us b → InTable f group book t → TableFine f group book (takes_early f us b t)
early_at f group book us b t s listed k h = subst (λ (g : ℕ). TableFine f g book (takes_early f us b t)) h.1 (early_fine f book us b t s listed (subst (λ (g : ℕ). EarlyOf book f g us b) (sym h.1) k) h.0)

all_early_fine : (f : Frame) (group : ℕ) (book : Book) (es : List Early) (t : SyncTable) → Sound f.config book → Among (Listed f.epoch f.members) book → Every (EarlyFact book f group) es → InTable f group book t → TableFine f group book (takes_all_early f es t)
all_early_fine f group book [] t s listed k h = still f group book (quiet t) s h tt tt
all_early_fine f group book (e ∷ es) t s listed k h =
    table_then f group book (takes_early f e.site e.body t) (takes_all_early f es) (early_at f group book e.site e.body t s listed k.0 h)
    (λ b sound leads g. all_early_fine f group b es (takes_early f e.site e.body t).view sound (leads (Listed f.epoch f.members) listed) (earlies_later book b leads f group es k.1) g)

-- ---- reports ----

starts_fine : (f : Frame) (book : Book) (t : SyncTable) → Sound f.config book → Among (Listed f.epoch f.members) book → TableFact book f t → TableFine f t.group book (starts f t)
starts_fine f book t s listed h =
    let now : SyncTable = record t { started = true; early = [] } in
    let first : Outcome SyncTable = record { view = now; sent = notices f t; told = Shown (says.Start f.epoch t.group (flat_map brought_files t.files)) ∷ []; written = None } in
    table_then f t.group book first (takes_all_early f t.early)
    (still f t.group book first s (record { css_is = h.css_is; boot_is = h.boot_is; opens = h.opens; looks = h.looks; early = tt; has = h.has }, refl) (factless book (notices f t) (notices_factless f t)) (tt, tt))
    (λ b sound leads g. all_early_fine f t.group b t.early now sound (leads (Listed f.epoch f.members) listed) (earlies_later book b leads f t.group t.early h.early) g)

starts_if_fine : (f : Frame) (book : Book) (t : SyncTable) → Sound f.config book → Among (Listed f.epoch f.members) book → TableFact book f t → TableFine f t.group book (starts_if f t)
starts_if_fine f book t s listed h = elim (have_all_reported f t) as (λ b. TableFine f t.group book (elim b [ true ↦ starts f t | false ↦ quiet t ])) [ true ↦ starts_fine f book t s listed h | false ↦ still f t.group book (quiet t) s (h, refl) tt tt ]

all_reported_fact : (book : Book) (f : Frame) (group from : ℕ) (xs : List ReportedCopy) (t : SyncTable) → InTable f group book t → InTable f group book (with_all_reported from xs t)
all_reported_fact book f group from [] t h = h
all_reported_fact book f group from (x ∷ xs) t h = all_reported_fact book f group from xs (with_reported from x t) (record { css_is = h.0.css_is; boot_is = h.0.boot_is; opens = h.0.opens; looks = h.0.looks; early = h.0.early; has = h.0.has }, h.1)

starts_at : (f : Frame) (group : ℕ) (book : Book) (t : SyncTable) → Sound f.config book → Among (Listed f.epoch f.members) book → InTable f group book t → TableFine f group book (starts_if f t)
starts_at f group book t s listed h = subst (λ (g : ℕ). TableFine f g book (starts_if f t)) h.1 (starts_if_fine f book t s listed h.0)

counts_fine : (f : Frame) (book : Book) (from : ℕ) (xs : List ReportedCopy) (t : SyncTable) → Sound f.config book → Among (Listed f.epoch f.members) book → TableFact book f t → TableFine f t.group book (counts_report f from xs t)
counts_fine f book from xs t s listed h =
    elim (has t.reported from) as (λ b. TableFine f t.group book (elim b [ true ↦ quiet t | false ↦ starts_if f (with_report from xs t) ])) [
      | true ↦ still f t.group book (quiet t) s (h, refl) tt tt
      | false ↦ starts_at f t.group book (with_report from xs t) s listed (all_reported_fact book f t.group from xs _ (record { css_is = h.css_is; boot_is = h.boot_is; opens = h.opens; looks = h.looks; early = h.early; has = h.has }, refl))
    ]

pub on_report_fine : (f : Frame) (book : Book) (from : ℕ) (xs : List ReportedCopy) (t : SyncTable) → Sound f.config book → Among (Listed f.epoch f.members) book → TableFact book f t → TableFine f t.group book (on_report f from xs t)
on_report_fine f book from xs t s listed h =
    let k : TableFine f t.group book (counts_report f from xs t) = counts_fine f book from xs t s listed h in
    record { book = k.book; grown = k.grown; sound = k.sound; view = k.view; sent = (tt, k.sent); told = k.told }

-- ---- closes ----

published_fact : (book : Book) (f : Frame) (group ss : ℕ) (r : OpenRow) (made : Option MadeVersion) (t : SyncTable) → InTable f group book t → InTable f group book (published ss r made t)
published_fact book f group ss r None t h = h
published_fact book f group ss r (Some v) t h = (record { css_is = h.0.css_is; boot_is = h.0.boot_is; opens = h.0.opens; looks = h.0.looks; early = h.0.early; has = h.0.has }, h.1)

published_factless : (f : Frame) (r : OpenRow) (made : Option MadeVersion) (t : SyncTable) → Every Factless (published_notices f r made t)
published_factless f r None t = tt
published_factless f r (Some v) t = row_notices_factless f t.group (file_row t r.file.ino)

releases_fine : (f : Frame) (book : Book) (ss : ℕ) (r : OpenRow) (made : Option MadeVersion) (t : SyncTable) → OpenFact book f t.group r → Sound f.config book → TableFact book f t → TableFine f t.group book (releases f ss r made t)
releases_fine f book ss r made t k s h =
    let ended : SyncTable = with_open (record r { stage = stage.Ended }) t in
    let a : TableFact book f ended = table_open book f t (record r { stage = stage.Ended }) (record { file = k.file; how = k.how; asked = k.asked; mode_is = k.mode_is; group_is = k.group_is; is_for = k.is_for; placed = tt }) h in
    let p : List Packet = published_notices f r made (published ss r made ended) in
    still f t.group book (releases f ss r made t) s (published_fact book f t.group ss r made ended (a, refl))
    (every_append (PacketFact book) p (closed_ok f ss r.inst) (factless book p (published_factless f r made (published ss r made ended))) (tt, tt)) (tt, tt)

closes_at_fine : (f : Frame) (book : Book) (ss : ℕ) (r : OpenRow) (made : Option MadeVersion) (x : OpenStage) (t : SyncTable) → OpenFact book f t.group r → Sound f.config book → TableFact book f t → TableFine f t.group book (closes_at f ss r made x t)
closes_at_fine f book ss r made stage.Asked t k s h = still f t.group book (quiet t) s (h, refl) tt tt
closes_at_fine f book ss r made stage.Granted t k s h = releases_fine f book ss r made t k s h
closes_at_fine f book ss r made (stage.Refused why) t k s h = still f t.group book (quiet t) s (h, refl) tt tt
closes_at_fine f book ss r made stage.Ended t k s h = still f t.group book (sends (closed_ok f ss r.inst) t) s (h, refl) (tt, tt) tt

closed_of_fine : (f : Frame) (book : Book) (ss : ℕ) (made : Option MadeVersion) (o : Option OpenRow) (t : SyncTable) → Found (OpenFact book f t.group) o → Sound f.config book → TableFact book f t → TableFine f t.group book (on_closed_of f ss made o t)
closed_of_fine f book ss made None t k s h = still f t.group book (quiet t) s (h, refl) tt tt
closed_of_fine f book ss made (Some r) t k s h = closes_at_fine f book ss r made r.stage t k s h

pub on_closed_fine : (f : Frame) (book : Book) (ss : ℕ) (inst : Serial) (made : Option MadeVersion) (t : SyncTable) → Sound f.config book → TableFact book f t → TableFine f t.group book (on_closed f ss inst made t)
on_closed_fine f book ss inst made t s h = closed_of_fine f book ss made (open_row t inst) t (row_found (OpenFact book f t.group) open_key (serial_key inst) t.opens h.opens) s h

-- ---- what a member tells that it holds ----

pub have_fact : (book : Book) (f : Frame) (group from : ℕ) (stamp : Stamp) (o : Option FileRow) (t : SyncTable) → InTable f group book t → InTable f group book (on_have_of from stamp o t)
have_fact book f group from stamp None t h = h
have_fact book f group from stamp (Some r) t h = (record { css_is = h.0.css_is; boot_is = h.0.boot_is; opens = h.0.opens; looks = h.0.looks; early = h.0.early; has = h.0.has }, h.1)

pub on_have_fine : (f : Frame) (book : Book) (from : ℕ) (file : FileId) (stamp : Stamp) (t : SyncTable) → Sound f.config book → TableFact book f t → TableFine f t.group book (on_have from file stamp t)
on_have_fine f book from file stamp t s h = still f t.group book (on_have from file stamp t) s (have_fact book f t.group from stamp (file_row t file.ino) t (h, refl)) tt tt
