-- Reports, the start of a group, and closes: what the synchronization site then knows of versions is as it was told.
use Rattle.std.proofs.Common.{◌≡◌, ℕ, Bool, true, false, cond, List, [], ◌∷◌, ◌++◌, Option, Some, None, refl, sym, ◌∙◌, subst}
use Rattle.std.specs.List.{list_any, flat_map}
use Rattle.locus_ids.specs.Sites.{has}
use Rattle.locus_ids.specs.declared.ids.FileId.{FileId}
use Rattle.locus_ids.specs.declared.ids.Mode.{Mode}
use Rattle.locus_ids.specs.declared.ids.Mode.TheVariants as mode
use Rattle.locus_ids.specs.declared.ids.Serial.{Serial}
use Rattle.locus_ids.specs.declared.ids.Stamp.{Stamp}
use Rattle.trace_book.specs.declared.record.Record.TheVariants as says
use Rattle.run_laws.specs.of_wire_messages.declared.body.Body.{Body}
use Rattle.run_laws.specs.of_wire_messages.declared.body.Body.TheVariants as body
use Rattle.run_laws.specs.of_wire_messages.declared.body.MadeVersion.{MadeVersion}
use Rattle.run_laws.specs.of_wire_messages.declared.body.ReportedCopy.{ReportedCopy}
use Rattle.run_laws.specs.of_role_steps.Own.{Every}
use Rattle.run_laws.specs.of_role_steps.Tables.{row}
use Rattle.run_laws.specs.of_role_steps.Views.{Frame, Told, Outcome, quiet, sends, Shown, packet, process_key, serial_key}
use Rattle.run_laws.specs.of_role_steps.Versions.{row_ino, file_row, with_version, unknown_file, known_or, with_holder, noted}
use Rattle.run_laws.specs.of_role_steps.Notices.{notices}
use Rattle.run_laws.specs.of_role_steps.Opens.{OpenRequest, Decision, Denies, Grants, decision, decides, on_open_of, takes_open, open_row, open_key, with_open}
use Rattle.run_laws.specs.of_role_steps.Looks.{LookRequest, is_look_before, is_same_look, new_look, after_last, look_key, takes_look}
use Rattle.run_laws.specs.of_role_steps.Reports.{brought_files, waits_early, is_early_of, on_open, on_look, takes_early, takes_all_early, starts, starts_if, have_all_reported, counts_report, version_reported, with_reported, with_all_reported, with_report, on_report, published_row, published, published_notices, closed_ok, releases, closes_at, on_closed_of, on_closed, on_have_of, on_have}
use Rattle.run_laws.specs.of_role_steps.declared.synchronizing.SyncTable.{SyncTable}
use Rattle.run_laws.specs.of_role_steps.declared.synchronizing.FileRow.{FileRow}
use Rattle.run_laws.specs.of_role_steps.declared.synchronizing.OpenRow.{OpenRow}
use Rattle.run_laws.specs.of_role_steps.declared.synchronizing.OpenStage.{OpenStage}
use Rattle.run_laws.specs.of_role_steps.declared.synchronizing.OpenStage.TheVariants as stage
use Rattle.run_laws.specs.of_role_steps.declared.synchronizing.LastLook.{LastLook}
use Rattle.run_laws.specs.of_role_steps.declared.synchronizing.Early.{Early}
use Rattle.run_laws.proofs.of_role_steps.Sending.{every_append}
use Rattle.run_laws.proofs.of_the_run.InsideSync.{Found, row_found}
use Rattle.site_laws.specs.Vectors.Written.{WrittenAs, InstancesAgree, WasGranted}
use Rattle.site_laws.specs.Vectors.Facts.{file_in, ReportedFact, MadeFact, MaybeMade, PacketFact, RowFact, GrantFact, OpenFact, WaitingFact, EarlyFact, TableFact, onto}
use Rattle.site_laws.proofs.Vectors.Facts.{Later, one_later, onto_later, table_later, packets_later}
use Rattle.site_laws.proofs.Vectors.SyncFacts.{FoundAt, row_at, file_eq, TableFine, table_then, version_row, noted_row, known_row, table_row, table_open, notices_fact, row_notices_fact, takes_open_fact, takes_look_fact, ended_grant}

-- ---- requests before the start ----

cond_table : (P : SyncTable → Type 0) (b : Bool) (t u : SyncTable) → P t → P u → P (cond b t u)
cond_table P true t u h g = h
cond_table P false t u h g = g

waits_fact : (past : List Told) (f : Frame) (site process : ℕ) (b : Body) (t : SyncTable) → WaitingFact t.group b → TableFact past f.epoch t → TableFact past f.epoch (waits_early site process b t)
waits_fact past f site process b t g h =
    cond_table (TableFact past f.epoch) (list_any (is_early_of site process) t.early) t (record t { early = t.early ++ record { site = site; process = process; body = b } ∷ [] }) h
    (record { files = h.files; opens = h.opens; looks = h.looks; early = every_append (EarlyFact t.group) t.early (record { site = site; process = process; body = b } ∷ []) h.early (g, tt) })

pub on_open_fact : (past : List Told) (f : Frame) (us : ℕ) (o : OpenRequest) (t : SyncTable) → o.file.group ≡ t.group → TableFact past f.epoch t → TableFine past f.epoch (on_open f us o t)
on_open_fact past f us o t g h =
    elim t.started as (λ b. TableFine past f.epoch (elim b [ true ↦ takes_open f us o t | false ↦ quiet (waits_early us o.process (body.Open o.serial o.call o.process o.request o.file o.how) t) ])) [
      | true ↦ takes_open_fact past f us o t g h
      | false ↦ (waits_fact past f us o.process (body.Open o.serial o.call o.process o.request o.file o.how) t g h, tt)
    ]

pub on_look_fact : (past : List Told) (f : Frame) (us : ℕ) (l : LookRequest) (t : SyncTable) → TableFact past f.epoch t → TableFine past f.epoch (on_look f us l t)
on_look_fact past f us l t h =
    elim t.started as (λ b. TableFine past f.epoch (elim b [ true ↦ takes_look f us l t | false ↦ quiet (waits_early us l.process (body.Look l.call l.process l.request l.take l.file l.what) t) ])) [
      | true ↦ takes_look_fact past f us l t h
      | false ↦ (waits_fact past f us l.process (body.Look l.call l.process l.request l.take l.file l.what) t tt h, tt)
    ]

-- the group of a table stays
takes_early_fact : (past : List Told) (f : Frame) (us : ℕ) (b : Body) (t : SyncTable) → WaitingFact t.group b → TableFact past f.epoch t → TableFine past f.epoch (takes_early f us b t)
takes_early_fact past f us (body.Open serial call process request file how) t g h = takes_open_fact past f us (record { serial = serial; call = call; process = process; request = request; file = file; how = how }) t g h
takes_early_fact past f us (body.Look call process request take file what) t g h = takes_look_fact past f us (record { call = call; process = process; request = request; take = take; file = file; what = what }) t h
takes_early_fact past f us _ t g h = (h, tt)

-- ---- the group of a table stays ----

decides_group : (f : Frame) (t : SyncTable) (us : ℕ) (o : OpenRequest) (d : Decision) → (decides f t us o d).view.group ≡ t.group
decides_group f t us o (Denies why) = refl
decides_group f t us o (Grants ss stamp vector parents set k) = refl

open_of_group : (f : Frame) (t : SyncTable) (us : ℕ) (o : OpenRequest) (r : Option OpenRow) → (on_open_of f t us o r).view.group ≡ t.group
open_of_group f t us o None = decides_group f t us o (decision f t us o o.how)
open_of_group f t us o (Some r) = refl

takes_open_group : (f : Frame) (us : ℕ) (o : OpenRequest) (t : SyncTable) → (takes_open f us o t).view.group ≡ t.group
takes_open_group f us o t = open_of_group f t us o (open_row t (record { us = us; serial = o.serial }))

abbrev SameGroup : SyncTable → Outcome SyncTable → Type 0
SameGroup t o = o.view.group ≡ t.group

after_last_group : (f : Frame) (us : ℕ) (l : LookRequest) (o : Option LastLook) (t : SyncTable) → SameGroup t (after_last f us l o t)
after_last_group f us l None t = refl
after_last_group f us l (Some last) t =
    elim (is_look_before l last) as (λ b. SameGroup t (elim b [ true ↦ quiet t | false ↦ elim (is_same_look l last) [ true ↦ sends (packet f last.to last.body ∷ []) t | false ↦ new_look f us l (file_row t l.file.ino) t ] ])) [
      | true ↦ refl
      | false ↦ elim (is_same_look l last) as (λ b. SameGroup t (elim b [ true ↦ sends (packet f last.to last.body ∷ []) t | false ↦ new_look f us l (file_row t l.file.ino) t ])) [ true ↦ refl | false ↦ refl ]
    ]

takes_look_group : (f : Frame) (us : ℕ) (l : LookRequest) (t : SyncTable) → (takes_look f us l t).view.group ≡ t.group
takes_look_group f us l t = after_last_group f us l (row look_key (process_key us l.process) t.looks) t

takes_early_group : (f : Frame) (us : ℕ) (b : Body) (t : SyncTable) → (takes_early f us b t).view.group ≡ t.group
takes_early_group f us (body.Open serial call process request file how) t = takes_open_group f us (record { serial = serial; call = call; process = process; request = request; file = file; how = how }) t
takes_early_group f us (body.Look call process request take file what) t = takes_look_group f us (record { call = call; process = process; request = request; take = take; file = file; what = what }) t
takes_early_group f us _ t = refl

early_same : (a b : ℕ) (es : List Early) → a ≡ b → Every (EarlyFact a) es → Every (EarlyFact b) es
early_same a b es e h = subst (λ (g : ℕ). Every (EarlyFact g) es) e h

takes_all_early_fact : (past : List Told) (f : Frame) (es : List Early) (t : SyncTable) → Every (EarlyFact t.group) es → TableFact past f.epoch t → TableFine past f.epoch (takes_all_early f es t)
takes_all_early_fact past f [] t g h = (h, tt)
takes_all_early_fact past f (e ∷ es) t g h =
    let o : Outcome SyncTable = takes_early f e.site e.body t in
    let k : TableFine past f.epoch o = takes_early_fact past f e.site e.body t g.0 h in
    table_then past f.epoch o (takes_all_early f es) k (takes_all_early_fact (onto o.told past) f es o.view (early_same t.group o.view.group es (sym (takes_early_group f e.site e.body t)) g.1) k.0)

-- ---- reports ----

starts_fact : (past : List Told) (f : Frame) (t : SyncTable) → TableFact past f.epoch t → TableFine past f.epoch (starts f t)
starts_fact past f t h =
    let now : SyncTable = record t { started = true; early = [] } in
    let says_start : Told = Shown (says.Start f.epoch t.group (flat_map brought_files t.files)) in
    let later : Later past (says_start ∷ past) = one_later says_start past in
    let k : TableFact (says_start ∷ past) f.epoch t = table_later past (says_start ∷ past) later f.epoch t h in
    let g : TableFact (says_start ∷ past) f.epoch now = record { files = k.files; opens = k.opens; looks = k.looks; early = tt } in
    table_then past f.epoch (record { view = now; sent = notices f t; told = says_start ∷ []; written = None }) (takes_all_early f t.early)
    (g, packets_later past (says_start ∷ past) later (notices f t) (notices_fact past f f.epoch t h))
    (takes_all_early_fact (says_start ∷ past) f t.early now h.early g)

starts_if_fact : (past : List Told) (f : Frame) (t : SyncTable) → TableFact past f.epoch t → TableFine past f.epoch (starts_if f t)
starts_if_fact past f t h = elim (have_all_reported f t) as (λ b. TableFine past f.epoch (elim b [ true ↦ starts f t | false ↦ quiet t ])) [ true ↦ starts_fact past f t h | false ↦ (h, tt) ]

reported_fact : (past : List Told) (f : Frame) (from : ℕ) (x : ReportedCopy) (t : SyncTable) → ReportedFact past t.group x → TableFact past f.epoch t → TableFact past f.epoch (with_reported from x t)
reported_fact past f from x t r h =
    let known : FileRow = known_or (unknown_file x.ino x.kind x.set) (file_row t x.ino) in
    let k : (known.ino ≡ x.ino) × RowFact past t.group known = known_row past t.group x.ino x.kind x.set (file_row t x.ino) (row_at (RowFact past t.group) row_ino x.ino t.files h.files) in
    let q : RowFact past t.group (with_version (version_reported x) known) = version_row past t.group (version_reported x) known (subst (λ (ino : ℕ). WrittenAs past (file_in t.group ino) x.stamp x.vector) (sym k.0) r) k.1 in
    table_row past f.epoch t (with_holder from x.stamp (with_version (version_reported x) known)) (record { versions = q.versions; kept = q.kept }) h

all_reported_fact : (past : List Told) (f : Frame) (from : ℕ) (xs : List ReportedCopy) (t : SyncTable) → Every (ReportedFact past t.group) xs → TableFact past f.epoch t → TableFact past f.epoch (with_all_reported from xs t)
all_reported_fact past f from [] t r h = h
all_reported_fact past f from (x ∷ xs) t r h = all_reported_fact past f from xs (with_reported from x t) r.1 (reported_fact past f from x t r.0 h)

counts_report_fact : (past : List Told) (f : Frame) (from : ℕ) (xs : List ReportedCopy) (t : SyncTable) → Every (ReportedFact past t.group) xs → TableFact past f.epoch t → TableFine past f.epoch (counts_report f from xs t)
counts_report_fact past f from xs t r h =
    elim (has t.reported from) as (λ b. TableFine past f.epoch (elim b [ true ↦ quiet t | false ↦ starts_if f (with_report from xs t) ])) [
      | true ↦ (h, tt)
      | false ↦ starts_if_fact past f (with_report from xs t) (all_reported_fact past f from xs _ r (record { files = h.files; opens = h.opens; looks = h.looks; early = h.early }))
    ]

pub on_report_fact : (past : List Told) (f : Frame) (from : ℕ) (xs : List ReportedCopy) (t : SyncTable) → Every (ReportedFact past t.group) xs → TableFact past f.epoch t → TableFine past f.epoch (on_report f from xs t)
on_report_fact past f from xs t r h = let k : TableFine past f.epoch (counts_report f from xs t) = counts_report_fact past f from xs t r h in (k.0, (tt, k.1))

-- ---- closes ----

-- what an instance made last is a version of the file that was granted
made_here : (past : List Told) (f : Frame) (inst : Serial) (t : SyncTable) (r : OpenRow) (m : MadeVersion) → InstancesAgree past → open_key r ≡ serial_key inst → r.file.group ≡ t.group → WasGranted past f.epoch (serial_key r.inst) r.file → MadeFact past f.epoch (serial_key inst) m → WrittenAs past (file_in t.group r.file.ino) m.stamp m.vector
made_here past f inst t r m agree key group granted made =
    let same : made.file ≡ r.file = agree f.epoch (serial_key inst) made.file r.file made.begun (subst (λ (k : ℕ). WasGranted past f.epoch k r.file) key granted) in
    subst (λ (file : FileId). WrittenAs past file m.stamp m.vector) (same ∙ file_eq r.file t.group r.file.ino group refl) made.written

published_fact : (past : List Told) (f : Frame) (ss : ℕ) (inst : Serial) (r : OpenRow) (made : Option MadeVersion) (t : SyncTable) → InstancesAgree past → open_key r ≡ serial_key inst → r.file.group ≡ t.group → WasGranted past f.epoch (serial_key r.inst) r.file → MaybeMade past f.epoch (serial_key inst) made → TableFact past f.epoch t → TableFact past f.epoch (published ss r made t)
published_fact past f ss inst r None t agree key group granted made h = h
published_fact past f ss inst r (Some v) t agree key group granted made h =
    let known : FileRow = known_or (unknown_file r.file.ino r.kind r.set) (file_row t r.file.ino) in
    let k : (known.ino ≡ r.file.ino) × RowFact past t.group known = known_row past t.group r.file.ino r.kind r.set (file_row t r.file.ino) (row_at (RowFact past t.group) row_ino r.file.ino t.files h.files) in
    let w : WrittenAs past (file_in t.group known.ino) v.stamp v.vector = subst (λ (ino : ℕ). WrittenAs past (file_in t.group ino) v.stamp v.vector) (sym k.0) (made_here past f inst t r v agree key group granted made) in
    table_row past f.epoch t (published_row ss r v (file_row t r.file.ino)) (noted_row past t.group ss v.stamp _ (version_row past t.group (record { stamp = v.stamp; vector = v.vector; size = v.size }) known w k.1)) h

published_sent : (past : List Told) (f : Frame) (r : OpenRow) (made : Option MadeVersion) (t : SyncTable) → TableFact past f.epoch t → Every (PacketFact past) (published_notices f r made t)
published_sent past f r None t h = tt
published_sent past f r (Some v) t h = row_notices_fact past f t.group (file_row t r.file.ino) (row_found (RowFact past t.group) row_ino r.file.ino t.files h.files)

releases_fact : (past : List Told) (f : Frame) (ss : ℕ) (inst : Serial) (r : OpenRow) (made : Option MadeVersion) (t : SyncTable) → InstancesAgree past → open_key r ≡ serial_key inst → OpenFact past f.epoch t.group r → WasGranted past f.epoch (serial_key r.inst) r.file → MaybeMade past f.epoch (serial_key inst) made → TableFact past f.epoch t → TableFine past f.epoch (releases f ss r made t)
releases_fact past f ss inst r made t agree key k granted m h =
    let ended : SyncTable = with_open (record r { stage = stage.Ended }) t in
    let now : List Told = onto (releases f ss r made t).told past in
    let later : Later past now = onto_later (releases f ss r made t).told past in
    let a : TableFact past f.epoch ended = table_open past f.epoch t (record r { stage = stage.Ended }) (record { group_is = k.group_is; base = k.base; granted = ended_grant past f.epoch (record r { stage = stage.Ended }) r.mode }) h in
    let b : TableFact past f.epoch (published ss r made ended) = published_fact past f ss inst r made ended agree key k.group_is granted m a in (
      table_later past now later f.epoch (published ss r made ended) b,
      packets_later past now later (published_notices f r made (published ss r made ended) ++ closed_ok f ss r.inst)
          (every_append (PacketFact past) (published_notices f r made (published ss r made ended)) (closed_ok f ss r.inst) (published_sent past f r made (published ss r made ended) b) (tt, tt)),
    )

granted_now : (past : List Told) (f : Frame) (r : OpenRow) (m : Mode) → GrantFact past f.epoch r m stage.Granted → WasGranted past f.epoch (serial_key r.inst) r.file
granted_now past f r mode.Make h = h
granted_now past f r mode.Read h = h
granted_now past f r mode.Write h = h
granted_now past f r mode.Resolve h = h
granted_now past f r mode.Mend h = h

closes_at_fact : (past : List Told) (f : Frame) (ss : ℕ) (inst : Serial) (r : OpenRow) (made : Option MadeVersion) (s : OpenStage) (t : SyncTable) → InstancesAgree past → open_key r ≡ serial_key inst → r.stage ≡ s → OpenFact past f.epoch t.group r → MaybeMade past f.epoch (serial_key inst) made → TableFact past f.epoch t → TableFine past f.epoch (closes_at f ss r made s t)
closes_at_fact past f ss inst r made stage.Asked t agree key at k m h = (h, tt)
closes_at_fact past f ss inst r made stage.Granted t agree key at k m h = releases_fact past f ss inst r made t agree key k (granted_now past f r r.mode (subst (GrantFact past f.epoch r r.mode) at k.granted)) m h
closes_at_fact past f ss inst r made (stage.Refused why) t agree key at k m h = (h, tt)
closes_at_fact past f ss inst r made stage.Ended t agree key at k m h = (h, (tt, tt))

on_closed_of_fact : (past : List Told) (f : Frame) (ss : ℕ) (inst : Serial) (made : Option MadeVersion) (o : Option OpenRow) (t : SyncTable) → InstancesAgree past → FoundAt (OpenFact past f.epoch t.group) open_key (serial_key inst) o → MaybeMade past f.epoch (serial_key inst) made → TableFact past f.epoch t → TableFine past f.epoch (on_closed_of f ss made o t)
on_closed_of_fact past f ss inst made None t agree k m h = (h, tt)
on_closed_of_fact past f ss inst made (Some r) t agree k m h = closes_at_fact past f ss inst r made r.stage t agree k.0 refl k.1 m h

pub on_closed_fact : (past : List Told) (f : Frame) (ss : ℕ) (inst : Serial) (made : Option MadeVersion) (t : SyncTable) → InstancesAgree past → MaybeMade past f.epoch (serial_key inst) made → TableFact past f.epoch t → TableFine past f.epoch (on_closed f ss inst made t)
on_closed_fact past f ss inst made t agree m h = on_closed_of_fact past f ss inst made (open_row t inst) t agree (row_at (OpenFact past f.epoch t.group) open_key (serial_key inst) t.opens h.opens) m h

-- ---- what a member tells that it holds ----

pub have_fact : (past : List Told) (f : Frame) (from : ℕ) (stamp : Stamp) (o : Option FileRow) (t : SyncTable) → Found (RowFact past t.group) o → TableFact past f.epoch t → TableFact past f.epoch (on_have_of from stamp o t)
have_fact past f from stamp None t k h = h
have_fact past f from stamp (Some r) t k h = table_row past f.epoch t (noted from stamp r) (noted_row past t.group from stamp r k) h

pub on_have_fact : (past : List Told) (f : Frame) (from : ℕ) (file : FileId) (stamp : Stamp) (t : SyncTable) → TableFact past f.epoch t → TableFine past f.epoch (on_have from file stamp t)
on_have_fact past f from file stamp t h = (have_fact past f from stamp (file_row t file.ino) t (row_found (RowFact past t.group) row_ino file.ino t.files h.files) h, tt)
