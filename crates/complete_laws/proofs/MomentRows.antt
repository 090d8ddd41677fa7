-- The numbers in a table stay those of inodes, whatever its group is asked or told: only a report and a close bring new ones.
use Rattle.std.proofs.Common.{◌≡◌, ℕ, Bool, true, false, cond, List, [], ◌∷◌, Option, None, Some, refl, sym, ◌∙◌, subst}
use Rattle.std.specs.List.{AllByRecursion, list_any}
use Rattle.locus_ids.specs.Sites.{has, with_site}
use Rattle.locus_ids.specs.declared.ids.Serial.{Serial}
use Rattle.locus_ids.specs.declared.ids.Stamp.{Stamp}
use Rattle.wire_messages.specs.declared.body.Body.{Body}
use Rattle.wire_messages.specs.declared.body.Body.TheVariants as body
use Rattle.wire_messages.specs.declared.body.MadeVersion.{MadeVersion}
use Rattle.wire_messages.specs.declared.body.OpenedAs.{OpenedAs}
use Rattle.wire_messages.specs.declared.body.OpenedAs.TheVariants as opened
use Rattle.wire_messages.specs.declared.body.ReportedCopy.{ReportedCopy}
use Rattle.role_steps.specs.Looks.{LookRequest, after_last, is_look_before, is_same_look, look_key, new_look, takes_look}
use Rattle.role_steps.specs.Opens.{Decision, Denies, Grants, OpenRequest, answers_open, by_stage, decides, decision, on_open_of, on_opened, on_opened_of, open_row, takes_open, with_open}
use Rattle.role_steps.specs.Own.{Every}
use Rattle.role_steps.specs.Reports.{closes_at, have_all_reported, is_early_of, on_closed, on_closed_of, on_have_of, on_look, on_open, on_report, published, published_row, starts, starts_if, takes_all_early, takes_early, version_reported, waits_early, with_all_reported, with_report, with_reported}
use Rattle.role_steps.specs.Tables.{row, with_row}
use Rattle.role_steps.specs.Versions.{file_row, holding_of, known_or, noted, noted_at, noted_of, rises_to, row_ino, unknown_file, version_of, with_holder, with_version}
use Rattle.role_steps.specs.Views.{Frame, Outcome, process_key, quiet, sends}
use Rattle.wire_messages.specs.declared.packet.Packet.{Packet}
use Rattle.role_steps.specs.declared.synchronizing.Early.{Early}
use Rattle.role_steps.specs.declared.synchronizing.FileRow.{FileRow}
use Rattle.role_steps.specs.declared.synchronizing.Holding.{Holding}
use Rattle.role_steps.specs.declared.synchronizing.LastLook.{LastLook}
use Rattle.role_steps.specs.declared.synchronizing.OpenRow.{OpenRow}
use Rattle.role_steps.specs.declared.synchronizing.OpenStage.{OpenStage}
use Rattle.role_steps.specs.declared.synchronizing.OpenStage.TheVariants as stage
use Rattle.role_steps.specs.declared.synchronizing.SyncTable.{SyncTable}
use Rattle.role_steps.specs.declared.synchronizing.VersionRow.{VersionRow}
use Rattle.the_run.proofs.InsideSync.{every_row}
use Rattle.packet_laws.proofs.of_store_laws.OneTree.Rising.{every_among, row_key}
use Rattle.calm_laws.specs.of_rest_laws.Fits.Inodes.{AreInodes, IsInodeNumber}

abbrev pub IsOfInode : FileRow → Type 0
IsOfInode r = IsInodeNumber r.ino

abbrev pub Rows : SyncTable → Type 0
Rows t = Every IsOfInode t.files

pub rows_in : (t : SyncTable) → AreInodes t → Rows t
rows_in t h = over t.files h
  where
    over : (rs : List FileRow) → AllByRecursion (λ (r : FileRow). IsInodeNumber r.ino) rs → Every IsOfInode rs
    over [] h = tt
    over (r ∷ rs) h = (h.0, over rs h.1)

pub rows_out : (t : SyncTable) → Rows t → AreInodes t
rows_out t h = over t.files h
  where
    over : (rs : List FileRow) → Every IsOfInode rs → AllByRecursion (λ (r : FileRow). IsInodeNumber r.ino) rs
    over [] h = tt
    over (r ∷ rs) h = (h.0, over rs h.1)

-- the same files
abbrev SameFiles : SyncTable → Outcome SyncTable → Type 0
SameFiles t o = o.view.files ≡ t.files

-- ---- opens and looks ----

decides_files : (f : Frame) (t : SyncTable) (us : ℕ) (o : OpenRequest) (d : Decision) → SameFiles t (decides f t us o d)
decides_files f t us o (Denies why) = refl
decides_files f t us o (Grants ss stamp vector parents set k) = refl

open_files : (f : Frame) (t : SyncTable) (us : ℕ) (o : OpenRequest) (r : Option OpenRow) → SameFiles t (on_open_of f t us o r)
open_files f t us o None = decides_files f t us o (decision f t us o o.how)
open_files f t us o (Some r) = refl

look_files : (f : Frame) (us : ℕ) (l : LookRequest) (last : Option LastLook) (t : SyncTable) → SameFiles t (after_last f us l last t)
look_files f us l None t = refl
look_files f us l (Some last) t = over _ (is_look_before l last) (is_same_look l last)
  where
    over : (ps : List Packet) (a b : Bool) → SameFiles t (elim a as (λ (x : Bool). Outcome SyncTable) [ true ↦ quiet t | false ↦ elim b as (λ (y : Bool). Outcome SyncTable) [ true ↦ sends ps t | false ↦ new_look f us l (file_row t l.file.ino) t ] ])
    over ps true b = refl
    over ps false true = refl
    over ps false false = refl

early_files : (f : Frame) (us : ℕ) (b : Body) (t : SyncTable) → SameFiles t (takes_early f us b t)
early_files f us (body.Open serial call process request file how) t = open_files f t us (record { serial = serial; call = call; process = process; request = request; file = file; how = how }) (open_row t _)
early_files f us (body.Look call process request take file what) t = look_files f us (record { call = call; process = process; request = request; take = take; file = file; what = what }) (row look_key (process_key us process) t.looks) t
early_files f us _ t = refl

all_early_files : (f : Frame) (es : List Early) (t : SyncTable) → SameFiles t (takes_all_early f es t)
all_early_files f [] t = refl
all_early_files f (e ∷ es) t = all_early_files f es (takes_early f e.site e.body t).view ∙ early_files f e.site e.body t

waits_files : (site process : ℕ) (b : Body) (t : SyncTable) → (waits_early site process b t).files ≡ t.files
waits_files site process b t = over _ (list_any (is_early_of site process) t.early)
  where
    over : (es : List Early) (x : Bool) → (cond x t (record t { early = es })).files ≡ t.files
    over es true = refl
    over es false = refl

pub on_open_files : (f : Frame) (us : ℕ) (o : OpenRequest) (t : SyncTable) → SameFiles t (on_open f us o t)
on_open_files f us o t = over t.started
  where
    over : (b : Bool) → SameFiles t (elim b as (λ (x : Bool). Outcome SyncTable) [ true ↦ takes_open f us o t | false ↦ quiet (waits_early us o.process (body.Open o.serial o.call o.process o.request o.file o.how) t) ])
    over true = open_files f t us o (open_row t _)
    over false = waits_files us o.process _ t

pub on_look_files : (f : Frame) (us : ℕ) (l : LookRequest) (t : SyncTable) → SameFiles t (on_look f us l t)
on_look_files f us l t = over t.started
  where
    over : (b : Bool) → SameFiles t (elim b as (λ (x : Bool). Outcome SyncTable) [ true ↦ takes_look f us l t | false ↦ quiet (waits_early us l.process (body.Look l.call l.process l.request l.take l.file l.what) t) ])
    over true = look_files f us l (row look_key (process_key us l.process) t.looks) t
    over false = waits_files us l.process _ t

answers_files : (f : Frame) (r : OpenRow) (a : OpenedAs) (t : SyncTable) → SameFiles t (answers_open f r a t)
answers_files f r (opened.Open ino size) t = refl
answers_files f r (opened.No why) t = refl

staged_files : (f : Frame) (r : OpenRow) (a : OpenedAs) (s : OpenStage) (t : SyncTable) → SameFiles t (by_stage f r a s t)
staged_files f r a stage.Asked t = answers_files f r a t
staged_files f r a stage.Granted t = refl
staged_files f r a (stage.Refused why) t = refl
staged_files f r a stage.Ended t = refl

pub on_opened_files : (f : Frame) (inst : Serial) (a : OpenedAs) (t : SyncTable) → SameFiles t (on_opened f inst a t)
on_opened_files f inst a t = over (open_row t inst)
  where
    over : (o : Option OpenRow) → SameFiles t (on_opened_of f a o t)
    over None = refl
    over (Some r) = staged_files f r a r.stage t

-- ---- rows that are put ----

known_inode : (t : SyncTable) (ino : ℕ) (r : FileRow) → r.ino ≡ ino → IsInodeNumber ino → Rows t → (o : Option FileRow) → file_row t ino ≡ o → IsOfInode (known_or r o)
known_inode t ino r e k h None q = subst IsInodeNumber (sym e) k
known_inode t ino r e k h (Some y) q = every_among IsOfInode y t.files (row_key row_ino ino t.files y q).0 h

put_row : (r : FileRow) (t : SyncTable) → IsOfInode r → Rows t → Every IsOfInode (with_row row_ino r t.files)
put_row r t k h = every_row IsOfInode row_ino r t.files k h

noted_ino : (site : ℕ) (stamp : Stamp) (r : FileRow) → (noted site stamp r).ino ≡ r.ino
noted_ino site stamp r = of (version_of r stamp)
  where
    rises : (v : VersionRow) (h : Holding) (b : Bool) → (cond b (with_holder site v.stamp r) r).ino ≡ r.ino
    rises v h true = refl
    rises v h false = refl

    at : (v : VersionRow) (o : Option Holding) → (noted_at r site v o).ino ≡ r.ino
    at v None = refl
    at v (Some h) = rises v h (rises_to v (version_of r h.stamp))

    of : (o : Option VersionRow) → (noted_of r site o).ino ≡ r.ino
    of None = refl
    of (Some v) = at v (holding_of r site)

pub have_rows : (site : ℕ) (stamp : Stamp) (ino : ℕ) (t : SyncTable) → Rows t → Rows (on_have_of site stamp (file_row t ino) t)
have_rows site stamp ino t h = over (file_row t ino) refl
  where
    over : (o : Option FileRow) → file_row t ino ≡ o → Rows (on_have_of site stamp o t)
    over None q = h
    over (Some r) q = put_row (noted site stamp r) t (subst IsInodeNumber (sym (noted_ino site stamp r)) (every_among IsOfInode r t.files (row_key row_ino ino t.files r q).0 h)) h

-- ---- a report ----

reported_rows : (from : ℕ) (xs : List ReportedCopy) → Every (λ (x : ReportedCopy). IsInodeNumber x.ino) xs → (t : SyncTable) → Rows t → Rows (with_all_reported from xs t)
reported_rows from [] k t h = h
reported_rows from (x ∷ xs) k t h = reported_rows from xs k.1 (with_reported from x t)
    (put_row (with_holder from x.stamp (with_version (version_reported x) (known_or (unknown_file x.ino x.kind x.set) (file_row t x.ino)))) t (known_inode t x.ino (unknown_file x.ino x.kind x.set) refl k.0 h (file_row t x.ino) refl) h)

started_rows : (f : Frame) (t : SyncTable) → Rows t → Rows (starts_if f t).view
started_rows f t h = over (have_all_reported f t)
  where
    over : (b : Bool) → Rows (elim b as (λ (x : Bool). Outcome SyncTable) [ true ↦ starts f t | false ↦ quiet t ]).view
    over true = subst (Every IsOfInode) (sym (all_early_files f t.early (record t { started = true; early = [] }))) h
    over false = h

-- the first report of a member brings what it has
pub report_rows : (f : Frame) (from : ℕ) (xs : List ReportedCopy) (t : SyncTable) → (has t.reported from ≡ false → Every (λ (x : ReportedCopy). IsInodeNumber x.ino) xs) → Rows t → Rows (on_report f from xs t).view
report_rows f from xs t k h = over (has t.reported from) k
  where
    over : (b : Bool) → (b ≡ false → Every (λ (x : ReportedCopy). IsInodeNumber x.ino) xs) → Rows (elim b as (λ (x : Bool). Outcome SyncTable) [ true ↦ quiet t | false ↦ starts_if f (with_report from xs t) ]).view
    over true k = h
    over false k = started_rows f (with_report from xs t) (reported_rows from xs (k refl) (record t { reported = with_site t.reported from }) h)

-- ---- a close ----

published_rows : (ss : ℕ) (r : OpenRow) (made : Option MadeVersion) (t : SyncTable) → ((v : MadeVersion) → made ≡ Some v → IsInodeNumber r.file.ino) → Rows t → Rows (published ss r made t)
published_rows ss r None t k h = h
published_rows ss r (Some v) t k h =
    put_row (published_row ss r v (file_row t r.file.ino)) t
    (subst IsInodeNumber (sym (noted_ino ss v.stamp (with_version (record { stamp = v.stamp; vector = v.vector; size = v.size }) (known_or (unknown_file r.file.ino r.kind r.set) (file_row t r.file.ino)))))
    (known_inode t r.file.ino (unknown_file r.file.ino r.kind r.set) refl (k v refl) h (file_row t r.file.ino) refl)) h

-- what a granted open is released with is a version of a file whose number is an inode's
pub close_rows : (f : Frame) (ss : ℕ) (inst : Serial) (made : Option MadeVersion) (t : SyncTable) → ((r : OpenRow) (v : MadeVersion) → open_row t inst ≡ Some r → r.stage ≡ stage.Granted → made ≡ Some v → IsInodeNumber r.file.ino) → Rows t → Rows (on_closed f ss inst made t).view
close_rows f ss inst made t k h = over (open_row t inst) k
  where
    by : (r : OpenRow) (s : OpenStage) → ((v : MadeVersion) → s ≡ stage.Granted → made ≡ Some v → IsInodeNumber r.file.ino) → Rows (closes_at f ss r made s t).view
    by r stage.Granted k = published_rows ss r made (with_open (record r { stage = stage.Ended }) t) (λ v e. k v refl e) h
    by r stage.Ended k = h
    by r stage.Asked k = h
    by r (stage.Refused why) k = h

    over : (o : Option OpenRow) → ((r : OpenRow) (v : MadeVersion) → o ≡ Some r → r.stage ≡ stage.Granted → made ≡ Some v → IsInodeNumber r.file.ino) → Rows (on_closed_of f ss made o t).view
    over None k = h
    over (Some r) k = by r r.stage (λ v g e. k r v refl g e)

pub same_rows : (t : SyncTable) (o : Outcome SyncTable) → SameFiles t o → Rows t → Rows o.view
same_rows t o e h = subst (Every IsOfInode) (sym e) h
