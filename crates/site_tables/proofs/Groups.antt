-- A table stays that of its group.
use Rattle.std.proofs.Common.{◌≡◌, ℕ, cond, true, false, Bool, List, [], ◌∷◌, ◌++◌, Option, Some, None, refl, ◌∙◌}
use Rattle.std.specs.List.{list_any}
use Rattle.locus_ids.specs.Sites.{has, with_site}
use Rattle.locus_ids.specs.declared.ids.FileId.{FileId}
use Rattle.locus_ids.specs.declared.ids.Serial.{Serial}
use Rattle.locus_ids.specs.declared.ids.Stamp.{Stamp}
use Rattle.wire_messages.specs.declared.body.Body.{Body}
use Rattle.wire_messages.specs.declared.body.Body.TheVariants as body
use Rattle.wire_messages.specs.declared.body.MadeVersion.{MadeVersion}
use Rattle.wire_messages.specs.declared.body.OpenedAs.{OpenedAs}
use Rattle.wire_messages.specs.declared.body.OpenedAs.TheVariants as opened
use Rattle.wire_messages.specs.declared.body.ReportedCopy.{ReportedCopy}
use Rattle.role_steps.specs.Tables.{row}
use Rattle.role_steps.specs.Views.{Frame, Outcome, quiet, sends, packet, process_key}
use Rattle.role_steps.specs.Versions.{file_row}
use Rattle.role_steps.specs.Opens.{OpenRequest, Decision, Denies, Grants, decides, decision, on_open_of, takes_open, open_row, answers_open, by_stage, on_opened_of, on_opened}
use Rattle.role_steps.specs.Looks.{LookRequest, new_look, after_last, takes_look, look_key, is_look_before, is_same_look}
use Rattle.role_steps.specs.Reports.{waits_early, is_early_of, on_open, on_look, takes_early, takes_all_early, starts, with_reported, with_all_reported, with_report, have_all_reported, starts_if, counts_report, on_report, closes_at, on_closed_of, on_closed, on_have_of, on_have}
use Rattle.role_steps.specs.declared.synchronizing.SyncTable.{SyncTable}
use Rattle.role_steps.specs.declared.synchronizing.FileRow.{FileRow}
use Rattle.role_steps.specs.declared.synchronizing.OpenRow.{OpenRow}
use Rattle.role_steps.specs.declared.synchronizing.OpenStage.{OpenStage}
use Rattle.role_steps.specs.declared.synchronizing.OpenStage.TheVariants as stage
use Rattle.role_steps.specs.declared.synchronizing.LastLook.{LastLook}
use Rattle.role_steps.specs.declared.synchronizing.Early.{Early}

-- ---- closes and haves ----

closes_keep : (f : Frame) (ss : ℕ) (r : OpenRow) (made : Option MadeVersion) (s : OpenStage) (t : SyncTable) → (closes_at f ss r made s t).view.group ≡ t.group
closes_keep f ss r None stage.Granted t = refl
closes_keep f ss r (Some v) stage.Granted t = refl
closes_keep f ss r made stage.Ended t = refl
closes_keep f ss r made stage.Asked t = refl
closes_keep f ss r made (stage.Refused why) t = refl

closed_keeps : (f : Frame) (ss : ℕ) (made : Option MadeVersion) (o : Option OpenRow) (t : SyncTable) → (on_closed_of f ss made o t).view.group ≡ t.group
closed_keeps f ss made None t = refl
closed_keeps f ss made (Some r) t = closes_keep f ss r made r.stage t

pub on_closed_keeps : (f : Frame) (ss : ℕ) (inst : Serial) (made : Option MadeVersion) (t : SyncTable) → (on_closed f ss inst made t).view.group ≡ t.group
on_closed_keeps f ss inst made t = closed_keeps f ss made (open_row t inst) t

pub have_keeps : (from : ℕ) (stamp : Stamp) (o : Option FileRow) (t : SyncTable) → (on_have_of from stamp o t).group ≡ t.group
have_keeps from stamp None t = refl
have_keeps from stamp (Some r) t = refl

pub on_have_keeps : (from : ℕ) (file : FileId) (stamp : Stamp) (t : SyncTable) → (on_have from file stamp t).view.group ≡ t.group
on_have_keeps from file stamp t = have_keeps from stamp (file_row t file.ino) t

-- ---- opens ----

decides_keeps : (f : Frame) (t : SyncTable) (us : ℕ) (o : OpenRequest) (d : Decision) → (decides f t us o d).view.group ≡ t.group
decides_keeps f t us o (Denies why) = refl
decides_keeps f t us o (Grants ss stamp vector parents set k) = refl

open_of_keeps : (f : Frame) (t : SyncTable) (us : ℕ) (o : OpenRequest) (r : Option OpenRow) → (on_open_of f t us o r).view.group ≡ t.group
open_of_keeps f t us o None = decides_keeps f t us o (decision f t us o o.how)
open_of_keeps f t us o (Some r) = refl

takes_open_keeps : (f : Frame) (us : ℕ) (o : OpenRequest) (t : SyncTable) → (takes_open f us o t).view.group ≡ t.group
takes_open_keeps f us o t = open_of_keeps f t us o (open_row t (record { us = us; serial = o.serial }))

cond_keeps : (b : Bool) (t u : SyncTable) (g : ℕ) → t.group ≡ g → u.group ≡ g → (cond b t u).group ≡ g
cond_keeps true t u g e f = e
cond_keeps false t u g e f = f

waits_keeps : (site process : ℕ) (b : Body) (t : SyncTable) → (waits_early site process b t).group ≡ t.group
waits_keeps site process b t = cond_keeps (list_any (is_early_of site process) t.early) t (record t { early = t.early ++ record { site = site; process = process; body = b } ∷ [] }) t.group refl refl

abbrev chosen : Bool → Outcome SyncTable → Outcome SyncTable → Outcome SyncTable
chosen b o p = elim b [
  | true ↦ o
  | false ↦ p
]

elim_keeps : (b : Bool) (o p : Outcome SyncTable) (g : ℕ) → o.view.group ≡ g → p.view.group ≡ g → (chosen b o p).view.group ≡ g
elim_keeps true o p g e f = e
elim_keeps false o p g e f = f

pub on_open_keeps : (f : Frame) (us : ℕ) (o : OpenRequest) (t : SyncTable) → (on_open f us o t).view.group ≡ t.group
on_open_keeps f us o t = elim_keeps t.started (takes_open f us o t) (quiet (waits_early us o.process (body.Open o.serial o.call o.process o.request o.file o.how) t)) t.group (takes_open_keeps f us o t) (waits_keeps us o.process (body.Open o.serial o.call o.process o.request o.file o.how) t)

answers_keep : (f : Frame) (r : OpenRow) (a : OpenedAs) (t : SyncTable) → (answers_open f r a t).view.group ≡ t.group
answers_keep f r (opened.Open ino size) t = refl
answers_keep f r (opened.No why) t = refl

stage_keeps : (f : Frame) (r : OpenRow) (a : OpenedAs) (s : OpenStage) (t : SyncTable) → (by_stage f r a s t).view.group ≡ t.group
stage_keeps f r a stage.Asked t = answers_keep f r a t
stage_keeps f r a stage.Granted t = refl
stage_keeps f r a stage.Ended t = refl
stage_keeps f r a (stage.Refused why) t = refl

opened_keeps : (f : Frame) (a : OpenedAs) (o : Option OpenRow) (t : SyncTable) → (on_opened_of f a o t).view.group ≡ t.group
opened_keeps f a None t = refl
opened_keeps f a (Some r) t = stage_keeps f r a r.stage t

pub on_opened_keeps : (f : Frame) (inst : Serial) (a : OpenedAs) (t : SyncTable) → (on_opened f inst a t).view.group ≡ t.group
on_opened_keeps f inst a t = opened_keeps f a (open_row t inst) t

-- ---- looks ----

after_keeps : (f : Frame) (us : ℕ) (l : LookRequest) (o : Option LastLook) (t : SyncTable) → (after_last f us l o t).view.group ≡ t.group
after_keeps f us l None t = refl
after_keeps f us l (Some last) t =
    elim_keeps (is_look_before l last) (quiet t) (elim (is_same_look l last) [ true ↦ sends (packet f last.to last.body ∷ []) t | false ↦ new_look f us l (file_row t l.file.ino) t ]) t.group refl
    (elim_keeps (is_same_look l last) (sends (packet f last.to last.body ∷ []) t) (new_look f us l (file_row t l.file.ino) t) t.group refl refl)

takes_look_keeps : (f : Frame) (us : ℕ) (l : LookRequest) (t : SyncTable) → (takes_look f us l t).view.group ≡ t.group
takes_look_keeps f us l t = after_keeps f us l (row look_key (process_key us l.process) t.looks) t

pub on_look_keeps : (f : Frame) (us : ℕ) (l : LookRequest) (t : SyncTable) → (on_look f us l t).view.group ≡ t.group
on_look_keeps f us l t = elim_keeps t.started (takes_look f us l t) (quiet (waits_early us l.process (body.Look l.call l.process l.request l.take l.file l.what) t)) t.group (takes_look_keeps f us l t) (waits_keeps us l.process (body.Look l.call l.process l.request l.take l.file l.what) t)

-- ---- reports ----

early_keeps : (f : Frame) (us : ℕ) (b : Body) (t : SyncTable) → (takes_early f us b t).view.group ≡ t.group
early_keeps f us (body.Open serial call process request file how) t = takes_open_keeps f us (record { serial = serial; call = call; process = process; request = request; file = file; how = how }) t
early_keeps f us (body.Look call process request take file what) t = takes_look_keeps f us (record { call = call; process = process; request = request; take = take; file = file; what = what }) t
early_keeps f us _ t = refl

all_early_keeps : (f : Frame) (es : List Early) (t : SyncTable) → (takes_all_early f es t).view.group ≡ t.group
all_early_keeps f [] t = refl
all_early_keeps f (e ∷ es) t = all_early_keeps f es (takes_early f e.site e.body t).view ∙ early_keeps f e.site e.body t

reported_keeps : (from : ℕ) (xs : List ReportedCopy) (t : SyncTable) → (with_all_reported from xs t).group ≡ t.group
reported_keeps from [] t = refl
reported_keeps from (x ∷ xs) t = reported_keeps from xs (with_reported from x t)

starts_if_keeps : (f : Frame) (t : SyncTable) → (starts_if f t).view.group ≡ t.group
starts_if_keeps f t = elim_keeps (have_all_reported f t) (starts f t) (quiet t) t.group (all_early_keeps f t.early (record t { started = true; early = [] })) refl

counts_keeps : (f : Frame) (from : ℕ) (xs : List ReportedCopy) (t : SyncTable) → (counts_report f from xs t).view.group ≡ t.group
counts_keeps f from xs t = elim_keeps (has t.reported from) (quiet t) (starts_if f (with_report from xs t)) t.group refl (starts_if_keeps f (with_report from xs t) ∙ reported_keeps from xs (record t { reported = with_site t.reported from }))

pub on_report_keeps : (f : Frame) (from : ℕ) (xs : List ReportedCopy) (t : SyncTable) → (on_report f from xs t).view.group ≡ t.group
on_report_keeps f from xs t = counts_keeps f from xs t
