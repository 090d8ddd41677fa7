-- What a synchronization site tells is neither a begin nor a reserve, and starts its own group alone.
use Rattle.std.proofs.Common.{◌≡◌, ℕ, true, false, List, [], ◌∷◌, Option, Some, None, refl, sym, subst}
use Rattle.locus_ids.specs.Sites.{has, with_site}
use Rattle.locus_ids.specs.declared.ids.Mode.{Mode}
use Rattle.locus_ids.specs.declared.ids.Mode.TheVariants as mode
use Rattle.locus_ids.specs.declared.ids.Serial.{Serial}
use Rattle.wire_messages.specs.declared.body.Body.{Body}
use Rattle.wire_messages.specs.declared.body.Body.TheVariants as body
use Rattle.wire_messages.specs.declared.body.OpenedAs.{OpenedAs}
use Rattle.wire_messages.specs.declared.body.OpenedAs.TheVariants as opened
use Rattle.wire_messages.specs.declared.body.MadeVersion.{MadeVersion}
use Rattle.wire_messages.specs.declared.body.ReportedCopy.{ReportedCopy}
use Rattle.role_steps.specs.Own.{Every}
use Rattle.role_steps.specs.Tables.{row}
use Rattle.role_steps.specs.Views.{Frame, Outcome, quiet, sends, packet, process_key}
use Rattle.role_steps.specs.Opens.{OpenRequest, mode_of, Decision, Denies, Grants, decision, decides, asked_row, granted_row, granted_at_once, granted_at_last, on_open_of, takes_open, open_row, answers_open, by_stage, on_opened_of, on_opened}
use Rattle.role_steps.specs.Looks.{LookRequest, is_look_before, is_same_look, new_look, after_last, takes_look, look_key}
use Rattle.role_steps.specs.Reports.{waits_early, on_open, on_look, takes_early, takes_all_early, starts, starts_if, have_all_reported, counts_report, with_reported, with_all_reported, with_report, on_report, closes_at, on_closed_of, on_closed}
use Rattle.role_steps.specs.Versions.{file_row}
use Rattle.role_steps.specs.declared.synchronizing.SyncTable.{SyncTable}
use Rattle.role_steps.specs.declared.synchronizing.OpenRow.{OpenRow}
use Rattle.role_steps.specs.declared.synchronizing.OpenStage.{OpenStage}
use Rattle.role_steps.specs.declared.synchronizing.OpenStage.TheVariants as stage
use Rattle.role_steps.specs.declared.synchronizing.LastLook.{LastLook}
use Rattle.role_steps.specs.declared.synchronizing.Early.{Early}
use Rattle.role_steps.proofs.Sending.{every_append}
use Rattle.site_laws.proofs.Makes.Telling.{Groups, At}

abbrev pub TableTells : Groups → Outcome SyncTable → Type 0
TableTells G o = Every (At G) o.told

once_tells : (G : Groups) (f : Frame) (r : OpenRow) (m : Mode) → Every (At G) (granted_at_once f r m)
once_tells G f r mode.Make = tt
once_tells G f r _ = (tt, tt)

last_tells : (G : Groups) (f : Frame) (r : OpenRow) (m : Mode) → Every (At G) (granted_at_last f r m)
last_tells G f r mode.Make = (tt, tt)
last_tells G f r _ = tt

decides_tells : (G : Groups) (f : Frame) (t : SyncTable) (us : ℕ) (o : OpenRequest) (d : Decision) → TableTells G (decides f t us o d)
decides_tells G f t us o (Denies why) = (tt, tt)
decides_tells G f t us o (Grants ss stamp vector parents set k) =
    once_tells G f (asked_row us o ss stamp vector parents set k) (mode_of o.how)

open_of_tells : (G : Groups) (f : Frame) (t : SyncTable) (us : ℕ) (o : OpenRequest) (r : Option OpenRow) → TableTells G (on_open_of f t us o r)
open_of_tells G f t us o None = decides_tells G f t us o (decision f t us o o.how)
open_of_tells G f t us o (Some r) = tt

takes_open_tells : (G : Groups) (f : Frame) (us : ℕ) (o : OpenRequest) (t : SyncTable) → TableTells G (takes_open f us o t)
takes_open_tells G f us o t = open_of_tells G f t us o (open_row t (record { us = us; serial = o.serial }))

pub on_open_tells : (G : Groups) (f : Frame) (us : ℕ) (o : OpenRequest) (t : SyncTable) → TableTells G (on_open f us o t)
on_open_tells G f us o t =
    elim t.started as (λ b. TableTells G (elim b [ true ↦ takes_open f us o t | false ↦ quiet (waits_early us o.process (body.Open o.serial o.call o.process o.request o.file o.how) t) ])) [
      | true ↦ takes_open_tells G f us o t
      | false ↦ tt
    ]

answers_tells : (G : Groups) (f : Frame) (r : OpenRow) (a : OpenedAs) (t : SyncTable) → TableTells G (answers_open f r a t)
answers_tells G f r (opened.Open ino size) t = last_tells G f (granted_row r ino size) r.mode
answers_tells G f r (opened.No why) t = (tt, tt)

stage_tells : (G : Groups) (f : Frame) (r : OpenRow) (a : OpenedAs) (s : OpenStage) (t : SyncTable) → TableTells G (by_stage f r a s t)
stage_tells G f r a stage.Asked t = answers_tells G f r a t
stage_tells G f r a stage.Granted t = tt
stage_tells G f r a (stage.Refused why) t = tt
stage_tells G f r a stage.Ended t = tt

opened_of_tells : (G : Groups) (f : Frame) (a : OpenedAs) (o : Option OpenRow) (t : SyncTable) → TableTells G (on_opened_of f a o t)
opened_of_tells G f a None t = tt
opened_of_tells G f a (Some r) t = stage_tells G f r a r.stage t

pub on_opened_tells : (G : Groups) (f : Frame) (inst : Serial) (a : OpenedAs) (t : SyncTable) → TableTells G (on_opened f inst a t)
on_opened_tells G f inst a t = opened_of_tells G f a (open_row t inst) t

last_look_tells : (G : Groups) (f : Frame) (us : ℕ) (l : LookRequest) (o : Option LastLook) (t : SyncTable) → TableTells G (after_last f us l o t)
last_look_tells G f us l None t = (tt, tt)
last_look_tells G f us l (Some last) t =
    elim (is_look_before l last) as (λ b. TableTells G (elim b [ true ↦ quiet t | false ↦ elim (is_same_look l last) [ true ↦ sends (packet f last.to last.body ∷ []) t | false ↦ new_look f us l (file_row t l.file.ino) t ] ])) [
      | true ↦ tt
      | false ↦ elim (is_same_look l last) as (λ b. TableTells G (elim b [ true ↦ sends (packet f last.to last.body ∷ []) t | false ↦ new_look f us l (file_row t l.file.ino) t ])) [
        | true ↦ tt
        | false ↦ (tt, tt)
      ]
    ]

takes_look_tells : (G : Groups) (f : Frame) (us : ℕ) (l : LookRequest) (t : SyncTable) → TableTells G (takes_look f us l t)
takes_look_tells G f us l t = last_look_tells G f us l (row look_key (process_key us l.process) t.looks) t

pub on_look_tells : (G : Groups) (f : Frame) (us : ℕ) (l : LookRequest) (t : SyncTable) → TableTells G (on_look f us l t)
on_look_tells G f us l t =
    elim t.started as (λ b. TableTells G (elim b [ true ↦ takes_look f us l t | false ↦ quiet (waits_early us l.process (body.Look l.call l.process l.request l.take l.file l.what) t) ])) [
      | true ↦ takes_look_tells G f us l t
      | false ↦ tt
    ]

early_tells : (G : Groups) (f : Frame) (us : ℕ) (b : Body) (t : SyncTable) → TableTells G (takes_early f us b t)
early_tells G f us (body.Open serial call process request file how) t = takes_open_tells G f us (record { serial = serial; call = call; process = process; request = request; file = file; how = how }) t
early_tells G f us (body.Look call process request take file what) t = takes_look_tells G f us (record { call = call; process = process; request = request; take = take; file = file; what = what }) t
early_tells G f us _ t = tt

all_early_tells : (G : Groups) (f : Frame) (es : List Early) (t : SyncTable) → TableTells G (takes_all_early f es t)
all_early_tells G f [] t = tt
all_early_tells G f (e ∷ es) t =
    let o : Outcome SyncTable = takes_early f e.site e.body t in
    every_append (At G) o.told (takes_all_early f es o.view).told (early_tells G f e.site e.body t) (all_early_tells G f es o.view)

starts_tells : (G : Groups) (f : Frame) (t : SyncTable) → G t.group → TableTells G (starts f t)
starts_tells G f t g = (g, all_early_tells G f t.early (record t { started = true; early = [] }))

starts_if_tells : (G : Groups) (f : Frame) (t : SyncTable) → G t.group → TableTells G (starts_if f t)
starts_if_tells G f t g = elim (have_all_reported f t) as (λ b. TableTells G (elim b [ true ↦ starts f t | false ↦ quiet t ])) [ true ↦ starts_tells G f t g | false ↦ tt ]

pub reported_group : (from : ℕ) (xs : List ReportedCopy) (t : SyncTable) → (with_all_reported from xs t).group ≡ t.group
reported_group from [] t = refl
reported_group from (x ∷ xs) t = reported_group from xs (with_reported from x t)

counts_tells : (G : Groups) (f : Frame) (from : ℕ) (xs : List ReportedCopy) (t : SyncTable) → G t.group → TableTells G (counts_report f from xs t)
counts_tells G f from xs t g = elim (has t.reported from) as (λ b. TableTells G (elim b [ true ↦ quiet t | false ↦ starts_if f (with_report from xs t) ])) [ true ↦ tt | false ↦ starts_if_tells G f (with_report from xs t) (subst G (sym (reported_group from xs (record t { reported = with_site t.reported from }))) g) ]

pub on_report_tells : (G : Groups) (f : Frame) (from : ℕ) (xs : List ReportedCopy) (t : SyncTable) → G t.group → TableTells G (on_report f from xs t)
on_report_tells G f from xs t g = counts_tells G f from xs t g

closes_tells : (G : Groups) (f : Frame) (ss : ℕ) (r : OpenRow) (made : Option MadeVersion) (s : OpenStage) (t : SyncTable) → TableTells G (closes_at f ss r made s t)
closes_tells G f ss r made stage.Granted t = (tt, tt)
closes_tells G f ss r made stage.Ended t = tt
closes_tells G f ss r made stage.Asked t = tt
closes_tells G f ss r made (stage.Refused why) t = tt

closed_of_tells : (G : Groups) (f : Frame) (ss : ℕ) (made : Option MadeVersion) (o : Option OpenRow) (t : SyncTable) → TableTells G (on_closed_of f ss made o t)
closed_of_tells G f ss made None t = tt
closed_of_tells G f ss made (Some r) t = closes_tells G f ss r made r.stage t

pub on_closed_tells : (G : Groups) (f : Frame) (ss : ℕ) (inst : Serial) (made : Option MadeVersion) (t : SyncTable) → TableTells G (on_closed f ss inst made t)
on_closed_tells G f ss inst made t = closed_of_tells G f ss made (open_row t inst) t
