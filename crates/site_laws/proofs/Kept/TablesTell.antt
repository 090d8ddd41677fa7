-- What a synchronization site tells but where an instance closes, by any property of what is told: starts, looks, grants and
-- refusals alone.
use Rattle.std.proofs.Common.{ℕ, true, false, List, [], ◌∷◌, Option, Some, None}
use Rattle.std.specs.List.{flat_map}
use Rattle.locus_ids.specs.Sites.{has}
use Rattle.locus_ids.specs.declared.ids.Brought.{Brought}
use Rattle.locus_ids.specs.declared.ids.CallId.{CallId}
use Rattle.locus_ids.specs.declared.ids.EpochId.{EpochId}
use Rattle.locus_ids.specs.declared.ids.FileId.{FileId}
use Rattle.locus_ids.specs.declared.ids.Mode.{Mode}
use Rattle.locus_ids.specs.declared.ids.Mode.TheVariants as mode
use Rattle.locus_ids.specs.declared.ids.Serial.{Serial}
use Rattle.locus_ids.specs.declared.ids.Stamp.{Stamp}
use Rattle.locus_ids.specs.declared.refusal.Refusal.{Refusal}
use Rattle.trace_book.specs.declared.operation.Served.{Served}
use Rattle.trace_book.specs.declared.operation.What.{What}
use Rattle.trace_book.specs.declared.record.Record.TheVariants as says
use Rattle.wire_messages.specs.declared.body.Body.{Body}
use Rattle.wire_messages.specs.declared.body.Body.TheVariants as body
use Rattle.wire_messages.specs.declared.body.OpenedAs.{OpenedAs}
use Rattle.wire_messages.specs.declared.body.OpenedAs.TheVariants as opened
use Rattle.wire_messages.specs.declared.body.ReportedCopy.{ReportedCopy}
use Rattle.role_steps.specs.Own.{Every}
use Rattle.role_steps.specs.Tables.{row}
use Rattle.role_steps.specs.Views.{Frame, Told, Shown, Outcome, quiet, sends, packet, process_key}
use Rattle.role_steps.specs.Opens.{OpenRequest, Decision, Denies, Grants, decision, decides, call_id, denied_row, asked_row, granted_row, granted_at_once, granted_at_last, on_open_of, takes_open, open_row, answers_open, by_stage, on_opened_of, on_opened}
use Rattle.role_steps.specs.Looks.{LookRequest, is_look_before, is_same_look, new_look, service, result_of, after_last, takes_look, look_key}
use Rattle.role_steps.specs.Reports.{waits_early, on_open, on_look, takes_early, takes_all_early, brought_files, starts, starts_if, have_all_reported, counts_report, with_report, on_report}
use Rattle.role_steps.specs.Versions.{file_row}
use Rattle.role_steps.specs.declared.synchronizing.SyncTable.{SyncTable}
use Rattle.role_steps.specs.declared.synchronizing.FileRow.{FileRow}
use Rattle.role_steps.specs.declared.synchronizing.OpenRow.{OpenRow}
use Rattle.role_steps.specs.declared.synchronizing.OpenStage.{OpenStage}
use Rattle.role_steps.specs.declared.synchronizing.OpenStage.TheVariants as stage
use Rattle.role_steps.specs.declared.synchronizing.LastLook.{LastLook}
use Rattle.role_steps.specs.declared.synchronizing.Early.{Early}
use Rattle.role_steps.proofs.Sending.{every_append}

-- each kind of record that a synchronization site tells has the property
pub record OfTables (P : Told → Type 0) : Type 0 where
  pub starting : (e : EpochId) (group : ℕ) (brought : List Brought) → P (Shown (says.Start e group brought))
  pub looking : (e : EpochId) (call : CallId) (request : ℕ) (file : FileId) (what : What) (r : Served) → P (Shown (says.Look e call request file what r))
  pub granting : (e : EpochId) (call : CallId) (request : ℕ) (inst : Serial) (m : Mode) (file : FileId) (stamp : Option Stamp) (ss : ℕ) → P (Shown (says.Grant e call request inst m file stamp ss))
  pub refusing : (e : EpochId) (call : CallId) (request : ℕ) (inst : Serial) (m : Mode) (file : FileId) (why : Refusal) → P (Shown (says.Refuse e call request inst m file why))

abbrev TableTells : (Told → Type 0) → Outcome SyncTable → Type 0
TableTells P o = Every P o.told

once_tells : (P : Told → Type 0) → OfTables P → (f : Frame) (r : OpenRow) (m : Mode) → Every P (granted_at_once f r m)
once_tells P h f r mode.Make = tt
once_tells P h f r _ = (h.granting f.epoch (call_id f r.inst.us r.call) r.request r.inst r.mode r.file r.stamp r.ss, tt)

last_tells : (P : Told → Type 0) → OfTables P → (f : Frame) (r : OpenRow) (m : Mode) → Every P (granted_at_last f r m)
last_tells P h f r mode.Make = (h.granting f.epoch (call_id f r.inst.us r.call) r.request r.inst r.mode r.file r.stamp r.ss, tt)
last_tells P h f r _ = tt

decides_tells : (P : Told → Type 0) → OfTables P → (f : Frame) (t : SyncTable) (us : ℕ) (o : OpenRequest) (d : Decision) → TableTells P (decides f t us o d)
decides_tells P h f t us o (Denies why) = let r : OpenRow = denied_row us o why in (h.refusing f.epoch (call_id f r.inst.us r.call) r.request r.inst r.mode r.file why, tt)
decides_tells P h f t us o (Grants ss stamp vector parents set k) =
    let r : OpenRow = asked_row us o ss stamp vector parents set k in
    once_tells P h f r r.mode

open_of_tells : (P : Told → Type 0) → OfTables P → (f : Frame) (t : SyncTable) (us : ℕ) (o : OpenRequest) (r : Option OpenRow) → TableTells P (on_open_of f t us o r)
open_of_tells P h f t us o None = decides_tells P h f t us o (decision f t us o o.how)
open_of_tells P h f t us o (Some r) = tt

takes_open_tells : (P : Told → Type 0) → OfTables P → (f : Frame) (us : ℕ) (o : OpenRequest) (t : SyncTable) → TableTells P (takes_open f us o t)
takes_open_tells P h f us o t = open_of_tells P h f t us o (open_row t (record { us = us; serial = o.serial }))

pub on_open_tells : (P : Told → Type 0) → OfTables P → (f : Frame) (us : ℕ) (o : OpenRequest) (t : SyncTable) → TableTells P (on_open f us o t)
on_open_tells P h f us o t =
    elim t.started as (λ b. TableTells P (elim b [ true ↦ takes_open f us o t | false ↦ quiet (waits_early us o.process (body.Open o.serial o.call o.process o.request o.file o.how) t) ])) [
      | true ↦ takes_open_tells P h f us o t
      | false ↦ tt
    ]

answers_tells : (P : Told → Type 0) → OfTables P → (f : Frame) (r : OpenRow) (a : OpenedAs) (t : SyncTable) → TableTells P (answers_open f r a t)
answers_tells P h f r (opened.Open ino size) t = last_tells P h f (granted_row r ino size) (granted_row r ino size).mode
answers_tells P h f r (opened.No why) t = (h.refusing f.epoch (call_id f r.inst.us r.call) r.request r.inst r.mode r.file why, tt)

stage_tells : (P : Told → Type 0) → OfTables P → (f : Frame) (r : OpenRow) (a : OpenedAs) (s : OpenStage) (t : SyncTable) → TableTells P (by_stage f r a s t)
stage_tells P h f r a stage.Asked t = answers_tells P h f r a t
stage_tells P h f r a stage.Granted t = tt
stage_tells P h f r a (stage.Refused why) t = tt
stage_tells P h f r a stage.Ended t = tt

opened_of_tells : (P : Told → Type 0) → OfTables P → (f : Frame) (a : OpenedAs) (o : Option OpenRow) (t : SyncTable) → TableTells P (on_opened_of f a o t)
opened_of_tells P h f a None t = tt
opened_of_tells P h f a (Some r) t = stage_tells P h f r a r.stage t

pub on_opened_tells : (P : Told → Type 0) → OfTables P → (f : Frame) (inst : Serial) (a : OpenedAs) (t : SyncTable) → TableTells P (on_opened f inst a t)
on_opened_tells P h f inst a t = opened_of_tells P h f a (open_row t inst) t

new_look_tells : (P : Told → Type 0) → OfTables P → (f : Frame) (us : ℕ) (l : LookRequest) (known : Option FileRow) (t : SyncTable) → TableTells P (new_look f us l known t)
new_look_tells P h f us l known t = (h.looking f.epoch (call_id f us l.call) l.request l.file l.what (result_of (service f us l.what known)), tt)

last_look_tells : (P : Told → Type 0) → OfTables P → (f : Frame) (us : ℕ) (l : LookRequest) (o : Option LastLook) (t : SyncTable) → TableTells P (after_last f us l o t)
last_look_tells P h f us l None t = new_look_tells P h f us l (file_row t l.file.ino) t
last_look_tells P h f us l (Some last) t =
    elim (is_look_before l last) as (λ b. TableTells P (elim b [ true ↦ quiet t | false ↦ elim (is_same_look l last) [ true ↦ sends (packet f last.to last.body ∷ []) t | false ↦ new_look f us l (file_row t l.file.ino) t ] ])) [
      | true ↦ tt
      | false ↦ elim (is_same_look l last) as (λ b. TableTells P (elim b [ true ↦ sends (packet f last.to last.body ∷ []) t | false ↦ new_look f us l (file_row t l.file.ino) t ])) [
        | true ↦ tt
        | false ↦ new_look_tells P h f us l (file_row t l.file.ino) t
      ]
    ]

takes_look_tells : (P : Told → Type 0) → OfTables P → (f : Frame) (us : ℕ) (l : LookRequest) (t : SyncTable) → TableTells P (takes_look f us l t)
takes_look_tells P h f us l t = last_look_tells P h f us l (row look_key (process_key us l.process) t.looks) t

pub on_look_tells : (P : Told → Type 0) → OfTables P → (f : Frame) (us : ℕ) (l : LookRequest) (t : SyncTable) → TableTells P (on_look f us l t)
on_look_tells P h f us l t =
    elim t.started as (λ b. TableTells P (elim b [ true ↦ takes_look f us l t | false ↦ quiet (waits_early us l.process (body.Look l.call l.process l.request l.take l.file l.what) t) ])) [
      | true ↦ takes_look_tells P h f us l t
      | false ↦ tt
    ]

early_tells : (P : Told → Type 0) → OfTables P → (f : Frame) (us : ℕ) (b : Body) (t : SyncTable) → TableTells P (takes_early f us b t)
early_tells P h f us (body.Open serial call process request file how) t = takes_open_tells P h f us (record { serial = serial; call = call; process = process; request = request; file = file; how = how }) t
early_tells P h f us (body.Look call process request take file what) t = takes_look_tells P h f us (record { call = call; process = process; request = request; take = take; file = file; what = what }) t
early_tells P h f us _ t = tt

all_early_tells : (P : Told → Type 0) → OfTables P → (f : Frame) (es : List Early) (t : SyncTable) → TableTells P (takes_all_early f es t)
all_early_tells P h f [] t = tt
all_early_tells P h f (e ∷ es) t =
    let o : Outcome SyncTable = takes_early f e.site e.body t in
    every_append P o.told (takes_all_early f es o.view).told (early_tells P h f e.site e.body t) (all_early_tells P h f es o.view)

starts_tells : (P : Told → Type 0) → OfTables P → (f : Frame) (t : SyncTable) → TableTells P (starts f t)
starts_tells P h f t = (h.starting f.epoch t.group (flat_map brought_files t.files), all_early_tells P h f t.early (record t { started = true; early = [] }))

starts_if_tells : (P : Told → Type 0) → OfTables P → (f : Frame) (t : SyncTable) → TableTells P (starts_if f t)
starts_if_tells P h f t = elim (have_all_reported f t) as (λ b. TableTells P (elim b [ true ↦ starts f t | false ↦ quiet t ])) [ true ↦ starts_tells P h f t | false ↦ tt ]

counts_tells : (P : Told → Type 0) → OfTables P → (f : Frame) (from : ℕ) (xs : List ReportedCopy) (t : SyncTable) → TableTells P (counts_report f from xs t)
counts_tells P h f from xs t = elim (has t.reported from) as (λ b. TableTells P (elim b [ true ↦ quiet t | false ↦ starts_if f (with_report from xs t) ])) [ true ↦ tt | false ↦ starts_if_tells P h f (with_report from xs t) ]

pub on_report_tells : (P : Told → Type 0) → OfTables P → (f : Frame) (from : ℕ) (xs : List ReportedCopy) (t : SyncTable) → TableTells P (on_report f from xs t)
on_report_tells P h f from xs t = counts_tells P h f from xs t
