-- What each role sends for one packet that it takes: one packet at most serves a call, and none opens a mend.
use Rattle.std.proofs.Common.{◌≡◌, ℕ, ◌+◌, ◌==◌, Bool, true, false, cond, List, [], ◌∷◌, ◌++◌, Option, Some, None, refl}
use Rattle.locus_ids.specs.declared.ids.FileId.{FileId}
use Rattle.locus_ids.specs.declared.ids.Serial.{Serial}
use Rattle.locus_ids.specs.declared.ids.Stamp.{Stamp}
use Rattle.locus_ids.specs.declared.ids.Mode.{Mode}
use Rattle.locus_ids.specs.declared.ids.Mode.TheVariants as mode
use Rattle.locus_ids.specs.declared.refusal.Refusal.TheVariants as refusal
use Rattle.commit_graph.specs.Versions.{same_stamp}
use Rattle.trace_book.specs.declared.operation.Op.{Op}
use Rattle.trace_book.specs.declared.operation.Op.TheVariants as op
use Rattle.trace_book.specs.declared.operation.Outcome.{Outcome as Result}
use Rattle.trace_book.specs.declared.operation.Outcome.TheVariants as result
use Rattle.trace_book.specs.declared.operation.What.{What}
use Rattle.trace_book.specs.declared.operation.What.TheVariants as what
use Rattle.file_effects.specs.Works.{counted}
use Rattle.wire_messages.specs.declared.packet.Packet.{Packet}
use Rattle.wire_messages.specs.declared.body.Body.TheVariants as body
use Rattle.wire_messages.specs.declared.body.CloseAnswer.{CloseAnswer}
use Rattle.wire_messages.specs.declared.body.CloseAnswer.TheVariants as closing
use Rattle.wire_messages.specs.declared.body.MadeVersion.{MadeVersion}
use Rattle.wire_messages.specs.declared.body.OpenedAs.{OpenedAs}
use Rattle.wire_messages.specs.declared.body.OpenedAs.TheVariants as opened
use Rattle.role_steps.specs.Tables.{row}
use Rattle.role_steps.specs.Views.{Frame, Store, Outcome, quiet, sends, and_then, packet, process_key, sync_site}
use Rattle.role_steps.specs.Versions.{is_below, file_row}
use Rattle.role_steps.specs.Notices.{notice, notices_of, notices_by, row_notices, lagging}
use Rattle.role_steps.specs.Opens.{OpenRequest, Decision, Denies, Grants, decides, decision, repeats_open, on_open_of, takes_open, open_row, by_stage, answers_open, on_opened_of, on_opened}
use Rattle.role_steps.specs.Looks.{LookRequest, Service, is_look_before, is_same_look, letter, serving_letter, service, after_last, new_look, takes_look, look_key}
use Rattle.role_steps.specs.Looks as looks
use Rattle.role_steps.specs.Reports.{on_open, on_look, closed_ok, published_notices, closes_at, on_closed_of, on_closed, waits_early}
use Rattle.role_steps.specs.Storage.{StoreRequest, copy_of, instance_of, opens, opens_made, own_ino, on_open_ss_of, on_open_ss, opened_packets, is_open, commits, is_spent, next_vector, next_stamp, shuts_again, closes_owing, closes, on_close_at, on_close_of, on_close, ends_at, on_closed_ok_of, on_closed_ok, shuts, on_look_ss, has_page, pulled_page, on_pull, on_want, wanted_delta}
use Rattle.role_steps.specs.Operations.{executes_effect, acts, acts_committed, commits_owing, last_committed, commit_op, executes, op_again, by_number, on_op_at, on_op_of, on_op}
use Rattle.role_steps.specs.OperationEffects.{Mending, effect_of}
use Rattle.role_steps.specs.Pulling.{next_asked, pull_packets, is_complete, replaces_pull, pull_over, pull_of, begins_pull, goes_on, on_notify, is_awaited, is_delta, pages_in, on_page_of, on_delta_of, on_page, on_delta}
use Rattle.role_steps.specs.declared.copies.FileCopy.{FileCopy}
use Rattle.role_steps.specs.declared.instances.Instance.{Instance}
use Rattle.role_steps.specs.declared.instances.Stage.{Stage}
use Rattle.role_steps.specs.declared.instances.Stage.TheVariants as running
use Rattle.role_steps.specs.declared.pulls.Pull.{Pull}
use Rattle.role_steps.specs.declared.synchronizing.FileRow.{FileRow}
use Rattle.role_steps.specs.declared.synchronizing.LastLook.{LastLook}
use Rattle.role_steps.specs.declared.synchronizing.OpenRow.{OpenRow}
use Rattle.role_steps.specs.declared.synchronizing.OpenStage.{OpenStage}
use Rattle.role_steps.specs.declared.synchronizing.OpenStage.TheVariants as stage
use Rattle.role_steps.specs.declared.synchronizing.SyncTable.{SyncTable}
use Rattle.role_steps.specs.declared.synchronizing.VersionRow.{VersionRow}
use Rattle.role_steps.proofs.Sending.{every_map}
use Rattle.the_run.proofs.InsideSync.{Found, row_found}
use Rattle.row_laws.specs.Bounds.Deliveries.{opens_mend, OpensNone, LooksOpenNone}
use Rattle.row_laws.proofs.Bounds.Counting.{Few, Apart, ServesNone, apart_none, apart_every, few_none, few_one, few_some, few_append}

-- the outcome sends few packets
abbrev pub SendsFew : {V : Type 0} → Outcome V → Type 0
SendsFew o = Few o.sent

-- ---- opens at the synchronization site ----

decides_few : (f : Frame) (t : SyncTable) (us : ℕ) (o : OpenRequest) (d : Decision) → SendsFew (decides f t us o d)
decides_few f t us o (Denies why) = few_one _ refl
decides_few f t us o (Grants ss stamp vector parents set k) = few_one _ refl

repeats_few : (f : Frame) (r : OpenRow) (s : OpenStage) → Few (repeats_open f r s)
repeats_few f r stage.Asked = few_one _ refl
repeats_few f r stage.Granted = few_one _ refl
repeats_few f r (stage.Refused why) = few_one _ refl
repeats_few f r stage.Ended = few_none

open_few : (f : Frame) (t : SyncTable) (us : ℕ) (o : OpenRequest) (r : Option OpenRow) → SendsFew (on_open_of f t us o r)
open_few f t us o None = decides_few f t us o (decision f t us o o.how)
open_few f t us o (Some r) = repeats_few f r r.stage

pub on_open_few : (f : Frame) (us : ℕ) (o : OpenRequest) (t : SyncTable) → SendsFew (on_open f us o t)
on_open_few f us o t = elim t.started as (λ b. SendsFew (elim b [ true ↦ takes_open f us o t | false ↦ quiet (waits_early us o.process (body.Open o.serial o.call o.process o.request o.file o.how) t) ])) [
  | true ↦ open_few f t us o (open_row t (record { us = us; serial = o.serial }))
  | false ↦ few_none
]

answers_few : (f : Frame) (r : OpenRow) (a : OpenedAs) (t : SyncTable) → SendsFew (answers_open f r a t)
answers_few f r (opened.Open ino size) t = few_one _ refl
answers_few f r (opened.No why) t = few_one _ refl

stage_few : (f : Frame) (r : OpenRow) (a : OpenedAs) (s : OpenStage) (t : SyncTable) → SendsFew (by_stage f r a s t)
stage_few f r a stage.Asked t = answers_few f r a t
stage_few f r a _ t = few_none

opened_few : (f : Frame) (a : OpenedAs) (o : Option OpenRow) (t : SyncTable) → SendsFew (on_opened_of f a o t)
opened_few f a None t = few_none
opened_few f a (Some r) t = stage_few f r a r.stage t

pub on_opened_few : (f : Frame) (inst : Serial) (a : OpenedAs) (t : SyncTable) → SendsFew (on_opened f inst a t)
on_opened_few f inst a t = opened_few f a (open_row t inst) t

-- ---- looks at the synchronization site ----

serving_few : (us : ℕ) (l : LookRequest) (r : FileRow) (v : VersionRow) (site : ℕ) (w : What) → opens_mend (serving_letter us l r v site w).body ≡ false
serving_few us l r v site what.Stat = refl
serving_few us l r v site (what.Name component) = refl
serving_few us l r v site what.List = refl
serving_few us l r v site (what.Whole stamp) = refl

pub letter_few : (us : ℕ) (l : LookRequest) (o : Option FileRow) (s : Service) → opens_mend (letter us l o s).body ≡ false
letter_few us l o (looks.Denies why) = refl
letter_few us l None (looks.Serves v site) = refl
letter_few us l (Some r) (looks.Serves v site) = serving_few us l r v site l.what

new_few : (f : Frame) (us : ℕ) (l : LookRequest) (o : Option FileRow) (t : SyncTable) → SendsFew (new_look f us l o t)
new_few f us l o t = few_one _ (letter_few us l o (service f us l.what o))

last_few : (f : Frame) (us : ℕ) (l : LookRequest) (o : Option LastLook) (t : SyncTable) → Found OpensNone o → SendsFew (after_last f us l o t)
last_few f us l None t h = new_few f us l (file_row t l.file.ino) t
last_few f us l (Some last) t h = elim (is_look_before l last) as (λ b. SendsFew (elim b [
  | true ↦ quiet t
  | false ↦ elim (is_same_look l last) [ true ↦ sends (packet f last.to last.body ∷ []) t | false ↦ new_look f us l (file_row t l.file.ino) t ]
])) [
  | true ↦ few_none
  | false ↦ elim (is_same_look l last) as (λ b. SendsFew (elim b [ true ↦ sends (packet f last.to last.body ∷ []) t | false ↦ new_look f us l (file_row t l.file.ino) t ])) [
    | true ↦ few_one _ h
    | false ↦ new_few f us l (file_row t l.file.ino) t
  ]
]

pub on_look_few : (f : Frame) (us : ℕ) (l : LookRequest) (t : SyncTable) → LooksOpenNone t → SendsFew (on_look f us l t)
on_look_few f us l t h = elim t.started as (λ b. SendsFew (elim b [ true ↦ takes_look f us l t | false ↦ quiet (waits_early us l.process (body.Look l.call l.process l.request l.take l.file l.what) t) ])) [
  | true ↦ last_few f us l (row look_key (process_key us l.process) t.looks) t (row_found OpensNone look_key (process_key us l.process) t.looks h)
  | false ↦ few_none
]

-- ---- closes at the synchronization site ----

notices_apart : (f : Frame) (group : ℕ) (r : FileRow) (v : VersionRow) (o : Option ℕ) → Apart (notices_of f group r v o)
notices_apart f group r v None = apart_none
notices_apart f group r v (Some holder) = apart_every _ (every_map (λ (p : Packet). ServesNone p.body) (notice f group r v holder) (lagging f r _) (λ to. refl))

by_apart : (f : Frame) (group : ℕ) (r : FileRow) (vs : List VersionRow) → Apart (notices_by f group r vs)
by_apart f group r [] = apart_none
by_apart f group r (v ∷ []) = notices_apart f group r v _
by_apart f group r (v ∷ w ∷ others) = apart_none

row_apart : (f : Frame) (group : ℕ) (o : Option FileRow) → Apart (row_notices f group o)
row_apart f group None = apart_none
row_apart f group (Some r) = by_apart f group r r.kept

published_apart : (f : Frame) (r : OpenRow) (made : Option MadeVersion) (t : SyncTable) → Apart (published_notices f r made t)
published_apart f r None t = apart_none
published_apart f r (Some v) t = row_apart f t.group (file_row t r.file.ino)

closes_few : (f : Frame) (ss : ℕ) (r : OpenRow) (made : Option MadeVersion) (s : OpenStage) (t : SyncTable) → SendsFew (closes_at f ss r made s t)
closes_few f ss r made stage.Granted t = few_append _ (closed_ok f ss r.inst) (published_apart f r made _) (few_one _ refl)
closes_few f ss r made stage.Ended t = few_one _ refl
closes_few f ss r made _ t = few_none

closed_few : (f : Frame) (ss : ℕ) (made : Option MadeVersion) (o : Option OpenRow) (t : SyncTable) → SendsFew (on_closed_of f ss made o t)
closed_few f ss made None t = few_none
closed_few f ss made (Some r) t = closes_few f ss r made r.stage t

pub on_closed_few : (f : Frame) (ss : ℕ) (inst : Serial) (made : Option MadeVersion) (t : SyncTable) → SendsFew (on_closed f ss inst made t)
on_closed_few f ss inst made t = closed_few f ss made (open_row t inst) t

-- ---- the storage site ----

made_few : (f : Frame) (r : StoreRequest) (o : Option ℕ) (s : Store) → SendsFew (opens_made f r o s)
made_few f r None s = few_some f _ (sync_site f.config f.members r.file.group) refl
made_few f r (Some ino) s = few_some f _ (sync_site f.config f.members r.file.group) refl

opens_few : (f : Frame) (r : StoreRequest) (m : Mode) (s : Store) → SendsFew (opens f r m s)
opens_few f r mode.Make s = made_few f r (own_ino s r.file.group f.me) s
opens_few f r mode.Read s = few_some f _ (sync_site f.config f.members r.file.group) refl
opens_few f r mode.Write s = few_some f _ (sync_site f.config f.members r.file.group) refl
opens_few f r mode.Resolve s = few_some f _ (sync_site f.config f.members r.file.group) refl
opens_few f r mode.Mend s = few_some f _ (sync_site f.config f.members r.file.group) refl

open_ss_few : (f : Frame) (r : StoreRequest) (o : Option Instance) (s : Store) → SendsFew (on_open_ss_of f r o s)
open_ss_few f r None s = opens_few f r r.mode s
open_ss_few f r (Some i) s = elim (is_open i.stage) as (λ b. Few (cond b (opened_packets f i) [])) [ true ↦ few_some f _ (sync_site f.config f.members i.file.group) refl | false ↦ few_none ]

pub on_open_ss_few : (f : Frame) (r : StoreRequest) (s : Store) → SendsFew (on_open_ss f r s)
on_open_ss_few f r s = open_ss_few f r (instance_of s r.inst) s

shuts_few : (f : Frame) (i : Instance) (a : CloseAnswer) (s : Store) → SendsFew (shuts f i a s)
shuts_few f i a s = few_some f _ (sync_site f.config f.members i.file.group) refl

again_few : (f : Frame) (a : CloseAnswer) (o : Option Instance) (s : Store) → SendsFew (shuts_again f a o s)
again_few f a None s = few_none
again_few f a (Some i) s = shuts_few f i a s

owing_few : (f : Frame) (i : Instance) (s : Store) → SendsFew (closes_owing f i s)
owing_few f i s = elim (is_spent f i) as (λ b. SendsFew (elim b [
  | true ↦ shuts f i (closing.No refusal.Spent) s
  | false ↦ and_then (commits f i s) (λ now. shuts_again f (closing.Made (next_stamp f (next_vector f i))) (instance_of now i.inst) now)
])) [
  | true ↦ shuts_few f i (closing.No refusal.Spent) s
  | false ↦ again_few f (closing.Made (next_stamp f (next_vector f i))) (instance_of (commits f i s).view i.inst) (commits f i s).view
]

close_few : (f : Frame) (i : Instance) (s : Store) → SendsFew (closes f i s)
close_few f i s = elim i.work.owes as (λ b. SendsFew (elim b [ true ↦ closes_owing f i s | false ↦ shuts f i closing.Nothing s ])) [ true ↦ owing_few f i s | false ↦ shuts_few f i closing.Nothing s ]

close_at_few : (f : Frame) (i : Instance) (g : Stage) (s : Store) → SendsFew (on_close_at f i g s)
close_at_few f i running.Running s = close_few f i s
close_at_few f i (running.Closing made a) s = few_some f _ (sync_site f.config f.members i.file.group) refl
close_at_few f i (running.Closed a) s = few_one _ refl

close_of_few : (f : Frame) (o : Option Instance) (s : Store) → SendsFew (on_close_of f o s)
close_of_few f None s = few_none
close_of_few f (Some i) s = close_at_few f i i.stage s

pub on_close_few : (f : Frame) (inst : Serial) (s : Store) → SendsFew (on_close f inst s)
on_close_few f inst s = close_of_few f (instance_of s inst) s

ends_few : (f : Frame) (i : Instance) (g : Stage) (s : Store) → SendsFew (ends_at f i g s)
ends_few f i (running.Closing made a) s = few_one _ refl
ends_few f i running.Running s = few_none
ends_few f i (running.Closed a) s = few_none

closed_ok_few : (f : Frame) (o : Option Instance) (s : Store) → SendsFew (on_closed_ok_of f o s)
closed_ok_few f None s = few_none
closed_ok_few f (Some i) s = ends_few f i i.stage s

pub on_closed_ok_few : (f : Frame) (inst : Serial) (s : Store) → SendsFew (on_closed_ok f inst s)
on_closed_ok_few f inst s = closed_ok_few f (instance_of s inst) s

pub on_look_ss_few : (f : Frame) (us : ℕ) (l : LookRequest) (stamp : Stamp) (s : Store) → SendsFew (on_look_ss f us l stamp s)
on_look_ss_few f us l stamp s = few_one _ refl

-- ---- operations ----

effect_few : (f : Frame) (i : Instance) (o : Op) (e : _) (s : Store) → SendsFew (executes_effect f i o e s)
effect_few f i o None s = few_none
effect_few f i o (Some e) s = few_one _ refl

committed_few : (f : Frame) (stamp : Stamp) (o : Option Instance) (s : Store) → SendsFew (acts_committed f stamp o s)
committed_few f stamp None s = few_none
committed_few f stamp (Some i) s = few_one _ refl

commits_few : (f : Frame) (i : Instance) (s : Store) → SendsFew (commits_owing f i s)
commits_few f i s = elim (is_spent f i) as (λ b. SendsFew (elim b [
  | true ↦ acts f i op.Commit (result.No refusal.Spent) (counted i.work) s
  | false ↦ and_then (commits f i s) (λ now. acts_committed f (next_stamp f (next_vector f i)) (instance_of now i.inst) now)
])) [
  | true ↦ few_one _ refl
  | false ↦ committed_few f (next_stamp f (next_vector f i)) (instance_of (commits f i s).view i.inst) (commits f i s).view
]

last_commit_few : (f : Frame) (i : Instance) (o : Option Stamp) (s : Store) → SendsFew (last_committed f i o s)
last_commit_few f i None s = few_none
last_commit_few f i (Some stamp) s = few_one _ refl

commit_few : (f : Frame) (i : Instance) (s : Store) → SendsFew (commit_op f i s)
commit_few f i s = elim i.work.owes as (λ b. SendsFew (elim b [ true ↦ commits_owing f i s | false ↦ last_committed f i i.work.last s ])) [ true ↦ commits_few f i s | false ↦ last_commit_few f i i.work.last s ]

executes_few : (f : Frame) (m : Mending) (i : Instance) (o : Op) (seen : List ℕ) (s : Store) → SendsFew (executes f m i o seen s)
executes_few f m i op.Commit seen s = commit_few f i s
executes_few f m i op.Abort seen s = few_one _ refl
executes_few f m i o seen s = effect_few f i o (effect_of o seen m i.work.content) s

op_again_few : (f : Frame) (i : Instance) (n : ℕ) (o : Option Result) → Few (op_again f i n o)
op_again_few f i n None = few_none
op_again_few f i n (Some r) = few_one _ refl

number_few : (f : Frame) (m : Mending) (i : Instance) (n : ℕ) (o : Op) (seen : List ℕ) (s : Store) → SendsFew (by_number f m i n o seen s)
number_few f m i n o seen s = elim (n == i.work.ops) as (λ b. SendsFew (elim b [
  | true ↦ sends (op_again f i n i.answered) s
  | false ↦ elim (n == i.work.ops + 1) [ true ↦ executes f m i o seen s | false ↦ quiet s ]
])) [
  | true ↦ op_again_few f i n i.answered
  | false ↦ elim (n == i.work.ops + 1) as (λ b. SendsFew (elim b [ true ↦ executes f m i o seen s | false ↦ quiet s ])) [ true ↦ executes_few f m i o seen s | false ↦ few_none ]
]

op_at_few : (f : Frame) (m : Mending) (i : Instance) (g : Stage) (n : ℕ) (o : Op) (seen : List ℕ) (s : Store) → SendsFew (on_op_at f m i g n o seen s)
op_at_few f m i running.Running n o seen s = number_few f m i n o seen s
op_at_few f m i (running.Closing made a) n o seen s = few_none
op_at_few f m i (running.Closed a) n o seen s = few_none

op_of_few : (f : Frame) (m : Mending) (x : Option Instance) (n : ℕ) (o : Op) (seen : List ℕ) (s : Store) → SendsFew (on_op_of f m x n o seen s)
op_of_few f m None n o seen s = few_none
op_of_few f m (Some i) n o seen s = op_at_few f m i i.stage n o seen s

pub on_op_few : (f : Frame) (m : Mending) (inst : Serial) (n : ℕ) (o : Op) (seen : List ℕ) (s : Store) → SendsFew (on_op f m inst n o seen s)
on_op_few f m inst n o seen s = op_of_few f m (instance_of s inst) n o seen s

-- ---- pages ----

few_if : (b : Bool) (p : Packet) → opens_mend p.body ≡ false → Few (cond b (p ∷ []) [])
few_if true p h = few_one p h
few_if false p h = few_none

pulled_few : (f : Frame) (from : ℕ) (file : FileId) (stamp : Stamp) (page : ℕ) (o : Option FileCopy) → Few (pulled_page f from file stamp page o)
pulled_few f from file stamp page None = few_none
pulled_few f from file stamp page (Some x) = few_if (has_page stamp page x) _ refl

pub on_pull_few : (f : Frame) (from : ℕ) (file : FileId) (stamp : Stamp) (page : ℕ) (s : Store) → SendsFew (on_pull f from file stamp page s)
on_pull_few f from file stamp page s = pulled_few f from file stamp page (copy_of s file)

wanted_few : (f : Frame) (from : ℕ) (file : FileId) (wanted own : Stamp) (s : Store) (o : Option FileCopy) → Few (wanted_delta f from file wanted own s o)
wanted_few f from file wanted own s None = few_none
wanted_few f from file wanted own s (Some x) = few_if (same_stamp x.stamp wanted) _ refl

pub on_want_few : (f : Frame) (from : ℕ) (file : FileId) (wanted own : Stamp) (s : Store) → SendsFew (on_want f from file wanted own s)
on_want_few f from file wanted own s = wanted_few f from file wanted own s (copy_of s file)

asked_few : (p : Pull) (base : Option Stamp) (wanted : Option (List ℕ)) → opens_mend (next_asked p base wanted) ≡ false
asked_few p (Some own) None = refl
asked_few p (Some own) (Some pages) = refl
asked_few p None wanted = refl

pull_few : (f : Frame) (p : Pull) → Few (pull_packets f p)
pull_few f p = elim (is_complete p) as (λ b. Few (cond b [] (packet f p.holder (next_asked p p.base p.wanted) ∷ []))) [ true ↦ few_none | false ↦ few_one _ (asked_few p p.base p.wanted) ]

begins_few : (f : Frame) (own : Option FileCopy) (p : Pull) (pulls : List Pull) → SendsFew (begins_pull f own p pulls)
begins_few f own p pulls = elim (replaces_pull own p (pull_of pulls p.file)) as (λ b. SendsFew (elim b [ true ↦ goes_on f (pull_over own p) pulls | false ↦ quiet pulls ])) [ true ↦ pull_few f (pull_over own p) | false ↦ few_none ]

pub on_notify_few : (f : Frame) (from : ℕ) (o : Option FileCopy) (p : Pull) (pulls : List Pull) → SendsFew (on_notify f from o p pulls)
on_notify_few f from None p pulls = begins_few f None p pulls
on_notify_few f from (Some own) p pulls = elim (same_stamp own.stamp p.stamp) as (λ b. SendsFew (elim b [
  | true ↦ sends (packet f from (body.Have p.file p.stamp) ∷ []) pulls
  | false ↦ elim (is_below own.vector p.vector) [ true ↦ begins_pull f (Some own) p pulls | false ↦ quiet pulls ]
])) [
  | true ↦ few_one _ refl
  | false ↦ elim (is_below own.vector p.vector) as (λ b. SendsFew (elim b [ true ↦ begins_pull f (Some own) p pulls | false ↦ quiet pulls ])) [ true ↦ begins_few f (Some own) p pulls | false ↦ few_none ]
]

delta_few : (f : Frame) (own : ℕ) (stamp : Stamp) (pages : List ℕ) (o : Option Pull) (pulls : List Pull) → SendsFew (on_delta_of f own stamp pages o pulls)
delta_few f own stamp pages None pulls = few_none
delta_few f own stamp pages (Some p) pulls = elim (is_delta own p stamp pages) as (λ b. SendsFew (elim b [ true ↦ goes_on f (record p { wanted = Some pages }) pulls | false ↦ quiet pulls ])) [ true ↦ pull_few f (record p { wanted = Some pages }) | false ↦ few_none ]

page_few : (f : Frame) (stamp : Stamp) (page : ℕ) (bytes : List ℕ) (o : Option Pull) (pulls : List Pull) → SendsFew (on_page_of f stamp page bytes o pulls)
page_few f stamp page bytes None pulls = few_none
page_few f stamp page bytes (Some p) pulls = elim (is_awaited p stamp page bytes) as (λ b. SendsFew (elim b [ true ↦ goes_on f (record p { content = p.content ++ bytes }) pulls | false ↦ quiet pulls ])) [ true ↦ pull_few f (record p { content = p.content ++ bytes }) | false ↦ few_none ]

pub on_page_few : (f : Frame) (file : FileId) (stamp : Stamp) (page : ℕ) (bytes : List ℕ) (pulls : List Pull) → SendsFew (on_page f file stamp page bytes pulls)
on_page_few f file stamp page bytes pulls = page_few f stamp page bytes (pull_of pulls file) pulls

pub on_delta_few : (f : Frame) (own : Option FileCopy) (file : FileId) (stamp : Stamp) (pages : List ℕ) (pulls : List Pull) → SendsFew (on_delta f own file stamp pages pulls)
on_delta_few f own file stamp pages pulls = delta_few f (pages_in own) stamp pages (pull_of pulls file) pulls
