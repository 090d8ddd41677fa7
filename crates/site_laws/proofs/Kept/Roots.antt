-- An instance has parents, or the number of its file was reserved for it: what the store does of each packet keeps that.
use Rattle.std.proofs.Common.{◌≡◌, ◌⊎◌, ℕ, ◌+◌, ◌==◌, true, false, List, [], ◌∷◌, Option, Some, None, refl, sym, subst, inl, inr}
use Rattle.locus_ids.specs.declared.ids.EpochId.{EpochId}
use Rattle.locus_ids.specs.declared.ids.FileId.{FileId}
use Rattle.locus_ids.specs.declared.ids.Serial.{Serial}
use Rattle.locus_ids.specs.declared.ids.Stamp.{Stamp}
use Rattle.locus_ids.specs.declared.ids.Mode.{Mode}
use Rattle.locus_ids.specs.declared.ids.Mode.TheVariants as mode
use Rattle.locus_ids.specs.declared.refusal.Refusal.TheVariants as refusal
use Rattle.trace_book.specs.declared.record.Record.{Record}
use Rattle.trace_book.specs.declared.record.Record.TheVariants as says
use Rattle.trace_book.specs.declared.operation.Op.{Op}
use Rattle.trace_book.specs.declared.operation.Op.TheVariants as op
use Rattle.trace_book.specs.declared.operation.Outcome.{Outcome as Result}
use Rattle.trace_book.specs.declared.operation.Outcome.TheVariants as result
use Rattle.file_effects.specs.Effects.{Effect}
use Rattle.file_effects.specs.Works.{counted, result_in, operated, aborted}
use Rattle.file_effects.specs.declared.work.Work.{Work}
use Rattle.wire_messages.specs.declared.packet.Packet.{Packet}
use Rattle.wire_messages.specs.declared.body.CloseAnswer.{CloseAnswer}
use Rattle.wire_messages.specs.declared.body.CloseAnswer.TheVariants as closing
use Rattle.role_steps.specs.Own.{Every}
use Rattle.role_steps.specs.Views.{Frame, Store, Told, Shown, Begins, Shuts, Reserves, DiskWrite, Outcome, quiet, sends, and_then, joined_to, first_written, serial_key}
use Rattle.role_steps.specs.Storage.{StoreRequest, copy_of, content_of, instance_key, instance_of, own_ino, begun_instance, begins, with_instance, opens, opens_made, on_open_ss_of, on_open_ss, is_spent, instance_committed, commit_record, commits, next_stamp, next_vector, made_version, shut, shuts, shuts_again, closes_owing, closes, on_close_at, on_close_of, on_close, ends_at, on_closed_ok_of, on_closed_ok, free_pages}
use Rattle.role_steps.specs.Operations.{act_record, acts, acts_committed, commits_owing, last_committed, commit_op, executes_effect, executes, op_again, by_number, on_op_at, on_op_of, on_op, in_form, nothing_to_mend, on_read_held}
use Rattle.role_steps.specs.of_dir_format.Entries.{nothing_seen}
use Rattle.role_steps.specs.OperationEffects.{Mending, effect_of}
use Rattle.role_steps.specs.declared.instances.Instance.{Instance}
use Rattle.role_steps.specs.declared.instances.Stage.{Stage}
use Rattle.role_steps.specs.declared.instances.Stage.TheVariants as stage
use Rattle.role_steps.proofs.Sending.{every_append}
use Rattle.the_run.proofs.Boots.{every_weaker}
use Rattle.the_run.proofs.InsideSync.{Found, row_found}
use Rattle.site_laws.specs.Vectors.Facts.{onto}
use Rattle.site_laws.proofs.Vectors.Facts.{onto_append}
use Rattle.site_laws.proofs.Vectors.SyncFacts.{every_latest}
use Rattle.site_laws.specs.Packs.Making.{NotEmpty}
use Rattle.site_laws.specs.Packs.Packed.{Follows}
use Rattle.site_laws.specs.Makes.Holding.{WasReserved}
use Rattle.site_laws.proofs.Makes.RunningSpine.{AllOwed, DiskOwed, owed_append}
use Rattle.site_laws.proofs.Makes.RunningSpineParts.{Here}

-- ---- instances, and what is told ----

-- it follows versions, or the number of its file was reserved for it
abbrev pub Rooted : List Told → ℕ → EpochId → Instance → Type 0
Rooted past s e i = NotEmpty i.parents ⊎ WasReserved past s e (serial_key i.inst) i.file

-- the number of the file was reserved
pub record IsReserved (past : List Told) (file : FileId) : Type 0 where
  pub site : ℕ
  pub epoch : EpochId
  pub key : ℕ
  pub reserved : WasReserved past site epoch key file

abbrev pub RootedRecord : List Told → Record → Type 0
RootedRecord past (says.Commit file s stamp parents content) = NotEmpty parents ⊎ IsReserved past file
RootedRecord past _ = Unit {0}

-- and so of each commit
abbrev pub RootedTold : List Told → Told → Type 0
RootedTold past (Shown r) = RootedRecord past r
RootedTold past _ = Unit {0}

pub rooted_later : (x : Told) (past : List Told) (s : ℕ) (e : EpochId) (i : Instance) → Rooted past s e i → Rooted (x ∷ past) s e i
rooted_later x past s e i (inl h) = inl h
rooted_later x past s e i (inr h) = inr (inr h)

pub all_later : (x : Told) (past : List Told) (s : ℕ) (e : EpochId) (is : List Instance) → Every (Rooted past s e) is → Every (Rooted (x ∷ past) s e) is
all_later x past s e is h = every_weaker (Rooted past s e) (Rooted (x ∷ past) s e) is (rooted_later x past s e) h

-- ---- outcomes ----

pub record RootsOut (past : List Told) (f : Frame) (o : Outcome Store) : Type 0 where
  pub view : Every (Rooted (onto o.told past) f.me f.epoch) o.view.instances
  pub owed : AllOwed RootedTold past o.told
  pub here : Every (Here f.me f.epoch) o.told
  pub disk : DiskOwed RootedTold f.me past o.written

abbrev AreRooted : List Told → Frame → Store → Type 0
AreRooted past f s = Every (Rooted past f.me f.epoch) s.instances

pub sends_out : (past : List Told) (f : Frame) (ps : List Packet) (s : Store) → AreRooted past f s → RootsOut past f (sends ps s)
sends_out past f ps s h = record { view = h; owed = tt; here = tt; disk = tt }

pub quiet_out : (past : List Told) (f : Frame) (s : Store) → AreRooted past f s → RootsOut past f (quiet s)
quiet_out past f s h = record { view = h; owed = tt; here = tt; disk = tt }

put : (x : Told) (past : List Told) (f : Frame) (i : Instance) (s : Store) → Rooted (x ∷ past) f.me f.epoch i → AreRooted past f s → AreRooted (x ∷ past) f (with_instance i s)
put x past f i s k h = every_latest (Rooted (x ∷ past) f.me f.epoch) instance_key i s.instances k (all_later x past f.me f.epoch s.instances h)

-- one thing, and then another
then_out : (past : List Told) (f : Frame) (o p : Outcome Store) (x : DiskWrite) → o.written ≡ Some x → RootsOut past f o → RootsOut (onto o.told past) f p → RootsOut past f (joined_to o p)
then_out past f o p x w h g = record {
  view = subst (λ (now : List Told). Every (Rooted now f.me f.epoch) p.view.instances) (sym (onto_append o.told p.told past)) g.view;
  owed = owed_append RootedTold past o.told p.told h.owed g.owed;
  here = every_append (Here f.me f.epoch) o.told p.told h.here g.here;
  disk = subst (λ (d : Option DiskWrite). DiskOwed RootedTold f.me past (first_written d p.written)) (sym w) (subst (DiskOwed RootedTold f.me past) w h.disk);
}

-- ---- opens ----

made_out : (past : List Told) (f : Frame) (r : StoreRequest) (o : Option ℕ) (s : Store) → AreRooted past f s → RootsOut past f (opens_made f r o s)
made_out past f r None s h = sends_out past f _ s h
made_out past f r (Some ino) s h =
    let file : FileId = record { group = r.file.group; ino = ino } in
    let first : List Told = Begins f.me f.epoch r.inst file ∷ past in
    record {
      view = put (Reserves f.me f.epoch r.inst file) first f (begun_instance r file None) s (inr (inl (refl, refl, refl, refl))) (all_later (Begins f.me f.epoch r.inst file) past f.me f.epoch s.instances h);
      owed = (tt, (tt, tt));
      here = ((refl, refl), ((refl, refl), tt));
      disk = tt;
    }

plain_out : (past : List Told) (f : Frame) (r : StoreRequest) (s : Store) → NotEmpty r.parents → AreRooted past f s → RootsOut past f (begins f (begun_instance r r.file (copy_of s r.file)) (Begins f.me f.epoch r.inst r.file ∷ []) s)
plain_out past f r s k h = record { view = put (Begins f.me f.epoch r.inst r.file) past f (begun_instance r r.file (copy_of s r.file)) s (inl k) h; owed = (tt, tt); here = ((refl, refl), tt); disk = tt }

opens_out : (past : List Told) (f : Frame) (r : StoreRequest) (m : Mode) (s : Store) → Follows m r.parents → AreRooted past f s → RootsOut past f (opens f r m s)
opens_out past f r mode.Make s k h = made_out past f r (own_ino s r.file.group f.me) s h
opens_out past f r mode.Read s k h = plain_out past f r s k h
opens_out past f r mode.Write s k h = plain_out past f r s k h
opens_out past f r mode.Resolve s k h = plain_out past f r s k h
opens_out past f r mode.Mend s k h = plain_out past f r s k h

open_of_out : (past : List Told) (f : Frame) (r : StoreRequest) (o : Option Instance) (s : Store) → Follows r.mode r.parents → AreRooted past f s → RootsOut past f (on_open_ss_of f r o s)
open_of_out past f r None s k h = opens_out past f r r.mode s k h
open_of_out past f r (Some i) s k h = sends_out past f _ s h

pub on_open_ss_out : (past : List Told) (f : Frame) (r : StoreRequest) (s : Store) → Follows r.mode r.parents → AreRooted past f s → RootsOut past f (on_open_ss f r s)
on_open_ss_out past f r s k h = open_of_out past f r (instance_of s r.inst) s k h

-- ---- commits and closes ----

commit_rooted : (past : List Told) (f : Frame) (i : Instance) (stamp : Stamp) → Rooted past f.me f.epoch i → RootedTold past (Shown (commit_record f i stamp))
commit_rooted past f i stamp (inl h) = inl h
commit_rooted past f i stamp (inr h) = inr (record { site = f.me; epoch = f.epoch; key = serial_key i.inst; reserved = h })

commits_out : (past : List Told) (f : Frame) (i : Instance) (s : Store) → Rooted past f.me f.epoch i → AreRooted past f s → RootsOut past f (commits f i s)
commits_out past f i s k h =
    let stamp : Stamp = next_stamp f (next_vector f i) in
    let w : RootedTold past (Shown (commit_record f i stamp)) = commit_rooted past f i stamp k in
    record { view = put (Shown (commit_record f i stamp)) past f (instance_committed i (next_vector f i) stamp) s (inl tt) h; owed = (w, tt); here = (refl, tt); disk = (w, refl) }

shuts_out : (past : List Told) (f : Frame) (i : Instance) (a : CloseAnswer) (s : Store) → Rooted past f.me f.epoch i → AreRooted past f s → RootsOut past f (shuts f i a s)
shuts_out past f i a s k h = record { view = put (Shuts f.me f.epoch i.inst) past f (shut i (made_version i (copy_of s i.file) i.work.committed) a) s (rooted_later (Shuts f.me f.epoch i.inst) past f.me f.epoch i k) h; owed = (tt, tt); here = ((refl, refl), tt); disk = tt }

again_out : (past : List Told) (f : Frame) (a : CloseAnswer) (o : Option Instance) (s : Store) → Found (Rooted past f.me f.epoch) o → AreRooted past f s → RootsOut past f (shuts_again f a o s)
again_out past f a None s k h = quiet_out past f s h
again_out past f a (Some i) s k h = shuts_out past f i a s k h

owing_out : (past : List Told) (f : Frame) (i : Instance) (s : Store) → Rooted past f.me f.epoch i → AreRooted past f s → RootsOut past f (closes_owing f i s)
owing_out past f i s k h =
    let a : CloseAnswer = closing.Made (next_stamp f (next_vector f i)) in
    let o : Outcome Store = commits f i s in
    let c : RootsOut past f o = commits_out past f i s k h in
    elim (is_spent f i) as (λ b. RootsOut past f (elim b [ true ↦ shuts f i (closing.No refusal.Spent) s | false ↦ and_then (commits f i s) (λ now. shuts_again f (closing.Made (next_stamp f (next_vector f i))) (instance_of now i.inst) now) ])) [
      | true ↦ shuts_out past f i (closing.No refusal.Spent) s k h
      | false ↦ then_out past f o (shuts_again f a (instance_of o.view i.inst) o.view) _ refl c (again_out (onto o.told past) f a (instance_of o.view i.inst) o.view (row_found (Rooted (onto o.told past) f.me f.epoch) instance_key (serial_key i.inst) o.view.instances c.view) c.view)
    ]

closes_out : (past : List Told) (f : Frame) (i : Instance) (s : Store) → Rooted past f.me f.epoch i → AreRooted past f s → RootsOut past f (closes f i s)
closes_out past f i s k h = elim i.work.owes as (λ b. RootsOut past f (elim b [ true ↦ closes_owing f i s | false ↦ shuts f i closing.Nothing s ])) [ true ↦ owing_out past f i s k h | false ↦ shuts_out past f i closing.Nothing s k h ]

close_at_out : (past : List Told) (f : Frame) (i : Instance) (x : Stage) (s : Store) → Rooted past f.me f.epoch i → AreRooted past f s → RootsOut past f (on_close_at f i x s)
close_at_out past f i stage.Running s k h = closes_out past f i s k h
close_at_out past f i (stage.Closing made a) s k h = sends_out past f _ s h
close_at_out past f i (stage.Closed a) s k h = sends_out past f _ s h

close_of_out : (past : List Told) (f : Frame) (o : Option Instance) (s : Store) → Found (Rooted past f.me f.epoch) o → AreRooted past f s → RootsOut past f (on_close_of f o s)
close_of_out past f None s k h = quiet_out past f s h
close_of_out past f (Some i) s k h = close_at_out past f i i.stage s k h

pub on_close_out : (past : List Told) (f : Frame) (inst : Serial) (s : Store) → AreRooted past f s → RootsOut past f (on_close f inst s)
on_close_out past f inst s h = close_of_out past f (instance_of s inst) s (row_found (Rooted past f.me f.epoch) instance_key (serial_key inst) s.instances h) h

ends_out : (past : List Told) (f : Frame) (i : Instance) (x : Stage) (s : Store) → Rooted past f.me f.epoch i → AreRooted past f s → RootsOut past f (ends_at f i x s)
ends_out past f i stage.Running s k h = quiet_out past f s h
ends_out past f i (stage.Closing made a) s k h = record { view = every_latest (Rooted past f.me f.epoch) instance_key (record i { stage = stage.Closed a }) s.instances k h; owed = tt; here = tt; disk = tt }
ends_out past f i (stage.Closed a) s k h = quiet_out past f s h

closed_of_out : (past : List Told) (f : Frame) (o : Option Instance) (s : Store) → Found (Rooted past f.me f.epoch) o → AreRooted past f s → RootsOut past f (on_closed_ok_of f o s)
closed_of_out past f None s k h = quiet_out past f s h
closed_of_out past f (Some i) s k h = ends_out past f i i.stage s k h

pub on_closed_ok_out : (past : List Told) (f : Frame) (inst : Serial) (s : Store) → AreRooted past f s → RootsOut past f (on_closed_ok f inst s)
on_closed_ok_out past f inst s h = closed_of_out past f (instance_of s inst) s (row_found (Rooted past f.me f.epoch) instance_key (serial_key inst) s.instances h) h

-- ---- operations ----

acts_out : (past : List Told) (f : Frame) (i : Instance) (o : Op) (r : Result) (w : Work) (s : Store) → Rooted past f.me f.epoch i → AreRooted past f s → RootsOut past f (acts f i o r w s)
acts_out past f i o r w s k h = record { view = put (act_record f i w.ops o r) past f (record i { work = w; answered = Some r }) s (rooted_later (act_record f i w.ops o r) past f.me f.epoch i k) h; owed = (tt, tt); here = (tt, tt); disk = tt }

effect_out : (past : List Told) (f : Frame) (i : Instance) (o : Op) (e : Option Effect) (s : Store) → Rooted past f.me f.epoch i → AreRooted past f s → RootsOut past f (executes_effect f i o e s)
effect_out past f i o None s k h = quiet_out past f s h
effect_out past f i o (Some e) s k h = acts_out past f i o (result_in (free_pages s i.file.group) i.work.changed e) (operated e (result_in (free_pages s i.file.group) i.work.changed e) i.work) s k h

committed_out : (past : List Told) (f : Frame) (stamp : Stamp) (o : Option Instance) (s : Store) → Found (Rooted past f.me f.epoch) o → AreRooted past f s → RootsOut past f (acts_committed f stamp o s)
committed_out past f stamp None s k h = quiet_out past f s h
committed_out past f stamp (Some i) s k h = acts_out past f i op.Commit (result.Committed stamp) (counted i.work) s k h

commits_owing_out : (past : List Told) (f : Frame) (i : Instance) (s : Store) → Rooted past f.me f.epoch i → AreRooted past f s → RootsOut past f (commits_owing f i s)
commits_owing_out past f i s k h =
    let o : Outcome Store = commits f i s in
    let stamp : Stamp = next_stamp f (next_vector f i) in
    let c : RootsOut past f o = commits_out past f i s k h in
    elim (is_spent f i) as (λ b. RootsOut past f (elim b [ true ↦ acts f i op.Commit (result.No refusal.Spent) (counted i.work) s | false ↦ and_then (commits f i s) (λ now. acts_committed f (next_stamp f (next_vector f i)) (instance_of now i.inst) now) ])) [
      | true ↦ acts_out past f i op.Commit (result.No refusal.Spent) (counted i.work) s k h
      | false ↦ then_out past f o (acts_committed f stamp (instance_of o.view i.inst) o.view) _ refl c (committed_out (onto o.told past) f stamp (instance_of o.view i.inst) o.view (row_found (Rooted (onto o.told past) f.me f.epoch) instance_key (serial_key i.inst) o.view.instances c.view) c.view)
    ]

last_out : (past : List Told) (f : Frame) (i : Instance) (o : Option Stamp) (s : Store) → Rooted past f.me f.epoch i → AreRooted past f s → RootsOut past f (last_committed f i o s)
last_out past f i None s k h = quiet_out past f s h
last_out past f i (Some stamp) s k h = acts_out past f i op.Commit (result.Committed stamp) (counted i.work) s k h

commit_op_out : (past : List Told) (f : Frame) (i : Instance) (s : Store) → Rooted past f.me f.epoch i → AreRooted past f s → RootsOut past f (commit_op f i s)
commit_op_out past f i s k h = elim i.work.owes as (λ b. RootsOut past f (elim b [ true ↦ commits_owing f i s | false ↦ last_committed f i i.work.last s ])) [ true ↦ commits_owing_out past f i s k h | false ↦ last_out past f i i.work.last s k h ]

executes_out : (past : List Told) (f : Frame) (m : Mending) (i : Instance) (o : Op) (seen : List ℕ) (s : Store) → Rooted past f.me f.epoch i → AreRooted past f s → RootsOut past f (executes f m i o seen s)
executes_out past f m i op.Commit seen s k h = commit_op_out past f i s k h
executes_out past f m i op.Abort seen s k h = acts_out past f i op.Abort result.Done (aborted i.mode (content_of (copy_of s i.file)) i.work) s k h
executes_out past f m i (op.Probe name) seen s k h = effect_out past f i (op.Probe name) (effect_of (op.Probe name) seen m i.work.content) s k h
executes_out past f m i (op.Find component) seen s k h = effect_out past f i (op.Find component) (effect_of (op.Find component) seen m i.work.content) s k h
executes_out past f m i (op.Insert name ino kind) seen s k h = effect_out past f i (op.Insert name ino kind) (effect_of (op.Insert name ino kind) seen m i.work.content) s k h
executes_out past f m i (op.Remove name ino) seen s k h = effect_out past f i (op.Remove name ino) (effect_of (op.Remove name ino) seen m i.work.content) s k h
executes_out past f m i (op.Rename component name) seen s k h = effect_out past f i (op.Rename component name) (effect_of (op.Rename component name) seen m i.work.content) s k h
executes_out past f m i op.Empty seen s k h = effect_out past f i op.Empty (effect_of op.Empty seen m i.work.content) s k h
executes_out past f m i (op.Read at len) seen s k h = effect_out past f i (op.Read at len) (effect_of (op.Read at len) seen m i.work.content) s k h
executes_out past f m i (op.Write at bytes) seen s k h = effect_out past f i (op.Write at bytes) (effect_of (op.Write at bytes) seen m i.work.content) s k h
executes_out past f m i (op.Cut len) seen s k h = effect_out past f i (op.Cut len) (effect_of (op.Cut len) seen m i.work.content) s k h
executes_out past f m i op.Mend seen s k h = effect_out past f i op.Mend (effect_of op.Mend seen m i.work.content) s k h

number_out : (past : List Told) (f : Frame) (m : Mending) (i : Instance) (n : ℕ) (o : Op) (seen : List ℕ) (s : Store) → Rooted past f.me f.epoch i → AreRooted past f s → RootsOut past f (by_number f m i n o seen s)
number_out past f m i n o seen s k h =
    elim (n == i.work.ops) as (λ b. RootsOut past f (elim b [ true ↦ sends (op_again f i n i.answered) s | false ↦ elim (n == i.work.ops + 1) [ true ↦ executes f m i o seen s | false ↦ quiet s ] ])) [
      | true ↦ sends_out past f _ s h
      | false ↦ elim (n == i.work.ops + 1) as (λ b. RootsOut past f (elim b [ true ↦ executes f m i o seen s | false ↦ quiet s ])) [ true ↦ executes_out past f m i o seen s k h | false ↦ quiet_out past f s h ]
    ]

op_at_out : (past : List Told) (f : Frame) (m : Mending) (i : Instance) (x : Stage) (n : ℕ) (o : Op) (seen : List ℕ) (s : Store) → Rooted past f.me f.epoch i → AreRooted past f s → RootsOut past f (on_op_at f m i x n o seen s)
op_at_out past f m i stage.Running n o seen s k h = number_out past f m i n o seen s k h
op_at_out past f m i (stage.Closing made a) n o seen s k h = quiet_out past f s h
op_at_out past f m i (stage.Closed a) n o seen s k h = quiet_out past f s h

op_of_out : (past : List Told) (f : Frame) (m : Mending) (i : Option Instance) (n : ℕ) (o : Op) (seen : List ℕ) (s : Store) → Found (Rooted past f.me f.epoch) i → AreRooted past f s → RootsOut past f (on_op_of f m i n o seen s)
op_of_out past f m None n o seen s k h = quiet_out past f s h
op_of_out past f m (Some i) n o seen s k h = op_at_out past f m i i.stage n o seen s k h

pub on_op_out : (past : List Told) (f : Frame) (m : Mending) (inst : Serial) (n : ℕ) (o : Op) (seen : List ℕ) (s : Store) → AreRooted past f s → RootsOut past f (on_op f m inst n o seen s)
on_op_out past f m inst n o seen s h = op_of_out past f m (instance_of s inst) n o seen s (row_found (Rooted past f.me f.epoch) instance_key (serial_key inst) s.instances h) h

-- a held read is the operation that it stands for, but for the form of its answer
form_out : (past : List Told) (f : Frame) (i : Option Instance) (o : Outcome Store) → RootsOut past f o → RootsOut past f (in_form i o)
form_out past f None o h = h
form_out past f (Some i) o h = record { view = h.view; owed = h.owed; here = h.here; disk = h.disk }

pub on_read_held_out : (past : List Told) (f : Frame) (inst : Serial) (n at len : ℕ) (s : Store) → AreRooted past f s → RootsOut past f (on_read_held f inst n at len s)
on_read_held_out past f inst n at len s h = form_out past f (instance_of s inst) (on_op f nothing_to_mend inst n (op.Read at len) nothing_seen s) (on_op_out past f nothing_to_mend inst n (op.Read at len) nothing_seen s h)
