-- What the storage site does to its disk: a commit writes one version and tells it once, all else writes nothing.
use Rattle.std.proofs.Common.{ℕ, ◌+◌, ◌==◌, true, false, List, [], Option, Some, None, refl, inl, inr}
use Rattle.locus_ids.specs.declared.ids.Serial.{Serial}
use Rattle.locus_ids.specs.declared.ids.Stamp.{Stamp}
use Rattle.locus_ids.specs.declared.ids.Mode.{Mode}
use Rattle.locus_ids.specs.declared.ids.Mode.TheVariants as mode
use Rattle.locus_ids.specs.declared.refusal.Refusal.TheVariants as refusal
use Rattle.trace_book.specs.declared.operation.Op.{Op}
use Rattle.trace_book.specs.declared.operation.Op.TheVariants as op
use Rattle.trace_book.specs.declared.operation.Outcome.TheVariants as result
use Rattle.file_effects.specs.Effects.{Effect}
use Rattle.file_effects.specs.Works.{counted}
use Rattle.run_laws.specs.of_wire_messages.declared.body.CloseAnswer.{CloseAnswer}
use Rattle.run_laws.specs.of_wire_messages.declared.body.CloseAnswer.TheVariants as closing
use Rattle.run_laws.specs.of_role_steps.Views.{Frame, Store, DiskWrite, Outcome, quiet, sends, and_then}
use Rattle.run_laws.specs.of_role_steps.Storage.{StoreRequest, instance_of, own_ino, opens, opens_made, on_open_ss_of, on_open_ss, is_spent, commit_write, commits, next_stamp, next_vector, shuts, shuts_again, closes_owing, closes, on_close_at, on_close_of, on_close, ends_at, on_closed_ok_of, on_closed_ok}
use Rattle.role_steps.specs.of_dir_format.Entries.{nothing_seen}
use Rattle.run_laws.specs.of_role_steps.Operations.{acts, acts_committed, commits_owing, last_committed, commit_op, executes_effect, executes, op_again, by_number, on_op_at, on_op_of, on_op, in_form, nothing_to_mend, on_read_held}
use Rattle.run_laws.specs.of_role_steps.OperationEffects.{Mending, effect_of}
use Rattle.run_laws.specs.of_role_steps.declared.instances.Instance.{Instance}
use Rattle.run_laws.specs.of_role_steps.declared.instances.Stage.{Stage}
use Rattle.run_laws.specs.of_role_steps.declared.instances.Stage.TheVariants as stage
use Rattle.site_laws.specs.Vectors.Held.{Untouched, OnDisk}
use Rattle.site_laws.proofs.Vectors.Disks.{disk_then}

-- the store keeps its copies
abbrev pub Keeps : Store → Outcome Store → Type 0
Keeps s o = Untouched s.copies o.view.copies o.told o.written

abbrev pub StoreDisk : ℕ → Store → Outcome Store → Type 0
StoreDisk me s o = OnDisk me s.copies o.view.copies o.told o.written

-- ---- opens ----

opens_made_keeps : (f : Frame) (r : StoreRequest) (o : Option ℕ) (s : Store) → Keeps s (opens_made f r o s)
opens_made_keeps f r None s = record { copies = refl; still = tt; none = refl }
opens_made_keeps f r (Some ino) s = record { copies = refl; still = (tt, (tt, tt)); none = refl }

opens_keeps : (f : Frame) (r : StoreRequest) (m : Mode) (s : Store) → Keeps s (opens f r m s)
opens_keeps f r mode.Make s = opens_made_keeps f r (own_ino s r.file.group f.me) s
opens_keeps f r mode.Read s = record { copies = refl; still = (tt, tt); none = refl }
opens_keeps f r mode.Write s = record { copies = refl; still = (tt, tt); none = refl }
opens_keeps f r mode.Resolve s = record { copies = refl; still = (tt, tt); none = refl }
opens_keeps f r mode.Mend s = record { copies = refl; still = (tt, tt); none = refl }

on_open_ss_of_keeps : (f : Frame) (r : StoreRequest) (o : Option Instance) (s : Store) → Keeps s (on_open_ss_of f r o s)
on_open_ss_of_keeps f r None s = opens_keeps f r r.mode s
on_open_ss_of_keeps f r (Some i) s = record { copies = refl; still = tt; none = refl }

pub on_open_ss_keeps : (f : Frame) (r : StoreRequest) (s : Store) → Keeps s (on_open_ss f r s)
on_open_ss_keeps f r s = on_open_ss_of_keeps f r (instance_of s r.inst) s

-- ---- commits ----

commits_disk : (f : Frame) (i : Instance) (s : Store) → StoreDisk f.me s (commits f i s)
commits_disk f i s = inr (
  d,
  record {
    is_written = refl;
    copies = refl;
    says_so = (refl, record { file_is = refl; stamp_is = refl; content_is = refl; own = refl; counted = refl });
    above = tt;
    before = [];
    after = [];
    told_is = refl;
    still_before = tt;
    still_after = tt;
  },
)
  where
    d : DiskWrite
    d = commit_write f i (next_vector f i) (next_stamp f (next_vector f i))

-- ---- closes ----

shuts_keeps : (f : Frame) (i : Instance) (a : CloseAnswer) (s : Store) → Keeps s (shuts f i a s)
shuts_keeps f i a s = record { copies = refl; still = (tt, tt); none = refl }

shuts_again_keeps : (f : Frame) (a : CloseAnswer) (o : Option Instance) (s : Store) → Keeps s (shuts_again f a o s)
shuts_again_keeps f a None s = record { copies = refl; still = tt; none = refl }
shuts_again_keeps f a (Some i) s = shuts_keeps f i a s

closes_owing_disk : (f : Frame) (i : Instance) (s : Store) → StoreDisk f.me s (closes_owing f i s)
closes_owing_disk f i s =
    let a : CloseAnswer = closing.Made (next_stamp f (next_vector f i)) in
    let o : Outcome Store = commits f i s in
    elim (is_spent f i) as (λ b. StoreDisk f.me s (elim b [ true ↦ shuts f i (closing.No refusal.Spent) s | false ↦ and_then (commits f i s) (λ now. shuts_again f (closing.Made (next_stamp f (next_vector f i))) (instance_of now i.inst) now) ])) [
      | true ↦ inl (shuts_keeps f i (closing.No refusal.Spent) s)
      | false ↦ disk_then f.me s.copies o.view.copies _ o.told _ o.written _ (commits_disk f i s) (shuts_again_keeps f a (instance_of o.view i.inst) o.view)
    ]

closes_disk : (f : Frame) (i : Instance) (s : Store) → StoreDisk f.me s (closes f i s)
closes_disk f i s =
    elim i.work.owes as (λ b. StoreDisk f.me s (elim b [ true ↦ closes_owing f i s | false ↦ shuts f i closing.Nothing s ])) [
      | true ↦ closes_owing_disk f i s
      | false ↦ inl (shuts_keeps f i closing.Nothing s)
    ]

on_close_at_disk : (f : Frame) (i : Instance) (g : Stage) (s : Store) → StoreDisk f.me s (on_close_at f i g s)
on_close_at_disk f i stage.Running s = closes_disk f i s
on_close_at_disk f i (stage.Closing made a) s = inl (record { copies = refl; still = tt; none = refl })
on_close_at_disk f i (stage.Closed a) s = inl (record { copies = refl; still = tt; none = refl })

on_close_of_disk : (f : Frame) (o : Option Instance) (s : Store) → StoreDisk f.me s (on_close_of f o s)
on_close_of_disk f None s = inl (record { copies = refl; still = tt; none = refl })
on_close_of_disk f (Some i) s = on_close_at_disk f i i.stage s

pub on_close_disk : (f : Frame) (inst : Serial) (s : Store) → StoreDisk f.me s (on_close f inst s)
on_close_disk f inst s = on_close_of_disk f (instance_of s inst) s

ends_at_keeps : (f : Frame) (i : Instance) (g : Stage) (s : Store) → Keeps s (ends_at f i g s)
ends_at_keeps f i stage.Running s = record { copies = refl; still = tt; none = refl }
ends_at_keeps f i (stage.Closing made a) s = record { copies = refl; still = tt; none = refl }
ends_at_keeps f i (stage.Closed a) s = record { copies = refl; still = tt; none = refl }

on_closed_ok_of_keeps : (f : Frame) (o : Option Instance) (s : Store) → Keeps s (on_closed_ok_of f o s)
on_closed_ok_of_keeps f None s = record { copies = refl; still = tt; none = refl }
on_closed_ok_of_keeps f (Some i) s = ends_at_keeps f i i.stage s

pub on_closed_ok_keeps : (f : Frame) (inst : Serial) (s : Store) → Keeps s (on_closed_ok f inst s)
on_closed_ok_keeps f inst s = on_closed_ok_of_keeps f (instance_of s inst) s

-- ---- operations ----

executes_effect_keeps : (f : Frame) (i : Instance) (o : Op) (e : Option Effect) (s : Store) → Keeps s (executes_effect f i o e s)
executes_effect_keeps f i o None s = record { copies = refl; still = tt; none = refl }
executes_effect_keeps f i o (Some e) s = record { copies = refl; still = (tt, tt); none = refl }

acts_committed_keeps : (f : Frame) (stamp : Stamp) (o : Option Instance) (s : Store) → Keeps s (acts_committed f stamp o s)
acts_committed_keeps f stamp None s = record { copies = refl; still = tt; none = refl }
acts_committed_keeps f stamp (Some i) s = record { copies = refl; still = (tt, tt); none = refl }

commits_owing_disk : (f : Frame) (i : Instance) (s : Store) → StoreDisk f.me s (commits_owing f i s)
commits_owing_disk f i s =
    let stamp : Stamp = next_stamp f (next_vector f i) in
    let o : Outcome Store = commits f i s in
    elim (is_spent f i) as (λ b. StoreDisk f.me s (elim b [ true ↦ acts f i op.Commit (result.No refusal.Spent) (counted i.work) s | false ↦ and_then (commits f i s) (λ now. acts_committed f (next_stamp f (next_vector f i)) (instance_of now i.inst) now) ])) [
      | true ↦ inl (record { copies = refl; still = (tt, tt); none = refl })
      | false ↦ disk_then f.me s.copies o.view.copies _ o.told _ o.written _ (commits_disk f i s) (acts_committed_keeps f stamp (instance_of o.view i.inst) o.view)
    ]

last_committed_keeps : (f : Frame) (i : Instance) (o : Option Stamp) (s : Store) → Keeps s (last_committed f i o s)
last_committed_keeps f i None s = record { copies = refl; still = tt; none = refl }
last_committed_keeps f i (Some stamp) s = record { copies = refl; still = (tt, tt); none = refl }

commit_op_disk : (f : Frame) (i : Instance) (s : Store) → StoreDisk f.me s (commit_op f i s)
commit_op_disk f i s =
    elim i.work.owes as (λ b. StoreDisk f.me s (elim b [ true ↦ commits_owing f i s | false ↦ last_committed f i i.work.last s ])) [
      | true ↦ commits_owing_disk f i s
      | false ↦ inl (last_committed_keeps f i i.work.last s)
    ]

executes_disk : (f : Frame) (m : Mending) (i : Instance) (o : Op) (seen : List ℕ) (s : Store) → StoreDisk f.me s (executes f m i o seen s)
executes_disk f m i op.Commit seen s = commit_op_disk f i s
executes_disk f m i op.Abort seen s = inl (record { copies = refl; still = (tt, tt); none = refl })
executes_disk f m i (op.Probe name) seen s = inl (executes_effect_keeps f i (op.Probe name) (effect_of (op.Probe name) seen m i.work.content) s)
executes_disk f m i (op.Find component) seen s = inl (executes_effect_keeps f i (op.Find component) (effect_of (op.Find component) seen m i.work.content) s)
executes_disk f m i (op.Insert name ino kind) seen s = inl (executes_effect_keeps f i (op.Insert name ino kind) (effect_of (op.Insert name ino kind) seen m i.work.content) s)
executes_disk f m i (op.Remove name ino) seen s = inl (executes_effect_keeps f i (op.Remove name ino) (effect_of (op.Remove name ino) seen m i.work.content) s)
executes_disk f m i (op.Rename component name) seen s = inl (executes_effect_keeps f i (op.Rename component name) (effect_of (op.Rename component name) seen m i.work.content) s)
executes_disk f m i op.Empty seen s = inl (executes_effect_keeps f i op.Empty (effect_of op.Empty seen m i.work.content) s)
executes_disk f m i (op.Read at len) seen s = inl (executes_effect_keeps f i (op.Read at len) (effect_of (op.Read at len) seen m i.work.content) s)
executes_disk f m i (op.Write at bytes) seen s = inl (executes_effect_keeps f i (op.Write at bytes) (effect_of (op.Write at bytes) seen m i.work.content) s)
executes_disk f m i (op.Cut len) seen s = inl (executes_effect_keeps f i (op.Cut len) (effect_of (op.Cut len) seen m i.work.content) s)
executes_disk f m i op.Mend seen s = inl (executes_effect_keeps f i op.Mend (effect_of op.Mend seen m i.work.content) s)

by_number_disk : (f : Frame) (m : Mending) (i : Instance) (n : ℕ) (o : Op) (seen : List ℕ) (s : Store) → StoreDisk f.me s (by_number f m i n o seen s)
by_number_disk f m i n o seen s =
    elim (n == i.work.ops) as (λ b. StoreDisk f.me s (elim b [ true ↦ sends (op_again f i n i.answered) s | false ↦ elim (n == i.work.ops + 1) [ true ↦ executes f m i o seen s | false ↦ quiet s ] ])) [
      | true ↦ inl (record { copies = refl; still = tt; none = refl })
      | false ↦ elim (n == i.work.ops + 1) as (λ b. StoreDisk f.me s (elim b [ true ↦ executes f m i o seen s | false ↦ quiet s ])) [
        | true ↦ executes_disk f m i o seen s
        | false ↦ inl (record { copies = refl; still = tt; none = refl })
      ]
    ]

on_op_at_disk : (f : Frame) (m : Mending) (i : Instance) (g : Stage) (n : ℕ) (o : Op) (seen : List ℕ) (s : Store) → StoreDisk f.me s (on_op_at f m i g n o seen s)
on_op_at_disk f m i stage.Running n o seen s = by_number_disk f m i n o seen s
on_op_at_disk f m i (stage.Closing made a) n o seen s = inl (record { copies = refl; still = tt; none = refl })
on_op_at_disk f m i (stage.Closed a) n o seen s = inl (record { copies = refl; still = tt; none = refl })

on_op_of_disk : (f : Frame) (m : Mending) (i : Option Instance) (n : ℕ) (o : Op) (seen : List ℕ) (s : Store) → StoreDisk f.me s (on_op_of f m i n o seen s)
on_op_of_disk f m None n o seen s = inl (record { copies = refl; still = tt; none = refl })
on_op_of_disk f m (Some i) n o seen s = on_op_at_disk f m i i.stage n o seen s

pub on_op_disk : (f : Frame) (m : Mending) (inst : Serial) (n : ℕ) (o : Op) (seen : List ℕ) (s : Store) → StoreDisk f.me s (on_op f m inst n o seen s)
on_op_disk f m inst n o seen s = on_op_of_disk f m (instance_of s inst) n o seen s

-- a held read leaves the disk as the operation does that it stands for
form_disk : (me : ℕ) (s : Store) (i : Option Instance) (o : Outcome Store) → StoreDisk me s o → StoreDisk me s (in_form i o)
form_disk me s None o h = h
form_disk me s (Some i) o h = h

pub on_read_held_disk : (f : Frame) (inst : Serial) (n at len : ℕ) (s : Store) → StoreDisk f.me s (on_read_held f inst n at len s)
on_read_held_disk f inst n at len s = form_disk f.me s (instance_of s inst) (on_op f nothing_to_mend inst n (op.Read at len) nothing_seen s) (on_op_disk f nothing_to_mend inst n (op.Read at len) nothing_seen s)
