-- The version that an event writes, also where the event is cut off in it, counts all commits of its file at the site.
use Rattle.std.proofs.Common.{◌≡◌, ℕ, ◌+◌, ◌==◌, nat_lt, true, false, List, ◌∷◌, Option, Some, None, refl, sym, subst}
use Rattle.locus_ids.specs.declared.ids.Serial.{Serial}
use Rattle.locus_ids.specs.declared.ids.Stamp.{Stamp}
use Rattle.locus_ids.specs.declared.refusal.Refusal.TheVariants as refusal
use Rattle.locus_ids.specs.declared.config.Config.{Config}
use Rattle.trace_book.specs.declared.operation.Op.{Op}
use Rattle.trace_book.specs.declared.operation.Op.TheVariants as op
use Rattle.trace_book.specs.declared.operation.Outcome.TheVariants as result
use Rattle.file_effects.specs.Effects.{Effect}
use Rattle.file_effects.specs.Works.{counted}
use Rattle.wire_messages.specs.Bodies.{kind_number}
use Rattle.wire_messages.specs.declared.packet.Packet.{Packet}
use Rattle.wire_messages.specs.declared.body.Body.{Body}
use Rattle.wire_messages.specs.declared.body.Body.TheVariants as body
use Rattle.wire_messages.specs.declared.body.CloseAnswer.TheVariants as closing
use Rattle.role_steps.specs.Views.{Frame, Store, SiteView, Told, Shown, DiskWrite, Outcome, quiet, sends, and_then, first_written, serial_key}
use Rattle.role_steps.specs.Storage.{instance_of, is_spent, commits, next_stamp, next_vector, shuts, shuts_again, closes_owing, closes, on_close_at, on_close_of, on_close}
use Rattle.role_steps.specs.Operations.{acts, acts_committed, commits_owing, last_committed, commit_op, executes_effect, executes, op_again, by_number, on_op_at, on_op_of, on_op, in_form, nothing_to_mend, on_read_held}
use Rattle.role_steps.specs.of_dir_format.Entries.{nothing_seen}
use Rattle.role_steps.specs.OperationEffects.{Mending, effect_of}
use Rattle.role_steps.specs.Epochs.{frame_in}
use Rattle.role_steps.specs.Mends.{mending}
use Rattle.role_steps.specs.declared.instances.Instance.{Instance}
use Rattle.role_steps.specs.declared.instances.Stage.{Stage}
use Rattle.role_steps.specs.declared.instances.Stage.TheVariants as stage
use Rattle.role_steps.specs.declared.rounds.InEpoch.{InEpoch}
use Rattle.role_steps.specs.declared.synchronizing.SyncTable.{SyncTable}
use Rattle.the_run.specs.KindLaws.{Law, frame_law, ReadersKeep}
use Rattle.the_run.specs.Roles.{IsForStore}
use Rattle.the_run.proofs.Premises.{frame_tables, frame_users}
use Rattle.the_run.proofs.Roles.{by_role, tables_by, readers_by, users_by, pulls_by}
use Rattle.the_run.specs.Steps.{from_user, group_of, at_table_of, is_dropped, takes_inside, takes_framed}
use Rattle.site_laws.proofs.Vectors.StoreDisks.{on_open_ss_keeps, on_closed_ok_keeps}
use Rattle.site_laws.specs.Locks.Going.{IsGranted}
use Rattle.site_laws.specs.Kept.StampLaws.{Laws}
use Rattle.site_laws.specs.Kept.StampCovering.{View, DiskGoes}
use Rattle.site_laws.proofs.Kept.StampStoreCovers.{Stored, Knows, MayCommit, may_commit}
use Rattle.site_laws.proofs.Kept.StampCommitCovers.{commits_fine}
use Rattle.site_laws.proofs.Kept.StampSiteCovers.{Comes, stored_of}
use Rattle.site_laws.proofs.Kept.StampStepCovers.{Arrives, comes}

-- what is written owes this where its record is the first that the event tells
abbrev pub DiskOwes : Config → List Told → ℕ → Option DiskWrite → Type 0
DiskOwes c past me None = Unit {0}
DiskOwes c past me (Some d) = Laws c (Shown d.says ∷ past) → DiskGoes c past me (Some d)

pub none_owes : (c : Config) (past : List Told) (me : ℕ) (w : Option DiskWrite) → w ≡ None → DiskOwes c past me w
none_owes c past me w e = subst (DiskOwes c past me) (sym e) tt

pub first_owes : (c : Config) (past : List Told) (me : ℕ) (a b : Option DiskWrite) → DiskOwes c past me a → b ≡ None → DiskOwes c past me (first_written a b)
first_owes c past me None b h e = none_owes c past me b e
first_owes c past me (Some d) b h e = h

-- ---- operations ----

commit_owes : (c : Config) (past : List Told) (f : Frame) (i : Instance) (s : Store) → i.work.owes ≡ true → is_spent f i ≡ false → MayCommit past f i → Stored past f s → DiskOwes c past f.me (commits f i s).written
commit_owes c past f i s owes free k h l = let q : DiskGoes c past f.me (commits f i s).written = (commits_fine c past f i s l owes free k h).disk in q

owing_owes : (c : Config) (past : List Told) (f : Frame) (i : Instance) (s : Store) → i.work.owes ≡ true → MayCommit past f i → Stored past f s → DiskOwes c past f.me (commits_owing f i s).written
owing_owes c past f i s owes k h =
    (elim (is_spent f i) as (λ b. is_spent f i ≡ b → Owes (elim b [ true ↦ acts f i op.Commit (result.No refusal.Spent) (counted i.work) s | false ↦ and_then (commits f i s) (λ now. acts_committed f (next_stamp f (next_vector f i)) (instance_of now i.inst) now) ])) [ true ↦ λ e. tt | false ↦ λ e. commit_owes c past f i s owes e k h ]) refl
  where
    Owes : Outcome Store → Type 0
    Owes o = DiskOwes c past f.me o.written

last_none : (f : Frame) (i : Instance) (o : Option Stamp) (s : Store) → (last_committed f i o s).written ≡ None
last_none f i None s = refl
last_none f i (Some stamp) s = refl

commit_op_owes : (c : Config) (past : List Told) (f : Frame) (i : Instance) (s : Store) → MayCommit past f i → Stored past f s → DiskOwes c past f.me (commit_op f i s).written
commit_op_owes c past f i s k h =
    (elim i.work.owes as (λ b. i.work.owes ≡ b → Owes (elim b [ true ↦ commits_owing f i s | false ↦ last_committed f i i.work.last s ])) [ true ↦ λ e. owing_owes c past f i s e k h | false ↦ λ e. none_owes c past f.me (last_committed f i i.work.last s).written (last_none f i i.work.last s) ]) refl
  where
    Owes : Outcome Store → Type 0
    Owes o = DiskOwes c past f.me o.written

effect_owes : (c : Config) (past : List Told) (f : Frame) (i : Instance) (o : Op) (e : Option Effect) (s : Store) → DiskOwes c past f.me (executes_effect f i o e s).written
effect_owes c past f i o None s = tt
effect_owes c past f i o (Some e) s = tt

executes_owes : (c : Config) (past : List Told) (f : Frame) (m : Mending) (i : Instance) (o : Op) (seen : List ℕ) (s : Store) → MayCommit past f i → Stored past f s → DiskOwes c past f.me (executes f m i o seen s).written
executes_owes c past f m i op.Commit seen s k h = commit_op_owes c past f i s k h
executes_owes c past f m i op.Abort seen s k h = tt
executes_owes c past f m i (op.Probe name) seen s k h = effect_owes c past f i (op.Probe name) (effect_of (op.Probe name) seen m i.work.content) s
executes_owes c past f m i (op.Find component) seen s k h = effect_owes c past f i (op.Find component) (effect_of (op.Find component) seen m i.work.content) s
executes_owes c past f m i (op.Insert name ino kind) seen s k h = effect_owes c past f i (op.Insert name ino kind) (effect_of (op.Insert name ino kind) seen m i.work.content) s
executes_owes c past f m i (op.Remove name ino) seen s k h = effect_owes c past f i (op.Remove name ino) (effect_of (op.Remove name ino) seen m i.work.content) s
executes_owes c past f m i (op.Rename component name) seen s k h = effect_owes c past f i (op.Rename component name) (effect_of (op.Rename component name) seen m i.work.content) s
executes_owes c past f m i op.Empty seen s k h = effect_owes c past f i op.Empty (effect_of op.Empty seen m i.work.content) s
executes_owes c past f m i (op.Read at len) seen s k h = effect_owes c past f i (op.Read at len) (effect_of (op.Read at len) seen m i.work.content) s
executes_owes c past f m i (op.Write at bytes) seen s k h = effect_owes c past f i (op.Write at bytes) (effect_of (op.Write at bytes) seen m i.work.content) s
executes_owes c past f m i (op.Cut len) seen s k h = effect_owes c past f i (op.Cut len) (effect_of (op.Cut len) seen m i.work.content) s
executes_owes c past f m i op.Mend seen s k h = effect_owes c past f i op.Mend (effect_of op.Mend seen m i.work.content) s

by_number_owes : (c : Config) (past : List Told) (f : Frame) (m : Mending) (i : Instance) (n : ℕ) (o : Op) (seen : List ℕ) (s : Store) → MayCommit past f i → Stored past f s → DiskOwes c past f.me (by_number f m i n o seen s).written
by_number_owes c past f m i n o seen s k h =
    elim (n == i.work.ops) as (λ b. Owes (elim b [ true ↦ sends (op_again f i n i.answered) s | false ↦ elim (n == i.work.ops + 1) [ true ↦ executes f m i o seen s | false ↦ quiet s ] ])) [
      | true ↦ tt
      | false ↦ elim (n == i.work.ops + 1) as (λ b. Owes (elim b [ true ↦ executes f m i o seen s | false ↦ quiet s ])) [ true ↦ executes_owes c past f m i o seen s k h | false ↦ tt ]
    ]
  where
    Owes : Outcome Store → Type 0
    Owes o = DiskOwes c past f.me o.written

op_at_owes : (c : Config) (past : List Told) (f : Frame) (m : Mending) (inst : Serial) (i : Instance) (g : Stage) (n : ℕ) (o : Op) (seen : List ℕ) (s : Store) → instance_of s inst ≡ Some i → i.stage ≡ g → IsGranted past f.epoch (serial_key inst) → Knows past f s → Stored past f s → DiskOwes c past f.me (on_op_at f m i g n o seen s).written
op_at_owes c past f m inst i stage.Running n o seen s e at granted k h = by_number_owes c past f m i n o seen s (may_commit past f s inst i e at granted k h) h
op_at_owes c past f m inst i (stage.Closing made a) n o seen s e at granted k h = tt
op_at_owes c past f m inst i (stage.Closed a) n o seen s e at granted k h = tt

op_of_owes : (c : Config) (past : List Told) (f : Frame) (m : Mending) (inst : Serial) (i : Option Instance) (n : ℕ) (o : Op) (seen : List ℕ) (s : Store) → instance_of s inst ≡ i → IsGranted past f.epoch (serial_key inst) → Knows past f s → Stored past f s → DiskOwes c past f.me (on_op_of f m i n o seen s).written
op_of_owes c past f m inst None n o seen s e granted k h = tt
op_of_owes c past f m inst (Some i) n o seen s e granted k h = op_at_owes c past f m inst i i.stage n o seen s e refl granted k h

on_op_owes : (c : Config) (past : List Told) (f : Frame) (m : Mending) (inst : Serial) (n : ℕ) (o : Op) (seen : List ℕ) (s : Store) → IsGranted past f.epoch (serial_key inst) → Knows past f s → Stored past f s → DiskOwes c past f.me (on_op f m inst n o seen s).written
on_op_owes c past f m inst n o seen s granted k h = op_of_owes c past f m inst (instance_of s inst) n o seen s refl granted k h

-- a held read writes what the operation does that it stands for
form_owes : (c : Config) (past : List Told) (me : ℕ) (i : Option Instance) (o : Outcome Store) → DiskOwes c past me o.written → DiskOwes c past me (in_form i o).written
form_owes c past me None o h = h
form_owes c past me (Some i) o h = h

on_read_held_owes : (c : Config) (past : List Told) (f : Frame) (inst : Serial) (n at len : ℕ) (s : Store) → IsGranted past f.epoch (serial_key inst) → Knows past f s → Stored past f s → DiskOwes c past f.me (on_read_held f inst n at len s).written
on_read_held_owes c past f inst n at len s granted k h =
    form_owes c past f.me (instance_of s inst) (on_op f nothing_to_mend inst n (op.Read at len) nothing_seen s) (on_op_owes c past f nothing_to_mend inst n (op.Read at len) nothing_seen s granted k h)

-- ---- closes ----

closing_owes : (c : Config) (past : List Told) (f : Frame) (i : Instance) (s : Store) → i.work.owes ≡ true → MayCommit past f i → Stored past f s → DiskOwes c past f.me (closes_owing f i s).written
closing_owes c past f i s owes k h =
    (elim (is_spent f i) as (λ b. is_spent f i ≡ b → Owes (elim b [ true ↦ shuts f i (closing.No refusal.Spent) s | false ↦ and_then (commits f i s) (λ now. shuts_again f (closing.Made (next_stamp f (next_vector f i))) (instance_of now i.inst) now) ])) [ true ↦ λ e. tt | false ↦ λ e. commit_owes c past f i s owes e k h ]) refl
  where
    Owes : Outcome Store → Type 0
    Owes o = DiskOwes c past f.me o.written

closes_owes : (c : Config) (past : List Told) (f : Frame) (i : Instance) (s : Store) → MayCommit past f i → Stored past f s → DiskOwes c past f.me (closes f i s).written
closes_owes c past f i s k h =
    (elim i.work.owes as (λ b. i.work.owes ≡ b → Owes (elim b [ true ↦ closes_owing f i s | false ↦ shuts f i closing.Nothing s ])) [ true ↦ λ e. closing_owes c past f i s e k h | false ↦ λ e. tt ]) refl
  where
    Owes : Outcome Store → Type 0
    Owes o = DiskOwes c past f.me o.written

close_at_owes : (c : Config) (past : List Told) (f : Frame) (inst : Serial) (i : Instance) (g : Stage) (s : Store) → instance_of s inst ≡ Some i → i.stage ≡ g → IsGranted past f.epoch (serial_key inst) → Knows past f s → Stored past f s → DiskOwes c past f.me (on_close_at f i g s).written
close_at_owes c past f inst i stage.Running s e at granted k h = closes_owes c past f i s (may_commit past f s inst i e at granted k h) h
close_at_owes c past f inst i (stage.Closing made a) s e at granted k h = tt
close_at_owes c past f inst i (stage.Closed a) s e at granted k h = tt

close_of_owes : (c : Config) (past : List Told) (f : Frame) (inst : Serial) (i : Option Instance) (s : Store) → instance_of s inst ≡ i → IsGranted past f.epoch (serial_key inst) → Knows past f s → Stored past f s → DiskOwes c past f.me (on_close_of f i s).written
close_of_owes c past f inst None s e granted k h = tt
close_of_owes c past f inst (Some i) s e granted k h = close_at_owes c past f inst i i.stage s e refl granted k h

on_close_owes : (c : Config) (past : List Told) (f : Frame) (inst : Serial) (s : Store) → IsGranted past f.epoch (serial_key inst) → Knows past f s → Stored past f s → DiskOwes c past f.me (on_close f inst s).written
on_close_owes c past f inst s granted k h = close_of_owes c past f inst (instance_of s inst) s refl granted k h

-- ---- packets inside the epoch ----

table_none : (g : SyncTable → Outcome SyncTable) (o : Option SyncTable) (v : SiteView) → ((t : SyncTable) → (g t).written ≡ None) → (at_table_of g o v).written ≡ None
table_none g None v h = refl
table_none g (Some t) v h = h t

abbrev unwritten : Law
unwritten = frame_law (λ p. Unit {0}) (λ t. Unit {0}) (λ w. w ≡ None)

readers : (f : Frame) → ReadersKeep unwritten f
readers f = record { sends = λ to b h. tt; unwritten = refl }

-- what the packet that comes writes owes it
abbrev Owing : Config → ℕ → List Told → ℕ → SiteView → InEpoch → Body → Outcome SiteView → Type 0
Owing c me past from v e x o = Comes c past me from v e x → DiskOwes c past me o.written

stores_owe : (c : Config) (me : ℕ) (past : List Told) (from : ℕ) (v : SiteView) (e : InEpoch) → View c past me v → (x : Body) → IsForStore x → Owing c me past from v e x (takes_inside (frame_in c me v.boot e) from x v)
stores_owe c me past from v e h (body.OpenSs inst file mode set kind base vector parents) is k = none_owes c past me _ (on_open_ss_keeps (frame_in c me v.boot e) (record { inst = inst; file = file; mode = mode; set = set; kind = kind; base = base; vector = vector; parents = parents }) v.store).none
stores_owe c me past from v e h (body.Op serial n o seen) is k = on_op_owes c past (frame_in c me v.boot e) (mending v (group_of (instance_of v.store (from_user from serial)))) (from_user from serial) n o seen v.store k.lock.granted k.knows (stored_of c past me v e k.here h)
stores_owe c me past from v e h (body.ReadHeld serial n at len) is k = on_read_held_owes c past (frame_in c me v.boot e) (from_user from serial) n at len v.store k.lock.granted k.knows (stored_of c past me v e k.here h)
stores_owe c me past from v e h (body.Close serial) is k = on_close_owes c past (frame_in c me v.boot e) (from_user from serial) v.store k.lock.granted k.knows (stored_of c past me v e k.here h)
stores_owe c me past from v e h (body.ClosedOk inst) is k = none_owes c past me _ (on_closed_ok_keeps (frame_in c me v.boot e) inst v.store).none
stores_owe c me past from v e h _ is k = absurd is

inside_owes : (c : Config) (me : ℕ) (past : List Told) (from : ℕ) (v : SiteView) (e : InEpoch) (x : Body) → Comes c past me from v e x → View c past me v → DiskOwes c past me (takes_inside (frame_in c me v.boot e) from x v).written
inside_owes c me past from v e x k h = by_role Q f from v (record {
  tables = tables_by Q unwritten f from v (frame_tables (λ p. Unit {0}) (λ t. Unit {0}) (λ w. w ≡ None) f (λ to b. tt) (λ t h. tt) refl) (record { reported = λ t h. tt; closed = λ inst. tt }) (λ t. tt) (λ y g o is part k. none_owes c past me _ (table_none g o v (λ t. (part t).2)));
  stores = stores_owe c me past from v e h;
  readers = readers_by Q unwritten f from v (readers f) (λ b is. tt) (λ y o is same part k. none_owes c past me o.written part.2);
  users = users_by Q unwritten f from v (frame_users (λ p. Unit {0}) (λ t. Unit {0}) (λ w. w ≡ None) f (λ to b. tt) (λ t h. tt) refl) (λ y o is part k. none_owes c past me o.written part.2);
  pulls = pulls_by Q unwritten f from v (readers f) (λ b is. tt) (λ y o is part k. none_owes c past me o.written part.2);
  reported = λ group k. tt;
  forming = λ y is k. tt;
}) x k
  where
    f : Frame
    f = frame_in c me v.boot e

    Q : Body → Outcome SiteView → Type 0
    Q = Owing c me past from v e

pub framed_owes : (c : Config) (me : ℕ) (past : List Told) (p : Packet) (x : Body) (o : Option InEpoch) (v : SiteView) → p.body ≡ x → v.epoch ≡ o → is_dropped p v ≡ false → nat_lt (kind_number x) 6 ≡ false → Arrives past c me v p x → View c past me v → DiskOwes c past me (takes_framed c me p o v).written
framed_owes c me past p x None v q here d inside k h = tt
framed_owes c me past p x (Some e) v q here d inside k h = subst (λ (y : Body). DiskOwes c past me (takes_inside (frame_in c me v.boot e) p.from y v).written) (sym q) (inside_owes c me past p.from v e x (comes c me past p x v e q here d inside k) h)
