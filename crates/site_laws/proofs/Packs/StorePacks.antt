-- What a storage site keeps, sends and tells is as packs allow.
use Rattle.std.proofs.Common.{◌≡◌, ◌≤◌, ◌<◌, ℕ, zero, suc, ◌+◌, ◌-◌, ◌*◌, ◌==◌, Bool, true, false, List, [], ◌∷◌, Option, Some, None, refl, inl, inr, arith}
use Rattle.role_steps.proofs.of_plain_facts.Options.{none_some, some_same}
use Rattle.locus_ids.specs.declared.ids.FileId.{FileId}
use Rattle.locus_ids.specs.declared.ids.Mode.{Mode}
use Rattle.locus_ids.specs.declared.ids.Mode.TheVariants as mode
use Rattle.locus_ids.specs.declared.ids.Serial.{Serial}
use Rattle.locus_ids.specs.declared.ids.Stamp.{Stamp}
use Rattle.locus_ids.specs.declared.refusal.Refusal.TheVariants as refusal
use Rattle.locus_ids.specs.Sizes.{site_inodes}
use Rattle.trace_book.specs.declared.operation.Op.{Op}
use Rattle.trace_book.specs.declared.operation.Op.TheVariants as op
use Rattle.trace_book.specs.declared.operation.Outcome.{Outcome as Result}
use Rattle.trace_book.specs.declared.operation.Outcome.TheVariants as result
use Rattle.role_steps.specs.of_file_effects.Effects.{Effect}
use Rattle.role_steps.specs.of_file_effects.Works.{counted}
use Rattle.role_steps.specs.of_file_effects.declared.work.Work.{Work}
use Rattle.wire_messages.specs.declared.packet.Packet.{Packet}
use Rattle.wire_messages.specs.declared.body.Body.{Body}
use Rattle.wire_messages.specs.declared.body.Body.TheVariants as body
use Rattle.wire_messages.specs.declared.body.OpenedAs.TheVariants as opened
use Rattle.wire_messages.specs.declared.body.MadeVersion.{MadeVersion}
use Rattle.wire_messages.specs.declared.body.CloseAnswer.{CloseAnswer}
use Rattle.wire_messages.specs.declared.body.CloseAnswer.TheVariants as closing
use Rattle.role_steps.specs.Own.{Every}
use Rattle.role_steps.specs.Views.{Frame, Store, Told, Begins, Reserves, Outcome, quiet, sends, and_then, to_some, to_sync, sync_site, serial_key}
use Rattle.role_steps.specs.Storage.{StoreRequest, copy_key, copy_of, instance_key, instance_of, is_open, own_ino, next_ino, is_used, begun_instance, begins, with_instance, opened_packets, opens, opens_made, on_open_ss_of, on_open_ss, is_spent, copy_made, instance_committed, commits, next_stamp, next_vector, made_version, shut, closed_packets, shuts, shuts_again, closes_owing, closes, on_close_at, on_close_of, on_close, ends_at, on_closed_ok_of, on_closed_ok, closed_again, store_repeats}
use Rattle.role_steps.specs.of_dir_format.Entries.{nothing_seen}
use Rattle.role_steps.specs.Operations.{acts, acts_committed, commits_owing, last_committed, commit_op, executes_effect, executes, op_again, by_number, on_op_at, on_op_of, on_op, in_form, nothing_to_mend, on_read_held}
use Rattle.role_steps.specs.OperationEffects.{Mending, effect_of}
use Rattle.role_steps.specs.declared.instances.Instance.{Instance}
use Rattle.role_steps.specs.declared.instances.Stage.{Stage}
use Rattle.role_steps.specs.declared.instances.Stage.TheVariants as stage
use Rattle.role_steps.proofs.Sending.{every_append, every_cond, every_flat_map}
use Rattle.the_run.proofs.InsideSync.{every_row, Found, row_found}
use Rattle.site_laws.proofs.Vectors.SyncFacts.{every_latest}
use Rattle.site_laws.specs.Packs.Packs.{LiesAt, CopyPacked, ToldPacked}
use Rattle.site_laws.specs.Packs.Making.{IsOwnNumber, NotEmpty}
use Rattle.site_laws.specs.Packs.Packed.{Follows, BodyPacked, PacketPacked, InstancePacked, StorePacked, OutPacked}
use Rattle.role_steps.proofs.HeldReads.{held_read_sent}

abbrev pub InStore : Frame → Store → Type 0
InStore f s = StorePacked f.config f.me s

abbrev pub StoreOut : Frame → Outcome Store → Type 0
StoreOut f o = OutPacked f.config (InStore f) o

some_packed : (f : Frame) (b : Body) (o : Option ℕ) → ((to : ℕ) → BodyPacked f.config f.me to b) → Every (PacketPacked f.config) (to_some f b o)
some_packed f b None h = tt
some_packed f b (Some to) h = (h to, tt)

pub sync_packed : (f : Frame) (group : ℕ) (b : Body) → ((to : ℕ) → BodyPacked f.config f.me to b) → Every (PacketPacked f.config) (to_sync f group b)
sync_packed f group b h = some_packed f b (sync_site f.config f.members group) h

quiet_packed : (f : Frame) (s : Store) → InStore f s → StoreOut f (quiet s)
quiet_packed f s h = record { view = h; sent = tt; told = tt }

sends_packed : (f : Frame) (ps : List Packet) (s : Store) → Every (PacketPacked f.config) ps → InStore f s → StoreOut f (sends ps s)
sends_packed f ps s k h = record { view = h; sent = k; told = tt }

then_packed : (f : Frame) (o : Outcome Store) (g : Store → Outcome Store) → StoreOut f o → StoreOut f (g o.view) → StoreOut f (and_then o g)
then_packed f o g h k = record { view = k.view; sent = every_append (PacketPacked f.config) o.sent (g o.view).sent h.sent k.sent; told = every_append (ToldPacked f.config) o.told (g o.view).told h.told k.told }

puts_packed : (f : Frame) (i : Instance) (s : Store) → InstancePacked f.config f.me i → InStore f s → InStore f (with_instance i s)
puts_packed f i s k h = record { copies = h.copies; instances = every_latest (InstancePacked f.config f.me) instance_key i s.instances k h.instances }

found_packed : (f : Frame) (s : Store) (inst : Serial) → InStore f s → Found (InstancePacked f.config f.me) (instance_of s inst)
found_packed f s inst h = row_found (InstancePacked f.config f.me) instance_key (serial_key inst) s.instances h.instances

-- ---- the number that a made file is given ----

record Between (low high n : ℕ) : Type 0 where
  from : low ≤ n
  to : n < high

next_between : (s : Store) (group ino left k : ℕ) → next_ino s group ino left ≡ Some k → Between ino (ino + left) k
next_between s group ino zero k h = absurd (none_some k h)
next_between s group ino (suc left) k h = used (is_used s group ino) h (λ g. next_between s group (ino + 1) left k g)
  where
    used : (b : Bool) → ◌≡◌ {A = Option ℕ} (elim b [ true ↦ next_ino s group (ino + 1) left | false ↦ Some ino ]) (Some k) → (next_ino s group (ino + 1) left ≡ Some k → Between (ino + 1) (ino + 1 + left) k) → Between ino (ino + suc left) k
    used true g rest =
        let b : Between (ino + 1) (ino + 1 + left) k = rest g in
        let low : ino + 1 ≤ k = b.from in
        let high : k < ino + 1 + left = b.to in
        record { from = omega (arith, low); to = omega (arith, high) }
    used false g rest = let e : ino ≡ k = some_same ino k g in record { from = omega (arith, e); to = omega (arith, e) }

own_number : (s : Store) (group site k : ℕ) → own_ino s group site ≡ Some k → IsOwnNumber site k
own_number s group site k h =
    let b : Between (site_inodes * (site - 1) + 1) (site_inodes * (site - 1) + 1 + site_inodes) k = next_between s group (site_inodes * (site - 1) + 1) site_inodes k h in
    let high : k < site_inodes * (site - 1) + 1 + site_inodes = b.to in
    record { low = b.from; high = omega (arith, high) }

-- ---- opens ----

opened_packed : (f : Frame) (i : Instance) → Every (PacketPacked f.config) (opened_packets f i)
opened_packed f i = sync_packed f i.file.group (body.Opened i.inst (opened.Open i.file.ino i.size)) (λ to. tt)

begins_packed : (f : Frame) (i : Instance) (told : List Told) (s : Store) → Every (ToldPacked f.config) told → InstancePacked f.config f.me i → InStore f s → StoreOut f (begins f i told s)
begins_packed f i told s g k h = record { view = puts_packed f i s k h; sent = opened_packed f i; told = g }

made_packed : (f : Frame) (r : StoreRequest) (o : Option ℕ) (s : Store) → LiesAt f.config f.me r.file.group r.set → ((k : ℕ) → o ≡ Some k → IsOwnNumber f.me k) → InStore f s → StoreOut f (opens_made f r o s)
made_packed f r None s k own h = sends_packed f _ s (sync_packed f r.file.group (body.Opened r.inst (opened.No refusal.NoInode)) (λ to. tt)) h
made_packed f r (Some ino) s k own h =
    let file : FileId = record { group = r.file.group; ino = ino } in
    let n : IsOwnNumber f.me ino = own ino refl in
    begins_packed f (begun_instance r file None) (Begins f.me f.epoch r.inst file ∷ Reserves f.me f.epoch r.inst file ∷ []) s (k.here, ((k.here, n), tt)) (k, inr n) h

plain_packed : (f : Frame) (r : StoreRequest) (s : Store) → LiesAt f.config f.me r.file.group r.set → NotEmpty r.parents → InStore f s → StoreOut f (begins f (begun_instance r r.file (copy_of s r.file)) (Begins f.me f.epoch r.inst r.file ∷ []) s)
plain_packed f r s k g h = begins_packed f (begun_instance r r.file (copy_of s r.file)) (Begins f.me f.epoch r.inst r.file ∷ []) s (k.here, tt) (k, inl g) h

opens_packed : (f : Frame) (r : StoreRequest) (m : Mode) (s : Store) → LiesAt f.config f.me r.file.group r.set → Follows m r.parents → InStore f s → StoreOut f (opens f r m s)
opens_packed f r mode.Make s k g h = made_packed f r (own_ino s r.file.group f.me) s k (λ n e. own_number s r.file.group f.me n e) h
opens_packed f r mode.Read s k g h = plain_packed f r s k g h
opens_packed f r mode.Write s k g h = plain_packed f r s k g h
opens_packed f r mode.Resolve s k g h = plain_packed f r s k g h
opens_packed f r mode.Mend s k g h = plain_packed f r s k g h

open_ss_of_packed : (f : Frame) (r : StoreRequest) (o : Option Instance) (s : Store) → LiesAt f.config f.me r.file.group r.set → Follows r.mode r.parents → InStore f s → StoreOut f (on_open_ss_of f r o s)
open_ss_of_packed f r None s k g h = opens_packed f r r.mode s k g h
open_ss_of_packed f r (Some x) s k g h = sends_packed f _ s (every_cond (PacketPacked f.config) (is_open x.stage) (opened_packets f x) [] (opened_packed f x) tt) h

pub on_open_ss_packed : (f : Frame) (r : StoreRequest) (s : Store) → LiesAt f.config f.me r.file.group r.set → Follows r.mode r.parents → InStore f s → StoreOut f (on_open_ss f r s)
on_open_ss_packed f r s k g h = open_ss_of_packed f r (instance_of s r.inst) s k g h

-- ---- commits and closes ----

commits_packed : (f : Frame) (i : Instance) (s : Store) → InstancePacked f.config f.me i → InStore f s → StoreOut f (commits f i s)
commits_packed f i s k h =
    let vector : List ℕ = next_vector f i in
    let stamp : Stamp = next_stamp f vector in
    record { view = record { copies = every_row (CopyPacked f.config f.me) copy_key (copy_made i vector stamp) s.copies k.0 h.copies; instances = every_latest (InstancePacked f.config f.me) instance_key (instance_committed i vector stamp) s.instances (k.0, inl tt) h.instances }; sent = tt; told = ((k.0.here, k.1), tt) }

closed_packed : (f : Frame) (i : Instance) (made : Option MadeVersion) → Every (PacketPacked f.config) (closed_packets f i made)
closed_packed f i made = sync_packed f i.file.group (body.Closed i.inst made) (λ to. tt)

shuts_packed : (f : Frame) (i : Instance) (a : CloseAnswer) (s : Store) → InstancePacked f.config f.me i → InStore f s → StoreOut f (shuts f i a s)
shuts_packed f i a s k h =
    let made : Option MadeVersion = made_version i (copy_of s i.file) i.work.committed in
    record { view = puts_packed f (shut i made a) s k h; sent = closed_packed f i made; told = (tt, tt) }

again_packed : (f : Frame) (a : CloseAnswer) (o : Option Instance) (s : Store) → Found (InstancePacked f.config f.me) o → InStore f s → StoreOut f (shuts_again f a o s)
again_packed f a None s k h = quiet_packed f s h
again_packed f a (Some i) s k h = shuts_packed f i a s k h

owing_packed : (f : Frame) (i : Instance) (s : Store) → InstancePacked f.config f.me i → InStore f s → StoreOut f (closes_owing f i s)
owing_packed f i s k h =
    let a : CloseAnswer = closing.Made (next_stamp f (next_vector f i)) in
    let o : Outcome Store = commits f i s in
    let q : StoreOut f o = commits_packed f i s k h in
    elim (is_spent f i) as (λ b. StoreOut f (elim b [ true ↦ shuts f i (closing.No refusal.Spent) s | false ↦ and_then (commits f i s) (λ now. shuts_again f (closing.Made (next_stamp f (next_vector f i))) (instance_of now i.inst) now) ])) [
      | true ↦ shuts_packed f i (closing.No refusal.Spent) s k h
      | false ↦ then_packed f o (λ now. shuts_again f a (instance_of now i.inst) now) q (again_packed f a (instance_of o.view i.inst) o.view (found_packed f o.view i.inst q.view) q.view)
    ]

closes_packed : (f : Frame) (i : Instance) (s : Store) → InstancePacked f.config f.me i → InStore f s → StoreOut f (closes f i s)
closes_packed f i s k h = elim i.work.owes as (λ b. StoreOut f (elim b [ true ↦ closes_owing f i s | false ↦ shuts f i closing.Nothing s ])) [ true ↦ owing_packed f i s k h | false ↦ shuts_packed f i closing.Nothing s k h ]

close_at_packed : (f : Frame) (i : Instance) (g : Stage) (s : Store) → InstancePacked f.config f.me i → InStore f s → StoreOut f (on_close_at f i g s)
close_at_packed f i stage.Running s k h = closes_packed f i s k h
close_at_packed f i (stage.Closing made a) s k h = sends_packed f (closed_packets f i made) s (closed_packed f i made) h
close_at_packed f i (stage.Closed a) s k h = sends_packed f _ s (tt, tt) h

close_of_packed : (f : Frame) (o : Option Instance) (s : Store) → Found (InstancePacked f.config f.me) o → InStore f s → StoreOut f (on_close_of f o s)
close_of_packed f None s k h = quiet_packed f s h
close_of_packed f (Some i) s k h = close_at_packed f i i.stage s k h

pub on_close_packed : (f : Frame) (inst : Serial) (s : Store) → InStore f s → StoreOut f (on_close f inst s)
on_close_packed f inst s h = close_of_packed f (instance_of s inst) s (found_packed f s inst h) h

ends_at_packed : (f : Frame) (i : Instance) (g : Stage) (s : Store) → InstancePacked f.config f.me i → InStore f s → StoreOut f (ends_at f i g s)
ends_at_packed f i stage.Running s k h = quiet_packed f s h
ends_at_packed f i (stage.Closing made a) s k h = record { view = puts_packed f (record i { stage = stage.Closed a }) s k h; sent = (tt, tt); told = tt }
ends_at_packed f i (stage.Closed a) s k h = quiet_packed f s h

closed_ok_packed : (f : Frame) (o : Option Instance) (s : Store) → Found (InstancePacked f.config f.me) o → InStore f s → StoreOut f (on_closed_ok_of f o s)
closed_ok_packed f None s k h = quiet_packed f s h
closed_ok_packed f (Some i) s k h = ends_at_packed f i i.stage s k h

pub on_closed_ok_packed : (f : Frame) (inst : Serial) (s : Store) → InStore f s → StoreOut f (on_closed_ok f inst s)
on_closed_ok_packed f inst s h = closed_ok_packed f (instance_of s inst) s (found_packed f s inst h) h

-- ---- operations ----

acts_packed : (f : Frame) (i : Instance) (o : Op) (r : Result) (w : Work) (s : Store) → InstancePacked f.config f.me i → InStore f s → StoreOut f (acts f i o r w s)
acts_packed f i o r w s k h = record { view = puts_packed f (record i { work = w; answered = Some r }) s k h; sent = (tt, tt); told = (tt, tt) }

effect_packed : (f : Frame) (i : Instance) (o : Op) (e : Option Effect) (s : Store) → InstancePacked f.config f.me i → InStore f s → StoreOut f (executes_effect f i o e s)
effect_packed f i o None s k h = quiet_packed f s h
effect_packed f i o (Some e) s k h = acts_packed f i o _ _ s k h

acts_committed_packed : (f : Frame) (stamp : Stamp) (o : Option Instance) (s : Store) → Found (InstancePacked f.config f.me) o → InStore f s → StoreOut f (acts_committed f stamp o s)
acts_committed_packed f stamp None s k h = quiet_packed f s h
acts_committed_packed f stamp (Some i) s k h = acts_packed f i op.Commit (result.Committed stamp) (counted i.work) s k h

commits_owing_packed : (f : Frame) (i : Instance) (s : Store) → InstancePacked f.config f.me i → InStore f s → StoreOut f (commits_owing f i s)
commits_owing_packed f i s k h =
    let stamp : Stamp = next_stamp f (next_vector f i) in
    let o : Outcome Store = commits f i s in
    let q : StoreOut f o = commits_packed f i s k h in
    elim (is_spent f i) as (λ b. StoreOut f (elim b [ true ↦ acts f i op.Commit (result.No refusal.Spent) (counted i.work) s | false ↦ and_then (commits f i s) (λ now. acts_committed f (next_stamp f (next_vector f i)) (instance_of now i.inst) now) ])) [
      | true ↦ acts_packed f i op.Commit (result.No refusal.Spent) (counted i.work) s k h
      | false ↦ then_packed f o (λ now. acts_committed f stamp (instance_of now i.inst) now) q (acts_committed_packed f stamp (instance_of o.view i.inst) o.view (found_packed f o.view i.inst q.view) q.view)
    ]

last_packed : (f : Frame) (i : Instance) (o : Option Stamp) (s : Store) → InstancePacked f.config f.me i → InStore f s → StoreOut f (last_committed f i o s)
last_packed f i None s k h = quiet_packed f s h
last_packed f i (Some stamp) s k h = acts_packed f i op.Commit (result.Committed stamp) (counted i.work) s k h

commit_op_packed : (f : Frame) (i : Instance) (s : Store) → InstancePacked f.config f.me i → InStore f s → StoreOut f (commit_op f i s)
commit_op_packed f i s k h = elim i.work.owes as (λ b. StoreOut f (elim b [ true ↦ commits_owing f i s | false ↦ last_committed f i i.work.last s ])) [ true ↦ commits_owing_packed f i s k h | false ↦ last_packed f i i.work.last s k h ]

executes_packed : (f : Frame) (m : Mending) (i : Instance) (o : Op) (seen : List ℕ) (s : Store) → InstancePacked f.config f.me i → InStore f s → StoreOut f (executes f m i o seen s)
executes_packed f m i op.Commit seen s k h = commit_op_packed f i s k h
executes_packed f m i op.Abort seen s k h = acts_packed f i op.Abort result.Done _ s k h
executes_packed f m i (op.Probe name) seen s k h = effect_packed f i (op.Probe name) (effect_of (op.Probe name) seen m i.work.content) s k h
executes_packed f m i (op.Find component) seen s k h = effect_packed f i (op.Find component) (effect_of (op.Find component) seen m i.work.content) s k h
executes_packed f m i (op.Insert name ino kind) seen s k h = effect_packed f i (op.Insert name ino kind) (effect_of (op.Insert name ino kind) seen m i.work.content) s k h
executes_packed f m i (op.Remove name ino) seen s k h = effect_packed f i (op.Remove name ino) (effect_of (op.Remove name ino) seen m i.work.content) s k h
executes_packed f m i (op.Rename component name) seen s k h = effect_packed f i (op.Rename component name) (effect_of (op.Rename component name) seen m i.work.content) s k h
executes_packed f m i op.Empty seen s k h = effect_packed f i op.Empty (effect_of op.Empty seen m i.work.content) s k h
executes_packed f m i (op.Read at len) seen s k h = effect_packed f i (op.Read at len) (effect_of (op.Read at len) seen m i.work.content) s k h
executes_packed f m i (op.Write at bytes) seen s k h = effect_packed f i (op.Write at bytes) (effect_of (op.Write at bytes) seen m i.work.content) s k h
executes_packed f m i (op.Cut len) seen s k h = effect_packed f i (op.Cut len) (effect_of (op.Cut len) seen m i.work.content) s k h
executes_packed f m i op.Mend seen s k h = effect_packed f i op.Mend (effect_of op.Mend seen m i.work.content) s k h

op_again_packed : (f : Frame) (i : Instance) (n : ℕ) (o : Option Result) → Every (PacketPacked f.config) (op_again f i n o)
op_again_packed f i n None = tt
op_again_packed f i n (Some r) = (tt, tt)

by_number_packed : (f : Frame) (m : Mending) (i : Instance) (n : ℕ) (o : Op) (seen : List ℕ) (s : Store) → InstancePacked f.config f.me i → InStore f s → StoreOut f (by_number f m i n o seen s)
by_number_packed f m i n o seen s k h =
    elim (n == i.work.ops) as (λ b. StoreOut f (elim b [ true ↦ sends (op_again f i n i.answered) s | false ↦ elim (n == i.work.ops + 1) [ true ↦ executes f m i o seen s | false ↦ quiet s ] ])) [
      | true ↦ sends_packed f (op_again f i n i.answered) s (op_again_packed f i n i.answered) h
      | false ↦ elim (n == i.work.ops + 1) as (λ b. StoreOut f (elim b [ true ↦ executes f m i o seen s | false ↦ quiet s ])) [
        | true ↦ executes_packed f m i o seen s k h
        | false ↦ quiet_packed f s h
      ]
    ]

op_at_packed : (f : Frame) (m : Mending) (i : Instance) (g : Stage) (n : ℕ) (o : Op) (seen : List ℕ) (s : Store) → InstancePacked f.config f.me i → InStore f s → StoreOut f (on_op_at f m i g n o seen s)
op_at_packed f m i stage.Running n o seen s k h = by_number_packed f m i n o seen s k h
op_at_packed f m i (stage.Closing made a) n o seen s k h = quiet_packed f s h
op_at_packed f m i (stage.Closed a) n o seen s k h = quiet_packed f s h

op_of_packed : (f : Frame) (m : Mending) (i : Option Instance) (n : ℕ) (o : Op) (seen : List ℕ) (s : Store) → Found (InstancePacked f.config f.me) i → InStore f s → StoreOut f (on_op_of f m i n o seen s)
op_of_packed f m None n o seen s k h = quiet_packed f s h
op_of_packed f m (Some i) n o seen s k h = op_at_packed f m i i.stage n o seen s k h

pub on_op_packed : (f : Frame) (m : Mending) (inst : Serial) (n : ℕ) (o : Op) (seen : List ℕ) (s : Store) → InStore f s → StoreOut f (on_op f m inst n o seen s)
on_op_packed f m inst n o seen s h = op_of_packed f m (instance_of s inst) n o seen s (found_packed f s inst h) h

-- a held read is the operation that it stands for, but for the form of its answer
form_packed : (f : Frame) (i : Option Instance) (o : Outcome Store) → Every (PacketPacked f.config) (in_form i o).sent → StoreOut f o → StoreOut f (in_form i o)
form_packed f None o g h = h
form_packed f (Some i) o g h = record { view = h.view; sent = g; told = h.told }

pub on_read_held_packed : (f : Frame) (inst : Serial) (n at len : ℕ) (s : Store) → InStore f s → StoreOut f (on_read_held f inst n at len s)
on_read_held_packed f inst n at len s h =
    let o : Outcome Store = on_op f nothing_to_mend inst n (op.Read at len) nothing_seen s in
    form_packed f (instance_of s inst) o (held_read_sent (PacketPacked f.config) f (λ to serial m r. tt) (λ to serial m l. tt) inst n at len s) (on_op_packed f nothing_to_mend inst n (op.Read at len) nothing_seen s h)

-- ---- repeats ----

closed_again_packed : (f : Frame) (i : Instance) (g : Stage) → Every (PacketPacked f.config) (closed_again f i g)
closed_again_packed f i stage.Running = tt
closed_again_packed f i (stage.Closing made a) = closed_packed f i made
closed_again_packed f i (stage.Closed a) = tt

pub store_repeats_packed : (f : Frame) (s : Store) → Every (PacketPacked f.config) (store_repeats f s)
store_repeats_packed f s = every_flat_map (PacketPacked f.config) (λ (i : Instance). closed_again f i i.stage) s.instances (λ i. closed_again_packed f i i.stage)
