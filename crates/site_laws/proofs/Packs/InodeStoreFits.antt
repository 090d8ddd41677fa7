-- The inode numbers of a storage site's copies and instances have 16 bits.
use Rattle.std.proofs.Common.{◌≡◌, ◌≤◌, ◌<◌, ℕ, zero, suc, ◌+◌, ◌-◌, ◌*◌, ◌==◌, Bool, true, false, List, [], ◌∷◌, Option, Some, None, refl, arith}
use Rattle.role_steps.proofs.of_plain_facts.Options.{none_some, some_same}
use Rattle.locus_ids.specs.declared.ids.Mode.{Mode}
use Rattle.locus_ids.specs.declared.ids.Mode.TheVariants as mode
use Rattle.locus_ids.specs.declared.ids.Serial.{Serial}
use Rattle.locus_ids.specs.declared.ids.Stamp.{Stamp}
use Rattle.locus_ids.specs.declared.refusal.Refusal.TheVariants as refusal
use Rattle.locus_ids.specs.Sizes.{site_inodes, sites_max}
use Rattle.trace_book.specs.declared.operation.Op.{Op}
use Rattle.trace_book.specs.declared.operation.Op.TheVariants as op
use Rattle.trace_book.specs.declared.operation.Outcome.{Outcome as Result}
use Rattle.trace_book.specs.declared.operation.Outcome.TheVariants as result
use Rattle.role_steps.specs.of_file_effects.Effects.{Effect}
use Rattle.role_steps.specs.of_file_effects.Works.{counted}
use Rattle.role_steps.specs.of_file_effects.declared.work.Work.{Work}
use Rattle.wire_messages.specs.declared.packet.Packet.{Packet}
use Rattle.wire_messages.specs.declared.body.Body.{Body}
use Rattle.wire_messages.specs.declared.body.Body.TheVariants as body
use Rattle.wire_messages.specs.declared.body.OpenedAs.TheVariants as opened
use Rattle.wire_messages.specs.declared.body.MadeVersion.{MadeVersion}
use Rattle.wire_messages.specs.declared.body.CloseAnswer.{CloseAnswer}
use Rattle.wire_messages.specs.declared.body.CloseAnswer.TheVariants as closing
use Rattle.role_steps.specs.Own.{Every}
use Rattle.role_steps.specs.Views.{Frame, Store, Told, Begins, Reserves, Outcome, quiet, sends, and_then, to_some, to_sync, sync_site, serial_key}
use Rattle.role_steps.specs.Storage.{StoreRequest, copy_key, copy_of, instance_key, instance_of, is_open, is_used, next_ino, own_ino, begun_instance, begins, with_instance, opened_packets, opens, opens_made, on_open_ss_of, on_open_ss, is_spent, copy_made, instance_committed, commits, next_stamp, next_vector, made_version, shut, closed_packets, shuts, shuts_again, closes_owing, closes, on_close_at, on_close_of, on_close, ends_at, on_closed_ok_of, on_closed_ok, closed_again, store_repeats}
use Rattle.role_steps.specs.of_dir_format.Entries.{nothing_seen}
use Rattle.role_steps.specs.Operations.{acts, acts_committed, commits_owing, last_committed, commit_op, executes_effect, executes, op_again, by_number, on_op_at, on_op_of, on_op, in_form, nothing_to_mend, on_read_held}
use Rattle.role_steps.specs.OperationEffects.{Mending, effect_of}
use Rattle.role_steps.specs.declared.instances.Instance.{Instance}
use Rattle.role_steps.specs.declared.instances.Stage.{Stage}
use Rattle.role_steps.specs.declared.instances.Stage.TheVariants as stage
use Rattle.role_steps.proofs.Sending.{every_append, every_cond, every_flat_map}
use Rattle.the_run.proofs.InsideSync.{every_row, Found, row_found}
use Rattle.site_laws.proofs.Vectors.SyncFacts.{every_latest}
use Rattle.site_laws.specs.Packs.InodeFits.{Fits, AskedFits, BodyFits, PacketFits, CopyFits, InstanceFits, StoreFits, OutFits}
use Rattle.role_steps.proofs.HeldReads.{held_read_sent}

abbrev pub StoreOut : Outcome Store → Type 0
StoreOut o = OutFits StoreFits o

some_fits : (f : Frame) (b : Body) (o : Option ℕ) → BodyFits b → Every PacketFits (to_some f b o)
some_fits f b None h = tt
some_fits f b (Some to) h = (h, tt)

pub sync_fits : (f : Frame) (group : ℕ) (b : Body) → BodyFits b → Every PacketFits (to_sync f group b)
sync_fits f group b h = some_fits f b (sync_site f.config f.members group) h

quiet_fits : (s : Store) → StoreFits s → StoreOut (quiet s)
quiet_fits s h = record { view = h; sent = tt }

sends_fits : (ps : List Packet) (s : Store) → Every PacketFits ps → StoreFits s → StoreOut (sends ps s)
sends_fits ps s k h = record { view = h; sent = k }

then_fits : (o : Outcome Store) (g : Store → Outcome Store) → StoreOut o → StoreOut (g o.view) → StoreOut (and_then o g)
then_fits o g h k = record { view = k.view; sent = every_append PacketFits o.sent (g o.view).sent h.sent k.sent }

puts_fits : (i : Instance) (s : Store) → InstanceFits i → StoreFits s → StoreFits (with_instance i s)
puts_fits i s k h = record { copies = h.copies; instances = every_latest InstanceFits instance_key i s.instances k h.instances }

found_fits : (s : Store) (inst : Serial) → StoreFits s → Found InstanceFits (instance_of s inst)
found_fits s inst h = row_found InstanceFits instance_key (serial_key inst) s.instances h.instances

-- ---- the number that a made file is given ----

next_below : (s : Store) (group ino left k : ℕ) → next_ino s group ino left ≡ Some k → k < ino + left
next_below s group ino zero k h = absurd (none_some k h)
next_below s group ino (suc left) k h = used (is_used s group ino) h (λ g. next_below s group (ino + 1) left k g)
  where
    used : (b : Bool) → ◌≡◌ {A = Option ℕ} (elim b [ true ↦ next_ino s group (ino + 1) left | false ↦ Some ino ]) (Some k) → (next_ino s group (ino + 1) left ≡ Some k → k < ino + 1 + left) → k < ino + suc left
    used true g rest = let le : k < ino + 1 + left = rest g in omega (arith, le)
    used false g rest = let e : ino ≡ k = some_same ino k g in omega (arith, e)

own_fits : (s : Store) (group site k : ℕ) → site ≤ sites_max → own_ino s group site ≡ Some k → Fits k
own_fits s group site k small h = let le : k < site_inodes * (site - 1) + 1 + site_inodes = next_below s group (site_inodes * (site - 1) + 1) site_inodes k h in omega (arith, small, le)

-- ---- opens ----

opened_fits : (f : Frame) (i : Instance) → InstanceFits i → Every PacketFits (opened_packets f i)
opened_fits f i h = sync_fits f i.file.group (body.Opened i.inst (opened.Open i.file.ino i.size)) h

begins_fits : (f : Frame) (i : Instance) (told : List Told) (s : Store) → InstanceFits i → StoreFits s → StoreOut (begins f i told s)
begins_fits f i told s k h = record { view = puts_fits i s k h; sent = opened_fits f i k }

made_fits : (f : Frame) (r : StoreRequest) (o : Option ℕ) (s : Store) → ((k : ℕ) → o ≡ Some k → Fits k) → StoreFits s → StoreOut (opens_made f r o s)
made_fits f r None s fits h = sends_fits _ s (sync_fits f r.file.group (body.Opened r.inst (opened.No refusal.NoInode)) tt) h
made_fits f r (Some ino) s fits h = begins_fits f (begun_instance r (record { group = r.file.group; ino = ino }) None) (Begins f.me f.epoch r.inst (record { group = r.file.group; ino = ino }) ∷ Reserves f.me f.epoch r.inst (record { group = r.file.group; ino = ino }) ∷ []) s (fits ino refl) h

plain_fits : (f : Frame) (r : StoreRequest) (s : Store) → Fits r.file.ino → StoreFits s → StoreOut (begins f (begun_instance r r.file (copy_of s r.file)) (Begins f.me f.epoch r.inst r.file ∷ []) s)
plain_fits f r s k h = begins_fits f (begun_instance r r.file (copy_of s r.file)) (Begins f.me f.epoch r.inst r.file ∷ []) s k h

opens_fits : (f : Frame) (r : StoreRequest) (m : Mode) (s : Store) → f.me ≤ sites_max → AskedFits m r.file → StoreFits s → StoreOut (opens f r m s)
opens_fits f r mode.Make s small k h = made_fits f r (own_ino s r.file.group f.me) s (λ n e. own_fits s r.file.group f.me n small e) h
opens_fits f r mode.Read s small k h = plain_fits f r s k h
opens_fits f r mode.Write s small k h = plain_fits f r s k h
opens_fits f r mode.Resolve s small k h = plain_fits f r s k h
opens_fits f r mode.Mend s small k h = plain_fits f r s k h

open_ss_of_fits : (f : Frame) (r : StoreRequest) (o : Option Instance) (s : Store) → f.me ≤ sites_max → Found InstanceFits o → AskedFits r.mode r.file → StoreFits s → StoreOut (on_open_ss_of f r o s)
open_ss_of_fits f r None s small i k h = opens_fits f r r.mode s small k h
open_ss_of_fits f r (Some x) s small i k h = sends_fits _ s (every_cond PacketFits (is_open x.stage) (opened_packets f x) [] (opened_fits f x i) tt) h

pub on_open_ss_fits : (f : Frame) (r : StoreRequest) (s : Store) → f.me ≤ sites_max → AskedFits r.mode r.file → StoreFits s → StoreOut (on_open_ss f r s)
on_open_ss_fits f r s small k h = open_ss_of_fits f r (instance_of s r.inst) s small (found_fits s r.inst h) k h

-- ---- commits and closes ----

commits_fits : (f : Frame) (i : Instance) (s : Store) → InstanceFits i → StoreFits s → StoreOut (commits f i s)
commits_fits f i s k h =
    let vector : List ℕ = next_vector f i in
    let stamp : Stamp = next_stamp f vector in
    record { view = record { copies = every_row CopyFits copy_key (copy_made i vector stamp) s.copies k h.copies; instances = every_latest InstanceFits instance_key (instance_committed i vector stamp) s.instances k h.instances }; sent = tt }

closed_fits : (f : Frame) (i : Instance) (made : Option MadeVersion) → Every PacketFits (closed_packets f i made)
closed_fits f i made = sync_fits f i.file.group (body.Closed i.inst made) tt

shuts_fits : (f : Frame) (i : Instance) (a : CloseAnswer) (s : Store) → InstanceFits i → StoreFits s → StoreOut (shuts f i a s)
shuts_fits f i a s k h =
    let made : Option MadeVersion = made_version i (copy_of s i.file) i.work.committed in
    record { view = puts_fits (shut i made a) s k h; sent = closed_fits f i made }

again_fits : (f : Frame) (a : CloseAnswer) (o : Option Instance) (s : Store) → Found InstanceFits o → StoreFits s → StoreOut (shuts_again f a o s)
again_fits f a None s k h = quiet_fits s h
again_fits f a (Some i) s k h = shuts_fits f i a s k h

owing_fits : (f : Frame) (i : Instance) (s : Store) → InstanceFits i → StoreFits s → StoreOut (closes_owing f i s)
owing_fits f i s k h =
    let a : CloseAnswer = closing.Made (next_stamp f (next_vector f i)) in
    let o : Outcome Store = commits f i s in
    let q : StoreOut o = commits_fits f i s k h in
    elim (is_spent f i) as (λ b. StoreOut (elim b [ true ↦ shuts f i (closing.No refusal.Spent) s | false ↦ and_then (commits f i s) (λ now. shuts_again f (closing.Made (next_stamp f (next_vector f i))) (instance_of now i.inst) now) ])) [
      | true ↦ shuts_fits f i (closing.No refusal.Spent) s k h
      | false ↦ then_fits o (λ now. shuts_again f a (instance_of now i.inst) now) q (again_fits f a (instance_of o.view i.inst) o.view (found_fits o.view i.inst q.view) q.view)
    ]

closes_fits : (f : Frame) (i : Instance) (s : Store) → InstanceFits i → StoreFits s → StoreOut (closes f i s)
closes_fits f i s k h = elim i.work.owes as (λ b. StoreOut (elim b [ true ↦ closes_owing f i s | false ↦ shuts f i closing.Nothing s ])) [ true ↦ owing_fits f i s k h | false ↦ shuts_fits f i closing.Nothing s k h ]

close_at_fits : (f : Frame) (i : Instance) (g : Stage) (s : Store) → InstanceFits i → StoreFits s → StoreOut (on_close_at f i g s)
close_at_fits f i stage.Running s k h = closes_fits f i s k h
close_at_fits f i (stage.Closing made a) s k h = sends_fits (closed_packets f i made) s (closed_fits f i made) h
close_at_fits f i (stage.Closed a) s k h = sends_fits _ s (tt, tt) h

close_of_fits : (f : Frame) (o : Option Instance) (s : Store) → Found InstanceFits o → StoreFits s → StoreOut (on_close_of f o s)
close_of_fits f None s k h = quiet_fits s h
close_of_fits f (Some i) s k h = close_at_fits f i i.stage s k h

pub on_close_fits : (f : Frame) (inst : Serial) (s : Store) → StoreFits s → StoreOut (on_close f inst s)
on_close_fits f inst s h = close_of_fits f (instance_of s inst) s (found_fits s inst h) h

ends_at_fits : (f : Frame) (i : Instance) (g : Stage) (s : Store) → InstanceFits i → StoreFits s → StoreOut (ends_at f i g s)
ends_at_fits f i stage.Running s k h = quiet_fits s h
ends_at_fits f i (stage.Closing made a) s k h = record { view = puts_fits (record i { stage = stage.Closed a }) s k h; sent = (tt, tt) }
ends_at_fits f i (stage.Closed a) s k h = quiet_fits s h

closed_ok_fits : (f : Frame) (o : Option Instance) (s : Store) → Found InstanceFits o → StoreFits s → StoreOut (on_closed_ok_of f o s)
closed_ok_fits f None s k h = quiet_fits s h
closed_ok_fits f (Some i) s k h = ends_at_fits f i i.stage s k h

pub on_closed_ok_fits : (f : Frame) (inst : Serial) (s : Store) → StoreFits s → StoreOut (on_closed_ok f inst s)
on_closed_ok_fits f inst s h = closed_ok_fits f (instance_of s inst) s (found_fits s inst h) h

-- ---- operations ----

acts_fits : (f : Frame) (i : Instance) (o : Op) (r : Result) (w : Work) (s : Store) → InstanceFits i → StoreFits s → StoreOut (acts f i o r w s)
acts_fits f i o r w s k h = record { view = puts_fits (record i { work = w; answered = Some r }) s k h; sent = (tt, tt) }

effect_fits : (f : Frame) (i : Instance) (o : Op) (e : Option Effect) (s : Store) → InstanceFits i → StoreFits s → StoreOut (executes_effect f i o e s)
effect_fits f i o None s k h = quiet_fits s h
effect_fits f i o (Some e) s k h = acts_fits f i o _ _ s k h

acts_committed_fits : (f : Frame) (stamp : Stamp) (o : Option Instance) (s : Store) → Found InstanceFits o → StoreFits s → StoreOut (acts_committed f stamp o s)
acts_committed_fits f stamp None s k h = quiet_fits s h
acts_committed_fits f stamp (Some i) s k h = acts_fits f i op.Commit (result.Committed stamp) (counted i.work) s k h

commits_owing_fits : (f : Frame) (i : Instance) (s : Store) → InstanceFits i → StoreFits s → StoreOut (commits_owing f i s)
commits_owing_fits f i s k h =
    let stamp : Stamp = next_stamp f (next_vector f i) in
    let o : Outcome Store = commits f i s in
    let q : StoreOut o = commits_fits f i s k h in
    elim (is_spent f i) as (λ b. StoreOut (elim b [ true ↦ acts f i op.Commit (result.No refusal.Spent) (counted i.work) s | false ↦ and_then (commits f i s) (λ now. acts_committed f (next_stamp f (next_vector f i)) (instance_of now i.inst) now) ])) [
      | true ↦ acts_fits f i op.Commit (result.No refusal.Spent) (counted i.work) s k h
      | false ↦ then_fits o (λ now. acts_committed f stamp (instance_of now i.inst) now) q (acts_committed_fits f stamp (instance_of o.view i.inst) o.view (found_fits o.view i.inst q.view) q.view)
    ]

last_fits : (f : Frame) (i : Instance) (o : Option Stamp) (s : Store) → InstanceFits i → StoreFits s → StoreOut (last_committed f i o s)
last_fits f i None s k h = quiet_fits s h
last_fits f i (Some stamp) s k h = acts_fits f i op.Commit (result.Committed stamp) (counted i.work) s k h

commit_op_fits : (f : Frame) (i : Instance) (s : Store) → InstanceFits i → StoreFits s → StoreOut (commit_op f i s)
commit_op_fits f i s k h = elim i.work.owes as (λ b. StoreOut (elim b [ true ↦ commits_owing f i s | false ↦ last_committed f i i.work.last s ])) [ true ↦ commits_owing_fits f i s k h | false ↦ last_fits f i i.work.last s k h ]

executes_fits : (f : Frame) (m : Mending) (i : Instance) (o : Op) (seen : List ℕ) (s : Store) → InstanceFits i → StoreFits s → StoreOut (executes f m i o seen s)
executes_fits f m i op.Commit seen s k h = commit_op_fits f i s k h
executes_fits f m i op.Abort seen s k h = acts_fits f i op.Abort result.Done _ s k h
executes_fits f m i (op.Probe name) seen s k h = effect_fits f i (op.Probe name) (effect_of (op.Probe name) seen m i.work.content) s k h
executes_fits f m i (op.Find component) seen s k h = effect_fits f i (op.Find component) (effect_of (op.Find component) seen m i.work.content) s k h
executes_fits f m i (op.Insert name ino kind) seen s k h = effect_fits f i (op.Insert name ino kind) (effect_of (op.Insert name ino kind) seen m i.work.content) s k h
executes_fits f m i (op.Remove name ino) seen s k h = effect_fits f i (op.Remove name ino) (effect_of (op.Remove name ino) seen m i.work.content) s k h
executes_fits f m i (op.Rename component name) seen s k h = effect_fits f i (op.Rename component name) (effect_of (op.Rename component name) seen m i.work.content) s k h
executes_fits f m i op.Empty seen s k h = effect_fits f i op.Empty (effect_of op.Empty seen m i.work.content) s k h
executes_fits f m i (op.Read at len) seen s k h = effect_fits f i (op.Read at len) (effect_of (op.Read at len) seen m i.work.content) s k h
executes_fits f m i (op.Write at bytes) seen s k h = effect_fits f i (op.Write at bytes) (effect_of (op.Write at bytes) seen m i.work.content) s k h
executes_fits f m i (op.Cut len) seen s k h = effect_fits f i (op.Cut len) (effect_of (op.Cut len) seen m i.work.content) s k h
executes_fits f m i op.Mend seen s k h = effect_fits f i op.Mend (effect_of op.Mend seen m i.work.content) s k h

op_again_fits : (f : Frame) (i : Instance) (n : ℕ) (o : Option Result) → Every PacketFits (op_again f i n o)
op_again_fits f i n None = tt
op_again_fits f i n (Some r) = (tt, tt)

by_number_fits : (f : Frame) (m : Mending) (i : Instance) (n : ℕ) (o : Op) (seen : List ℕ) (s : Store) → InstanceFits i → StoreFits s → StoreOut (by_number f m i n o seen s)
by_number_fits f m i n o seen s k h =
    elim (n == i.work.ops) as (λ b. StoreOut (elim b [ true ↦ sends (op_again f i n i.answered) s | false ↦ elim (n == i.work.ops + 1) [ true ↦ executes f m i o seen s | false ↦ quiet s ] ])) [
      | true ↦ sends_fits (op_again f i n i.answered) s (op_again_fits f i n i.answered) h
      | false ↦ elim (n == i.work.ops + 1) as (λ b. StoreOut (elim b [ true ↦ executes f m i o seen s | false ↦ quiet s ])) [
        | true ↦ executes_fits f m i o seen s k h
        | false ↦ quiet_fits s h
      ]
    ]

op_at_fits : (f : Frame) (m : Mending) (i : Instance) (g : Stage) (n : ℕ) (o : Op) (seen : List ℕ) (s : Store) → InstanceFits i → StoreFits s → StoreOut (on_op_at f m i g n o seen s)
op_at_fits f m i stage.Running n o seen s k h = by_number_fits f m i n o seen s k h
op_at_fits f m i (stage.Closing made a) n o seen s k h = quiet_fits s h
op_at_fits f m i (stage.Closed a) n o seen s k h = quiet_fits s h

op_of_fits : (f : Frame) (m : Mending) (i : Option Instance) (n : ℕ) (o : Op) (seen : List ℕ) (s : Store) → Found InstanceFits i → StoreFits s → StoreOut (on_op_of f m i n o seen s)
op_of_fits f m None n o seen s k h = quiet_fits s h
op_of_fits f m (Some i) n o seen s k h = op_at_fits f m i i.stage n o seen s k h

pub on_op_fits : (f : Frame) (m : Mending) (inst : Serial) (n : ℕ) (o : Op) (seen : List ℕ) (s : Store) → StoreFits s → StoreOut (on_op f m inst n o seen s)
on_op_fits f m inst n o seen s h = op_of_fits f m (instance_of s inst) n o seen s (found_fits s inst h) h

-- a held read is the operation that it stands for, but for the form of its answer
form_fits : (i : Option Instance) (o : Outcome Store) → Every (PacketFits) (in_form i o).sent → StoreOut o → StoreOut (in_form i o)
form_fits None o g h = h
form_fits (Some i) o g h = record { view = h.view; sent = g }

pub on_read_held_fits : (f : Frame) (inst : Serial) (n at len : ℕ) (s : Store) → StoreFits s → StoreOut (on_read_held f inst n at len s)
on_read_held_fits f inst n at len s h =
    let o : Outcome Store = on_op f nothing_to_mend inst n (op.Read at len) nothing_seen s in
    form_fits (instance_of s inst) o (held_read_sent (PacketFits) f (λ to serial m r. tt) (λ to serial m l. tt) inst n at len s) (on_op_fits f nothing_to_mend inst n (op.Read at len) nothing_seen s h)

-- ---- repeats ----

closed_again_fits : (f : Frame) (i : Instance) (g : Stage) → Every PacketFits (closed_again f i g)
closed_again_fits f i stage.Running = tt
closed_again_fits f i (stage.Closing made a) = closed_fits f i made
closed_again_fits f i (stage.Closed a) = tt

pub store_repeats_fits : (f : Frame) (s : Store) → Every PacketFits (store_repeats f s)
store_repeats_fits f s = every_flat_map PacketFits (λ (i : Instance). closed_again f i i.stage) s.instances (λ i. closed_again_fits f i i.stage)
