-- What the storage site tells, keeps and sends of instances is as it went on.
use Rattle.std.proofs.Common.{◌≡◌, ℕ, ◌+◌, ◌==◌, true, false, List, [], ◌∷◌, Option, Some, None, refl, sym, subst, inl, inr}
use Rattle.locus_ids.specs.declared.ids.EpochId.{EpochId}
use Rattle.locus_ids.specs.declared.ids.FileId.{FileId}
use Rattle.locus_ids.specs.declared.ids.Serial.{Serial}
use Rattle.locus_ids.specs.declared.ids.Stamp.{Stamp}
use Rattle.locus_ids.specs.declared.ids.Mode.{Mode}
use Rattle.locus_ids.specs.declared.ids.Mode.TheVariants as mode
use Rattle.locus_ids.specs.declared.refusal.Refusal.TheVariants as refusal
use Rattle.trace_book.specs.declared.operation.Op.{Op}
use Rattle.trace_book.specs.declared.operation.Op.TheVariants as op
use Rattle.trace_book.specs.declared.operation.Outcome.{Outcome as Result}
use Rattle.trace_book.specs.declared.operation.Outcome.TheVariants as result
use Rattle.file_effects.specs.Effects.{Effect}
use Rattle.file_effects.specs.Works.{counted}
use Rattle.file_effects.specs.declared.work.Work.{Work}
use Rattle.wire_messages.specs.declared.packet.Packet.{Packet}
use Rattle.wire_messages.specs.declared.body.Body.{Body}
use Rattle.wire_messages.specs.declared.body.Body.TheVariants as body
use Rattle.wire_messages.specs.declared.body.MadeVersion.{MadeVersion}
use Rattle.wire_messages.specs.declared.body.CloseAnswer.{CloseAnswer}
use Rattle.wire_messages.specs.declared.body.CloseAnswer.TheVariants as closing
use Rattle.role_steps.specs.Own.{Every}
use Rattle.role_steps.specs.Views.{Frame, Store, Told, Shown, Begins, Shuts, Reserves, Outcome, quiet, sends, and_then, to_some, to_sync, sync_site, serial_key}
use Rattle.role_steps.specs.Storage.{StoreRequest, copy_of, instance_key, instance_of, is_open, own_ino, begun_instance, begins, with_instance, opened_packets, opens, opens_made, on_open_ss_of, on_open_ss, is_spent, instance_committed, commit_record, commits, next_stamp, next_vector, made_version, shut, closed_packets, shuts, shuts_again, closes_owing, closes, on_close_at, on_close_of, on_close, ends_at, on_closed_ok_of, on_closed_ok, closed_again, store_repeats}
use Rattle.role_steps.specs.of_dir_format.Entries.{nothing_seen}
use Rattle.role_steps.specs.Operations.{act_record, acts, acts_committed, commits_owing, last_committed, commit_op, executes_effect, executes, op_again, by_number, on_op_at, on_op_of, on_op, in_form, nothing_to_mend, on_read_held}
use Rattle.role_steps.specs.OperationEffects.{Mending, effect_of}
use Rattle.role_steps.specs.declared.instances.Instance.{Instance}
use Rattle.role_steps.specs.declared.instances.Stage.{Stage}
use Rattle.role_steps.specs.declared.instances.Stage.TheVariants as stage
use Rattle.role_steps.proofs.Sending.{every_cond}
use Rattle.site_laws.specs.Vectors.Facts.{onto}
use Rattle.site_laws.proofs.Vectors.SyncFacts.{FoundAt, row_at, every_flat, every_latest}
use Rattle.site_laws.specs.Locks.Going.{WasBegunAt, WasShutAt, WasReleased, WasStarted, IsGranted}
use Rattle.site_laws.specs.Locks.Facts.{BodyFact, PacketFact, StageFact, InstanceFact, Fine}
use Rattle.site_laws.proofs.Locks.Facts.{one_later, onto_later, granted_later, instance_later, instances_later, then_fine}
use Rattle.role_steps.proofs.HeldReads.{held_read_sent}

abbrev pub StoreFact : List Told → ℕ → EpochId → Store → Type 0
StoreFact past me e s = Every (InstanceFact past me e) s.instances

abbrev pub InStore : Frame → List Told → Store → Type 0
InStore f past s = StoreFact past f.me f.epoch s

abbrev pub StoreFine : Frame → List Told → Outcome Store → Type 0
StoreFine f past o = Fine (InStore f) past o

-- ---- packets and instances ----

some_fact : (past : List Told) (f : Frame) (b : Body) (o : Option ℕ) → ((to : ℕ) → BodyFact past f.me to f.epoch b) → Every (PacketFact past) (to_some f b o)
some_fact past f b None h = tt
some_fact past f b (Some to) h = (h to, tt)

pub sync_fact : (past : List Told) (f : Frame) (group : ℕ) (b : Body) → ((to : ℕ) → BodyFact past f.me to f.epoch b) → Every (PacketFact past) (to_sync f group b)
sync_fact past f group b h = some_fact past f b (sync_site f.config f.members group) h

-- the store with this instance, where one thing was told
puts_instance : (f : Frame) (past : List Told) (i : Instance) (x : Told) (s : Store) → InstanceFact (x ∷ past) f.me f.epoch i → InStore f past s → InStore f (x ∷ past) (with_instance i s)
puts_instance f past i x s h g = every_latest (InstanceFact (x ∷ past) f.me f.epoch) instance_key i s.instances h (instances_later past (x ∷ past) (one_later x past) f.me f.epoch s.instances g)

quiet_fact : (f : Frame) (past : List Told) (s : Store) → InStore f past s → StoreFine f past (quiet s)
quiet_fact f past s h = record { view = h; sent = tt; goes = tt; disk = tt }

sends_fact : (f : Frame) (past : List Told) (ps : List Packet) (s : Store) → Every (PacketFact past) ps → InStore f past s → StoreFine f past (sends ps s)
sends_fact f past ps s h g = record { view = g; sent = h; goes = tt; disk = tt }

-- ---- opens ----

opened_fact : (past : List Told) (f : Frame) (i : Instance) → WasBegunAt past f.me f.epoch (serial_key i.inst) i.file → Every (PacketFact past) (opened_packets f i)
opened_fact past f i b = sync_fact past f i.file.group _ (λ to. (i.file, b, refl))

opens_made_fact : (f : Frame) (past : List Told) (r : StoreRequest) (o : Option ℕ) (s : Store) → WasStarted past f.epoch r.file.group → InStore f past s → StoreFine f past (opens_made f r o s)
opens_made_fact f past r None s w h = sends_fact f past _ s (sync_fact past f r.file.group _ (λ to. tt)) h
opens_made_fact f past r (Some ino) s w h =
    let file : FileId = record { group = r.file.group; ino = ino } in
    let i : Instance = begun_instance r file None in
    let first : List Told = Begins f.me f.epoch r.inst file ∷ past in
    let now : List Told = Reserves f.me f.epoch r.inst file ∷ first in
    let b : WasBegunAt now f.me f.epoch (serial_key r.inst) file = inr (inl (refl, refl, refl, refl)) in
    record { view = puts_instance f first i (Reserves f.me f.epoch r.inst file) s (record { begun = b; stage = tt }) (instances_later past first (one_later _ past) f.me f.epoch s.instances h); sent = opened_fact now f i b; goes = (w, (tt, tt)); disk = tt }

opens_plain_fact : (f : Frame) (past : List Told) (r : StoreRequest) (s : Store) → WasStarted past f.epoch r.file.group → InStore f past s → StoreFine f past (begins f (begun_instance r r.file (copy_of s r.file)) (Begins f.me f.epoch r.inst r.file ∷ []) s)
opens_plain_fact f past r s w h =
    let i : Instance = begun_instance r r.file (copy_of s r.file) in
    let x : Told = Begins f.me f.epoch r.inst r.file in
    let b : WasBegunAt (x ∷ past) f.me f.epoch (serial_key r.inst) r.file = inl (refl, refl, refl, refl) in
    record { view = puts_instance f past i x s (record { begun = b; stage = tt }) h; sent = opened_fact (x ∷ past) f i b; goes = (w, tt); disk = tt }

opens_fact : (f : Frame) (past : List Told) (r : StoreRequest) (m : Mode) (s : Store) → WasStarted past f.epoch r.file.group → InStore f past s → StoreFine f past (opens f r m s)
opens_fact f past r mode.Make s w h = opens_made_fact f past r (own_ino s r.file.group f.me) s w h
opens_fact f past r mode.Read s w h = opens_plain_fact f past r s w h
opens_fact f past r mode.Write s w h = opens_plain_fact f past r s w h
opens_fact f past r mode.Resolve s w h = opens_plain_fact f past r s w h
opens_fact f past r mode.Mend s w h = opens_plain_fact f past r s w h

-- what is found under the key of an instance has that key, and its fact
abbrev InstanceAt : List Told → Frame → ℕ → Option Instance → Type 0
InstanceAt past f key o = FoundAt (InstanceFact past f.me f.epoch) instance_key key o

instance_at : (f : Frame) (past : List Told) (inst : Serial) (s : Store) → InStore f past s → InstanceAt past f (serial_key inst) (instance_of s inst)
instance_at f past inst s h = row_at (InstanceFact past f.me f.epoch) instance_key (serial_key inst) s.instances h

on_open_ss_of_fact : (f : Frame) (past : List Told) (r : StoreRequest) (o : Option Instance) (s : Store) → WasStarted past f.epoch r.file.group → InstanceAt past f (serial_key r.inst) o → InStore f past s → StoreFine f past (on_open_ss_of f r o s)
on_open_ss_of_fact f past r None s w k h = opens_fact f past r r.mode s w h
on_open_ss_of_fact f past r (Some i) s w k h = sends_fact f past _ s (every_cond (PacketFact past) (is_open i.stage) (opened_packets f i) [] (opened_fact past f i k.1.begun) tt) h

pub on_open_ss_fact : (f : Frame) (past : List Told) (r : StoreRequest) (s : Store) → WasStarted past f.epoch r.file.group → InStore f past s → StoreFine f past (on_open_ss f r s)
on_open_ss_fact f past r s w h = on_open_ss_of_fact f past r (instance_of s r.inst) s w (instance_at f past r.inst s h) h

-- ---- commits ----

commits_fact : (f : Frame) (past : List Told) (i : Instance) (s : Store) → IsGranted past f.epoch (serial_key i.inst) → InstanceFact past f.me f.epoch i → InStore f past s → StoreFine f past (commits f i s)
commits_fact f past i s g k h =
    let x : Told = Shown (commit_record f i (next_stamp f (next_vector f i))) in
    let l : InstanceFact (x ∷ past) f.me f.epoch i = instance_later past (x ∷ past) (one_later x past) f.me f.epoch i k in
    record {
      view = puts_instance f past (instance_committed i (next_vector f i) (next_stamp f (next_vector f i))) x s (record { begun = l.begun; stage = l.stage }) h;
      sent = tt;
      goes = (record { epoch = f.epoch; key = serial_key i.inst; was_begun = k.begun; granted = g }, tt);
      disk = record { epoch = f.epoch; key = serial_key i.inst; was_begun = k.begun; granted = g };
    }

-- ---- closes ----

closed_fact : (past : List Told) (f : Frame) (i : Instance) (m : Option MadeVersion) → WasShutAt past f.me f.epoch (serial_key i.inst) → Every (PacketFact past) (closed_packets f i m)
closed_fact past f i m b = sync_fact past f i.file.group (body.Closed i.inst m) (λ to. b)

shuts_fact : (f : Frame) (past : List Told) (i : Instance) (a : CloseAnswer) (s : Store) → InstanceFact past f.me f.epoch i → InStore f past s → StoreFine f past (shuts f i a s)
shuts_fact f past i a s k h =
    let made : Option MadeVersion = made_version i (copy_of s i.file) i.work.committed in
    let x : Told = Shuts f.me f.epoch i.inst in
    let l : InstanceFact (x ∷ past) f.me f.epoch i = instance_later past (x ∷ past) (one_later x past) f.me f.epoch i k in
    let b : WasShutAt (x ∷ past) f.me f.epoch (serial_key i.inst) = inl (refl, refl, refl) in
    record { view = puts_instance f past (shut i made a) x s (record { begun = l.begun; stage = b }) h; sent = closed_fact (x ∷ past) f i made b; goes = ((i.file, k.begun), tt); disk = tt }

shuts_again_fact : (f : Frame) (past : List Told) (key : ℕ) (a : CloseAnswer) (o : Option Instance) (s : Store) → InstanceAt past f key o → InStore f past s → StoreFine f past (shuts_again f a o s)
shuts_again_fact f past key a None s k h = quiet_fact f past s h
shuts_again_fact f past key a (Some i) s k h = shuts_fact f past i a s k.1 h

shuts_none : (f : Frame) (a : CloseAnswer) (o : Option Instance) (s : Store) → (shuts_again f a o s).written ≡ None
shuts_none f a None s = refl
shuts_none f a (Some i) s = refl

closes_owing_fact : (f : Frame) (past : List Told) (i : Instance) (s : Store) → IsGranted past f.epoch (serial_key i.inst) → InstanceFact past f.me f.epoch i → InStore f past s → StoreFine f past (closes_owing f i s)
closes_owing_fact f past i s g k h =
    let a : CloseAnswer = closing.Made (next_stamp f (next_vector f i)) in
    let o : Outcome Store = commits f i s in
    let c : StoreFine f past o = commits_fact f past i s g k h in
    elim (is_spent f i) as (λ b. StoreFine f past (elim b [ true ↦ shuts f i (closing.No refusal.Spent) s | false ↦ and_then (commits f i s) (λ now. shuts_again f (closing.Made (next_stamp f (next_vector f i))) (instance_of now i.inst) now) ])) [
      | true ↦ shuts_fact f past i (closing.No refusal.Spent) s k h
      | false ↦ then_fine (InStore f) (InStore f) past o (shuts_again f a (instance_of o.view i.inst) o.view) c (shuts_again_fact f (onto o.told past) (serial_key i.inst) a (instance_of o.view i.inst) o.view (instance_at f (onto o.told past) i.inst o.view c.view) c.view) (shuts_none f a (instance_of o.view i.inst) o.view)
    ]

closes_fact : (f : Frame) (past : List Told) (i : Instance) (s : Store) → IsGranted past f.epoch (serial_key i.inst) → InstanceFact past f.me f.epoch i → InStore f past s → StoreFine f past (closes f i s)
closes_fact f past i s g k h =
    elim i.work.owes as (λ b. StoreFine f past (elim b [ true ↦ closes_owing f i s | false ↦ shuts f i closing.Nothing s ])) [
      | true ↦ closes_owing_fact f past i s g k h
      | false ↦ shuts_fact f past i closing.Nothing s k h
    ]

on_close_at_fact : (f : Frame) (past : List Told) (i : Instance) (x : Stage) (s : Store) → IsGranted past f.epoch (serial_key i.inst) → StageFact past f.me f.epoch (serial_key i.inst) x → InstanceFact past f.me f.epoch i → InStore f past s → StoreFine f past (on_close_at f i x s)
on_close_at_fact f past i stage.Running s g q k h = closes_fact f past i s g k h
on_close_at_fact f past i (stage.Closing made a) s g q k h = sends_fact f past (closed_packets f i made) s (closed_fact past f i made q) h
on_close_at_fact f past i (stage.Closed a) s g q k h = sends_fact f past _ s (tt, tt) h

keyed : (past : List Told) (e : EpochId) (a b : ℕ) → a ≡ b → IsGranted past e b → IsGranted past e a
keyed past e a b q h = subst (λ (key : ℕ). IsGranted past e key) (sym q) h

on_close_of_fact : (f : Frame) (past : List Told) (key : ℕ) (o : Option Instance) (s : Store) → IsGranted past f.epoch key → InstanceAt past f key o → InStore f past s → StoreFine f past (on_close_of f o s)
on_close_of_fact f past key None s g k h = quiet_fact f past s h
on_close_of_fact f past key (Some i) s g k h = on_close_at_fact f past i i.stage s (keyed past f.epoch (serial_key i.inst) key k.0 g) k.1.stage k.1 h

pub on_close_fact : (f : Frame) (past : List Told) (inst : Serial) (s : Store) → IsGranted past f.epoch (serial_key inst) → InStore f past s → StoreFine f past (on_close f inst s)
on_close_fact f past inst s g h = on_close_of_fact f past (serial_key inst) (instance_of s inst) s g (instance_at f past inst s h) h

ends_at_fact : (f : Frame) (past : List Told) (i : Instance) (x : Stage) (s : Store) → WasReleased past f.epoch (serial_key i.inst) → StageFact past f.me f.epoch (serial_key i.inst) x → InstanceFact past f.me f.epoch i → InStore f past s → StoreFine f past (ends_at f i x s)
ends_at_fact f past i stage.Running s g q k h = quiet_fact f past s h
ends_at_fact f past i (stage.Closing made a) s g q k h = record { view = every_latest (InstanceFact past f.me f.epoch) instance_key (record i { stage = stage.Closed a }) s.instances (record { begun = k.begun; stage = (q, g) }) h; sent = (tt, tt); goes = tt; disk = tt }
ends_at_fact f past i (stage.Closed a) s g q k h = quiet_fact f past s h

on_closed_ok_of_fact : (f : Frame) (past : List Told) (key : ℕ) (o : Option Instance) (s : Store) → WasReleased past f.epoch key → InstanceAt past f key o → InStore f past s → StoreFine f past (on_closed_ok_of f o s)
on_closed_ok_of_fact f past key None s g k h = quiet_fact f past s h
on_closed_ok_of_fact f past key (Some i) s g k h = ends_at_fact f past i i.stage s (subst (λ (n : ℕ). WasReleased past f.epoch n) (sym k.0) g) k.1.stage k.1 h

pub on_closed_ok_fact : (f : Frame) (past : List Told) (inst : Serial) (s : Store) → WasReleased past f.epoch (serial_key inst) → InStore f past s → StoreFine f past (on_closed_ok f inst s)
on_closed_ok_fact f past inst s g h = on_closed_ok_of_fact f past (serial_key inst) (instance_of s inst) s g (instance_at f past inst s h) h

-- ---- operations ----

acts_fact : (f : Frame) (past : List Told) (i : Instance) (o : Op) (r : Result) (w : Work) (s : Store) → IsGranted past f.epoch (serial_key i.inst) → InstanceFact past f.me f.epoch i → InStore f past s → StoreFine f past (acts f i o r w s)
acts_fact f past i o r w s g k h =
    let x : Told = act_record f i w.ops o r in
    let l : InstanceFact (x ∷ past) f.me f.epoch i = instance_later past (x ∷ past) (one_later x past) f.me f.epoch i k in
    record { view = puts_instance f past (record i { work = w; answered = Some r }) x s (record { begun = l.begun; stage = l.stage }) h; sent = (tt, tt); goes = (record { ss = f.me; file = i.file; was_begun = k.begun; granted = g }, tt); disk = tt }

executes_effect_fact : (f : Frame) (past : List Told) (i : Instance) (o : Op) (e : Option Effect) (s : Store) → IsGranted past f.epoch (serial_key i.inst) → InstanceFact past f.me f.epoch i → InStore f past s → StoreFine f past (executes_effect f i o e s)
executes_effect_fact f past i o None s g k h = quiet_fact f past s h
executes_effect_fact f past i o (Some e) s g k h = acts_fact f past i o _ _ s g k h

acts_committed_fact : (f : Frame) (past : List Told) (key : ℕ) (stamp : Stamp) (o : Option Instance) (s : Store) → IsGranted past f.epoch key → InstanceAt past f key o → InStore f past s → StoreFine f past (acts_committed f stamp o s)
acts_committed_fact f past key stamp None s g k h = quiet_fact f past s h
acts_committed_fact f past key stamp (Some i) s g k h = acts_fact f past i op.Commit (result.Committed stamp) (counted i.work) s (keyed past f.epoch (serial_key i.inst) key k.0 g) k.1 h

acts_none : (f : Frame) (stamp : Stamp) (o : Option Instance) (s : Store) → (acts_committed f stamp o s).written ≡ None
acts_none f stamp None s = refl
acts_none f stamp (Some i) s = refl

commits_owing_fact : (f : Frame) (past : List Told) (i : Instance) (s : Store) → IsGranted past f.epoch (serial_key i.inst) → InstanceFact past f.me f.epoch i → InStore f past s → StoreFine f past (commits_owing f i s)
commits_owing_fact f past i s g k h =
    let stamp : Stamp = next_stamp f (next_vector f i) in
    let o : Outcome Store = commits f i s in
    let now : List Told = onto o.told past in
    let c : StoreFine f past o = commits_fact f past i s g k h in
    elim (is_spent f i) as (λ b. StoreFine f past (elim b [ true ↦ acts f i op.Commit (result.No refusal.Spent) (counted i.work) s | false ↦ and_then (commits f i s) (λ now. acts_committed f (next_stamp f (next_vector f i)) (instance_of now i.inst) now) ])) [
      | true ↦ acts_fact f past i op.Commit (result.No refusal.Spent) (counted i.work) s g k h
      | false ↦ then_fine (InStore f) (InStore f) past o (acts_committed f stamp (instance_of o.view i.inst) o.view) c (acts_committed_fact f now (serial_key i.inst) stamp (instance_of o.view i.inst) o.view (granted_later past now (onto_later o.told past) f.epoch (serial_key i.inst) g) (instance_at f now i.inst o.view c.view) c.view) (acts_none f stamp (instance_of o.view i.inst) o.view)
    ]

last_committed_fact : (f : Frame) (past : List Told) (i : Instance) (o : Option Stamp) (s : Store) → IsGranted past f.epoch (serial_key i.inst) → InstanceFact past f.me f.epoch i → InStore f past s → StoreFine f past (last_committed f i o s)
last_committed_fact f past i None s g k h = quiet_fact f past s h
last_committed_fact f past i (Some stamp) s g k h = acts_fact f past i op.Commit (result.Committed stamp) (counted i.work) s g k h

commit_op_fact : (f : Frame) (past : List Told) (i : Instance) (s : Store) → IsGranted past f.epoch (serial_key i.inst) → InstanceFact past f.me f.epoch i → InStore f past s → StoreFine f past (commit_op f i s)
commit_op_fact f past i s g k h =
    elim i.work.owes as (λ b. StoreFine f past (elim b [ true ↦ commits_owing f i s | false ↦ last_committed f i i.work.last s ])) [
      | true ↦ commits_owing_fact f past i s g k h
      | false ↦ last_committed_fact f past i i.work.last s g k h
    ]

executes_fact : (f : Frame) (past : List Told) (m : Mending) (i : Instance) (o : Op) (seen : List ℕ) (s : Store) → IsGranted past f.epoch (serial_key i.inst) → InstanceFact past f.me f.epoch i → InStore f past s → StoreFine f past (executes f m i o seen s)
executes_fact f past m i op.Commit seen s g k h = commit_op_fact f past i s g k h
executes_fact f past m i op.Abort seen s g k h = acts_fact f past i op.Abort result.Done _ s g k h
executes_fact f past m i (op.Probe name) seen s g k h = executes_effect_fact f past i (op.Probe name) (effect_of (op.Probe name) seen m i.work.content) s g k h
executes_fact f past m i (op.Find component) seen s g k h = executes_effect_fact f past i (op.Find component) (effect_of (op.Find component) seen m i.work.content) s g k h
executes_fact f past m i (op.Insert name ino kind) seen s g k h = executes_effect_fact f past i (op.Insert name ino kind) (effect_of (op.Insert name ino kind) seen m i.work.content) s g k h
executes_fact f past m i (op.Remove name ino) seen s g k h = executes_effect_fact f past i (op.Remove name ino) (effect_of (op.Remove name ino) seen m i.work.content) s g k h
executes_fact f past m i (op.Rename component name) seen s g k h = executes_effect_fact f past i (op.Rename component name) (effect_of (op.Rename component name) seen m i.work.content) s g k h
executes_fact f past m i op.Empty seen s g k h = executes_effect_fact f past i op.Empty (effect_of op.Empty seen m i.work.content) s g k h
executes_fact f past m i (op.Read at len) seen s g k h = executes_effect_fact f past i (op.Read at len) (effect_of (op.Read at len) seen m i.work.content) s g k h
executes_fact f past m i (op.Write at bytes) seen s g k h = executes_effect_fact f past i (op.Write at bytes) (effect_of (op.Write at bytes) seen m i.work.content) s g k h
executes_fact f past m i (op.Cut len) seen s g k h = executes_effect_fact f past i (op.Cut len) (effect_of (op.Cut len) seen m i.work.content) s g k h
executes_fact f past m i op.Mend seen s g k h = executes_effect_fact f past i op.Mend (effect_of op.Mend seen m i.work.content) s g k h

op_again_fact : (past : List Told) (f : Frame) (i : Instance) (n : ℕ) (o : Option Result) → Every (PacketFact past) (op_again f i n o)
op_again_fact past f i n None = tt
op_again_fact past f i n (Some r) = (tt, tt)

by_number_fact : (f : Frame) (past : List Told) (m : Mending) (i : Instance) (n : ℕ) (o : Op) (seen : List ℕ) (s : Store) → IsGranted past f.epoch (serial_key i.inst) → InstanceFact past f.me f.epoch i → InStore f past s → StoreFine f past (by_number f m i n o seen s)
by_number_fact f past m i n o seen s g k h =
    elim (n == i.work.ops) as (λ b. StoreFine f past (elim b [ true ↦ sends (op_again f i n i.answered) s | false ↦ elim (n == i.work.ops + 1) [ true ↦ executes f m i o seen s | false ↦ quiet s ] ])) [
      | true ↦ sends_fact f past (op_again f i n i.answered) s (op_again_fact past f i n i.answered) h
      | false ↦ elim (n == i.work.ops + 1) as (λ b. StoreFine f past (elim b [ true ↦ executes f m i o seen s | false ↦ quiet s ])) [
        | true ↦ executes_fact f past m i o seen s g k h
        | false ↦ quiet_fact f past s h
      ]
    ]

on_op_at_fact : (f : Frame) (past : List Told) (m : Mending) (i : Instance) (x : Stage) (n : ℕ) (o : Op) (seen : List ℕ) (s : Store) → IsGranted past f.epoch (serial_key i.inst) → InstanceFact past f.me f.epoch i → InStore f past s → StoreFine f past (on_op_at f m i x n o seen s)
on_op_at_fact f past m i stage.Running n o seen s g k h = by_number_fact f past m i n o seen s g k h
on_op_at_fact f past m i (stage.Closing made a) n o seen s g k h = quiet_fact f past s h
on_op_at_fact f past m i (stage.Closed a) n o seen s g k h = quiet_fact f past s h

on_op_of_fact : (f : Frame) (past : List Told) (m : Mending) (key : ℕ) (i : Option Instance) (n : ℕ) (o : Op) (seen : List ℕ) (s : Store) → IsGranted past f.epoch key → InstanceAt past f key i → InStore f past s → StoreFine f past (on_op_of f m i n o seen s)
on_op_of_fact f past m key None n o seen s g k h = quiet_fact f past s h
on_op_of_fact f past m key (Some i) n o seen s g k h = on_op_at_fact f past m i i.stage n o seen s (keyed past f.epoch (serial_key i.inst) key k.0 g) k.1 h

pub on_op_fact : (f : Frame) (past : List Told) (m : Mending) (inst : Serial) (n : ℕ) (o : Op) (seen : List ℕ) (s : Store) → IsGranted past f.epoch (serial_key inst) → InStore f past s → StoreFine f past (on_op f m inst n o seen s)
on_op_fact f past m inst n o seen s g h = on_op_of_fact f past m (serial_key inst) (instance_of s inst) n o seen s g (instance_at f past inst s h) h

-- a held read is the operation that it stands for, but for the form of its answer
form_fact : (f : Frame) (past : List Told) (i : Option Instance) (o : Outcome Store) → Every (PacketFact (onto o.told past)) (in_form i o).sent → StoreFine f past o → StoreFine f past (in_form i o)
form_fact f past None o g h = h
form_fact f past (Some i) o g h = record { view = h.view; sent = g; goes = h.goes; disk = h.disk }

pub on_read_held_fact : (f : Frame) (past : List Told) (inst : Serial) (n at len : ℕ) (s : Store) → IsGranted past f.epoch (serial_key inst) → InStore f past s → StoreFine f past (on_read_held f inst n at len s)
on_read_held_fact f past inst n at len s k h =
    let o : Outcome Store = on_op f nothing_to_mend inst n (op.Read at len) nothing_seen s in
    form_fact f past (instance_of s inst) o (held_read_sent (PacketFact (onto o.told past)) f (λ to serial m r. tt) (λ to serial m l. tt) inst n at len s) (on_op_fact f past nothing_to_mend inst n (op.Read at len) nothing_seen s k h)

-- ---- repeats ----

closed_again_fact : (past : List Told) (f : Frame) (i : Instance) (x : Stage) → StageFact past f.me f.epoch (serial_key i.inst) x → Every (PacketFact past) (closed_again f i x)
closed_again_fact past f i stage.Running q = tt
closed_again_fact past f i (stage.Closing made a) q = closed_fact past f i made q
closed_again_fact past f i (stage.Closed a) q = tt

pub store_repeats_fact : (past : List Told) (f : Frame) (s : Store) → InStore f past s → Every (PacketFact past) (store_repeats f s)
store_repeats_fact past f s h = every_flat (InstanceFact past f.me f.epoch) (PacketFact past) (λ (i : Instance). closed_again f i i.stage) s.instances (λ i k. closed_again_fact past f i i.stage k.stage) h
