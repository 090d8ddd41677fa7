-- What the storage site keeps, writes, tells and sends of versions is as it was told.
use Rattle.std.proofs.Common.{◌≡◌, ℕ, ◌+◌, ◌==◌, Bool, true, false, cond, List, [], ◌∷◌, Option, Some, None, refl, sym, subst, inl, inr}
use Rattle.locus_ids.specs.declared.ids.FileId.{FileId}
use Rattle.locus_ids.specs.declared.ids.Serial.{Serial}
use Rattle.locus_ids.specs.declared.ids.Stamp.{Stamp}
use Rattle.locus_ids.specs.declared.ids.Mode.{Mode}
use Rattle.locus_ids.specs.declared.ids.Mode.TheVariants as mode
use Rattle.locus_ids.specs.declared.refusal.Refusal.TheVariants as refusal
use Rattle.trace_book.specs.declared.operation.Op.{Op}
use Rattle.trace_book.specs.declared.operation.Op.TheVariants as op
use Rattle.trace_book.specs.declared.operation.Outcome.{Outcome as Result}
use Rattle.trace_book.specs.declared.operation.Outcome.TheVariants as result
use Rattle.file_effects.specs.Effects.{Effect}
use Rattle.file_effects.specs.Works.{counted, carried_out}
use Rattle.file_effects.specs.declared.work.Work.{Work}
use Rattle.run_laws.specs.of_wire_messages.declared.packet.Packet.{Packet}
use Rattle.run_laws.specs.of_wire_messages.declared.body.Body.{Body}
use Rattle.run_laws.specs.of_wire_messages.declared.body.Body.TheVariants as body
use Rattle.run_laws.specs.of_wire_messages.declared.body.MadeVersion.{MadeVersion}
use Rattle.run_laws.specs.of_wire_messages.declared.body.CloseAnswer.{CloseAnswer}
use Rattle.run_laws.specs.of_wire_messages.declared.body.CloseAnswer.TheVariants as closing
use Rattle.run_laws.specs.of_role_steps.Own.{Every}
use Rattle.run_laws.specs.of_role_steps.Views.{Frame, Store, Told, Shown, Begins, Shuts, Reserves, Outcome, quiet, sends, and_then, to_some, to_sync, sync_site, serial_key}
use Rattle.run_laws.specs.of_role_steps.Storage.{StoreRequest, copy_key, copy_of, instance_key, instance_of, is_open, own_ino, begun_instance, begins, with_instance, opened_packets, opens, opens_made, on_open_ss_of, on_open_ss, is_spent, copy_made, instance_committed, commit_record, commits, next_stamp, next_vector, made_version, shut, closed_packets, shuts, shuts_again, closes_owing, closes, on_close_at, on_close_of, on_close, ends_at, on_closed_ok_of, on_closed_ok, closed_again, store_repeats}
use Rattle.role_steps.specs.of_dir_format.Entries.{nothing_seen}
use Rattle.run_laws.specs.of_role_steps.Operations.{act_record, acts, acts_committed, commits_owing, last_committed, commit_op, executes_effect, executes, op_again, by_number, on_op_at, on_op_of, on_op, in_form, nothing_to_mend, on_read_held}
use Rattle.run_laws.specs.of_role_steps.OperationEffects.{Mending, effect_of}
use Rattle.run_laws.specs.of_role_steps.declared.copies.FileCopy.{FileCopy}
use Rattle.run_laws.specs.of_role_steps.declared.instances.Instance.{Instance}
use Rattle.run_laws.specs.of_role_steps.declared.instances.Stage.{Stage}
use Rattle.run_laws.specs.of_role_steps.declared.instances.Stage.TheVariants as stage
use Rattle.run_laws.proofs.of_role_steps.Sending.{every_cond}
use Rattle.run_laws.proofs.of_the_run.InsideSync.{every_row, Found, row_found}
use Rattle.site_laws.specs.Vectors.Written.{JoinsAll, WrittenAs, WasBegun}
use Rattle.site_laws.specs.Vectors.Facts.{BaseFact, MaybeMade, BodyFact, PacketFact, CopyFact, ClosingFact, StageFact, LastMade, InstanceFact, StoreFact, Fine, onto}
use Rattle.site_laws.proofs.Vectors.Facts.{Later, one_later, joins_later, store_later, copies_later, instances_later, instance_later, stage_later, then_fine}
use Rattle.site_laws.proofs.Vectors.SyncFacts.{every_flat, every_latest, joins_one}
use Rattle.run_laws.proofs.of_role_steps.HeldReads.{held_read_sent}

abbrev pub InStore : Frame → List Told → Store → Type 0
InStore f past s = StoreFact past f.epoch s

abbrev pub StoreFine : Frame → List Told → Outcome Store → Type 0
StoreFine f past o = Fine (InStore f) past o

-- ---- packets and instances ----

some_fact : (past : List Told) (f : Frame) (b : Body) (o : Option ℕ) → BodyFact past f.epoch b → Every (PacketFact past) (to_some f b o)
some_fact past f b None h = tt
some_fact past f b (Some to) h = (h, tt)

pub sync_fact : (past : List Told) (f : Frame) (group : ℕ) (b : Body) → BodyFact past f.epoch b → Every (PacketFact past) (to_sync f group b)
sync_fact past f group b h = some_fact past f b (sync_site f.config f.members group) h

-- an outcome of one record that is no commit: the store with this instance, and these packets
puts_instance : (f : Frame) (past : List Told) (i : Instance) (x : Told) (s : Store) → InstanceFact (x ∷ past) f.epoch i → StoreFact past f.epoch s → StoreFact (x ∷ past) f.epoch (with_instance i s)
puts_instance f past i x s h g = record { copies = copies_later past (x ∷ past) (one_later x past) s.copies g.copies; instances = every_latest (InstanceFact (x ∷ past) f.epoch) instance_key i s.instances h (instances_later past (x ∷ past) (one_later x past) f.epoch s.instances g.instances) }

sends_fact : (f : Frame) (past : List Told) (ps : List Packet) (s : Store) → Every (PacketFact past) ps → StoreFact past f.epoch s → StoreFine f past (sends ps s)
sends_fact f past ps s h g = record { view = g; sent = h; numbered = tt; disk = tt }

-- ---- opens ----

opened_fact : (past : List Told) (f : Frame) (i : Instance) → Every (PacketFact past) (opened_packets f i)
opened_fact past f i = sync_fact past f i.file.group _ tt

opens_made_fact : (f : Frame) (past : List Told) (r : StoreRequest) (o : Option ℕ) (s : Store) → BaseFact past r.file mode.Make r.parents r.vector → StoreFact past f.epoch s → StoreFine f past (opens_made f r o s)
opens_made_fact f past r None s b h = sends_fact f past _ s (sync_fact past f r.file.group _ tt) h
opens_made_fact f past r (Some ino) s b h =
    let file : FileId = record { group = r.file.group; ino = ino } in
    let i : Instance = begun_instance r file None in
    let first : List Told = Begins f.me f.epoch r.inst file ∷ past in
    let now : List Told = Reserves f.me f.epoch r.inst file ∷ first in
    let k : InstanceFact now f.epoch i = record { begun = inr (inl (refl, refl, refl)); base = subst (λ (ps : List Stamp). JoinsAll (WrittenAs now file) ps r.vector) (sym b.0) b.1; made = tt; stage = tt } in
    record { view = puts_instance f first i (Reserves f.me f.epoch r.inst file) s k (store_later past first (one_later _ past) f.epoch s h); sent = opened_fact now f i; numbered = (tt, (tt, tt)); disk = tt }

opens_plain_fact : (f : Frame) (past : List Told) (r : StoreRequest) (s : Store) → JoinsAll (WrittenAs past r.file) r.parents r.vector → StoreFact past f.epoch s → StoreFine f past (begins f (begun_instance r r.file (copy_of s r.file)) (Begins f.me f.epoch r.inst r.file ∷ []) s)
opens_plain_fact f past r s b h =
    let i : Instance = begun_instance r r.file (copy_of s r.file) in
    let now : List Told = Begins f.me f.epoch r.inst r.file ∷ past in
    let k : InstanceFact now f.epoch i = record { begun = inl (refl, refl, refl); base = joins_later past now (one_later _ past) r.file r.parents r.vector b; made = tt; stage = tt } in
    record { view = puts_instance f past i (Begins f.me f.epoch r.inst r.file) s k h; sent = opened_fact now f i; numbered = (tt, tt); disk = tt }

opens_fact : (f : Frame) (past : List Told) (r : StoreRequest) (m : Mode) (s : Store) → BaseFact past r.file m r.parents r.vector → StoreFact past f.epoch s → StoreFine f past (opens f r m s)
opens_fact f past r mode.Make s b h = opens_made_fact f past r (own_ino s r.file.group f.me) s b h
opens_fact f past r mode.Read s b h = opens_plain_fact f past r s b h
opens_fact f past r mode.Write s b h = opens_plain_fact f past r s b h
opens_fact f past r mode.Resolve s b h = opens_plain_fact f past r s b h
opens_fact f past r mode.Mend s b h = opens_plain_fact f past r s b h

on_open_ss_of_fact : (f : Frame) (past : List Told) (r : StoreRequest) (o : Option Instance) (s : Store) → BaseFact past r.file r.mode r.parents r.vector → StoreFact past f.epoch s → StoreFine f past (on_open_ss_of f r o s)
on_open_ss_of_fact f past r None s b h = opens_fact f past r r.mode s b h
on_open_ss_of_fact f past r (Some i) s b h = sends_fact f past _ s (every_cond (PacketFact past) (is_open i.stage) (opened_packets f i) [] (opened_fact past f i) tt) h

pub on_open_ss_fact : (f : Frame) (past : List Told) (r : StoreRequest) (s : Store) → BaseFact past r.file r.mode r.parents r.vector → StoreFact past f.epoch s → StoreFine f past (on_open_ss f r s)
on_open_ss_fact f past r s b h = on_open_ss_of_fact f past r (instance_of s r.inst) s b h

-- ---- commits ----

commits_fact : (f : Frame) (past : List Told) (i : Instance) (s : Store) → InstanceFact past f.epoch i → StoreFact past f.epoch s → StoreFine f past (commits f i s)
commits_fact f past i s k h =
    let vector : List ℕ = next_vector f i in
    let stamp : Stamp = next_stamp f vector in
    let x : Told = Shown (commit_record f i stamp) in
    let now : List Told = x ∷ past in
    let later : Later past now = one_later x past in
    let w : WrittenAs now i.file stamp vector = inr (refl, refl, record { base = i.vector; joins = k.base; raised_is = refl }) in
    let copy : FileCopy = copy_made i vector stamp in
    let g : InstanceFact now f.epoch (instance_committed i vector stamp) = record { begun = later.begun f.epoch (serial_key i.inst) i.file k.begun; base = joins_one (WrittenAs now i.file) stamp vector w; made = w; stage = stage_later past now later i.file i.stage k.stage } in
    record {
      view = record { copies = every_row (CopyFact now) copy_key copy s.copies w (copies_later past now later s.copies h.copies); instances = every_latest (InstanceFact now f.epoch) instance_key (instance_committed i vector stamp) s.instances g (instances_later past now later f.epoch s.instances h.instances) };
      sent = tt;
      numbered = (record { base = i.vector; joins = k.base; own = refl; number = refl }, tt);
      disk = (record { base = i.vector; joins = k.base; own = refl; number = refl }, w);
    }

-- ---- closes ----

version_fact : (past : List Told) (i : Instance) (x : Option FileCopy) (o : Option Stamp) → LastMade past i.file i.vector o → ClosingFact past i.file (made_version i x o)
version_fact past i x None h = tt
version_fact past i x (Some stamp) h = h

closed_made : (past : List Told) (f : Frame) (i : Instance) (m : Option MadeVersion) → WasBegun past f.epoch (serial_key i.inst) i.file → ClosingFact past i.file m → MaybeMade past f.epoch (serial_key i.inst) m
closed_made past f i None b h = tt
closed_made past f i (Some m) b h = record { file = i.file; begun = b; written = h }

closed_fact : (past : List Told) (f : Frame) (i : Instance) (m : Option MadeVersion) → WasBegun past f.epoch (serial_key i.inst) i.file → ClosingFact past i.file m → Every (PacketFact past) (closed_packets f i m)
closed_fact past f i m b h = sync_fact past f i.file.group (body.Closed i.inst m) (closed_made past f i m b h)

shuts_fact : (f : Frame) (past : List Told) (i : Instance) (a : CloseAnswer) (s : Store) → InstanceFact past f.epoch i → StoreFact past f.epoch s → StoreFine f past (shuts f i a s)
shuts_fact f past i a s k h =
    let made : Option MadeVersion = made_version i (copy_of s i.file) i.work.committed in
    let x : Told = Shuts f.me f.epoch i.inst in
    let now : List Told = x ∷ past in
    let g : InstanceFact now f.epoch i = instance_later past now (one_later x past) f.epoch i k in
    let c : ClosingFact now i.file made = version_fact now i (copy_of s i.file) i.work.committed g.made in
    record { view = puts_instance f past (shut i made a) x s (record { begun = g.begun; base = g.base; made = g.made; stage = c }) h; sent = closed_fact now f i made g.begun c; numbered = (tt, tt); disk = tt }

shuts_again_fact : (f : Frame) (past : List Told) (a : CloseAnswer) (o : Option Instance) (s : Store) → Found (InstanceFact past f.epoch) o → StoreFact past f.epoch s → StoreFine f past (shuts_again f a o s)
shuts_again_fact f past a None s k h = record { view = h; sent = tt; numbered = tt; disk = tt }
shuts_again_fact f past a (Some i) s k h = shuts_fact f past i a s k h

shuts_none : (f : Frame) (a : CloseAnswer) (o : Option Instance) (s : Store) → (shuts_again f a o s).written ≡ None
shuts_none f a None s = refl
shuts_none f a (Some i) s = refl

closes_owing_fact : (f : Frame) (past : List Told) (i : Instance) (s : Store) → InstanceFact past f.epoch i → StoreFact past f.epoch s → StoreFine f past (closes_owing f i s)
closes_owing_fact f past i s k h =
    let a : CloseAnswer = closing.Made (next_stamp f (next_vector f i)) in
    let o : Outcome Store = commits f i s in
    let c : StoreFine f past o = commits_fact f past i s k h in
    elim (is_spent f i) as (λ b. StoreFine f past (elim b [ true ↦ shuts f i (closing.No refusal.Spent) s | false ↦ and_then (commits f i s) (λ now. shuts_again f (closing.Made (next_stamp f (next_vector f i))) (instance_of now i.inst) now) ])) [
      | true ↦ shuts_fact f past i (closing.No refusal.Spent) s k h
      | false ↦ then_fine (InStore f) (InStore f) past o (shuts_again f a (instance_of o.view i.inst) o.view) c (shuts_again_fact f (onto o.told past) a (instance_of o.view i.inst) o.view (row_found (InstanceFact (onto o.told past) f.epoch) instance_key (serial_key i.inst) o.view.instances c.view.instances) c.view) (shuts_none f a (instance_of o.view i.inst) o.view)
    ]

closes_fact : (f : Frame) (past : List Told) (i : Instance) (s : Store) → InstanceFact past f.epoch i → StoreFact past f.epoch s → StoreFine f past (closes f i s)
closes_fact f past i s k h =
    elim i.work.owes as (λ b. StoreFine f past (elim b [ true ↦ closes_owing f i s | false ↦ shuts f i closing.Nothing s ])) [
      | true ↦ closes_owing_fact f past i s k h
      | false ↦ shuts_fact f past i closing.Nothing s k h
    ]

on_close_at_fact : (f : Frame) (past : List Told) (i : Instance) (g : Stage) (s : Store) → StageFact past i.file g → InstanceFact past f.epoch i → StoreFact past f.epoch s → StoreFine f past (on_close_at f i g s)
on_close_at_fact f past i stage.Running s q k h = closes_fact f past i s k h
on_close_at_fact f past i (stage.Closing made a) s q k h = sends_fact f past (closed_packets f i made) s (closed_fact past f i made k.begun q) h
on_close_at_fact f past i (stage.Closed a) s q k h = sends_fact f past _ s (tt, tt) h

on_close_of_fact : (f : Frame) (past : List Told) (o : Option Instance) (s : Store) → Found (InstanceFact past f.epoch) o → StoreFact past f.epoch s → StoreFine f past (on_close_of f o s)
on_close_of_fact f past None s k h = record { view = h; sent = tt; numbered = tt; disk = tt }
on_close_of_fact f past (Some i) s k h = on_close_at_fact f past i i.stage s k.stage k h

pub on_close_fact : (f : Frame) (past : List Told) (inst : Serial) (s : Store) → StoreFact past f.epoch s → StoreFine f past (on_close f inst s)
on_close_fact f past inst s h = on_close_of_fact f past (instance_of s inst) s (row_found (InstanceFact past f.epoch) instance_key (serial_key inst) s.instances h.instances) h

ends_at_fact : (f : Frame) (past : List Told) (i : Instance) (g : Stage) (s : Store) → InstanceFact past f.epoch i → StoreFact past f.epoch s → StoreFine f past (ends_at f i g s)
ends_at_fact f past i stage.Running s k h = record { view = h; sent = tt; numbered = tt; disk = tt }
ends_at_fact f past i (stage.Closing made a) s k h = record { view = record { copies = h.copies; instances = every_latest (InstanceFact past f.epoch) instance_key (record i { stage = stage.Closed a }) s.instances (record { begun = k.begun; base = k.base; made = k.made; stage = tt }) h.instances }; sent = (tt, tt); numbered = tt; disk = tt }
ends_at_fact f past i (stage.Closed a) s k h = record { view = h; sent = tt; numbered = tt; disk = tt }

on_closed_ok_of_fact : (f : Frame) (past : List Told) (o : Option Instance) (s : Store) → Found (InstanceFact past f.epoch) o → StoreFact past f.epoch s → StoreFine f past (on_closed_ok_of f o s)
on_closed_ok_of_fact f past None s k h = record { view = h; sent = tt; numbered = tt; disk = tt }
on_closed_ok_of_fact f past (Some i) s k h = ends_at_fact f past i i.stage s k h

pub on_closed_ok_fact : (f : Frame) (past : List Told) (inst : Serial) (s : Store) → StoreFact past f.epoch s → StoreFine f past (on_closed_ok f inst s)
on_closed_ok_fact f past inst s h = on_closed_ok_of_fact f past (instance_of s inst) s (row_found (InstanceFact past f.epoch) instance_key (serial_key inst) s.instances h.instances) h

-- ---- operations ----

-- an operation leaves what was committed last
acts_fact : (f : Frame) (past : List Told) (i : Instance) (o : Op) (r : Result) (w : Work) (s : Store) → w.committed ≡ i.work.committed → InstanceFact past f.epoch i → StoreFact past f.epoch s → StoreFine f past (acts f i o r w s)
acts_fact f past i o r w s e k h =
    let x : Told = act_record f i w.ops o r in
    let now : List Told = x ∷ past in
    let g : InstanceFact now f.epoch i = instance_later past now (one_later x past) f.epoch i k in
    record { view = puts_instance f past (record i { work = w; answered = Some r }) x s (record { begun = g.begun; base = g.base; made = subst (LastMade now i.file i.vector) (sym e) g.made; stage = g.stage }) h; sent = (tt, tt); numbered = (tt, tt); disk = tt }

cond_committed : (b : Bool) (v w : Work) (c : Option Stamp) → v.committed ≡ c → w.committed ≡ c → (cond b v w).committed ≡ c
cond_committed true v w c h g = h
cond_committed false v w c h g = g

executes_effect_fact : (f : Frame) (past : List Told) (i : Instance) (o : Op) (e : Option Effect) (s : Store) → InstanceFact past f.epoch i → StoreFact past f.epoch s → StoreFine f past (executes_effect f i o e s)
executes_effect_fact f past i o None s k h = record { view = h; sent = tt; numbered = tt; disk = tt }
executes_effect_fact f past i o (Some e) s k h = acts_fact f past i o _ _ s (cond_committed _ (counted i.work) (carried_out e i.work) i.work.committed refl refl) k h

acts_committed_fact : (f : Frame) (past : List Told) (stamp : Stamp) (o : Option Instance) (s : Store) → Found (InstanceFact past f.epoch) o → StoreFact past f.epoch s → StoreFine f past (acts_committed f stamp o s)
acts_committed_fact f past stamp None s k h = record { view = h; sent = tt; numbered = tt; disk = tt }
acts_committed_fact f past stamp (Some i) s k h = acts_fact f past i op.Commit (result.Committed stamp) (counted i.work) s refl k h

acts_none : (f : Frame) (stamp : Stamp) (o : Option Instance) (s : Store) → (acts_committed f stamp o s).written ≡ None
acts_none f stamp None s = refl
acts_none f stamp (Some i) s = refl

commits_owing_fact : (f : Frame) (past : List Told) (i : Instance) (s : Store) → InstanceFact past f.epoch i → StoreFact past f.epoch s → StoreFine f past (commits_owing f i s)
commits_owing_fact f past i s k h =
    let stamp : Stamp = next_stamp f (next_vector f i) in
    let o : Outcome Store = commits f i s in
    let c : StoreFine f past o = commits_fact f past i s k h in
    elim (is_spent f i) as (λ b. StoreFine f past (elim b [ true ↦ acts f i op.Commit (result.No refusal.Spent) (counted i.work) s | false ↦ and_then (commits f i s) (λ now. acts_committed f (next_stamp f (next_vector f i)) (instance_of now i.inst) now) ])) [
      | true ↦ acts_fact f past i op.Commit (result.No refusal.Spent) (counted i.work) s refl k h
      | false ↦ then_fine (InStore f) (InStore f) past o (acts_committed f stamp (instance_of o.view i.inst) o.view) c (acts_committed_fact f (onto o.told past) stamp (instance_of o.view i.inst) o.view (row_found (InstanceFact (onto o.told past) f.epoch) instance_key (serial_key i.inst) o.view.instances c.view.instances) c.view) (acts_none f stamp (instance_of o.view i.inst) o.view)
    ]

last_committed_fact : (f : Frame) (past : List Told) (i : Instance) (o : Option Stamp) (s : Store) → InstanceFact past f.epoch i → StoreFact past f.epoch s → StoreFine f past (last_committed f i o s)
last_committed_fact f past i None s k h = record { view = h; sent = tt; numbered = tt; disk = tt }
last_committed_fact f past i (Some stamp) s k h = acts_fact f past i op.Commit (result.Committed stamp) (counted i.work) s refl k h

commit_op_fact : (f : Frame) (past : List Told) (i : Instance) (s : Store) → InstanceFact past f.epoch i → StoreFact past f.epoch s → StoreFine f past (commit_op f i s)
commit_op_fact f past i s k h =
    elim i.work.owes as (λ b. StoreFine f past (elim b [ true ↦ commits_owing f i s | false ↦ last_committed f i i.work.last s ])) [
      | true ↦ commits_owing_fact f past i s k h
      | false ↦ last_committed_fact f past i i.work.last s k h
    ]

executes_fact : (f : Frame) (past : List Told) (m : Mending) (i : Instance) (o : Op) (seen : List ℕ) (s : Store) → InstanceFact past f.epoch i → StoreFact past f.epoch s → StoreFine f past (executes f m i o seen s)
executes_fact f past m i op.Commit seen s k h = commit_op_fact f past i s k h
executes_fact f past m i op.Abort seen s k h = acts_fact f past i op.Abort result.Done _ s refl k h
executes_fact f past m i (op.Probe name) seen s k h = executes_effect_fact f past i (op.Probe name) (effect_of (op.Probe name) seen m i.work.content) s k h
executes_fact f past m i (op.Find component) seen s k h = executes_effect_fact f past i (op.Find component) (effect_of (op.Find component) seen m i.work.content) s k h
executes_fact f past m i (op.Insert name ino kind) seen s k h = executes_effect_fact f past i (op.Insert name ino kind) (effect_of (op.Insert name ino kind) seen m i.work.content) s k h
executes_fact f past m i (op.Remove name ino) seen s k h = executes_effect_fact f past i (op.Remove name ino) (effect_of (op.Remove name ino) seen m i.work.content) s k h
executes_fact f past m i (op.Rename component name) seen s k h = executes_effect_fact f past i (op.Rename component name) (effect_of (op.Rename component name) seen m i.work.content) s k h
executes_fact f past m i op.Empty seen s k h = executes_effect_fact f past i op.Empty (effect_of op.Empty seen m i.work.content) s k h
executes_fact f past m i (op.Read at len) seen s k h = executes_effect_fact f past i (op.Read at len) (effect_of (op.Read at len) seen m i.work.content) s k h
executes_fact f past m i (op.Write at bytes) seen s k h = executes_effect_fact f past i (op.Write at bytes) (effect_of (op.Write at bytes) seen m i.work.content) s k h
executes_fact f past m i (op.Cut len) seen s k h = executes_effect_fact f past i (op.Cut len) (effect_of (op.Cut len) seen m i.work.content) s k h
executes_fact f past m i op.Mend seen s k h = executes_effect_fact f past i op.Mend (effect_of op.Mend seen m i.work.content) s k h

op_again_fact : (past : List Told) (f : Frame) (i : Instance) (n : ℕ) (o : Option Result) → Every (PacketFact past) (op_again f i n o)
op_again_fact past f i n None = tt
op_again_fact past f i n (Some r) = (tt, tt)

by_number_fact : (f : Frame) (past : List Told) (m : Mending) (i : Instance) (n : ℕ) (o : Op) (seen : List ℕ) (s : Store) → InstanceFact past f.epoch i → StoreFact past f.epoch s → StoreFine f past (by_number f m i n o seen s)
by_number_fact f past m i n o seen s k h =
    elim (n == i.work.ops) as (λ b. StoreFine f past (elim b [ true ↦ sends (op_again f i n i.answered) s | false ↦ elim (n == i.work.ops + 1) [ true ↦ executes f m i o seen s | false ↦ quiet s ] ])) [
      | true ↦ sends_fact f past (op_again f i n i.answered) s (op_again_fact past f i n i.answered) h
      | false ↦ elim (n == i.work.ops + 1) as (λ b. StoreFine f past (elim b [ true ↦ executes f m i o seen s | false ↦ quiet s ])) [
        | true ↦ executes_fact f past m i o seen s k h
        | false ↦ record { view = h; sent = tt; numbered = tt; disk = tt }
      ]
    ]

on_op_at_fact : (f : Frame) (past : List Told) (m : Mending) (i : Instance) (g : Stage) (n : ℕ) (o : Op) (seen : List ℕ) (s : Store) → InstanceFact past f.epoch i → StoreFact past f.epoch s → StoreFine f past (on_op_at f m i g n o seen s)
on_op_at_fact f past m i stage.Running n o seen s k h = by_number_fact f past m i n o seen s k h
on_op_at_fact f past m i (stage.Closing made a) n o seen s k h = record { view = h; sent = tt; numbered = tt; disk = tt }
on_op_at_fact f past m i (stage.Closed a) n o seen s k h = record { view = h; sent = tt; numbered = tt; disk = tt }

on_op_of_fact : (f : Frame) (past : List Told) (m : Mending) (i : Option Instance) (n : ℕ) (o : Op) (seen : List ℕ) (s : Store) → Found (InstanceFact past f.epoch) i → StoreFact past f.epoch s → StoreFine f past (on_op_of f m i n o seen s)
on_op_of_fact f past m None n o seen s k h = record { view = h; sent = tt; numbered = tt; disk = tt }
on_op_of_fact f past m (Some i) n o seen s k h = on_op_at_fact f past m i i.stage n o seen s k h

pub on_op_fact : (f : Frame) (past : List Told) (m : Mending) (inst : Serial) (n : ℕ) (o : Op) (seen : List ℕ) (s : Store) → StoreFact past f.epoch s → StoreFine f past (on_op f m inst n o seen s)
on_op_fact f past m inst n o seen s h = on_op_of_fact f past m (instance_of s inst) n o seen s (row_found (InstanceFact past f.epoch) instance_key (serial_key inst) s.instances h.instances) h

-- a held read is the operation that it stands for, but for the form of its answer
form_fact : (f : Frame) (past : List Told) (i : Option Instance) (o : Outcome Store) → Every (PacketFact (onto o.told past)) (in_form i o).sent → StoreFine f past o → StoreFine f past (in_form i o)
form_fact f past None o g h = h
form_fact f past (Some i) o g h = record { view = h.view; sent = g; numbered = h.numbered; disk = h.disk }

pub on_read_held_fact : (f : Frame) (past : List Told) (inst : Serial) (n at len : ℕ) (s : Store) → StoreFact past f.epoch s → StoreFine f past (on_read_held f inst n at len s)
on_read_held_fact f past inst n at len s h =
    let o : Outcome Store = on_op f nothing_to_mend inst n (op.Read at len) nothing_seen s in
    form_fact f past (instance_of s inst) o (held_read_sent (PacketFact (onto o.told past)) f (λ to serial m r. tt) (λ to serial m l. tt) inst n at len s) (on_op_fact f past nothing_to_mend inst n (op.Read at len) nothing_seen s h)

-- ---- repeats ----

closed_again_fact : (past : List Told) (f : Frame) (i : Instance) (g : Stage) → StageFact past i.file g → WasBegun past f.epoch (serial_key i.inst) i.file → Every (PacketFact past) (closed_again f i g)
closed_again_fact past f i stage.Running q b = tt
closed_again_fact past f i (stage.Closing made a) q b = closed_fact past f i made b q
closed_again_fact past f i (stage.Closed a) q b = tt

pub store_repeats_fact : (past : List Told) (f : Frame) (s : Store) → Every (InstanceFact past f.epoch) s.instances → Every (PacketFact past) (store_repeats f s)
store_repeats_fact past f s h = every_flat (InstanceFact past f.epoch) (PacketFact past) (λ (i : Instance). closed_again f i i.stage) s.instances (λ i k. closed_again_fact past f i i.stage k.stage k.begun) h
