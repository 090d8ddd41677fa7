-- What the store does of each packet keeps what stands in it, and it tells only of what runs.
use Rattle.std.proofs.Common.{◌≡◌, ◌≤◌, ℕ, Bool, true, false, List, [], ◌∷◌, Option, Some, None, refl, sym, ◌∙◌, subst, inl, inr}
use Rattle.role_steps.proofs.of_plain_facts.Options.{none_some}
use Rattle.role_steps.proofs.of_plain_facts.Tests.{false_true}
use Rattle.locus_ids.specs.declared.ids.EpochId.{EpochId}
use Rattle.locus_ids.specs.declared.ids.FileId.{FileId}
use Rattle.locus_ids.specs.declared.ids.Serial.{Serial}
use Rattle.locus_ids.specs.declared.ids.Stamp.{Stamp}
use Rattle.locus_ids.specs.declared.ids.Mode.{Mode}
use Rattle.locus_ids.specs.declared.ids.Mode.TheVariants as mode
use Rattle.locus_ids.specs.declared.refusal.Refusal.TheVariants as refusal
use Rattle.commit_graph.specs.Grants.{is_read}
use Rattle.trace_book.specs.declared.operation.Op.{Op}
use Rattle.trace_book.specs.declared.operation.Op.TheVariants as op
use Rattle.trace_book.specs.declared.operation.Outcome.{Outcome as Result}
use Rattle.trace_book.specs.declared.operation.Outcome.TheVariants as result
use Rattle.role_steps.specs.of_file_effects.Effects.{Effect}
use Rattle.role_steps.specs.of_file_effects.Works.{result_in, counted, operated}
use Rattle.role_steps.specs.of_file_effects.declared.work.Work.{Work}
use Rattle.wire_messages.specs.declared.packet.Packet.{Packet}
use Rattle.wire_messages.specs.declared.body.CloseAnswer.{CloseAnswer}
use Rattle.wire_messages.specs.declared.body.CloseAnswer.TheVariants as closing
use Rattle.role_steps.specs.Own.{Every}
use Rattle.role_steps.specs.Tables.{row, with_latest}
use Rattle.role_steps.specs.Views.{Frame, Store, Told, Shown, Begins, Shuts, Reserves, DiskWrite, Outcome, quiet, sends, and_then, joined_to, first_written, serial_key}
use Rattle.role_steps.specs.Storage.{StoreRequest, copy_of, instance_key, instance_of, own_ino, begun_instance, begins, opens, opens_made, on_open_ss_of, on_open_ss, is_spent, instance_committed, commit_record, commits, next_stamp, next_vector, made_version, shut, shuts, shuts_again, closes_owing, closes, on_close_at, on_close_of, on_close, ends_at, on_closed_ok_of, on_closed_ok, free_pages}
use Rattle.role_steps.specs.Operations.{act_record, acts, acts_committed, commits_owing, last_committed, commit_op, executes_effect}
use Rattle.role_steps.specs.declared.instances.Instance.{Instance}
use Rattle.role_steps.specs.declared.instances.Stage.{Stage}
use Rattle.role_steps.specs.declared.instances.Stage.TheVariants as stage
use Rattle.role_steps.proofs.Sending.{every_append}
use Rattle.the_run.specs.Worlds.{Numbered}
use Rattle.site_laws.specs.Vectors.Facts.{onto}
use Rattle.site_laws.proofs.Vectors.Facts.{onto_append}
use Rattle.site_laws.specs.Locks.Going.{WasBegunAt, WasShutAt, IsGranted}
use Rattle.site_laws.specs.Locks.Writing.{changes}
use Rattle.site_laws.proofs.Locks.Facts.{onto_later, granted_later}
use Rattle.site_laws.proofs.Locks.GrantTold.{latest_same}
use Rattle.site_laws.specs.Makes.RunningStores.{HasOn, HasShut, IsAsked, InstanceSo, Stands}
use Rattle.site_laws.proofs.Makes.RunningSpine.{AllOwed, DiskOwed, owed_append}
use Rattle.site_laws.proofs.Makes.RunningSpineParts.{Here}
use Rattle.site_laws.proofs.Makes.RunningCounting.{CountsNot, operated_owes, begins_to_write}
use Rattle.site_laws.proofs.Makes.RunningStand.{Runs, RunsToWrite, StandOwed, stands_neither, stands_put, stands_new, running_not_shut}

-- ---- outcomes ----

pub record StoreOut (sent : List Numbered) (past : List Told) (f : Frame) (o : Outcome Store) : Type 0 where
  pub view : Stands sent (onto o.told past) f.me f.epoch o.view.instances
  pub owed : AllOwed (StandOwed sent) past o.told
  pub here : Every (Here f.me f.epoch) o.told
  pub disk : DiskOwed (StandOwed sent) f.me past o.written

abbrev pub InStore : List Numbered → List Told → Frame → Store → Type 0
InStore sent past f s = Stands sent past f.me f.epoch s.instances

pub quiet_out : (sent : List Numbered) (past : List Told) (f : Frame) (s : Store) → InStore sent past f s → StoreOut sent past f (quiet s)
quiet_out sent past f s h = record { view = h; owed = tt; here = tt; disk = tt }

pub sends_out : (sent : List Numbered) (past : List Told) (f : Frame) (ps : List Packet) (s : Store) → InStore sent past f s → StoreOut sent past f (sends ps s)
sends_out sent past f ps s h = record { view = h; owed = tt; here = tt; disk = tt }

-- one thing, and then another that writes nothing
then_out : (sent : List Numbered) (past : List Told) (f : Frame) (o p : Outcome Store) (x : DiskWrite) → o.written ≡ Some x → StoreOut sent past f o → StoreOut sent (onto o.told past) f p → StoreOut sent past f (joined_to o p)
then_out sent past f o p x w h g = record {
  view = subst (λ (now : List Told). Stands sent now f.me f.epoch p.view.instances) (sym (onto_append o.told p.told past)) g.view;
  owed = owed_append (StandOwed sent) past o.told p.told h.owed g.owed;
  here = every_append (Here f.me f.epoch) o.told p.told h.here g.here;
  disk = subst (λ (d : Option DiskWrite). DiskOwed (StandOwed sent) f.me past (first_written d p.written)) (sym w) (subst (DiskOwed (StandOwed sent) f.me past) w h.disk);
}

-- ---- an instance that is found ----

-- the instance is in the table, and was begun here on its file
pub record IsHere (sent : List Numbered) (past : List Told) (f : Frame) (s : Store) (i : Instance) : Type 0 where
  pub found : row instance_key (instance_key i) s.instances ≡ Some i
  pub so : InstanceSo sent f.me f.epoch i
  pub begun : WasBegunAt past f.me f.epoch (serial_key i.inst) i.file

runs_here : (sent : List Numbered) (past : List Told) (f : Frame) (s : Store) (i : Instance) → IsGranted past f.epoch (serial_key i.inst) → i.stage ≡ stage.Running → IsHere sent past f s i → InStore sent past f s → Runs past f.me f.epoch (serial_key i.inst) i.file
runs_here sent past f s i g runs k h = record { was_begun = k.begun; granted = g; not_shut = running_not_shut sent past f.me f.epoch s.instances (instance_key i) i k.found runs h }

-- ---- opens ----

opens_made_out : (sent : List Numbered) (past : List Told) (f : Frame) (r : StoreRequest) (o : Option ℕ) (s : Store) → 1 ≤ f.me → r.mode ≡ mode.Make → ((file : FileId) → file.group ≡ r.file.group → IsAsked sent f.me f.epoch (serial_key r.inst) mode.Make file) → instance_of s r.inst ≡ None → InStore sent past f s → StoreOut sent past f (opens_made f r o s)
opens_made_out sent past f r None s site make asked none h = sends_out sent past f _ s h
opens_made_out sent past f r (Some ino) s site make asked none h =
    let file : FileId = record { group = r.file.group; ino = ino } in
    let i : Instance = begun_instance r file None in
    let a : IsAsked sent f.me f.epoch (serial_key r.inst) r.mode file = subst (λ (m : Mode). IsAsked sent f.me f.epoch (serial_key r.inst) m file) (sym make) (asked file refl) in
    let so : InstanceSo sent f.me f.epoch i = record { asked = a; owes = λ e. begins_to_write r.mode e } in
    let first : List Told = Begins f.me f.epoch r.inst file ∷ past in
    record {
      view = stands_neither sent first f.me f.epoch _ (Reserves f.me f.epoch r.inst file) tt (stands_new sent past f.me f.epoch s.instances i none so h);
      owed = (record { site = site; mode = r.mode; asked = a; new = λ other k. not_found sent past f r s none h other k }, (tt, tt));
      here = ((refl, refl), ((refl, refl), tt));
      disk = tt;
    }
  where
    not_found : (sent : List Numbered) (past : List Told) (f : Frame) (r : StoreRequest) (s : Store) → instance_of s r.inst ≡ None → InStore sent past f s → (other : FileId) → WasBegunAt past f.me f.epoch (serial_key r.inst) other → ⊥
    not_found sent past f r s none h other k = let g : HasOn s.instances (serial_key r.inst) other = h.begun (serial_key r.inst) other k in none_some g.0 (sym none ∙ g.1)

opens_plain_out : (sent : List Numbered) (past : List Told) (f : Frame) (r : StoreRequest) (s : Store) → 1 ≤ f.me → IsAsked sent f.me f.epoch (serial_key r.inst) r.mode r.file → instance_of s r.inst ≡ None → InStore sent past f s → StoreOut sent past f (begins f (begun_instance r r.file (copy_of s r.file)) (Begins f.me f.epoch r.inst r.file ∷ []) s)
opens_plain_out sent past f r s site asked none h =
    let i : Instance = begun_instance r r.file (copy_of s r.file) in
    let so : InstanceSo sent f.me f.epoch i = record { asked = asked; owes = λ e. begins_to_write r.mode e } in
    record {
      view = stands_new sent past f.me f.epoch s.instances i none so h;
      owed = (record { site = site; mode = r.mode; asked = asked; new = λ other k. (let g : HasOn s.instances (serial_key r.inst) other = h.begun (serial_key r.inst) other k in none_some g.0 (sym none ∙ g.1)) }, tt);
      here = ((refl, refl), tt);
      disk = tt;
    }

-- what an OpenSs asks of the store
pub record AsksHere (sent : List Numbered) (f : Frame) (r : StoreRequest) (m : Mode) : Type 0 where
  pub site : 1 ≤ f.me
  pub plain : IsAsked sent f.me f.epoch (serial_key r.inst) m r.file
  pub make : m ≡ mode.Make → (file : FileId) → file.group ≡ r.file.group → IsAsked sent f.me f.epoch (serial_key r.inst) mode.Make file

opens_out : (sent : List Numbered) (past : List Told) (f : Frame) (r : StoreRequest) (m : Mode) (s : Store) → r.mode ≡ m → AsksHere sent f r r.mode → instance_of s r.inst ≡ None → InStore sent past f s → StoreOut sent past f (opens f r m s)
opens_out sent past f r mode.Make s q a none h = opens_made_out sent past f r (own_ino s r.file.group f.me) s a.site q (a.make q) none h
opens_out sent past f r mode.Read s q a none h = opens_plain_out sent past f r s a.site a.plain none h
opens_out sent past f r mode.Write s q a none h = opens_plain_out sent past f r s a.site a.plain none h
opens_out sent past f r mode.Resolve s q a none h = opens_plain_out sent past f r s a.site a.plain none h
opens_out sent past f r mode.Mend s q a none h = opens_plain_out sent past f r s a.site a.plain none h

on_open_ss_of_out : (sent : List Numbered) (past : List Told) (f : Frame) (r : StoreRequest) (o : Option Instance) (s : Store) → instance_of s r.inst ≡ o → AsksHere sent f r r.mode → InStore sent past f s → StoreOut sent past f (on_open_ss_of f r o s)
on_open_ss_of_out sent past f r None s q a h = opens_out sent past f r r.mode s refl a q h
on_open_ss_of_out sent past f r (Some i) s q a h = sends_out sent past f _ s h

pub on_open_ss_out : (sent : List Numbered) (past : List Told) (f : Frame) (r : StoreRequest) (s : Store) → AsksHere sent f r r.mode → InStore sent past f s → StoreOut sent past f (on_open_ss f r s)
on_open_ss_out sent past f r s a h = on_open_ss_of_out sent past f r (instance_of s r.inst) s refl a h

-- ---- commits and closes ----

not_running : (made : _) (a : CloseAnswer) → stage.Closing made a ≡ stage.Running → ⊥
not_running made a e = cc

closed_not_running : (a : CloseAnswer) → stage.Closed a ≡ stage.Running → ⊥
closed_not_running a e = cc

commits_out : (sent : List Numbered) (past : List Told) (f : Frame) (i : Instance) (s : Store) → IsGranted past f.epoch (serial_key i.inst) → i.stage ≡ stage.Running → i.work.owes ≡ true → IsHere sent past f s i → InStore sent past f s → StoreOut sent past f (commits f i s)
commits_out sent past f i s g runs owes k h =
    let r : Runs past f.me f.epoch (serial_key i.inst) i.file = runs_here sent past f s i g runs k h in
    let new : Instance = instance_committed i (next_vector f i) (next_stamp f (next_vector f i)) in
    let x : Told = Shown (commit_record f i (next_stamp f (next_vector f i))) in
    let w : RunsToWrite sent past f.me i.file = record { epoch = f.epoch; key = serial_key i.inst; mode = i.mode; runs = r; asked = k.so.asked; writes = k.so.owes owes } in
    record {
      view = stands_neither sent past f.me f.epoch _ x tt (stands_put sent past f.me f.epoch s.instances i new k.found refl (λ q e. r.not_shut q) (record { asked = k.so.asked; owes = λ e. absurd (false_true e) }) h);
      owed = (w, tt);
      here = (refl, tt);
      disk = (w, refl);
    }

-- what is shut doesn't run
stands_shuts : (sent : List Numbered) (past : List Told) (s : ℕ) (e : EpochId) (is : List Instance) (i : Instance) → row instance_key (instance_key i) is ≡ Some i → (i.stage ≡ stage.Running → ⊥) → Stands sent past s e is → Stands sent (Shuts s e i.inst ∷ past) s e is
stands_shuts sent past s e is i found ends h = record {
  begun = λ key file k. begun key file k;
  shut = λ key k. shut key k;
  each = h.each;
}
  where
    begun : (key : ℕ) (file : FileId) → WasBegunAt (Shuts s e i.inst ∷ past) s e key file → HasOn is key file
    begun key file (inl k) = absurd k
    begun key file (inr k) = h.begun key file k

    shut : (key : ℕ) → WasShutAt (Shuts s e i.inst ∷ past) s e key → HasShut is key
    shut key (inl k) = (i, subst (λ (n : ℕ). row instance_key n is ≡ Some i) k.2 found, ends)
    shut key (inr k) = h.shut key k

shuts_out : (sent : List Numbered) (past : List Told) (f : Frame) (i : Instance) (a : CloseAnswer) (s : Store) → IsHere sent past f s i → InStore sent past f s → StoreOut sent past f (shuts f i a s)
shuts_out sent past f i a s k h =
    let made : Option _ = made_version i (copy_of s i.file) i.work.committed in
    let new : Instance = shut i made a in
    let put : Stands sent past f.me f.epoch (with_latest instance_key new s.instances) = stands_put sent past f.me f.epoch s.instances i new k.found refl (λ q e. not_running made a e) (record { asked = k.so.asked; owes = λ e. absurd (false_true e) }) h in
    record {
      view = stands_shuts sent past f.me f.epoch (with_latest instance_key new s.instances) new (latest_same instance_key new s.instances) (not_running made a) put;
      owed = (tt, tt);
      here = ((refl, refl), tt);
      disk = tt;
    }

-- the instance after its commit
committed_here : (sent : List Numbered) (past : List Told) (f : Frame) (i : Instance) (s : Store) → IsHere sent past f s i → IsHere sent (Shown (commit_record f i (next_stamp f (next_vector f i))) ∷ past) f (commits f i s).view (instance_committed i (next_vector f i) (next_stamp f (next_vector f i)))
committed_here sent past f i s k = record {
  found = latest_same instance_key (instance_committed i (next_vector f i) (next_stamp f (next_vector f i))) s.instances;
  so = record { asked = k.so.asked; owes = λ e. absurd (false_true e) };
  begun = inr k.begun;
}

closes_owing_out : (sent : List Numbered) (past : List Told) (f : Frame) (i : Instance) (s : Store) → IsGranted past f.epoch (serial_key i.inst) → i.stage ≡ stage.Running → i.work.owes ≡ true → IsHere sent past f s i → InStore sent past f s → StoreOut sent past f (closes_owing f i s)
closes_owing_out sent past f i s g runs owes k h =
    elim (is_spent f i) as (λ b. StoreOut sent past f (elim b [ true ↦ shuts f i (closing.No refusal.Spent) s | false ↦ and_then (commits f i s) (λ now. shuts_again f (closing.Made (next_stamp f (next_vector f i))) (instance_of now i.inst) now) ])) [
      | true ↦ shuts_out sent past f i (closing.No refusal.Spent) s k h
      | false ↦ (let c : StoreOut sent past f o = commits_out sent past f i s g runs owes k h in then_out sent past f o (shuts_again f a (instance_of o.view i.inst) o.view) _ refl c
          (subst (λ (j : Option Instance). StoreOut sent (onto o.told past) f (shuts_again f a j o.view)) (sym (latest_same instance_key new s.instances)) (shuts_out sent (onto o.told past) f new a o.view (committed_here sent past f i s k) c.view)))
    ]
  where
    a : CloseAnswer
    a = closing.Made (next_stamp f (next_vector f i))

    o : Outcome Store
    o = commits f i s

    new : Instance
    new = instance_committed i (next_vector f i) (next_stamp f (next_vector f i))

closes_out : (sent : List Numbered) (past : List Told) (f : Frame) (i : Instance) (s : Store) → IsGranted past f.epoch (serial_key i.inst) → i.stage ≡ stage.Running → IsHere sent past f s i → InStore sent past f s → StoreOut sent past f (closes f i s)
closes_out sent past f i s g runs k h =
    (elim i.work.owes as (λ b. i.work.owes ≡ b → StoreOut sent past f (elim b [ true ↦ closes_owing f i s | false ↦ shuts f i closing.Nothing s ])) [
      | true ↦ λ e. closes_owing_out sent past f i s g runs e k h
      | false ↦ λ e. shuts_out sent past f i closing.Nothing s k h
    ]) refl

on_close_at_out : (sent : List Numbered) (past : List Told) (f : Frame) (i : Instance) (x : Stage) (s : Store) → i.stage ≡ x → IsGranted past f.epoch (serial_key i.inst) → IsHere sent past f s i → InStore sent past f s → StoreOut sent past f (on_close_at f i x s)
on_close_at_out sent past f i stage.Running s q g k h = closes_out sent past f i s g q k h
on_close_at_out sent past f i (stage.Closing made a) s q g k h = sends_out sent past f _ s h
on_close_at_out sent past f i (stage.Closed a) s q g k h = sends_out sent past f _ s h

-- what is found in the table is here
abbrev pub FoundHere : List Numbered → List Told → Frame → Store → ℕ → Option Instance → Type 0
FoundHere sent past f s key None = Unit {0}
FoundHere sent past f s key (Some i) = (instance_key i ≡ key) × IsHere sent past f s i

pub granted_at : (past : List Told) (e : EpochId) (a b : ℕ) → a ≡ b → IsGranted past e b → IsGranted past e a
granted_at past e a b q h = subst (λ (key : ℕ). IsGranted past e key) (sym q) h

on_close_of_out : (sent : List Numbered) (past : List Told) (f : Frame) (key : ℕ) (o : Option Instance) (s : Store) → IsGranted past f.epoch key → FoundHere sent past f s key o → InStore sent past f s → StoreOut sent past f (on_close_of f o s)
on_close_of_out sent past f key None s g k h = quiet_out sent past f s h
on_close_of_out sent past f key (Some i) s g k h = on_close_at_out sent past f i i.stage s refl (granted_at past f.epoch (serial_key i.inst) key k.0 g) k.1 h

pub on_close_out : (sent : List Numbered) (past : List Told) (f : Frame) (inst : Serial) (s : Store) → IsGranted past f.epoch (serial_key inst) → FoundHere sent past f s (serial_key inst) (instance_of s inst) → InStore sent past f s → StoreOut sent past f (on_close f inst s)
on_close_out sent past f inst s g k h = on_close_of_out sent past f (serial_key inst) (instance_of s inst) s g k h

ends_at_out : (sent : List Numbered) (past : List Told) (f : Frame) (i : Instance) (x : Stage) (s : Store) → IsHere sent past f s i → InStore sent past f s → StoreOut sent past f (ends_at f i x s)
ends_at_out sent past f i stage.Running s k h = quiet_out sent past f s h
ends_at_out sent past f i (stage.Closing made a) s k h = record { view = stands_put sent past f.me f.epoch s.instances i (record i { stage = stage.Closed a }) k.found refl (λ q e. closed_not_running a e) (record { asked = k.so.asked; owes = k.so.owes }) h; owed = tt; here = tt; disk = tt }
ends_at_out sent past f i (stage.Closed a) s k h = quiet_out sent past f s h

on_closed_ok_of_out : (sent : List Numbered) (past : List Told) (f : Frame) (key : ℕ) (o : Option Instance) (s : Store) → FoundHere sent past f s key o → InStore sent past f s → StoreOut sent past f (on_closed_ok_of f o s)
on_closed_ok_of_out sent past f key None s k h = quiet_out sent past f s h
on_closed_ok_of_out sent past f key (Some i) s k h = ends_at_out sent past f i i.stage s k.1 h

pub on_closed_ok_out : (sent : List Numbered) (past : List Told) (f : Frame) (inst : Serial) (s : Store) → FoundHere sent past f s (serial_key inst) (instance_of s inst) → InStore sent past f s → StoreOut sent past f (on_closed_ok f inst s)
on_closed_ok_out sent past f inst s k h = on_closed_ok_of_out sent past f (serial_key inst) (instance_of s inst) s k h

-- ---- operations ----

pub acts_out : (sent : List Numbered) (past : List Told) (f : Frame) (i : Instance) (o : Op) (r : Result) (w : Work) (s : Store) → IsGranted past f.epoch (serial_key i.inst) → i.stage ≡ stage.Running → (w.owes ≡ true → is_read i.mode ≡ false) → IsHere sent past f s i → InStore sent past f s → StoreOut sent past f (acts f i o r w s)
acts_out sent past f i o r w s g runs owes k h =
    let q : Runs past f.me f.epoch (serial_key i.inst) i.file = runs_here sent past f s i g runs k h in
    record {
      view = stands_neither sent past f.me f.epoch _ (act_record f i w.ops o r) tt (stands_put sent past f.me f.epoch s.instances i (record i { work = w; answered = Some r }) k.found refl (λ t e. q.not_shut t) (record { asked = k.so.asked; owes = owes }) h);
      owed = (record { ss = f.me; file = i.file; runs = q }, tt);
      here = (tt, tt);
      disk = tt;
    }

counts_other : (e : Effect) (R : Type 0) → CountsNot (Some e) → e.counts ≡ true → R
counts_other e R a b = absurd (false_true (sym a ∙ b))

-- an operation that changes is of one that isn't to read
abbrev pub ToWrite : Instance → Op → Type 0
ToWrite i o = changes o ≡ true → is_read i.mode ≡ false

pub effect_out : (sent : List Numbered) (past : List Told) (f : Frame) (i : Instance) (o : Op) (e : Option Effect) (s : Store) → (changes o ≡ false → CountsNot e) → ToWrite i o → IsGranted past f.epoch (serial_key i.inst) → i.stage ≡ stage.Running → IsHere sent past f s i → InStore sent past f s → StoreOut sent past f (executes_effect f i o e s)
effect_out sent past f i o None s counts to g runs k h = quiet_out sent past f s h
effect_out sent past f i o (Some e) s counts to g runs k h =
    let r : Result = result_in (free_pages s i.file.group) i.work.changed e in
    acts_out sent past f i o r (operated e r i.work) s g runs (operated_owes e r i.work (is_read i.mode ≡ false) k.so.owes (by_change (changes o) refl)) k h
  where
    by_change : (b : Bool) → changes o ≡ b → e.counts ≡ true → is_read i.mode ≡ false
    by_change true q c = to q
    by_change false q c = counts_other e (is_read i.mode ≡ false) (counts q) c

commits_owing_out : (sent : List Numbered) (past : List Told) (f : Frame) (i : Instance) (s : Store) → IsGranted past f.epoch (serial_key i.inst) → i.stage ≡ stage.Running → i.work.owes ≡ true → IsHere sent past f s i → InStore sent past f s → StoreOut sent past f (commits_owing f i s)
commits_owing_out sent past f i s g runs owes k h =
    elim (is_spent f i) as (λ b. StoreOut sent past f (elim b [ true ↦ acts f i op.Commit (result.No refusal.Spent) (counted i.work) s | false ↦ and_then (commits f i s) (λ now. acts_committed f (next_stamp f (next_vector f i)) (instance_of now i.inst) now) ])) [
      | true ↦ acts_out sent past f i op.Commit (result.No refusal.Spent) (counted i.work) s g runs k.so.owes k h
      | false ↦ (let c : StoreOut sent past f o = commits_out sent past f i s g runs owes k h in then_out sent past f o (acts_committed f stamp (instance_of o.view i.inst) o.view) _ refl c
          (subst (λ (j : Option Instance). StoreOut sent (onto o.told past) f (acts_committed f stamp j o.view)) (sym (latest_same instance_key new s.instances)) (acts_out sent (onto o.told past) f new op.Commit (result.Committed stamp) (counted new.work) o.view (granted_later past (onto o.told past) (onto_later o.told past) f.epoch (serial_key i.inst) g) runs (λ e. absurd (false_true e)) (committed_here sent past f i s k) c.view)))
    ]
  where
    stamp : Stamp
    stamp = next_stamp f (next_vector f i)

    o : Outcome Store
    o = commits f i s

    new : Instance
    new = instance_committed i (next_vector f i) stamp

last_out : (sent : List Numbered) (past : List Told) (f : Frame) (i : Instance) (o : Option Stamp) (s : Store) → IsGranted past f.epoch (serial_key i.inst) → i.stage ≡ stage.Running → IsHere sent past f s i → InStore sent past f s → StoreOut sent past f (last_committed f i o s)
last_out sent past f i None s g runs k h = quiet_out sent past f s h
last_out sent past f i (Some stamp) s g runs k h = acts_out sent past f i op.Commit (result.Committed stamp) (counted i.work) s g runs k.so.owes k h

pub commit_out : (sent : List Numbered) (past : List Told) (f : Frame) (i : Instance) (s : Store) → IsGranted past f.epoch (serial_key i.inst) → i.stage ≡ stage.Running → IsHere sent past f s i → InStore sent past f s → StoreOut sent past f (commit_op f i s)
commit_out sent past f i s g runs k h =
    (elim i.work.owes as (λ b. i.work.owes ≡ b → StoreOut sent past f (elim b [ true ↦ commits_owing f i s | false ↦ last_committed f i i.work.last s ])) [
      | true ↦ λ e. commits_owing_out sent past f i s g runs e k h
      | false ↦ λ e. last_out sent past f i i.work.last s g runs k h
    ]) refl
