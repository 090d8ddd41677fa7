-- The end of an instance at its storage site: it is shut where its call closes it and nothing is owed, told again until it is over,
-- and over once it is released.
use Rattle.std.proofs.Common.{◌≡◌, ℕ, ◌≤◌, List, Option, Some, None, refl, sym, subst, ◌⊎◌, inl, inr}
use Rattle.locus_ids.specs.declared.config.Config.{Config}
use Rattle.locus_ids.specs.declared.ids.Mode.{Mode}
use Rattle.locus_ids.specs.declared.ids.Mode.TheVariants as mode
use Rattle.locus_ids.specs.declared.ids.Serial.{Serial}
use Rattle.locus_ids.specs.declared.ids.Stamp.{Stamp}
use Rattle.locus_ids.specs.Sizes.{sites_max}
use Rattle.trace_book.specs.declared.operation.Outcome.{Outcome}
use Rattle.call_rules.specs.declared.answer.Answer.{Answer}
use Rattle.wire_messages.specs.declared.body.Body.TheVariants as body
use Rattle.wire_messages.specs.declared.body.CloseAnswer.{CloseAnswer}
use Rattle.wire_messages.specs.declared.body.MadeVersion.{MadeVersion}
use Rattle.file_effects.specs.declared.work.Work.{Work}
use Rattle.role_steps.specs.Own.{Every}
use Rattle.role_steps.specs.Reports.{stamp_made}
use Rattle.role_steps.specs.Storage.{close_done, closed_packets, ends_at, instance_key, instance_of, on_closed_ok, on_closed_ok_of, with_instance}
use Rattle.role_steps.specs.Using.{close_answer}
use Rattle.role_steps.specs.Views.{Frame, Store, serial_key}
use Rattle.role_steps.specs.declared.instances.Instance.{Instance}
use Rattle.role_steps.specs.declared.instances.Stage.{Stage}
use Rattle.role_steps.specs.declared.instances.Stage.TheVariants as stage
use Rattle.the_run.specs.Worlds.{Line}
use Rattle.tree_laws.specs.Doing.{StoreFine, StoreHeld}
use Rattle.tree_laws.specs.Packets.{ClosedFact, EndsNow, PacketFact}
use Rattle.tree_laws.specs.Past.{WasReleased, WasReleasedWith}
use Rattle.tree_laws.specs.Stores.{AnsweredFact, ClosesAs, EndsAs, HoldsMade, InstanceFact, IsMaker, LiesAs, StageFact}
use Rattle.store_laws.specs.Rests.{StoreRests}
use Rattle.store_laws.proofs.Beginning.{to_sync_sent}
use Rattle.store_laws.proofs.Numbers.{serial_key_eq}
use Rattle.store_laws.proofs.Tabled.{apart_latest, every_latest, latest_has, row_found}

-- ---- an instance with another work or stage ----

-- the file of the instance lies as it lay
pub lies_with : (c : Config) (trace : List Line) (f : Frame) (i : Instance) (v : List ℕ) (ps : List Stamp) (w : Work) (o : Option Outcome) (t : Stage) (m : Mode) → LiesAs c trace f i m → LiesAs c trace f (record i { vector = v; parents = ps; work = w; answered = o; stage = t }) m
lies_with c trace f i v ps w o t mode.Make l = (l.0, maker l.1, l.2, l.3, l.4)
  where
    maker : IsMaker c trace f i l.0 → IsMaker c trace f (record i { vector = v; parents = ps; work = w; answered = o; stage = t }) l.0
    maker (inl m) = inl (record { now = m.now; call_is = m.call_is })
    maker (inr g) = inr g
lies_with c trace f i v ps w o t mode.Read l = record { stamp = l.stamp; stands = l.stands; set_is = l.set_is; kind_is = l.kind_is }
lies_with c trace f i v ps w o t mode.Write l = record { stamp = l.stamp; stands = l.stands; set_is = l.set_is; kind_is = l.kind_is }
lies_with c trace f i v ps w o t mode.Resolve l = record { stamp = l.stamp; stands = l.stands; set_is = l.set_is; kind_is = l.kind_is }
lies_with c trace f i v ps w o t mode.Mend l = record { stamp = l.stamp; stands = l.stands; set_is = l.set_is; kind_is = l.kind_is }

-- ---- what is sent again ----

pub closed_sent : (c : Config) (trace : List Line) (f : Frame) (i : Instance) (made : Option MadeVersion) (a : CloseAnswer) → ClosesAs c trace f i made a → Every (PacketFact c trace) (closed_packets f i made)
closed_sent c trace f i made a k = to_sync_sent c trace f i.file.group (body.Closed i.inst made) (λ to. fact)
  where
    ends : WasReleasedWith c trace f.epoch i.inst (stamp_made made) (close_answer a) ⊎ EndsAs c trace f i made a → ((x : Answer) × WasReleasedWith c trace f.epoch i.inst (stamp_made made) x) ⊎ EndsNow c trace f.epoch f.me i.inst (stamp_made made)
    ends (inl r) = inl (close_answer a, r)
    ends (inr e) = inr e.now

    fact : ClosedFact c trace f.epoch f.me i.inst made
    fact = record { ends = ends k.ends; version = k.version }

pub done_sent : (c : Config) (trace : List Line) (f : Frame) (i : Instance) (a : CloseAnswer) (last : Option Stamp) → WasReleasedWith c trace f.epoch i.inst last (close_answer a) → Every (PacketFact c trace) (close_done f i a)
done_sent c trace f i a last r = ((last, r), tt)

-- ---- ClosedOk ----

-- the store with the instance in another stage, by the trace as it is
pub with_stage : (c : Config) (trace : List Line) (f : Frame) (s : Store) → StoreHeld c f trace s → (i : Instance) (t : Stage) → InstanceFact c trace f i → StageFact c trace f (record i { stage = t }) t → StoreHeld c f trace (with_instance (record i { stage = t }) s)
with_stage c trace f s kept i t k next = record {
  copies = record { are = kept.copies.are; ascends = kept.copies.ascends };
  instances = record {
    instances = every_latest instance_key (record i { stage = t }) (InstanceFact c trace f) (InstanceFact c trace f) s.instances (λ j other fact. fact) kept.instances.apart kept.instances.instances fact;
    apart = apart_latest instance_key (record i { stage = t }) s.instances kept.instances.apart;
    steps = kept.instances.steps;
    has = λ j file b. latest_has instance_key (record i { stage = t }) (serial_key j) s.instances (kept.instances.has j file b);
  };
}
  where
    holds_with : (m : Mode) → HoldsMade c trace f i m → HoldsMade c trace f (record i { stage = t }) m
    holds_with mode.Make h = h
    holds_with mode.Read h = h
    holds_with mode.Write h = h
    holds_with mode.Resolve h = h
    holds_with mode.Mend h = h

    answered_with : (o : Option Outcome) → AnsweredFact trace f i o → AnsweredFact trace f (record i { stage = t }) o
    answered_with None a = a
    answered_with (Some r) a = a

    fact : InstanceFact c trace f (record i { stage = t })
    fact = record {
      begun = k.begun;
      sized = k.sized;
      user = k.user;
      vector_is = k.vector_is;
      lies = lies_with c trace f i i.vector i.parents i.work i.answered t i.mode k.lies;
      holds = holds_with i.mode k.holds;
      stage = next;
      answered = answered_with i.answered k.answered;
    }

ended : (c : Config) (n : ℕ) (trace : List Line) → StoreRests c trace → (f : Frame) (s : Store) → StoreHeld c f trace s → (i : Instance) → InstanceFact c trace f i → WasReleased trace f.epoch i.inst → (t : Stage) → i.stage ≡ t → StageFact c trace f i t → StoreFine c n trace f s (ends_at f i t s)
ended c n trace rests f s kept i k released stage.Running is fact = record { told = tt; own = tt; view = kept; sent = tt; written = tt }
ended c n trace rests f s kept i k released (stage.Closed a) is fact = record { told = tt; own = tt; view = kept; sent = tt; written = tt }
ended c n trace rests f s kept i k released (stage.Closing made a) is fact = record {
  told = tt;
  own = tt;
  view = with_stage c trace f s kept i (stage.Closed a) k ((stamp_made made, with_it), record { owes = fact.1.owes; changed = fact.1.changed }, fact.2);
  sent = done_sent c trace f i a (stamp_made made) with_it;
  written = tt;
}
  where
    over : WasReleasedWith c trace f.epoch i.inst (stamp_made made) (close_answer a) ⊎ EndsAs c trace f i made a → WasReleasedWith c trace f.epoch i.inst (stamp_made made) (close_answer a)
    over (inl r) = r
    over (inr e) = absurd (rests.released f.epoch i.inst e.now.at released e.now.closes.open_at.found)

    with_it : WasReleasedWith c trace f.epoch i.inst (stamp_made made) (close_answer a)
    with_it = over fact.0.ends

-- an instance of the store under a serial number of a site
pub found_instance : (c : Config) (trace : List Line) (f : Frame) (s : Store) → StoreHeld c f trace s → (inst : Serial) → inst.us ≤ sites_max → (i : Instance) → instance_of s inst ≡ Some i → InstanceFact c trace f i × (i.inst ≡ inst)
found_instance c trace f s kept inst low i e = (let k : InstanceFact c trace f i × (instance_key i ≡ serial_key inst) = row_found instance_key (serial_key inst) s.instances i (InstanceFact c trace f) e kept.instances.instances in
    (k.0, serial_key_eq i.inst inst k.0.user low k.1))

pub closed_ok_fine : (c : Config) (n : ℕ) (trace : List Line) → StoreRests c trace → (f : Frame) (s : Store) → StoreHeld c f trace s → (inst : Serial) → inst.us ≤ sites_max → WasReleased trace f.epoch inst → StoreFine c n trace f s (on_closed_ok f inst s)
closed_ok_fine c n trace rests f s kept inst low released = over (instance_of s inst) refl
  where
    over : (o : Option Instance) → instance_of s inst ≡ o → StoreFine c n trace f s (on_closed_ok_of f o s)
    over None e = record { told = tt; own = tt; view = kept; sent = tt; written = tt }
    over (Some i) e = (let k : InstanceFact c trace f i × (i.inst ≡ inst) = found_instance c trace f s kept inst low i e in
        ended c n trace rests f s kept i k.0 (subst (λ (j : Serial). WasReleased trace f.epoch j) (sym k.1) released) i.stage refl k.0.stage)
