-- That a storage site closes an instance it tells the synchronization site of the file on which it has begun it.
use Rattle.std.proofs.Common.{◌≡◌, ℕ, true, false, Option, Some, None, refl}
use Rattle.locus_ids.specs.declared.ids.EpochId.{EpochId}
use Rattle.locus_ids.specs.declared.ids.FileId.{FileId}
use Rattle.locus_ids.specs.declared.ids.Serial.{Serial}
use Rattle.locus_ids.specs.declared.refusal.Refusal.TheVariants as refusal
use Rattle.wire_messages.specs.declared.body.Body.{Body}
use Rattle.wire_messages.specs.declared.body.Body.TheVariants as body
use Rattle.wire_messages.specs.declared.body.CloseAnswer.{CloseAnswer}
use Rattle.wire_messages.specs.declared.body.CloseAnswer.TheVariants as closing
use Rattle.wire_messages.specs.declared.body.MadeVersion.{MadeVersion}
use Rattle.wire_messages.specs.declared.packet.Packet.{Packet}
use Rattle.role_steps.specs.Own.{Every}
use Rattle.role_steps.specs.Storage.{instance_key, instance_of, is_spent, commits, instance_committed, next_stamp, next_vector, shuts, shuts_again, closes_owing, closes, on_close_at, on_close_of, on_close, closed_again, store_repeats}
use Rattle.role_steps.specs.Views.{Frame, Store, Outcome, and_then, serial_key, sync_site, to_some, to_sync}
use Rattle.role_steps.specs.declared.instances.Instance.{Instance}
use Rattle.role_steps.specs.declared.instances.Stage.{Stage}
use Rattle.role_steps.specs.declared.instances.Stage.TheVariants as stage
use Rattle.the_run.proofs.InsideSync.{Found, row_found}
use Rattle.store_laws.proofs.of_site_laws.Vectors.SyncFacts.{every_flat, every_latest}
use Rattle.calm_laws.proofs.SentCalm.Answerless.{AnswersNone}

-- which instances a storage site has begun in an epoch, on which files
abbrev pub Begun : Type 1
Begun = EpochId → Serial → FileId → Type 0

-- the packet goes to the synchronization site of the file on which the instance was begun
pub record ClosesAt (B : Begun) (f : Frame) (p : Packet) (inst : Serial) : Type 0 where
  pub file : FileId
  pub epoch : p.epoch ≡ f.epoch
  pub begun : B f.epoch inst file
  pub to : sync_site f.config f.members file.group ≡ Some p.to

abbrev pub BodyCloses : Begun → Frame → Packet → Body → Type 0
BodyCloses B f p (body.Closed inst made) = ClosesAt B f p inst
BodyCloses B f p b = AnswersNone b

abbrev pub Closes : Begun → Frame → Packet → Type 0
Closes B f p = BodyCloses B f p p.body

abbrev pub IsBegun : Begun → EpochId → Instance → Type 0
IsBegun B e i = B e i.inst i.file

abbrev AllClose : Begun → Frame → Outcome Store → Type 0
AllClose B f o = Every (Closes B f) o.sent

module _ (B : Begun) (f : Frame) where
  closed_closes : (i : Instance) (made : Option MadeVersion) → IsBegun B f.epoch i → Every (Closes B f) (to_sync f i.file.group (body.Closed i.inst made))
  closed_closes i made h = over (sync_site f.config f.members i.file.group) refl
    where
      over : (o : Option ℕ) → sync_site f.config f.members i.file.group ≡ o → Every (Closes B f) (to_some f (body.Closed i.inst made) o)
      over None e = tt
      over (Some to) e = (record { file = i.file; epoch = refl; begun = h; to = e }, tt)

  again_closes : (a : CloseAnswer) (o : Option Instance) (s : Store) → Found (IsBegun B f.epoch) o → AllClose B f (shuts_again f a o s)
  again_closes a None s h = tt
  again_closes a (Some i) s h = closed_closes i _ h

  owing_closes : (i : Instance) (s : Store) → IsBegun B f.epoch i → Every (IsBegun B f.epoch) s.instances → AllClose B f (closes_owing f i s)
  owing_closes i s h all =
      elim (is_spent f i) as (λ b. AllClose B f (elim b [ true ↦ shuts f i (closing.No refusal.Spent) s | false ↦ and_then (commits f i s) (λ now. shuts_again f (closing.Made (next_stamp f (next_vector f i))) (instance_of now i.inst) now) ])) [
        | true ↦ closed_closes i _ h
        | false ↦ again_closes (closing.Made (next_stamp f (next_vector f i))) (instance_of (commits f i s).view i.inst) (commits f i s).view
            (row_found (IsBegun B f.epoch) instance_key (serial_key i.inst) (commits f i s).view.instances (every_latest (IsBegun B f.epoch) instance_key (instance_committed i (next_vector f i) (next_stamp f (next_vector f i))) s.instances h all))
      ]

  closes_closes : (i : Instance) (s : Store) → IsBegun B f.epoch i → Every (IsBegun B f.epoch) s.instances → AllClose B f (closes f i s)
  closes_closes i s h all =
      elim i.work.owes as (λ b. AllClose B f (elim b [ true ↦ closes_owing f i s | false ↦ shuts f i closing.Nothing s ])) [
        | true ↦ owing_closes i s h all
        | false ↦ closed_closes i _ h
      ]

  at_closes : (i : Instance) (g : Stage) (s : Store) → IsBegun B f.epoch i → Every (IsBegun B f.epoch) s.instances → AllClose B f (on_close_at f i g s)
  at_closes i stage.Running s h all = closes_closes i s h all
  at_closes i (stage.Closing made a) s h all = closed_closes i made h
  at_closes i (stage.Closed a) s h all = (tt, tt)

  of_closes : (o : Option Instance) (s : Store) → Found (IsBegun B f.epoch) o → Every (IsBegun B f.epoch) s.instances → AllClose B f (on_close_of f o s)
  of_closes None s h all = tt
  of_closes (Some i) s h all = at_closes i i.stage s h all

  pub on_close_closes : (inst : Serial) (s : Store) → Every (IsBegun B f.epoch) s.instances → AllClose B f (on_close f inst s)
  on_close_closes inst s all = of_closes (instance_of s inst) s (row_found (IsBegun B f.epoch) instance_key (serial_key inst) s.instances all) all

  again_closed : (i : Instance) (g : Stage) → IsBegun B f.epoch i → Every (Closes B f) (closed_again f i g)
  again_closed i stage.Running h = tt
  again_closed i (stage.Closing made a) h = closed_closes i made h
  again_closed i (stage.Closed a) h = tt

  pub store_repeats_closes : (s : Store) → Every (IsBegun B f.epoch) s.instances → Every (Closes B f) (store_repeats f s)
  store_repeats_closes s all = every_flat (IsBegun B f.epoch) (Closes B f) (λ (i : Instance). closed_again f i i.stage) s.instances (λ i h. again_closed i i.stage h) all
