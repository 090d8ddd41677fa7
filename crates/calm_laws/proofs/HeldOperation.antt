-- A read whose asker has the bytes is done at its storage site as any read is, and answered in full or by their number.
use Rattle.std.proofs.Common.{◌≡◌, ℕ, ◌⊎◌, Bool, true, false, cond, List, [], ◌∷◌, length, map, Option, Some, None, refl, ap, subst, inl, inr}
use Rattle.dir_reconcile.specs.of_dir_format.Entries.{nothing_seen}
use Rattle.locus_ids.specs.declared.config.Config.{Config}
use Rattle.locus_ids.specs.declared.ids.Serial.{Serial}
use Rattle.trace_book.specs.declared.operation.Op.{Op}
use Rattle.trace_book.specs.declared.operation.Op.TheVariants as op
use Rattle.trace_book.specs.declared.operation.Outcome.{Outcome as Result}
use Rattle.trace_book.specs.declared.operation.Outcome.TheVariants as result
use Rattle.wire_messages.specs.declared.body.Body.TheVariants as body
use Rattle.wire_messages.specs.declared.packet.Packet.{Packet}
use Rattle.role_steps.specs.OperationEffects.{Mending}
use Rattle.role_steps.specs.Operations.{in_form, nothing_to_mend, on_op, on_op_at, on_op_of, on_read_held, short_packet}
use Rattle.role_steps.specs.Storage.{instance_of}
use Rattle.role_steps.specs.Using.{answers_op}
use Rattle.role_steps.specs.Views.{Frame, Store, Outcome, packet}
use Rattle.role_steps.specs.declared.instances.Instance.{Instance}
use Rattle.role_steps.specs.declared.instances.Stage.{Stage}
use Rattle.role_steps.specs.declared.instances.Stage.TheVariants as stage
use Rattle.role_steps.specs.declared.rounds.InEpoch.{InEpoch}
use Rattle.call_rules.specs.of_commit_graph.Grants.{is_read}
use Rattle.the_run.specs.Kept.{Among}
use Rattle.calm_laws.specs.Carrying.{frame_of}

-- a result of the operation's sort is sent to its asker
abbrev pub IsDoneSent : Config → InEpoch → ℕ → Serial → ℕ → Op → Outcome Store → Type 0
IsDoneSent c e m inst n o out = (r : Result) × Among (packet (frame_of c e m) inst.us (body.OpDone inst.serial n r)) out.sent × (answers_op o r ≡ true)

-- ---- the handler ----

-- what is done of a read doesn't hang on what a mend does
read_same : (f : Frame) (m k : Mending) (z : Option Instance) (n at len : ℕ) (s : Store) → on_op_of f m z n (op.Read at len) nothing_seen s ≡ on_op_of f k z n (op.Read at len) nothing_seen s
read_same f m k None n at len s = refl
read_same f m k (Some i) n at len s = by_stage i.stage
  where
    by_stage : (g : Stage) → on_op_at f m i g n (op.Read at len) nothing_seen s ≡ on_op_at f k i g n (op.Read at len) nothing_seen s
    by_stage stage.Running = refl
    by_stage (stage.Closing made a) = refl
    by_stage (stage.Closed a) = refl

-- the form of its answer changes nothing that the site has
pub form_view : (z : Option Instance) (out : Outcome Store) → (in_form z out).view ≡ out.view
form_view None out = refl
form_view (Some i) out = refl

-- ---- its answer ----

-- in full, with a result of a read's sort, or by the number of its bytes
abbrev pub InForm : Config → InEpoch → ℕ → Serial → ℕ → ℕ → ℕ → Packet → Type 0
InForm c e m inst n at len q = ((r : Result) × (answers_op (op.Read at len) r ≡ true) × (q ≡ packet (frame_of c e m) inst.us (body.OpDone inst.serial n r))) ⊎ ((many : ℕ) × (q ≡ packet (frame_of c e m) inst.us (body.AsHeld inst.serial n many)))

abbrev pub FormsAnswer : Config → InEpoch → ℕ → Serial → ℕ → ℕ → ℕ → Outcome Store → Type 0
FormsAnswer c e m inst n at len out = (q : Packet) × Among q out.sent × InForm c e m inst n at len q

mapped_there : {A B : Type 0} (g : A → B) (x : A) (xs : List A) → Among x xs → Among (g x) (map g xs)
mapped_there g x [] a = absurd a
mapped_there g x (y ∷ ys) (inl e) = inl (ap g e)
mapped_there g x (y ∷ ys) (inr a) = inr (mapped_there g x ys a)

module _ (c : Config) (e : InEpoch) (m : ℕ) (inst : Serial) (n at len : ℕ) where
  short_so : (r : Result) → answers_op (op.Read at len) r ≡ true → InForm c e m inst n at len (short_packet (packet (frame_of c e m) inst.us (body.OpDone inst.serial n r)))
  short_so (result.Data bytes) h = inr (length bytes, refl)
  short_so r h = inl (r, h, refl)

  formed : (i : Instance) (out : Outcome Store) → IsDoneSent c e m inst n (op.Read at len) out → FormsAnswer c e m inst n at len (in_form (Some i) out)
  formed i out d = over (is_read i.mode)
    where
      p : Packet
      p = packet (frame_of c e m) inst.us (body.OpDone inst.serial n d.0)

      over : (b : Bool) → (q : Packet) × Among q (cond b (map short_packet out.sent) out.sent) × InForm c e m inst n at len q
      over true = (short_packet p, mapped_there short_packet p out.sent d.1, short_so d.0 d.2)
      over false = (p, d.1, inl (d.0, d.2, refl))

  answer_of : (z : Option Instance) (out : Outcome Store) → IsDoneSent c e m inst n (op.Read at len) out → FormsAnswer c e m inst n at len (in_form z out)
  answer_of None out d = (packet (frame_of c e m) inst.us (body.OpDone inst.serial n d.0), d.1, inl (d.0, d.2, refl))
  answer_of (Some i) out d = formed i out d

  pub held_answer : (mend : Mending) (s : Store) → IsDoneSent c e m inst n (op.Read at len) (on_op (frame_of c e m) mend inst n (op.Read at len) nothing_seen s) → FormsAnswer c e m inst n at len (on_read_held (frame_of c e m) inst n at len s)
  held_answer mend s d = answer_of (instance_of s inst) (on_op (frame_of c e m) nothing_to_mend inst n (op.Read at len) nothing_seen s)
      (subst (λ (out : Outcome Store). IsDoneSent c e m inst n (op.Read at len) out) (read_same (frame_of c e m) mend nothing_to_mend (instance_of s inst) n at len s) d)
