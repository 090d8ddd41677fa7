-- A read whose asker has the bytes: what is sent answers the operation, in full or by their number, and what is told is the read.
use Rattle.std.proofs.Common.{ℕ, ◌+◌, ◌==◌, true, false, [], ◌∷◌, length, map, Option, Some, None}
use Rattle.locus_ids.specs.declared.ids.Serial.{Serial}
use Rattle.call_rules.specs.of_commit_graph.Grants.{is_read}
use Rattle.dir_reconcile.specs.of_dir_format.Entries.{nothing_seen}
use Rattle.file_effects.specs.Effects.{Effect}
use Rattle.wire_messages.specs.of_trace_book.declared.operation.Op.{Op}
use Rattle.wire_messages.specs.of_trace_book.declared.operation.Op.TheVariants as op
use Rattle.wire_messages.specs.of_trace_book.declared.operation.Outcome.{Outcome as Result}
use Rattle.wire_messages.specs.of_trace_book.declared.operation.Outcome.TheVariants as result
use Rattle.wire_messages.specs.of_trace_book.declared.record.Record.TheVariants as says
use Rattle.wire_messages.specs.declared.packet.Packet.{Packet}
use Rattle.wire_messages.specs.declared.body.Body.TheVariants as body
use Rattle.role_steps.specs.Own.{Every}
use Rattle.role_steps.specs.Views.{Frame, Store, Told, Shown, DiskWrite, Outcome, quiet, sends, packet}
use Rattle.role_steps.specs.Storage.{instance_of}
use Rattle.role_steps.specs.OperationEffects.{effect_of}
use Rattle.role_steps.specs.Operations.{op_done, op_again, executes_effect, executes, by_number, on_op_at, on_op_of, short_packet, sent_in_form, in_form, nothing_to_mend, on_read_held}
use Rattle.role_steps.specs.declared.instances.Instance.{Instance}
use Rattle.role_steps.specs.declared.instances.Stage.{Stage}
use Rattle.role_steps.specs.declared.instances.Stage.TheVariants as stage
use Rattle.role_steps.proofs.Sending.{every_cond}

-- what holds of all that such a read makes in a frame: of its answers in both forms, of what it tells, and of no write
pub record OfReads (S : Packet → Type 0) (T : Told → Type 0) (W : Option DiskWrite → Type 0) (f : Frame) : Type 0 where
  pub full : (to serial n : ℕ) (r : Result) → S (packet f to (body.OpDone serial n r))
  pub held : (to serial n len : ℕ) → S (packet f to (body.AsHeld serial n len))
  pub told : (inst : Serial) (n : ℕ) (o : Op) (r : Result) → T (Shown (says.Act f.epoch inst n o r))
  pub unwritten : W None

abbrev pub IsMadeSo : (Packet → Type 0) → (Told → Type 0) → (Option DiskWrite → Type 0) → Outcome Store → Type 0
IsMadeSo S T W o = Every S o.sent × Every T o.told × W o.written

module _ (S : Packet → Type 0) (T : Told → Type 0) (W : Option DiskWrite → Type 0) (f : Frame) (k : OfReads S T W f) where
  short_so : (to serial n : ℕ) (r : Result) → S (short_packet (packet f to (body.OpDone serial n r)))
  short_so to serial n (result.Data bytes) = k.held to serial n (length bytes)
  short_so to serial n r = k.full to serial n r

  done_so : (i : Instance) (n : ℕ) (r : Result) → Every S (sent_in_form i (op_done f i n r))
  done_so i n r = every_cond S (is_read i.mode) (map short_packet (op_done f i n r)) (op_done f i n r) (short_so i.inst.us i.inst.serial n r, tt) (k.full i.inst.us i.inst.serial n r, tt)

  again_so : (i : Instance) (n : ℕ) (o : Option Result) → Every S (sent_in_form i (op_again f i n o))
  again_so i n None = every_cond S (is_read i.mode) [] [] tt tt
  again_so i n (Some r) = done_so i n r

  quiet_so : (i : Instance) (s : Store) → IsMadeSo S T W (in_form (Some i) (quiet s))
  quiet_so i s = (every_cond S (is_read i.mode) [] [] tt tt, tt, k.unwritten)

  effect_so : (i : Instance) (o : Op) (e : Option Effect) (s : Store) → IsMadeSo S T W (in_form (Some i) (executes_effect f i o e s))
  effect_so i o None s = quiet_so i s
  effect_so i o (Some e) s = (done_so i _ _, (k.told _ _ _ _, tt), k.unwritten)

  number_so : (n at len : ℕ) (i : Instance) (s : Store) → IsMadeSo S T W (in_form (Some i) (by_number f nothing_to_mend i n (op.Read at len) nothing_seen s))
  number_so n at len i s =
      elim (n == i.work.ops) as (λ b. IsMadeSo S T W (in_form (Some i) (elim b [ true ↦ sends (op_again f i n i.answered) s | false ↦ elim (n == i.work.ops + 1) [ true ↦ executes f nothing_to_mend i (op.Read at len) nothing_seen s | false ↦ quiet s ] ]))) [
        | true ↦ (again_so i n i.answered, tt, k.unwritten)
        | false ↦ elim (n == i.work.ops + 1) as (λ b. IsMadeSo S T W (in_form (Some i) (elim b [ true ↦ executes f nothing_to_mend i (op.Read at len) nothing_seen s | false ↦ quiet s ]))) [
          | true ↦ effect_so i (op.Read at len) (effect_of (op.Read at len) nothing_seen nothing_to_mend i.work.content) s
          | false ↦ quiet_so i s
        ]
      ]

  stage_so : (n at len : ℕ) (i : Instance) (g : Stage) (s : Store) → IsMadeSo S T W (in_form (Some i) (on_op_at f nothing_to_mend i g n (op.Read at len) nothing_seen s))
  stage_so n at len i stage.Running s = number_so n at len i s
  stage_so n at len i (stage.Closing made a) s = quiet_so i s
  stage_so n at len i (stage.Closed a) s = quiet_so i s

  read_so : (n at len : ℕ) (o : Option Instance) (s : Store) → IsMadeSo S T W (in_form o (on_op_of f nothing_to_mend o n (op.Read at len) nothing_seen s))
  read_so n at len None s = (tt, tt, k.unwritten)
  read_so n at len (Some i) s = stage_so n at len i i.stage s

  pub held_read_so : (inst : Serial) (n at len : ℕ) (s : Store) → IsMadeSo S T W (on_read_held f inst n at len s)
  held_read_so inst n at len s = read_so n at len (instance_of s inst) s

-- the same of its answers alone
pub held_read_sent : (S : Packet → Type 0) (f : Frame) → ((to serial n : ℕ) (r : Result) → S (packet f to (body.OpDone serial n r))) → ((to serial n len : ℕ) → S (packet f to (body.AsHeld serial n len)))
    → (inst : Serial) (n at len : ℕ) (s : Store) → Every S (on_read_held f inst n at len s).sent
held_read_sent S f full held inst n at len s = (held_read_so S (λ t. Unit {0}) (λ w. Unit {0}) f (record { full = full; held = held; told = λ i m o r. tt; unwritten = tt }) inst n at len s).0
