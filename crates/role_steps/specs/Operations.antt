-- Numbered operations at the storage site: each number is executed once.
use Rattle.std.specs.Prelude.{ℕ, ◌+◌, ◌==◌, Bool, true, false, cond, List, [], ◌∷◌, length, map, Option, Some, None}
use Rattle.locus_ids.specs.declared.ids.Serial.{Serial}
use Rattle.locus_ids.specs.declared.ids.Stamp.{Stamp}
use Rattle.locus_ids.specs.declared.refusal.Refusal.TheVariants as refusal
use Rattle.wire_messages.specs.of_trace_book.declared.operation.Op.{Op}
use Rattle.wire_messages.specs.of_trace_book.declared.operation.Op.TheVariants as op
use Rattle.wire_messages.specs.of_trace_book.declared.operation.Outcome.{Outcome as Result}
use Rattle.wire_messages.specs.of_trace_book.declared.operation.Outcome.TheVariants as result
use Rattle.wire_messages.specs.of_trace_book.declared.record.Record.TheVariants as says
use Rattle.file_effects.specs.Effects.{Effect}
use Rattle.file_effects.specs.Works.{result_in, operated, counted, aborted}
use Rattle.file_effects.specs.declared.work.Work.{Work}
use Rattle.wire_messages.specs.declared.packet.Packet.{Packet}
use Rattle.dir_reconcile.specs.of_dir_format.Entries.{nothing_seen}
use Rattle.call_rules.specs.of_commit_graph.Grants.{is_read}
use Rattle.wire_messages.specs.declared.body.Body.{Body}
use Rattle.wire_messages.specs.declared.body.Body.TheVariants as body
use Rattle.role_steps.specs.Views.{Frame, Store, Told, Shown, Outcome, quiet, sends, and_then, packet}
use Rattle.role_steps.specs.Storage.{copy_of, content_of, instance_of, with_instance, free_pages, is_spent, commits, next_stamp, next_vector}
use Rattle.role_steps.specs.declared.instances.Instance.{Instance}
use Rattle.role_steps.specs.declared.instances.Stage.{Stage}
use Rattle.role_steps.specs.declared.instances.Stage.TheVariants as stage
use Rattle.role_steps.specs.OperationEffects.{Mending, effect_of}

-- ---- what is told and answered ----

abbrev pub act_record : Frame → Instance → ℕ → Op → Result → Told
act_record f i n o r = Shown (says.Act f.epoch i.inst n o r)

abbrev pub op_done : Frame → Instance → ℕ → Result → List Packet
op_done f i n r = packet f i.inst.us (body.OpDone i.inst.serial n r) ∷ []

-- the instance after an operation, which gave this result
abbrev pub acts : Frame → Instance → Op → Result → Work → Store → Outcome Store
acts f i o r w s = record {
  view = with_instance (record i { work = w; answered = Some r }) s;
  sent = op_done f i w.ops r;
  told = act_record f i w.ops o r ∷ [];
  written = None;
}

abbrev pub acts_by : Frame → Instance → Op → Effect → Result → Store → Outcome Store
acts_by f i o e r s = acts f i o r (operated e r i.work) s

-- an operation that isn't lawful on the content does nothing
abbrev pub executes_effect : Frame → Instance → Op → Option Effect → Store → Outcome Store
executes_effect f i o None s = quiet s
executes_effect f i o (Some e) s = acts_by f i o e (result_in (free_pages s i.file.group) i.work.changed e) s

-- ---- commit and abort ----

abbrev pub acts_committed : Frame → Stamp → Option Instance → Store → Outcome Store
acts_committed f stamp None s = quiet s
acts_committed f stamp (Some i) s = acts f i op.Commit (result.Committed stamp) (counted i.work) s

-- what is owed is committed, and its record stands before that of the operation
abbrev pub commits_owing : Frame → Instance → Store → Outcome Store
commits_owing f i s = elim (is_spent f i) [
  | true ↦ acts f i op.Commit (result.No refusal.Spent) (counted i.work) s
  | false ↦ and_then (commits f i s) (λ now. acts_committed f (next_stamp f (next_vector f i)) (instance_of now i.inst) now)
]

-- where nothing is owed the last version's stamp is answered
abbrev pub last_committed : Frame → Instance → Option Stamp → Store → Outcome Store
last_committed f i None s = quiet s
last_committed f i (Some stamp) s = acts f i op.Commit (result.Committed stamp) (counted i.work) s

abbrev pub commit_op : Frame → Instance → Store → Outcome Store
commit_op f i s = elim i.work.owes [
  | true ↦ commits_owing f i s
  | false ↦ last_committed f i i.work.last s
]

abbrev pub abort_op : Frame → Instance → Store → Outcome Store
abort_op f i s = acts f i op.Abort result.Done (aborted i.mode (content_of (copy_of s i.file)) i.work) s

-- ---- Op ----

abbrev pub executes : Frame → Mending → Instance → Op → List ℕ → Store → Outcome Store
executes f m i op.Commit seen s = commit_op f i s
executes f m i op.Abort seen s = abort_op f i s
executes f m i o seen s = executes_effect f i o (effect_of o seen m i.work.content) s

-- the last executed number is answered with the same OpDone
abbrev pub op_again : Frame → Instance → ℕ → Option Result → List Packet
op_again f i n None = []
op_again f i n (Some r) = op_done f i n r

-- a number that is neither the last executed nor the next one is ignored
abbrev pub by_number : Frame → Mending → Instance → ℕ → Op → List ℕ → Store → Outcome Store
by_number f m i n o seen s = elim (n == i.work.ops) [
  | true ↦ sends (op_again f i n i.answered) s
  | false ↦ elim (n == i.work.ops + 1) [
    | true ↦ executes f m i o seen s
    | false ↦ quiet s
  ]
]

-- an operation on an instance that is closing or closed is ignored
abbrev pub on_op_at : Frame → Mending → Instance → Stage → ℕ → Op → List ℕ → Store → Outcome Store
on_op_at f m i stage.Running n o seen s = by_number f m i n o seen s
on_op_at f m i _ n o seen s = quiet s

abbrev pub on_op_of : Frame → Mending → Option Instance → ℕ → Op → List ℕ → Store → Outcome Store
on_op_of f m None n o seen s = quiet s
on_op_of f m (Some i) n o seen s = on_op_at f m i i.stage n o seen s

abbrev pub on_op : Frame → Mending → Serial → ℕ → Op → List ℕ → Store → Outcome Store
on_op f m inst n o seen s = on_op_of f m (instance_of s inst) n o seen s

-- ---- ReadHeld ----

-- a result without its bytes, where these are all that it says
abbrev pub short_body : Body → Body
short_body (body.OpDone serial n (result.Data bytes)) = body.AsHeld serial n (length bytes)
short_body b = b

abbrev pub short_packet : Packet → Packet
short_packet p = record p { body = short_body p.body }

-- an instance that was opened to read is of one version, which the asker has; any other is answered in full
abbrev pub sent_in_form : Instance → List Packet → List Packet
sent_in_form i ps = cond (is_read i.mode) (map short_packet ps) ps

abbrev pub in_form : Option Instance → Outcome Store → Outcome Store
in_form None o = o
in_form (Some i) o = record o { sent = sent_in_form i o.sent }

-- no read works on what a mend does
abbrev pub nothing_to_mend : Mending
nothing_to_mend = record { contents = []; kept = [] }

-- it is executed and told as any read is; the last executed number is answered in the form of the operation that asks it
abbrev pub on_read_held : Frame → Serial → (number at len : ℕ) → Store → Outcome Store
on_read_held f inst n at len s = in_form (instance_of s inst) (on_op f nothing_to_mend inst n (op.Read at len) nothing_seen s)
