-- A run in which a directory wants a rescue: one side removes a file, the other one changes it, and the sides meet.
use Rattle.std.specs.Prelude.{◌≡◌, false, List, [], ◌∷◌, None, Some, codes, replicate}
use Rattle.locus_ids.specs.declared.ids.Kind.TheVariants as kind
use Rattle.locus_ids.specs.declared.ids.Mode.TheVariants as mode
use Rattle.trace_book.specs.declared.call.Call.TheVariants as call
use Rattle.trace_book.specs.declared.call.OpenMode.TheVariants as how
use Rattle.trace_book.specs.declared.operation.Op.TheVariants as op
use Rattle.trace_book.specs.declared.operation.Outcome.TheVariants as outcome
use Rattle.trace_book.specs.declared.operation.Served.TheVariants as served
use Rattle.trace_book.specs.declared.operation.What.TheVariants as what
use Rattle.trace_book.specs.declared.record.Record.TheVariants.{Leave, Join, Start, Accept, Look, Grant, Act, Commit, Adopt, Release, Answer}
use Rattle.trace_book.specs.declared.reply.Reply.TheVariants as reply
use Rattle.schedule_lines.specs.Cluster.{config_of}
use Rattle.schedule_lines.specs.declared.header.HeaderLine.TheVariants as header
use Rattle.schedule_lines.specs.declared.line.Line.TheVariants as line
use Rattle.schedule_lines.specs.declared.line.ScheduleLine.{ScheduleLine}
use Rattle.schedule_lines.specs.declared.line.ScheduleLine.TheVariants.{Header, Event}
use Rattle.tree_model.specs.Folds.{Trace}
use Rattle.tree_model.specs.Histories.{history}
use Rattle.tree_model.specs.Mending.{wants_rescue_in}
use Rattle.tree_model.specs.Tree.{tree_of}
use Rattle.lawful_trace.specs.Calm.{IsMoment}
use Rattle.lawful_trace.specs.Places.{through_line}
use Rattle.lawful_trace.specs.Samples.{at, epoch, caller, inst, file, stamp, brought, members}
use Rattle.promises.specs.Convergence.{WantsRescue}

abbrev pub wanting_lines : List ScheduleLine
wanting_lines =
    Header (header.Sites 2) ∷
    Header (header.Group 0 (record { 0 = 3 })) ∷
    Event (line.Merge 1) ∷
    Event (line.Settle 1000) ∷
    Event (line.Call 1 1 (call.Create (codes "/f") None)) ∷
    Event (line.Settle 1000) ∷
    Event (line.Down 1 2) ∷
    Event (line.Part 1) ∷
    Event (line.Part 2) ∷
    Event (line.Settle 1000) ∷
    Event (line.Call 1 1 (call.Unlink (codes "/f"))) ∷
    Event (line.Settle 1000) ∷
    Event (line.Call 2 1 (call.Open (codes "/f") how.Write)) ∷
    Event (line.Settle 1000) ∷
    Event (line.Call 2 1 (call.Write 0 0 (99 ∷ []))) ∷
    Event (line.Settle 1000) ∷
    Event (line.Call 2 1 (call.Close 0)) ∷
    Event (line.Settle 1000) ∷
    Event (line.Up 1 2) ∷
    Event (line.Merge 1) ∷
    Event (line.Settle 1000) ∷
    []

-- the latest record first
abbrev pub wanting_trace : Trace
wanting_trace =
    at 21 (Adopt (file 0 1) 2 (stamp 1 3)) ∷
    at 21 (Answer 1 0 (caller 1 1 3) (reply.Closed (Some (stamp 1 3)))) ∷
    at 21 (Release (epoch 3 1 1) (inst 1 5) (file 0 1) (Some (stamp 1 3))) ∷
    at 21 (Commit (file 0 1) 1 (stamp 1 3) ((stamp 1 2) ∷ []) (1 ∷ 102 ∷ 0 ∷ 2 ∷ 1 ∷ 0 ∷ 0 ∷ 0 ∷ 3 ∷ [])) ∷
    at 21 (Act (epoch 3 1 1) (inst 1 5) 1 op.Mend outcome.Done) ∷
    at 21 (Adopt (file 0 1) 2 (stamp 1 2)) ∷
    at 21 (Adopt (file 0 2) 1 (stamp 2 1)) ∷
    at 21 (Look (epoch 3 1 1) (caller 1 1 3) 2 (file 0 1) (what.Whole (stamp 1 2)) (served.At (stamp 1 2))) ∷
    at 21 (Grant (epoch 3 1 1) (caller 1 1 3) 1 (inst 1 5) mode.Mend (file 0 1) (Some (stamp 1 2)) 1) ∷
    at 21 (Accept 1 0 (caller 1 1 3) (call.Mend (file 0 1))) ∷
    at 21 (Start (epoch 3 1 1) 0 (brought 1 (stamp 1 1) ∷ brought 1 (stamp 1 2) ∷ brought 2 (stamp 1 1) ∷ brought 2 (stamp 2 1) ∷ [])) ∷
    at 21 (Join 2 (epoch 3 1 1) (members (1 ∷ 1 ∷ []))) ∷
    at 21 (Join 1 (epoch 3 1 1) (members (1 ∷ 1 ∷ []))) ∷
    at 21 (Leave 2 (epoch 2 2 1)) ∷
    at 20 (Leave 1 (epoch 2 1 1)) ∷
    at 18 (Answer 2 1 (caller 2 1 3) (reply.Closed (Some (stamp 2 1)))) ∷
    at 18 (Release (epoch 2 2 1) (inst 2 1) (file 0 2) (Some (stamp 2 1))) ∷
    at 18 (Commit (file 0 2) 2 (stamp 2 1) ((stamp 1 1) ∷ []) (99 ∷ [])) ∷
    at 17 (Accept 2 1 (caller 2 1 3) (call.Close 0)) ∷
    at 16 (Answer 2 1 (caller 2 1 2) reply.Done) ∷
    at 16 (Act (epoch 2 2 1) (inst 2 1) 1 (op.Write 0 (99 ∷ [])) outcome.Done) ∷
    at 15 (Accept 2 1 (caller 2 1 2) (call.Write 0 0 (99 ∷ []))) ∷
    at 14 (Answer 2 1 (caller 2 1 1) (reply.Opened 0)) ∷
    at 14 (Grant (epoch 2 2 1) (caller 2 1 1) 2 (inst 2 1) mode.Write (file 0 2) (Some (stamp 1 1)) 2) ∷
    at 14 (Look (epoch 2 2 1) (caller 2 1 1) 1 (file 0 1) (what.Name (codes "f")) (served.At (stamp 1 1))) ∷
    at 13 (Accept 2 1 (caller 2 1 1) (call.Open (codes "/f") how.Write)) ∷
    at 12 (Answer 1 1 (caller 1 1 2) reply.Done) ∷
    at 12 (Release (epoch 2 1 1) (inst 1 4) (file 0 2) None) ∷
    at 12 (Release (epoch 2 1 1) (inst 1 3) (file 0 1) (Some (stamp 1 2))) ∷
    at 12 (Commit (file 0 1) 1 (stamp 1 2) ((stamp 1 1) ∷ []) (1 ∷ 102 ∷ 0 ∷ 2 ∷ 1 ∷ 0 ∷ 0 ∷ 0 ∷ 2 ∷ 0 ∷ 0 ∷ 0 ∷ 1 ∷ replicate 60 0)) ∷
    at 12 (Act (epoch 2 1 1) (inst 1 3) 2 (op.Remove (codes "f") 2) outcome.Done) ∷
    at 12 (Grant (epoch 2 1 1) (caller 1 1 2) 3 (inst 1 4) mode.Write (file 0 2) (Some (stamp 1 1)) 1) ∷
    at 12 (Act (epoch 2 1 1) (inst 1 3) 1 (op.Find (codes "f")) (outcome.Found 2 kind.File)) ∷
    at 12 (Grant (epoch 2 1 1) (caller 1 1 2) 1 (inst 1 3) mode.Write (file 0 1) (Some (stamp 1 1)) 1) ∷
    at 11 (Accept 1 1 (caller 1 1 2) (call.Unlink (codes "/f"))) ∷
    at 10 (Start (epoch 2 2 1) 0 (brought 1 (stamp 1 1) ∷ brought 2 (stamp 1 1) ∷ [])) ∷
    at 10 (Start (epoch 2 1 1) 0 (brought 1 (stamp 1 1) ∷ brought 2 (stamp 1 1) ∷ [])) ∷
    at 9 (Join 2 (epoch 2 2 1) (members (0 ∷ 1 ∷ []))) ∷
    at 9 (Leave 2 (epoch 1 1 1)) ∷
    at 8 (Join 1 (epoch 2 1 1) (members (1 ∷ []))) ∷
    at 8 (Leave 1 (epoch 1 1 1)) ∷
    at 6 (Adopt (file 0 1) 2 (stamp 1 1)) ∷
    at 6 (Answer 1 1 (caller 1 1 1) (reply.Made 2)) ∷
    at 6 (Release (epoch 1 1 1) (inst 1 1) (file 0 1) (Some (stamp 1 1))) ∷
    at 6 (Commit (file 0 1) 1 (stamp 1 1) ((stamp 0 0) ∷ []) (1 ∷ 102 ∷ 0 ∷ 2 ∷ 1 ∷ 0 ∷ 0 ∷ 0 ∷ 1 ∷ [])) ∷
    at 6 (Act (epoch 1 1 1) (inst 1 1) 2 (op.Insert (codes "f") 2 kind.File) outcome.Done) ∷
    at 6 (Adopt (file 0 2) 2 (stamp 1 1)) ∷
    at 6 (Release (epoch 1 1 1) (inst 1 2) (file 0 2) (Some (stamp 1 1))) ∷
    at 6 (Commit (file 0 2) 1 (stamp 1 1) [] []) ∷
    at 6 (Grant (epoch 1 1 1) (caller 1 1 1) 3 (inst 1 2) mode.Make (file 0 2) None 1) ∷
    at 6 (Act (epoch 1 1 1) (inst 1 1) 1 (op.Probe (codes "f")) outcome.Done) ∷
    at 6 (Grant (epoch 1 1 1) (caller 1 1 1) 1 (inst 1 1) mode.Write (file 0 1) (Some (stamp 0 0)) 1) ∷
    at 5 (Accept 1 1 (caller 1 1 1) (call.Create (codes "/f") None)) ∷
    at 4 (Start (epoch 1 1 1) 0 (brought 1 (stamp 0 0) ∷ [])) ∷
    at 4 (Join 2 (epoch 1 1 1) (members (1 ∷ 1 ∷ []))) ∷
    at 4 (Join 1 (epoch 1 1 1) (members (1 ∷ 1 ∷ []))) ∷
    []

-- At a moment of line 21 the root wants a rescue: its only kept version has removed the name of a file, whose only kept version the
-- removal hasn't seen. At its end it wants none.
pub record IsWanting (lines : List ScheduleLine) (trace : Trace) : Type 0 where
  pub now : Trace
  pub moment : IsMoment trace 21 now
  pub wants : WantsRescue (config_of lines) now (epoch 3 1 1) (members (1 ∷ 1 ∷ [])) 1 (file 0 1) (stamp 1 2)
  pub mended : wants_rescue_in (history (config_of lines) (through_line trace 21)) (tree_of (config_of lines) (epoch 3 1 1) 0 (through_line trace 21)) (file 0 1) ≡ false
