-- A run in which a file comes to rest: two sites meet, one of them makes a file, and rounds follow.
use Rattle.std.specs.Prelude.{◌≡◌, true, List, [], ◌∷◌, None, Some, codes}
use Rattle.locus_ids.specs.Sites.{has}
use Rattle.locus_ids.specs.declared.ids.Kind.TheVariants as kind
use Rattle.locus_ids.specs.declared.ids.Mode.TheVariants as mode
use Rattle.trace_book.specs.declared.call.Call.TheVariants as call
use Rattle.trace_book.specs.declared.operation.Op.TheVariants as op
use Rattle.trace_book.specs.declared.operation.Outcome.TheVariants as outcome
use Rattle.trace_book.specs.declared.record.Record.TheVariants.{Join, Start, Accept, Grant, Act, Commit, Adopt, Release, Answer}
use Rattle.trace_book.specs.declared.reply.Reply.TheVariants as reply
use Rattle.schedule_lines.specs.declared.header.HeaderLine.TheVariants as header
use Rattle.schedule_lines.specs.declared.line.Line.TheVariants as line
use Rattle.schedule_lines.specs.declared.line.ScheduleLine.{ScheduleLine}
use Rattle.schedule_lines.specs.declared.line.ScheduleLine.TheVariants.{Header, Event}
use Rattle.schedule_lines.specs.Cluster.{config_of}
use Rattle.tree_model.specs.Files.{set_of_file}
use Rattle.tree_model.specs.Folds.{Trace}
use Rattle.tree_model.specs.Packs.{has_pack, is_member}
use Rattle.lawful_trace.specs.Places.{through_line}
use Rattle.lawful_trace.specs.Samples.{at, epoch, caller, inst, file, stamp, brought, members}
use Rattle.lawful_trace.specs.Calm.{IsCalmRound}
use Rattle.promises.specs.Convergence.{IsAtRest}

abbrev pub rested_lines : List ScheduleLine
rested_lines =
    Header (header.Sites 2) ∷
    Header (header.Group 0 (record { 0 = 3 })) ∷
    Event (line.Merge 1) ∷
    Event (line.Settle 1000) ∷
    Event (line.Call 1 1 (call.Create (codes "/a") None)) ∷
    Event (line.Settle 1000) ∷
    Event (line.Settle 1000) ∷
    Event (line.Settle 1000) ∷
    Event (line.Settle 1000) ∷
    []

-- the latest record first
abbrev pub rested_trace : Trace
rested_trace =
    at 6 (Adopt (file 0 1) 2 (stamp 1 1)) ∷
    at 6 (Answer 1 1 (caller 1 1 1) (reply.Made 2)) ∷
    at 6 (Release (epoch 1 1 1) (inst 1 1) (file 0 1) (Some (stamp 1 1))) ∷
    at 6 (Commit (file 0 1) 1 (stamp 1 1) ((stamp 0 0) ∷ []) (1 ∷ 97 ∷ 0 ∷ 2 ∷ 1 ∷ 0 ∷ 0 ∷ 0 ∷ 1 ∷ [])) ∷
    at 6 (Act (epoch 1 1 1) (inst 1 1) 2 (op.Insert (codes "a") 2 kind.File) outcome.Done) ∷
    at 6 (Adopt (file 0 2) 2 (stamp 1 1)) ∷
    at 6 (Release (epoch 1 1 1) (inst 1 2) (file 0 2) (Some (stamp 1 1))) ∷
    at 6 (Commit (file 0 2) 1 (stamp 1 1) [] []) ∷
    at 6 (Grant (epoch 1 1 1) (caller 1 1 1) 3 (inst 1 2) mode.Make (file 0 2) None 1) ∷
    at 6 (Act (epoch 1 1 1) (inst 1 1) 1 (op.Probe (codes "a")) outcome.Done) ∷
    at 6 (Grant (epoch 1 1 1) (caller 1 1 1) 1 (inst 1 1) mode.Write (file 0 1) (Some (stamp 0 0)) 1) ∷
    at 5 (Accept 1 1 (caller 1 1 1) (call.Create (codes "/a") None)) ∷
    at 4 (Start (epoch 1 1 1) 0 (brought 1 (stamp 0 0) ∷ [])) ∷
    at 4 (Join 2 (epoch 1 1 1) (members (1 ∷ 1 ∷ []))) ∷
    at 4 (Join 1 (epoch 1 1 1) (members (1 ∷ 1 ∷ []))) ∷
    []

-- Lines 6, 7, 8 and 9 are calm rounds of the two sites, of which the first serves the call; the file is at rest in the last three, and is
-- for both sites.
pub record IsRested (lines : List ScheduleLine) (trace : Trace) : Type 0 where
  pub before : IsCalmRound lines trace 6 (epoch 1 1 1) (members (1 ∷ 1 ∷ []))
  pub rest : IsAtRest (config_of lines) lines trace 7 8 9 (epoch 1 1 1) (members (1 ∷ 1 ∷ [])) (file 0 2) (stamp 1 1)
  pub member : is_member (members (1 ∷ 1 ∷ [])) 2 ≡ true
  pub packed : has_pack (config_of lines) 0 2 ≡ true
  pub in_set : has (set_of_file (config_of lines) (through_line trace 9) (file 0 2)) 2 ≡ true
