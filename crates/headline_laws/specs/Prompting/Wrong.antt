-- Traces that no run tells, though each of their records may come by the rows. Of each the comment says what is wrong.
use Rattle.std.specs.Prelude.{[], ◌∷◌, ◌++◌, None, Some, codes, take}
use Rattle.locus_ids.specs.declared.refusal.Refusal.TheVariants as refusal
use Rattle.trace_book.specs.declared.call.Call.TheVariants as call
use Rattle.trace_book.specs.declared.record.Record.TheVariants.{Accept, Answer, Commit, Join, Leave, Release}
use Rattle.trace_book.specs.declared.reply.Reply.TheVariants as reply
use Rattle.schedule_lines.specs.declared.line.Line.TheVariants as line
use Rattle.schedule_lines.specs.declared.line.ScheduleLine.TheVariants.{Event}
use Rattle.lawful_trace.specs.Samples.{Sample, at, caller, epoch, file, first_of, inst, members, stamp}
use Rattle.trace_samples.specs.FirstRun.{first_lines, first_trace}

-- a create is answered by a descriptor, whose number is that of the new file
abbrev pub made_told_as_opened : Sample
made_told_as_opened = record {
  lines = take 6 first_lines;
  trace = at 6 (Answer 1 1 (caller 1 1 1) (reply.Opened 2)) ∷ first_of 11 first_trace;
}

-- that its epoch was left is answered at the line after the leave
abbrev pub changed_told_late : Sample
changed_told_late = record {
  lines = take 5 first_lines ++ Event (line.GiveUp 1) ∷ Event (line.Tick 1) ∷ [];
  trace = at 7 (Answer 1 1 (caller 1 1 1) (reply.No (refusal.Changed (epoch 1 1 1)))) ∷ at 6 (Leave 1 (epoch 1 1 1)) ∷ first_of 3 first_trace;
}

-- it is never answered
abbrev pub changed_never_told : Sample
changed_never_told = record {
  lines = take 5 first_lines ++ Event (line.GiveUp 1) ∷ [];
  trace = at 6 (Leave 1 (epoch 1 1 1)) ∷ first_of 3 first_trace;
}

-- it is answered to the second process before the first
abbrev pub changed_out_of_order : Sample
changed_out_of_order = record {
  lines = take 5 first_lines ++ Event (line.Call 1 2 (call.Create (codes "/b") None)) ∷ Event (line.GiveUp 1) ∷ [];
  trace = at 7 (Answer 1 1 (caller 1 1 1) (reply.No (refusal.Changed (epoch 1 1 1)))) ∷ at 7 (Answer 1 2 (caller 1 1 2) (reply.No (refusal.Changed (epoch 1 1 1)))) ∷ at 7 (Leave 1 (epoch 1 1 1)) ∷ at 6 (Accept 1 2 (caller 1 1 2) (call.Create (codes "/b") None)) ∷ first_of 3 first_trace;
}

-- a read without a descriptor is refused at the next tick
abbrev pub refusal_told_late : Sample
refusal_told_late = record {
  lines = take 4 first_lines ++ Event (line.Call 1 1 (call.Read 0 0 10)) ∷ Event (line.Tick 1) ∷ [];
  trace = at 6 (Answer 1 1 (caller 1 1 1) (reply.No refusal.BadDescriptor)) ∷ at 5 (Accept 1 1 (caller 1 1 1) (call.Read 0 0 10)) ∷ first_of 2 first_trace;
}

-- the list of the only site has a member that never was
abbrev pub joined_by_nobody : Sample
joined_by_nobody = record {
  lines = take 4 first_lines;
  trace = at 3 (Join 1 (epoch 1 1 1) (members (1 ∷ 1 ∷ []))) ∷ [];
}

-- the round that a merging begins is decided at the line after it, which gives an epoch up
abbrev pub joined_late : Sample
joined_late = record {
  lines = take 3 first_lines ++ Event (line.GiveUp 1) ∷ [];
  trace = at 4 (Join 1 (epoch 1 1 1) (members (1 ∷ []))) ∷ [];
}

-- a disk that fails after one call writes a version, and its site goes on
abbrev pub fault_not_heeded : Sample
fault_not_heeded = record {
  lines = take 10 first_lines ++ Event (line.ArmFail 1 1) ∷ Event (line.Call 1 1 (call.Close 0)) ∷ Event (line.Settle 1000) ∷ [];
  trace =
      at 13 (Release (epoch 1 1 1) (inst 1 3) (file 0 2) (Some (stamp 1 2))) ∷ at 13 (Commit (file 0 2) 1 (stamp 1 2) (stamp 1 1 ∷ []) (104 ∷ 105 ∷ [])) ∷ at 12 (Accept 1 1 (caller 1 1 4) (call.Close 0)) ∷ first_of 19 first_trace;
}
