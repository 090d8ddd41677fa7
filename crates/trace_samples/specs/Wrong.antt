-- Traces that are not lawful. Of each the comment says what is wrong.
use Rattle.std.specs.Prelude.{[], ◌∷◌, ◌++◌, None, Some, codes, take}
use Rattle.locus_ids.specs.declared.ids.Kind.TheVariants as kind
use Rattle.locus_ids.specs.declared.ids.Mode.TheVariants as mode
use Rattle.locus_ids.specs.declared.refusal.Refusal.TheVariants as refusal
use Rattle.trace_book.specs.declared.call.Call.TheVariants as call
use Rattle.trace_book.specs.declared.call.OpenMode.TheVariants as how
use Rattle.trace_book.specs.declared.operation.Op.TheVariants as op
use Rattle.trace_book.specs.declared.operation.Outcome.TheVariants as outcome
use Rattle.trace_book.specs.declared.operation.What.TheVariants as what
use Rattle.trace_book.specs.declared.operation.Served.TheVariants as served
use Rattle.trace_book.specs.declared.reply.Reply.TheVariants as reply
use Rattle.trace_book.specs.declared.record.StopCause.TheVariants as cause
use Rattle.trace_book.specs.declared.record.Record.TheVariants.{Up, Stopped, Leave, Join, Start, Accept, Look, Grant, Refuse, Act, Commit, Release, Adopt, Answer, Void}
use Rattle.schedule_lines.specs.declared.header.HeaderLine.TheVariants as header
use Rattle.schedule_lines.specs.declared.line.Leave.TheVariants as leave
use Rattle.schedule_lines.specs.declared.line.Line.TheVariants as line
use Rattle.schedule_lines.specs.declared.line.ScheduleLine.TheVariants.{Header, Event}
use Rattle.lawful_trace.specs.Samples.{Sample, at, epoch, caller, inst, file, stamp, brought, members, first_of}
use Rattle.trace_samples.specs.StoppedRun.{stopped_lines, stopped_trace}
use Rattle.trace_samples.specs.FirstRun.{first_lines, first_trace}
use Rattle.trace_samples.specs.PartedRun.{parted_lines, parted_trace}
use Rattle.trace_samples.specs.FlaggedRun.{flagged_lines, flagged_trace}

-- a call is answered twice
abbrev pub reply_twice : Sample
reply_twice = record {
  lines = take 6 first_lines;
  trace = at 6 (Answer 1 1 (caller 1 1 1) (reply.Made 2)) ∷ first_of 12 first_trace;
}

-- a file that is open for reading is written
abbrev pub write_through_read_descriptor : Sample
write_through_read_descriptor = record {
  lines = take 6 first_lines ++ Event (line.Call 1 1 (call.Open (codes "/a") how.Read)) ∷ Event (line.Settle 1000) ∷ Event (line.Call 1 1 (call.Write 0 0 (104 ∷ 105 ∷ []))) ∷ Event (line.Settle 1000) ∷ [];
  trace = at 10 (Act (epoch 1 1 1) (inst 1 3) 1 (op.Write 0 (104 ∷ 105 ∷ [])) outcome.Done) ∷ at 9 (Accept 1 1 (caller 1 1 3) (call.Write 0 0 (104 ∷ 105 ∷ []))) ∷ at 8 (Answer 1 1 (caller 1 1 2) (reply.Opened 0)) ∷ at 8 (Grant (epoch 1 1 1) (caller 1 1 2) 2 (inst 1 3) mode.Read (file 0 2) (Some (stamp 1 1)) 1) ∷ at 8 (Look (epoch 1 1 1) (caller 1 1 2) 1 (file 0 1) (what.Name (codes "a")) (served.At (stamp 1 1))) ∷ at 7 (Accept 1 1 (caller 1 1 2) (call.Open (codes "/a") how.Read)) ∷ first_of 12 first_trace;
}

-- a changed file is closed and nothing is committed
abbrev pub lost_commit : Sample
lost_commit = record {
  lines = take 12 first_lines;
  trace = at 12 (Release (epoch 1 1 1) (inst 1 3) (file 0 2) None) ∷ first_of 20 first_trace;
}

-- the first write on an instance has operation number 2
abbrev pub skipped_operation_number : Sample
skipped_operation_number = record {
  lines = take 10 first_lines;
  trace = at 10 (Act (epoch 1 1 1) (inst 1 3) 2 (op.Write 0 (104 ∷ 105 ∷ [])) outcome.Done) ∷ first_of 17 first_trace;
}

-- the second commit of a file at a site has the number 3
abbrev pub skipped_stamp : Sample
skipped_stamp = record {
  lines = take 12 first_lines;
  trace = at 12 (Commit (file 0 2) 1 (stamp 1 3) ((stamp 1 1) ∷ []) (104 ∷ 105 ∷ [])) ∷ first_of 20 first_trace;
}

-- a write is answered before it is carried out
abbrev pub reply_before_its_step : Sample
reply_before_its_step = record {
  lines = take 10 first_lines;
  trace = at 10 (Answer 1 1 (caller 1 1 3) reply.Done) ∷ first_of 17 first_trace;
}

-- a line without effect tells so twice
abbrev pub two_voids : Sample
two_voids = record {
  lines = take 4 first_lines ++ Event (line.Boot 1) ∷ [];
  trace = at 5 (Void) ∷ at 5 (Void) ∷ first_of 2 first_trace;
}

-- a member joins an epoch with another list than the member before
abbrev pub join_with_another_list : Sample
join_with_another_list = record {
  lines = take 4 flagged_lines;
  trace = at 4 (Join 2 (epoch 1 1 1) (members (0 ∷ 1 ∷ []))) ∷ first_of 1 flagged_trace;
}

-- a site adopts a version that is beside its own
abbrev pub adoption_of_a_concurrent_version : Sample
adoption_of_a_concurrent_version = record {
  lines = take 12 parted_lines;
  trace = at 12 (Adopt (file 0 1) 2 (stamp 1 1)) ∷ first_of 29 parted_trace;
}

-- an open is refused as busy, and nobody has the file open
abbrev pub busy_with_nobody_there : Sample
busy_with_nobody_there = record {
  lines = take 8 first_lines;
  trace = at 8 (Refuse (epoch 1 1 1) (caller 1 1 2) 2 (inst 1 3) mode.Write (file 0 2) (refusal.Busy 1 2)) ∷ first_of 14 first_trace;
}

-- a conflict is told of a file of which one version is kept
abbrev pub flag_on_an_unflagged_file : Sample
flag_on_an_unflagged_file = record {
  lines = take 8 first_lines;
  trace = at 8 (Refuse (epoch 1 1 1) (caller 1 1 2) 2 (inst 1 3) mode.Write (file 0 2) (refusal.Conflict (stamp 1 1) (stamp 2 1))) ∷ first_of 14 first_trace;
}

-- a file is opened of which two versions are kept beside each other
abbrev pub no_flag_on_a_flagged_file : Sample
no_flag_on_a_flagged_file = record {
  lines = take 24 flagged_lines;
  trace = at 24 (Grant (epoch 3 1 1) (caller 1 1 5) 2 (inst 1 4) mode.Read (file 0 2) (Some (stamp 1 2)) 1) ∷ first_of 50 flagged_trace;
}

-- a file is opened on a version that is no longer kept
abbrev pub kept_version_passed_over : Sample
kept_version_passed_over = record {
  lines = take 14 first_lines;
  trace = at 14 (Grant (epoch 1 1 1) (caller 1 1 5) 2 (inst 1 4) mode.Read (file 0 2) (Some (stamp 1 1)) 1) ∷ first_of 25 first_trace;
}

-- a write is refused for want of room, and there is room
abbrev pub no_space_where_there_is_room : Sample
no_space_where_there_is_room = record {
  lines = take 10 first_lines;
  trace = at 10 (Act (epoch 1 1 1) (inst 1 3) 1 (op.Write 0 (104 ∷ 105 ∷ [])) (outcome.No (refusal.NoSpace 1 0))) ∷ first_of 17 first_trace;
}

-- a site stops, and no line asked for it
abbrev pub stop_without_its_line : Sample
stop_without_its_line = record {
  lines = take 4 first_lines;
  trace = at 4 (Stopped 1 cause.Asked) ∷ first_of 2 first_trace;
}

-- a site is stopped within a disk call, and its disk was not armed
abbrev pub fuse_without_an_armed_disk : Sample
fuse_without_an_armed_disk = record {
  lines = take 6 first_lines;
  trace = at 6 (Stopped 1 cause.Fuse) ∷ first_of 7 first_trace;
}

-- an armed disk lets more versions be written than its calls allow
abbrev pub armed_disk_that_stops_nothing : Sample
armed_disk_that_stops_nothing = record {
  lines = Header (header.Sites 1) ∷ Header (header.Group 0 (record { 0 = 1 })) ∷ Event (line.Merge 1) ∷ Event (line.Settle 1000) ∷ Event (line.ArmStop 1 3 leave.Old) ∷ Event (line.Call 1 1 (call.Create (codes "/a") None)) ∷ Event (line.Settle 1000) ∷ [];
  trace = at 7 (Answer 1 1 (caller 1 1 1) (reply.Made 2)) ∷ at 7 (Release (epoch 1 1 1) (inst 1 1) (file 0 1) (Some (stamp 1 1))) ∷ at 7 (Commit (file 0 1) 1 (stamp 1 1) ((stamp 0 0) ∷ []) (1 ∷ 97 ∷ 0 ∷ 2 ∷ 1 ∷ 0 ∷ 0 ∷ 0 ∷ 1 ∷ [])) ∷ at 7 (Act (epoch 1 1 1) (inst 1 1) 2 (op.Insert (codes "a") 2 kind.File) outcome.Done) ∷ at 7 (Release (epoch 1 1 1) (inst 1 2) (file 0 2) (Some (stamp 1 1))) ∷ at 7 (Commit (file 0 2) 1 (stamp 1 1) [] []) ∷ at 7 (Grant (epoch 1 1 1) (caller 1 1 1) 3 (inst 1 2) mode.Make (file 0 2) None 1) ∷ at 7 (Act (epoch 1 1 1) (inst 1 1) 1 (op.Probe (codes "a")) outcome.Done) ∷ at 7 (Grant (epoch 1 1 1) (caller 1 1 1) 1 (inst 1 1) mode.Write (file 0 1) (Some (stamp 0 0)) 1) ∷ at 6 (Accept 1 1 (caller 1 1 1) (call.Create (codes "/a") None)) ∷ at 4 (Start (epoch 1 1 1) 0 (brought 1 (stamp 0 0) ∷ [])) ∷ at 3 (Join 1 (epoch 1 1 1) (members (1 ∷ []))) ∷ [];
}

-- the first call of a boot has the number 2
abbrev pub skipped_call_number : Sample
skipped_call_number = record {
  lines = take 5 first_lines;
  trace = at 5 (Accept 1 1 (caller 1 1 2) (call.Create (codes "/a") None)) ∷ first_of 2 first_trace;
}

-- a process has a call accepted while another of its calls waits
abbrev pub two_calls_at_once : Sample
two_calls_at_once = record {
  lines = take 5 first_lines ++ Event (line.Call 1 1 (call.List (codes "/"))) ∷ [];
  trace = at 6 (Accept 1 1 (caller 1 1 2) (call.List (codes "/"))) ∷ first_of 3 first_trace;
}

-- a line is told to be void, and its site can do it
abbrev pub void_line_with_an_effect : Sample
void_line_with_an_effect = record {
  lines = take 4 first_lines ++ Event (line.Call 1 1 (call.List (codes "/"))) ∷ [];
  trace = at 5 (Void) ∷ first_of 2 first_trace;
}

-- a commit has other bytes than the file that is closed
abbrev pub commit_of_other_bytes : Sample
commit_of_other_bytes = record {
  lines = take 12 first_lines;
  trace = at 12 (Commit (file 0 2) 1 (stamp 1 2) ((stamp 1 1) ∷ []) (104 ∷ 104 ∷ [])) ∷ first_of 20 first_trace;
}

-- a call is answered that the epoch has changed, and its site is still in it
abbrev pub changed_in_the_same_epoch : Sample
changed_in_the_same_epoch = record {
  lines = take 6 first_lines;
  trace = at 6 (Answer 1 1 (caller 1 1 1) (reply.No (refusal.Changed (epoch 1 1 1)))) ∷ first_of 3 first_trace;
}

-- a site leaves its epoch, and neither it nor another site asked for it
abbrev pub leave_without_a_cause : Sample
leave_without_a_cause = record {
  lines = take 4 first_lines ++ Event (line.Settle 1000) ∷ [];
  trace = at 5 (Leave 1 (epoch 1 1 1)) ∷ first_of 2 first_trace;
}

-- a site joins an epoch whose site started no protocol
abbrev pub join_that_nobody_asked_for : Sample
join_that_nobody_asked_for = record {
  lines = Header (header.Sites 1) ∷ Header (header.Group 0 (record { 0 = 1 })) ∷ Event (line.Settle 1000) ∷ [];
  trace = at 3 (Join 1 (epoch 1 1 1) (members (1 ∷ []))) ∷ [];
}

-- a directory is mended of which one version is kept, and which wants nothing
abbrev pub mend_of_an_unflagged_directory : Sample
mend_of_an_unflagged_directory = record {
  lines = take 4 first_lines;
  trace = at 4 (Accept 1 0 (caller 1 1 1) (call.Mend (file 0 1))) ∷ first_of 2 first_trace;
}

-- a site boots with the number that it had
abbrev pub boot_with_its_old_number : Sample
boot_with_its_old_number = record {
  lines = take 4 first_lines ++ Event (line.Stop 1) ∷ Event (line.Boot 1) ∷ [];
  trace = at 6 (Up 1 1) ∷ at 5 (Stopped 1 cause.Asked) ∷ first_of 2 first_trace;
}

-- a read gives bytes that no write put there
abbrev pub data_that_was_never_written : Sample
data_that_was_never_written = record {
  lines = take 16 first_lines;
  trace = at 16 (Act (epoch 1 1 1) (inst 1 4) 1 (op.Read 0 10) (outcome.Data (120 ∷ 120 ∷ []))) ∷ first_of 28 first_trace;
}

-- a group starts without a version that a member brought
abbrev pub start_without_a_version : Sample
start_without_a_version = record {
  lines = take 12 parted_lines;
  trace = at 12 (Start (epoch 2 1 1) 0 (brought 1 (stamp 1 1) ∷ brought 1 (stamp 2 1) ∷ brought 2 (stamp 1 1) ∷ [])) ∷ first_of 28 parted_trace;
}

-- a site is stopped within a disk call, and more calls were made before than pass
abbrev pub stop_after_too_many_calls : Sample
stop_after_too_many_calls = record {
  lines = take 10 first_lines ++ Event (line.ArmStop 1 5 leave.Old) ∷ Event (line.Call 1 1 (call.Close 0)) ∷ Event (line.Settle 1000) ∷ [];
  trace = at 13 (Stopped 1 cause.Fuse) ∷ at 13 (Release (epoch 1 1 1) (inst 1 3) (file 0 2) (Some (stamp 1 2))) ∷ at 13 (Commit (file 0 2) 1 (stamp 1 2) ((stamp 1 1) ∷ []) (104 ∷ 105 ∷ [])) ∷ at 12 (Accept 1 1 (caller 1 1 4) (call.Close 0)) ∷ first_of 19 first_trace;
}

-- a site stops by a fault, and a stop was armed
abbrev pub fault_where_a_stop_was_armed : Sample
fault_where_a_stop_was_armed = record {
  lines = take 7 stopped_lines;
  trace = at 7 (Stopped 1 cause.Fault) ∷ first_of 7 stopped_trace;
}
