-- Which records are well-formed: the ranges of what a record says. Nothing here depends on other records or on the cluster.
use Rattle.std.specs.Prelude.{ℕ, ◌==◌, Bool, true, false, ◌&&◌, cond, List, length, nat_le, nat_lt, Option, None, Some}
use Rattle.std.specs.List.{list_all}
use Rattle.locus_ids.specs.Sizes.{file_bytes_max, inodes_max, sites_max}
use Rattle.locus_ids.specs.declared.ids.Brought.{Brought}
use Rattle.locus_ids.specs.declared.ids.CallId.{CallId}
use Rattle.locus_ids.specs.declared.ids.EpochId.{EpochId}
use Rattle.locus_ids.specs.declared.ids.FileId.{FileId}
use Rattle.locus_ids.specs.declared.ids.Mode.{Mode}
use Rattle.locus_ids.specs.declared.ids.Mode.TheVariants as mode
use Rattle.locus_ids.specs.declared.ids.Serial.{Serial}
use Rattle.locus_ids.specs.declared.ids.Stamp.{Stamp}
use Rattle.locus_ids.specs.declared.refusal.Refusal.{Refusal}
use Rattle.locus_ids.specs.declared.refusal.Refusal.TheVariants as refusal
use Rattle.locus_ids.specs.declared.sites.Members.{Members}
use Rattle.trace_book.specs.Names.{is_name}
use Rattle.trace_book.specs.Text.{members_to}
use Rattle.trace_book.specs.declared.call.Call.{Call}
use Rattle.trace_book.specs.declared.call.Call.TheVariants as call
use Rattle.trace_book.specs.declared.operation.Op.{Op}
use Rattle.trace_book.specs.declared.operation.Op.TheVariants as op
use Rattle.trace_book.specs.declared.operation.Outcome.{Outcome}
use Rattle.trace_book.specs.declared.operation.Outcome.TheVariants as outcome
use Rattle.trace_book.specs.declared.operation.Served.{Served}
use Rattle.trace_book.specs.declared.operation.Served.TheVariants as served
use Rattle.trace_book.specs.declared.operation.What.{What}
use Rattle.trace_book.specs.declared.operation.What.TheVariants as what
use Rattle.trace_book.specs.declared.record.Record.{Record}
use Rattle.trace_book.specs.declared.record.Record.TheVariants.{Up, Stopped, Leave, Join, Start, Accept, Look, Grant, Refuse, Act, Commit, Release, Adopt, Answer, Packet, Void, Budget}
use Rattle.trace_book.specs.declared.reply.Reply.{Reply}
use Rattle.trace_book.specs.declared.reply.Reply.TheVariants as reply
use Rattle.schedule_lines.specs.Ranges.{fits_call, is_between, is_byte}
use Rattle.wire_fields.specs.Components.{is_component}
pub use Rattle.record_words.specs.Order.{number_max, agrees, is_stamp_before, is_brought_before, ascend}

-- any site that a cluster can have
abbrev pub is_any_site : ℕ → Bool
is_any_site n = is_between 1 sites_max n

-- a number that is counted from 1
abbrev pub is_counted : ℕ → Bool
is_counted n = is_between 1 number_max n

abbrev pub is_short : ℕ → Bool
is_short n = is_between 0 65535 n

-- process 0 is the system itself
abbrev pub is_process : ℕ → Bool
is_process n = is_between 0 8 n

abbrev pub is_group : ℕ → Bool
is_group n = is_between 0 3 n

abbrev pub is_inode : ℕ → Bool
is_inode n = is_between 1 inodes_max n

-- 0.0, or a site and a number from 1
abbrev pub is_stamp : Stamp → Bool
is_stamp s = is_between 0 sites_max s.site && is_between 0 number_max s.n && agrees s.site s.n

abbrev pub is_optional_stamp : Option Stamp → Bool
is_optional_stamp None = true
is_optional_stamp (Some s) = is_stamp s

abbrev pub is_file : FileId → Bool
is_file f = is_group f.group && is_inode f.ino

abbrev pub is_epoch : EpochId → Bool
is_epoch e = is_counted e.number && (is_any_site e.site && is_counted e.boot)

abbrev pub is_call_id : CallId → Bool
is_call_id c = is_any_site c.site && (is_counted c.boot && is_counted c.n)

abbrev pub is_instance : Serial → Bool
is_instance i = is_any_site i.us && is_counted i.serial

-- the number of a request in its call
abbrev pub is_request : ℕ → Bool
is_request n = is_between 1 65535 n

-- so many bytes at most
abbrev pub is_data : ℕ → List ℕ → Bool
is_data most bytes = nat_le (length bytes) most && list_all is_byte bytes

-- some bytes, and so many at most
abbrev pub is_some_data : ℕ → List ℕ → Bool
is_some_data most bytes = is_between 1 most (length bytes) && list_all is_byte bytes

-- ---- epochs and groups

-- there is a member
abbrev pub is_members : Members → Bool
is_members m = length m.boot == sites_max && list_all (is_between 0 number_max) m.boot && nat_lt 0 (length (members_to m.boot sites_max))

abbrev pub is_brought : Brought → Bool
is_brought b = is_inode b.ino && is_stamp b.stamp

-- ---- answers

abbrev pub is_refusal : Refusal → Bool
is_refusal (refusal.Busy site process) = is_any_site site && is_process process
is_refusal (refusal.Absent name) = is_component name
is_refusal (refusal.NotDir name) = is_component name
is_refusal refusal.IsDir = true
is_refusal (refusal.Exists ino) = is_inode ino
is_refusal (refusal.NotEmpty name) = is_component name
is_refusal (refusal.Conflict a b) = is_stamp a && is_stamp b
is_refusal (refusal.Ambiguous a b) = is_inode a && is_inode b
is_refusal refusal.NoStorage = true
is_refusal refusal.NoPartition = true
is_refusal (refusal.Changed epoch) = is_epoch epoch
is_refusal refusal.BadDescriptor = true
is_refusal (refusal.Stale epoch) = is_epoch epoch
is_refusal refusal.TooLong = true
is_refusal (refusal.NoSpace needed free) = is_short needed && is_short free
is_refusal refusal.NoInode = true
is_refusal refusal.BadName = true
is_refusal refusal.ReadOnly = true
is_refusal refusal.NoDescriptor = true
is_refusal refusal.Spent = true
is_refusal refusal.NoConflict = true

abbrev pub is_served : Served → Bool
is_served (served.At stamp) = is_stamp stamp
is_served (served.No why) = is_refusal why

-- what an operation gives that gives nothing
abbrev pub is_done : Outcome → Bool
is_done outcome.Done = true
is_done (outcome.Found ino kind) = false
is_done (outcome.Data bytes) = false
is_done (outcome.Committed stamp) = false
is_done (outcome.No why) = is_refusal why

abbrev pub is_found : Outcome → Bool
is_found outcome.Done = false
is_found (outcome.Found ino kind) = is_inode ino
is_found (outcome.Data bytes) = false
is_found (outcome.Committed stamp) = false
is_found (outcome.No why) = is_refusal why

abbrev pub is_read : Outcome → Bool
is_read outcome.Done = false
is_read (outcome.Found ino kind) = false
is_read (outcome.Data bytes) = is_data 4096 bytes
is_read (outcome.Committed stamp) = false
is_read (outcome.No why) = is_refusal why

abbrev pub is_committed : Outcome → Bool
is_committed outcome.Done = false
is_committed (outcome.Found ino kind) = false
is_committed (outcome.Data bytes) = false
is_committed (outcome.Committed stamp) = is_stamp stamp
is_committed (outcome.No why) = is_refusal why

abbrev pub is_reply : Reply → Bool
is_reply (reply.Made ino) = is_inode ino
is_reply reply.Done = true
is_reply (reply.Names names) = list_all is_component names
is_reply (reply.Stat kind file size stamp) = is_file file && (is_between 0 number_max size && is_stamp stamp)
is_reply (reply.Opened fd) = is_short fd
is_reply (reply.Data bytes) = is_data 4096 bytes
is_reply (reply.Committed stamp) = is_stamp stamp
is_reply (reply.Closed stamp) = is_optional_stamp stamp
is_reply (reply.No why) = is_refusal why

-- ---- what is asked

-- an operation with what it gives
abbrev pub is_act : Op → Outcome → Bool
is_act (op.Probe name) o = is_name name && is_done o
is_act (op.Find component) o = is_component component && is_found o
is_act (op.Insert name ino kind) o = is_name name && (is_inode ino && is_done o)
is_act (op.Remove name ino) o = is_name name && (is_inode ino && is_done o)
is_act (op.Rename component name) o = is_component component && (is_name name && is_done o)
is_act op.Empty o = is_done o
is_act (op.Read at len) o = is_between 0 file_bytes_max at && (is_between 0 4096 len && is_read o)
is_act (op.Write at bytes) o = is_between 0 file_bytes_max at && (is_some_data 4096 bytes && is_done o)
is_act (op.Cut len) o = is_between 0 file_bytes_max len && is_done o
is_act op.Commit o = is_committed o
is_act op.Abort o = is_done o
is_act op.Mend o = is_done o

-- what is looked up, with what is served
abbrev pub is_look : What → Served → Bool
is_look (what.Name component) s = is_component component && is_served s
is_look what.List s = is_served s
is_look what.Stat s = is_served s
is_look (what.Whole stamp) s = is_stamp stamp && is_served s

-- the system calls a mend alone
abbrev pub is_mend : Call → Bool
is_mend (call.Mend file) = is_file file
is_mend other = false

-- the words of a call of this process
abbrev pub is_words : ℕ → Call → Bool
is_words process c = cond (process == 0) (is_mend c) (fits_call sites_max c)

-- a make is refused without an inode, and every other open with one
abbrev pub names_inode : Mode → ℕ → Bool
names_inode mode.Read ino = nat_lt 0 ino
names_inode mode.Write ino = nat_lt 0 ino
names_inode mode.Resolve ino = nat_lt 0 ino
names_inode mode.Mend ino = nat_lt 0 ino
names_inode mode.Make ino = ino == 0

abbrev pub is_refused_file : Mode → FileId → Bool
is_refused_file m f = is_group f.group && is_between 0 inodes_max f.ino && names_inode m f.ino

abbrev pub is_record : Record → Bool
is_record (Up site boot) = is_any_site site && is_counted boot
is_record (Stopped site cause) = is_any_site site
is_record (Leave site epoch) = is_any_site site && is_epoch epoch
is_record (Join site epoch members) = is_any_site site && (is_epoch epoch && is_members members)
is_record (Start epoch group copies) = is_epoch epoch && (is_group group && (list_all is_brought copies && ascend copies))
is_record (Accept site process call words) = is_any_site site && (is_process process && (is_call_id call && is_words process words))
is_record (Look epoch call request file what result) = is_epoch epoch && (is_call_id call && (is_request request && (is_file file && is_look what result)))
is_record (Grant epoch call request inst mode file stamp ss) = is_epoch epoch && (is_call_id call && (is_request request && (is_instance inst && (is_file file && (is_optional_stamp stamp && is_any_site ss)))))
is_record (Refuse epoch call request inst mode file why) = is_epoch epoch && (is_call_id call && (is_request request && (is_instance inst && (is_refused_file mode file && is_refusal why))))
is_record (Act epoch inst n op result) = is_epoch epoch && (is_instance inst && (is_counted n && is_act op result))
is_record (Commit file site stamp parents content) = is_file file && (is_any_site site && (is_stamp stamp && (list_all is_stamp parents && is_data file_bytes_max content)))
is_record (Release epoch inst file stamp) = is_epoch epoch && (is_instance inst && (is_file file && is_optional_stamp stamp))
is_record (Adopt file site stamp) = is_file file && (is_any_site site && is_stamp stamp)
is_record (Answer site process call reply) = is_any_site site && (is_process process && (is_call_id call && is_reply reply))
is_record (Packet n from to kind) = is_counted n && (is_any_site from && is_any_site to)
is_record Void = true
is_record Budget = true
