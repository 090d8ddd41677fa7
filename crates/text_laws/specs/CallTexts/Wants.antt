-- The ranges of what calls are answered, and of what they want then: those that records of it have.
use Rattle.std.specs.Prelude.{ℕ, Bool, true, ◌&&◌, Option, None, Some}
use Rattle.std.specs.List.{list_all}
use Rattle.locus_ids.specs.Sizes.{file_bytes_max}
use Rattle.locus_ids.specs.declared.config.Mount.{Mount}
use Rattle.trace_book.specs.Names.{is_name}
use Rattle.trace_book.specs.declared.descriptor.Beginning.{Beginning}
use Rattle.trace_book.specs.declared.descriptor.Beginning.TheVariants as begins
use Rattle.trace_book.specs.declared.operation.Op.{Op}
use Rattle.trace_book.specs.declared.operation.Op.TheVariants as op
use Rattle.trace_book.specs.declared.operation.Outcome.{Outcome}
use Rattle.trace_book.specs.declared.operation.Outcome.TheVariants as outcome
use Rattle.trace_book.specs.declared.operation.What.{What}
use Rattle.trace_book.specs.declared.operation.What.TheVariants as what
use Rattle.wire_fields.specs.Components.{is_component}
use Rattle.schedule_lines.specs.Ranges.{is_between}
use Rattle.call_rules.specs.declared.answer.Answer.{Answer}
use Rattle.call_rules.specs.declared.answer.Answer.TheVariants as answer
use Rattle.call_rules.specs.declared.want.Want.{Want}
use Rattle.call_rules.specs.declared.want.Want.TheVariants as want
use Rattle.record_reading.specs.Ranges.{is_call_id, is_data, is_epoch, is_file, is_group, is_inode, is_optional_stamp, is_refusal, is_reply, is_short, is_some_data, is_stamp, number_max}

-- ---- what calls are answered

-- what an operation gives
abbrev pub is_gift : Outcome → Bool
is_gift outcome.Done = true
is_gift (outcome.Found ino kind) = is_inode ino
is_gift (outcome.Data bytes) = is_data 4096 bytes
is_gift (outcome.Committed stamp) = is_stamp stamp
is_gift (outcome.No why) = is_refusal why

abbrev pub is_answer : Answer → Bool
is_answer (answer.Entered ino kind) = is_inode ino
is_answer (answer.Showed names) = list_all is_component names
is_answer (answer.Described kind size stamp) = is_between 0 number_max size && is_stamp stamp
is_answer answer.Brought = true
is_answer (answer.Opened inst ino) = is_inode ino
is_answer (answer.Reading inst version) = is_file version.file && is_stamp version.stamp
is_answer (answer.Merging inst kept) = list_all is_stamp kept
is_answer (answer.Did result) = is_gift result
is_answer (answer.Ended stamp) = is_optional_stamp stamp
is_answer (answer.Refused why) = is_refusal why

-- ---- how calls begin

-- where a call begins by the descriptors of its process; one that walks has a name that a record may say
abbrev pub is_begun : Beginning → Bool
is_begun (begins.Denied why) = is_refusal why
is_begun (begins.Uses epoch inst) = true
is_begun (begins.Walks id) = is_call_id id
is_begun (begins.Reopens kept last) = is_file kept.file && is_epoch last
is_begun begins.Frees = true

-- a number of a descriptor, where one is free
abbrev pub is_free : Option ℕ → Bool
is_free None = true
is_free (Some fd) = is_short fd

-- a group is mounted under a name
abbrev pub is_mount : Mount → Bool
is_mount m = is_group m.group && is_name m.name

-- ---- what calls want

abbrev pub is_asked_op : Op → Bool
is_asked_op (op.Probe name) = is_name name
is_asked_op (op.Find component) = is_component component
is_asked_op (op.Insert name ino kind) = is_name name && is_inode ino
is_asked_op (op.Remove name ino) = is_name name && is_inode ino
is_asked_op (op.Rename component name) = is_component component && is_name name
is_asked_op op.Empty = true
is_asked_op (op.Read at len) = is_between 0 file_bytes_max at && is_between 0 4096 len
is_asked_op (op.Write at bytes) = is_between 0 file_bytes_max at && is_some_data 4096 bytes
is_asked_op (op.Cut len) = is_between 0 file_bytes_max len
is_asked_op op.Commit = true
is_asked_op op.Abort = true
is_asked_op op.Mend = true

abbrev pub is_asked_what : What → Bool
is_asked_what (what.Name component) = is_component component
is_asked_what what.List = true
is_asked_what what.Stat = true
is_asked_what (what.Whole stamp) = is_stamp stamp

abbrev pub is_want : Want → Bool
is_want (want.Look file w) = is_file file && is_asked_what w
is_want (want.Open file mode) = is_file file
is_want (want.OpenToMend file) = is_file file
is_want (want.Make group kind sites) = is_group group
is_want (want.Do inst o) = is_asked_op o
is_want (want.Close inst) = true
is_want (want.Give reply) = is_reply reply
is_want want.Never = true
