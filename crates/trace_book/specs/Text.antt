-- The text of each record of a trace.
use Rattle.std.specs.Prelude.{ℕ, zero, suc, List, [], ◌∷◌, ◌++◌, ◌==◌, Option, None, Some, cond, codes, get_or}
use Rattle.std.specs.Fmt.{decimal}
use Rattle.std.specs.List.{flat_map, join_by}
use Rattle.hex.specs.Hex.{encode_lower}
use Rattle.locus_ids.specs.Sizes.{sites_max}
use Rattle.locus_ids.specs.Sites.{has}
use Rattle.locus_ids.specs.declared.ids.Kind.{Kind}
use Rattle.locus_ids.specs.declared.ids.Kind.TheVariants as kind
use Rattle.locus_ids.specs.declared.ids.Mode.{Mode}
use Rattle.locus_ids.specs.declared.ids.Mode.TheVariants as mode
use Rattle.locus_ids.specs.declared.ids.FileId.{FileId}
use Rattle.locus_ids.specs.declared.ids.Stamp.{Stamp}
use Rattle.locus_ids.specs.declared.ids.EpochId.{EpochId}
use Rattle.locus_ids.specs.declared.ids.CallId.{CallId}
use Rattle.locus_ids.specs.declared.ids.Serial.{Serial}
use Rattle.locus_ids.specs.declared.ids.Member.{Member}
use Rattle.locus_ids.specs.declared.ids.Brought.{Brought}
use Rattle.locus_ids.specs.declared.sites.Sites.{Sites}
use Rattle.locus_ids.specs.declared.sites.Members.{Members}
use Rattle.locus_ids.specs.declared.refusal.Refusal.{Refusal}
use Rattle.locus_ids.specs.declared.refusal.Refusal.TheVariants as refusal
use Rattle.trace_book.specs.declared.call.OpenMode.{OpenMode}
use Rattle.trace_book.specs.declared.call.OpenMode.TheVariants as opening
use Rattle.trace_book.specs.declared.call.Call.{Call}
use Rattle.trace_book.specs.declared.call.Call.TheVariants as call
use Rattle.trace_book.specs.declared.operation.Op.{Op}
use Rattle.trace_book.specs.declared.operation.Op.TheVariants as op
use Rattle.trace_book.specs.declared.operation.Outcome.{Outcome}
use Rattle.trace_book.specs.declared.operation.Outcome.TheVariants as outcome
use Rattle.trace_book.specs.declared.operation.What.{What}
use Rattle.trace_book.specs.declared.operation.What.TheVariants as what
use Rattle.trace_book.specs.declared.operation.Served.{Served}
use Rattle.trace_book.specs.declared.operation.Served.TheVariants as served
use Rattle.trace_book.specs.declared.packet_kind.PacketKind.{PacketKind}
use Rattle.trace_book.specs.declared.packet_kind.PacketKind.TheVariants as packet
use Rattle.trace_book.specs.declared.reply.Reply.{Reply}
use Rattle.trace_book.specs.declared.reply.Reply.TheVariants as reply
use Rattle.trace_book.specs.declared.record.StopCause.{StopCause}
use Rattle.trace_book.specs.declared.record.StopCause.TheVariants as cause
use Rattle.trace_book.specs.declared.record.Record.{Record}
use Rattle.trace_book.specs.declared.record.Record.TheVariants.{Up, Stopped, Leave, Join, Start, Accept, Look, Grant, Refuse, Act, Commit, Release, Adopt, Answer, Packet, Void, Budget}
use Rattle.trace_book.specs.declared.entry.Entry.{Entry}

-- a number is written in decimal, with no leading zero
abbrev pub number : ℕ → List ℕ
number n = decimal n

-- one space
abbrev pub gap : List ℕ
gap = codes " "

-- these texts with a comma between each two
abbrev pub with_commas : {X : Type 0} → (X → List ℕ) → List X → List ℕ
with_commas text_of xs = join_by text_of (codes ",") xs

-- site.n
abbrev pub stamp_text : Stamp → List ℕ
stamp_text s = number s.site ++ codes "." ++ number s.n

-- a stamp, or - where there is none
abbrev pub optional_stamp_text : Option Stamp → List ℕ
optional_stamp_text None = codes "-"
optional_stamp_text (Some s) = stamp_text s

-- group.inode
abbrev pub file_text : FileId → List ℕ
file_text f = number f.group ++ codes "." ++ number f.ino

-- e and number.site.boot
abbrev pub epoch_text : EpochId → List ℕ
epoch_text e = codes "e" ++ number e.number ++ codes "." ++ number e.site ++ codes "." ++ number e.boot

-- c and site.boot.n
abbrev pub call_id_text : CallId → List ℕ
call_id_text c = codes "c" ++ number c.site ++ codes "." ++ number c.boot ++ codes "." ++ number c.n

-- i and us.serial
abbrev pub serial_text : Serial → List ℕ
serial_text i = codes "i" ++ number i.us ++ codes "." ++ number i.serial

abbrev pub mode_text : Mode → List ℕ
mode_text mode.Read = codes "r"
mode_text mode.Write = codes "w"
mode_text mode.Resolve = codes "x"
mode_text mode.Mend = codes "m"
mode_text mode.Make = codes "n"

abbrev pub kind_text : Kind → List ℕ
kind_text kind.File = codes "f"
kind_text kind.Dir = codes "d"

-- bytes are lower-case hexadecimal, or - where there are none
abbrev pub hex_text : List ℕ → List ℕ
hex_text [] = codes "-"
hex_text (b ∷ bs) = encode_lower (b ∷ bs)

-- those of sites 1 to n that are in the set, ascending
abbrev pub sites_to : Sites → ℕ → List ℕ
sites_to sites zero = []
sites_to sites (suc n) = sites_to sites n ++ cond (has sites (suc n)) (suc n ∷ []) []

abbrev pub sites_text : Sites → List ℕ
sites_text sites = with_commas number (sites_to sites sites_max)

-- those of sites 1 to n that have a boot number here, ascending; 0 is no boot number
abbrev pub members_to : List ℕ → ℕ → List Member
members_to boots zero = []
members_to boots (suc n) = members_to boots n ++ cond (get_or boots n 0 == 0) [] (record { site = suc n; boot = get_or boots n 0 } ∷ [])

-- site:boot
abbrev pub member_text : Member → List ℕ
member_text m = number m.site ++ codes ":" ++ number m.boot

abbrev pub members_text : Members → List ℕ
members_text members = with_commas member_text (members_to members.boot sites_max)

-- inode=stamp, after a space
abbrev pub copy_text : Brought → List ℕ
copy_text c = gap ++ number c.ino ++ codes "=" ++ stamp_text c.stamp

abbrev pub copies_text : List Brought → List ℕ
copies_text copies = flat_map copy_text copies

-- stamps joined by commas, or - where there are none
abbrev pub stamps_text : List Stamp → List ℕ
stamps_text [] = codes "-"
stamps_text (s ∷ ss) = with_commas stamp_text (s ∷ ss)

-- each name after a space
abbrev pub names_text : List (List ℕ) → List ℕ
names_text names = flat_map (λ name. gap ++ name) names

abbrev pub refusal_text : Refusal → List ℕ
refusal_text (refusal.Busy site process) = codes "busy " ++ number site ++ gap ++ number process
refusal_text (refusal.Absent name) = codes "absent " ++ name
refusal_text (refusal.NotDir name) = codes "notdir " ++ name
refusal_text refusal.IsDir = codes "isdir"
refusal_text (refusal.Exists ino) = codes "exists " ++ number ino
refusal_text (refusal.NotEmpty name) = codes "notempty " ++ name
refusal_text (refusal.Conflict a b) = codes "conflict " ++ stamp_text a ++ gap ++ stamp_text b
refusal_text (refusal.Ambiguous a b) = codes "ambiguous " ++ number a ++ gap ++ number b
refusal_text refusal.NoStorage = codes "nostorage"
refusal_text refusal.NoPartition = codes "nopartition"
refusal_text (refusal.Changed epoch) = codes "changed " ++ epoch_text epoch
refusal_text refusal.BadDescriptor = codes "baddescriptor"
refusal_text (refusal.Stale epoch) = codes "stale " ++ epoch_text epoch
refusal_text refusal.TooLong = codes "toolong"
refusal_text (refusal.NoSpace needed free) = codes "nospace " ++ number needed ++ gap ++ number free
refusal_text refusal.NoInode = codes "noinode"
refusal_text refusal.BadName = codes "badname"
refusal_text refusal.ReadOnly = codes "readonly"
refusal_text refusal.NoDescriptor = codes "nodescriptor"
refusal_text refusal.Spent = codes "spent"
refusal_text refusal.NoConflict = codes "noconflict"

-- how a call opens a file
abbrev pub opening_text : OpenMode → List ℕ
opening_text opening.Read = codes "r"
opening_text opening.Write = codes "w"
opening_text (opening.Resolve site) = codes "x " ++ number site
opening_text opening.Steady = codes "s"

abbrev pub call_words : Call → List ℕ
call_words (call.Create path None) = codes "create " ++ path
call_words (call.Create path (Some sites)) = codes "create " ++ path ++ gap ++ sites_text sites
call_words (call.MakeDir path) = codes "mkdir " ++ path
call_words (call.Unlink path) = codes "unlink " ++ path
call_words (call.RemoveDir path) = codes "rmdir " ++ path
call_words (call.Rename path name) = codes "rename " ++ path ++ gap ++ name
call_words (call.List path) = codes "list " ++ path
call_words (call.Stat path) = codes "stat " ++ path
call_words (call.Mail path bytes) = codes "mail " ++ path ++ gap ++ hex_text bytes
call_words (call.Mails path) = codes "mails " ++ path
call_words (call.Open path mode) = codes "open " ++ path ++ gap ++ opening_text mode
call_words (call.Read fd at len) = codes "read " ++ number fd ++ gap ++ number at ++ gap ++ number len
call_words (call.Write fd at bytes) = codes "write " ++ number fd ++ gap ++ number at ++ gap ++ hex_text bytes
call_words (call.Cut fd len) = codes "cut " ++ number fd ++ gap ++ number len
call_words (call.Commit fd) = codes "commit " ++ number fd
call_words (call.Abort fd) = codes "abort " ++ number fd
call_words (call.Close fd) = codes "close " ++ number fd
call_words (call.Mend file) = codes "mend " ++ file_text file

abbrev pub op_text : Op → List ℕ
op_text (op.Probe name) = codes "probe " ++ name
op_text (op.Find component) = codes "find " ++ component
op_text (op.Insert name ino kind) = codes "insert " ++ name ++ gap ++ number ino ++ gap ++ kind_text kind
op_text (op.Remove name ino) = codes "remove " ++ name ++ gap ++ number ino
op_text (op.Rename component name) = codes "rename " ++ component ++ gap ++ name
op_text op.Empty = codes "empty"
op_text (op.Read at len) = codes "read " ++ number at ++ gap ++ number len
op_text (op.Write at bytes) = codes "write " ++ number at ++ gap ++ hex_text bytes
op_text (op.Cut len) = codes "cut " ++ number len
op_text op.Commit = codes "commit"
op_text op.Abort = codes "abort"
op_text op.Mend = codes "mend"

abbrev pub outcome_text : Outcome → List ℕ
outcome_text outcome.Done = codes "ok"
outcome_text (outcome.Found ino kind) = codes "ok " ++ number ino ++ gap ++ kind_text kind
outcome_text (outcome.Data bytes) = codes "ok " ++ hex_text bytes
outcome_text (outcome.Committed stamp) = codes "ok " ++ stamp_text stamp
outcome_text (outcome.No why) = refusal_text why

-- the stamp of a whole content is that which is served, and so not written twice
abbrev pub what_text : What → List ℕ
what_text (what.Name component) = codes "name " ++ component
what_text what.List = codes "list"
what_text what.Stat = codes "stat"
what_text (what.Whole stamp) = codes "whole"

abbrev pub served_text : Served → List ℕ
served_text (served.At stamp) = stamp_text stamp
served_text (served.No why) = refusal_text why

abbrev pub reply_text : Reply → List ℕ
reply_text (reply.Made ino) = codes "ok " ++ number ino
reply_text reply.Done = codes "ok"
reply_text (reply.Names names) = codes "ok" ++ names_text names
reply_text (reply.Stat kind file size stamp) = codes "ok " ++ kind_text kind ++ gap ++ file_text file ++ gap ++ number size ++ gap ++ stamp_text stamp
reply_text (reply.Opened fd) = codes "ok " ++ number fd
reply_text (reply.Data bytes) = codes "ok " ++ hex_text bytes
reply_text (reply.Committed stamp) = codes "ok " ++ stamp_text stamp
reply_text (reply.Closed None) = codes "ok"
reply_text (reply.Closed (Some stamp)) = codes "ok " ++ stamp_text stamp
reply_text (reply.No why) = refusal_text why

abbrev pub cause_text : StopCause → List ℕ
cause_text cause.Asked = codes "asked"
cause_text cause.Fuse = codes "fuse"
cause_text cause.Fault = codes "fault"

abbrev pub packet_kind_text : PacketKind → List ℕ
packet_kind_text packet.Poll = codes "poll"
packet_kind_text packet.Promise = codes "promise"
packet_kind_text packet.Refuse = codes "refuse"
packet_kind_text packet.Install = codes "install"
packet_kind_text packet.Joined = codes "joined"
packet_kind_text packet.Report = codes "report"
packet_kind_text packet.ReportOk = codes "reportok"
packet_kind_text packet.Open = codes "open"
packet_kind_text packet.OpenSs = codes "openss"
packet_kind_text packet.Opened = codes "opened"
packet_kind_text packet.OpenDone = codes "opendone"
packet_kind_text packet.Op = codes "op"
packet_kind_text packet.OpDone = codes "opdone"
packet_kind_text packet.Close = codes "close"
packet_kind_text packet.Closed = codes "closed"
packet_kind_text packet.ClosedOk = codes "closedok"
packet_kind_text packet.CloseDone = codes "closedone"
packet_kind_text packet.Look = codes "look"
packet_kind_text packet.LookSs = codes "lookss"
packet_kind_text packet.LookDone = codes "lookdone"
packet_kind_text packet.Notify = codes "notify"
packet_kind_text packet.Pull = codes "pull"
packet_kind_text packet.Page = codes "page"
packet_kind_text packet.Have = codes "have"
packet_kind_text packet.Want = codes "want"
packet_kind_text packet.Delta = codes "delta"

abbrev pub record_text : Record → List ℕ
record_text (Up site boot) = codes "up " ++ number site ++ gap ++ number boot
record_text (Stopped site cause) = codes "stopped " ++ number site ++ gap ++ cause_text cause
record_text (Leave site epoch) = codes "leave " ++ number site ++ gap ++ epoch_text epoch
record_text (Join site epoch members) = codes "join " ++ number site ++ gap ++ epoch_text epoch ++ gap ++ members_text members
record_text (Start epoch group copies) = codes "start " ++ epoch_text epoch ++ gap ++ number group ++ copies_text copies
record_text (Accept site process call words) = codes "call " ++ number site ++ gap ++ number process ++ gap ++ call_id_text call ++ gap ++ call_words words
record_text (Look epoch call request file what result) = codes "look " ++ epoch_text epoch ++ gap ++ call_id_text call ++ gap ++ number request ++ gap ++ file_text file ++ gap ++ what_text what ++ gap ++ served_text result
record_text (Grant epoch call request inst mode file stamp ss) = codes "grant " ++ epoch_text epoch ++ gap ++ call_id_text call ++ gap ++ number request ++ gap ++ serial_text inst ++ gap ++ mode_text mode ++ gap ++ file_text file ++ gap ++ optional_stamp_text stamp ++ gap ++ number ss
record_text (Refuse epoch call request inst mode file why) = codes "refuse " ++ epoch_text epoch ++ gap ++ call_id_text call ++ gap ++ number request ++ gap ++ serial_text inst ++ gap ++ mode_text mode ++ gap ++ file_text file ++ gap ++ refusal_text why
record_text (Act epoch inst n op result) = codes "act " ++ epoch_text epoch ++ gap ++ serial_text inst ++ gap ++ number n ++ gap ++ op_text op ++ gap ++ outcome_text result
record_text (Commit file site stamp parents content) = codes "commit " ++ file_text file ++ gap ++ number site ++ gap ++ stamp_text stamp ++ gap ++ stamps_text parents ++ gap ++ hex_text content
record_text (Release epoch inst file stamp) = codes "release " ++ epoch_text epoch ++ gap ++ serial_text inst ++ gap ++ file_text file ++ gap ++ optional_stamp_text stamp
record_text (Adopt file site stamp) = codes "adopt " ++ file_text file ++ gap ++ number site ++ gap ++ stamp_text stamp
record_text (Answer site process call reply) = codes "reply " ++ number site ++ gap ++ number process ++ gap ++ call_id_text call ++ gap ++ reply_text reply
record_text (Packet n from to kind) = codes "packet " ++ number n ++ gap ++ number from ++ gap ++ number to ++ gap ++ packet_kind_text kind
record_text Void = codes "void"
record_text Budget = codes "budget"

-- a line of the trace: the line's number, a space, the record, a line feed
abbrev pub entry_text : ℕ → Record → List ℕ
entry_text line r = number line ++ gap ++ record_text r ++ codes "\n"

-- the text of a trace, the earliest entry first
abbrev pub text : List Entry → List ℕ
text entries = flat_map (λ e. entry_text e.line e.what) entries
