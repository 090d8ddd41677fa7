-- The current request of a call, at its using site: the packet that asks it, and the packet of its repeats.
use Rattle.std.specs.Prelude.{ℕ, ◌+◌, ◌*◌, ◌==◌, true, false, List, [], ◌∷◌, Option, Some, None}
use Rattle.std.specs.List.{flat_map}
use Rattle.locus_ids.specs.declared.ids.FileId.{FileId}
use Rattle.locus_ids.specs.declared.ids.Serial.{Serial}
use Rattle.locus_ids.specs.declared.ids.Kind.{Kind}
use Rattle.locus_ids.specs.declared.sites.Sites.{Sites}
use Rattle.locus_ids.specs.declared.config.Config.{Config}
use Rattle.locus_ids.specs.Sizes.{descriptor_span}
use Rattle.dir_reconcile.specs.of_dir_format.Entries.{nothing_seen}
use Rattle.wire_messages.specs.of_trace_book.declared.call.OpenMode.{OpenMode}
use Rattle.wire_messages.specs.of_trace_book.declared.call.OpenMode.TheVariants as mode
use Rattle.wire_messages.specs.of_trace_book.declared.call.Call.{Call}
use Rattle.wire_messages.specs.of_trace_book.declared.call.Call.TheVariants as call
use Rattle.wire_messages.specs.of_trace_book.declared.operation.Op.{Op}
use Rattle.wire_messages.specs.of_trace_book.declared.operation.Op.TheVariants as op
use Rattle.wire_messages.specs.of_trace_book.declared.operation.What.{What}
use Rattle.wire_messages.specs.of_trace_book.declared.descriptor.Descriptor.{Descriptor}
use Rattle.call_rules.specs.declared.answer.Answer.{Answer}
use Rattle.call_rules.specs.declared.answer.Answer.TheVariants as answer
use Rattle.wire_messages.specs.declared.packet.Packet.{Packet}
use Rattle.wire_messages.specs.declared.body.Opening.{Opening}
use Rattle.wire_messages.specs.declared.body.Opening.TheVariants as how
use Rattle.wire_messages.specs.declared.body.Body.{Body}
use Rattle.wire_messages.specs.declared.body.Body.TheVariants as body
use Rattle.role_steps.specs.Tables.{row, with_row, without_row}
use Rattle.role_steps.specs.Views.{Frame, Users, Outcome, quiet, sends, packet, to_sync, pack_sites}
use Rattle.role_steps.specs.declared.users.Asking.{Asking}
use Rattle.role_steps.specs.declared.users.Asking.TheVariants as asking
use Rattle.role_steps.specs.declared.users.WaitingCall.{WaitingCall}
use Rattle.role_steps.specs.declared.users.UserInstance.{UserInstance}
use Rattle.role_steps.specs.declared.users.DescriptorRow.{DescriptorRow}

-- ---- tables ----

-- groups, which are the keys of mends, are below this, and the key of any other call is this times its process
abbrev pub waiting_span : ℕ
waiting_span = 16

-- mends are of process 0, one a group
abbrev pub waiting_of : ℕ → Call → ℕ
waiting_of process (call.Mend file) = file.group
waiting_of process _ = waiting_span * process

abbrev pub waiting_key : WaitingCall → ℕ
waiting_key w = waiting_of w.process w.words

abbrev pub with_waiting : WaitingCall → Users → Users
with_waiting w u = record u { waiting = with_row waiting_key w u.waiting }

abbrev pub without_waiting : WaitingCall → Users → Users
without_waiting w u = record u { waiting = without_row waiting_key (waiting_key w) u.waiting }

abbrev pub instance_serial : UserInstance → ℕ
instance_serial i = i.serial

abbrev pub user_instance : Users → ℕ → Option UserInstance
user_instance u serial = row instance_serial serial u.instances

abbrev pub with_user_instance : UserInstance → Users → Users
with_user_instance i u = record u { instances = with_row instance_serial i u.instances }

abbrev pub without_user_instance : ℕ → Users → Users
without_user_instance serial u = record u { instances = without_row instance_serial serial u.instances }

abbrev pub fd_key : ℕ → ℕ → ℕ
fd_key process fd = process * descriptor_span + fd

abbrev pub descriptor_key : DescriptorRow → ℕ
descriptor_key d = fd_key d.process d.fd

abbrev pub descriptor_in : Option DescriptorRow → Option Descriptor
descriptor_in None = None
descriptor_in (Some d) = Some d.descriptor

-- the descriptors of a process, as a function of their numbers
abbrev pub descriptors_of : Users → ℕ → ℕ → Option Descriptor
descriptors_of u process fd = descriptor_in (row descriptor_key (fd_key process fd) u.descriptors)

abbrev pub with_descriptor : DescriptorRow → Users → Users
with_descriptor d u = record u { descriptors = with_row descriptor_key d u.descriptors }

abbrev pub without_descriptor : ℕ → ℕ → Users → Users
without_descriptor process fd u = record u { descriptors = without_row descriptor_key (fd_key process fd) u.descriptors }

-- ---- packets of a request ----

-- a read whose bytes are at the site asks for their number alone
abbrev pub operation_body : Option (List ℕ) → ℕ → ℕ → Op → List ℕ → Body
operation_body (Some bytes) serial number (op.Read at len) seen = body.ReadHeld serial number at len
operation_body copied serial number o seen = body.Op serial number o seen

abbrev pub request_packets : Frame → WaitingCall → Asking → List Packet
request_packets f w (asking.Look file what take) = to_sync f file.group (body.Look w.call w.process w.request take file what)
request_packets f w (asking.Open serial file how) = to_sync f file.group (body.Open serial w.call w.process w.request file how)
request_packets f w (asking.Op serial ss number o seen) = packet f ss (operation_body w.copied serial number o seen) ∷ []
request_packets f w (asking.Close serial ss) = packet f ss (body.Close serial) ∷ []

abbrev pub asks : Frame → WaitingCall → Users → Outcome Users
asks f w u = sends (request_packets f w w.asking) (with_waiting w u)

-- the next request of a call; requests are numbered from 1
abbrev pub next_request : WaitingCall → Asking → WaitingCall
next_request w a = record w { request = w.request + 1; asking = a }

-- ---- what each kind of request is ----

abbrev pub opening_of : OpenMode → Opening
opening_of mode.Read = how.Read
opening_of mode.Write = how.Write
opening_of (mode.Resolve site) = how.Resolve site
opening_of mode.Steady = how.Read

-- a make without a list is for all packs of the group
abbrev pub made_for : Config → ℕ → Option Sites → Sites
made_for c group None = pack_sites c group
made_for c group (Some sites) = sites

abbrev pub asks_look : Frame → WaitingCall → FileId → What → Users → Outcome Users
asks_look f w file what u = asks f (next_request w (asking.Look file what 1)) u

-- each open has a serial number of its own
abbrev pub asks_open : Frame → WaitingCall → FileId → Opening → Users → Outcome Users
asks_open f w file how u = asks f (next_request w (asking.Open (u.serials + 1) file how)) (record u { serials = u.serials + 1 })

abbrev pub asks_make : Frame → WaitingCall → ℕ → Kind → Option Sites → Users → Outcome Users
asks_make f w group kind sites u = asks_open f w (record { group = group; ino = 0 }) (how.Make (made_for f.config group sites) kind) u

-- the serial of the instance that this call opened of an inode
abbrev pub opened_serial : ℕ → List Answer → Option ℕ
opened_serial ino [] = None
opened_serial ino (answer.Opened inst found ∷ rest) = elim (found == ino) [
  | true ↦ Some inst.serial
  | false ↦ opened_serial ino rest
]
opened_serial ino (_ ∷ rest) = opened_serial ino rest

abbrev pub vector_in : Option UserInstance → List ℕ
vector_in None = nothing_seen
vector_in (Some i) = i.vector

abbrev pub vector_opened : Users → Option ℕ → List ℕ
vector_opened u None = nothing_seen
vector_opened u (Some serial) = vector_in (user_instance u serial)

-- a remove has seen the version on which the call opened the file that the entry names
abbrev pub seen_by : Users → List Answer → Op → List ℕ
seen_by u answers (op.Remove name ino) = vector_opened u (opened_serial ino answers)
seen_by u answers _ = nothing_seen

-- operations of an instance are numbered from 1
abbrev pub asks_op_of : Frame → WaitingCall → Op → Option UserInstance → Users → Outcome Users
asks_op_of f w o None u = quiet u
asks_op_of f w o (Some i) u =
    asks f (next_request w (asking.Op i.serial i.ss (i.ops + 1) o (seen_by u w.answers o))) (with_user_instance (record i { ops = i.ops + 1 }) u)

abbrev pub asks_op : Frame → WaitingCall → Serial → Op → Users → Outcome Users
asks_op f w inst o u = asks_op_of f w o (user_instance u inst.serial) u

abbrev pub asks_close_of : Frame → WaitingCall → Option UserInstance → Users → Outcome Users
asks_close_of f w None u = quiet u
asks_close_of f w (Some i) u = asks f (next_request w (asking.Close i.serial i.ss)) u

abbrev pub asks_close : Frame → WaitingCall → Serial → Users → Outcome Users
asks_close f w inst u = asks_close_of f w (user_instance u inst.serial) u

-- ---- a tick: the current request of each waiting call, by process ----

abbrev pub users_repeats : Frame → Users → List Packet
users_repeats f u = flat_map (λ (w : WaitingCall). request_packets f w w.asking) u.waiting
