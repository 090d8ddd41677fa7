-- The record that some bytes are, as a function of the bytes.
use Rattle.std.specs.Prelude.{ℕ, cond, codes, List, [], Option, None, Some}
use Rattle.std.specs.Option.{option_and_then, option_map}
use Rattle.std.specs.Str.{bytes_eq}
use Rattle.locus_ids.specs.Sizes.{file_bytes_max}
use Rattle.locus_ids.specs.declared.ids.Brought.{Brought}
use Rattle.locus_ids.specs.declared.ids.FileId.{FileId}
use Rattle.locus_ids.specs.declared.ids.Mode.{Mode}
use Rattle.locus_ids.specs.declared.refusal.Refusal.{Refusal}
use Rattle.trace_book.specs.declared.packet_kind.PacketKind.{PacketKind}
use Rattle.trace_book.specs.declared.packet_kind.PacketKind.TheVariants as packet
use Rattle.trace_book.specs.declared.record.Record.{Record}
use Rattle.trace_book.specs.declared.record.Record.TheVariants.{Up, Stopped, Leave, Join, Start, Accept, Look, Grant, Refuse, Act, Commit, Release, Adopt, Answer, Packet, Void, Budget}
use Rattle.trace_book.specs.declared.record.StopCause.{StopCause}
use Rattle.trace_book.specs.declared.record.StopCause.TheVariants as cause
use Rattle.line_text.specs.Words.{two_words}
use Rattle.record_words.specs.Answers.{refusal_in, reply_in}
use Rattle.record_words.specs.Fields.{any_site_in, call_id_in, copies_in, counted_in, data_in, epoch_in, file_from, file_in, group_in, instance_in, members_in, mode_in, optional_stamp_in, process_in, request_in, stamp_in, stamps_in, tested, words_in, words_with}
use Rattle.record_reading.specs.Ranges.{names_inode}
use Rattle.record_reading.specs.Requests.{act_in, call_words_in, look_in}

abbrev pub cause_in : List ℕ → Option StopCause
cause_in w =
    cond (bytes_eq w (codes "asked")) (Some cause.Asked) (
    cond (bytes_eq w (codes "fuse")) (Some cause.Fuse) (
    cond (bytes_eq w (codes "fault")) (Some cause.Fault) None))

-- a packet of the roles that open, read and write
abbrev pub service_packet_in : List ℕ → Option PacketKind
service_packet_in w =
    cond (bytes_eq w (codes "open")) (Some packet.Open) (
    cond (bytes_eq w (codes "openss")) (Some packet.OpenSs) (
    cond (bytes_eq w (codes "opened")) (Some packet.Opened) (
    cond (bytes_eq w (codes "opendone")) (Some packet.OpenDone) (
    cond (bytes_eq w (codes "op")) (Some packet.Op) (
    cond (bytes_eq w (codes "opdone")) (Some packet.OpDone) (
    cond (bytes_eq w (codes "close")) (Some packet.Close) (
    cond (bytes_eq w (codes "closed")) (Some packet.Closed) (
    cond (bytes_eq w (codes "closedok")) (Some packet.ClosedOk) (
    cond (bytes_eq w (codes "closedone")) (Some packet.CloseDone) None)))))))))

-- a packet that carries what a site has
abbrev pub copy_packet_in : List ℕ → Option PacketKind
copy_packet_in w =
    cond (bytes_eq w (codes "look")) (Some packet.Look) (
    cond (bytes_eq w (codes "lookss")) (Some packet.LookSs) (
    cond (bytes_eq w (codes "lookdone")) (Some packet.LookDone) (
    cond (bytes_eq w (codes "notify")) (Some packet.Notify) (
    cond (bytes_eq w (codes "pull")) (Some packet.Pull) (
    cond (bytes_eq w (codes "page")) (Some packet.Page) (
    cond (bytes_eq w (codes "have")) (Some packet.Have) (
    cond (bytes_eq w (codes "want")) (Some packet.Want) (
    cond (bytes_eq w (codes "delta")) (Some packet.Delta) (service_packet_in w)))))))))

abbrev pub packet_in : List ℕ → Option PacketKind
packet_in w =
    cond (bytes_eq w (codes "poll")) (Some packet.Poll) (
    cond (bytes_eq w (codes "promise")) (Some packet.Promise) (
    cond (bytes_eq w (codes "refuse")) (Some packet.Refuse) (
    cond (bytes_eq w (codes "install")) (Some packet.Install) (
    cond (bytes_eq w (codes "joined")) (Some packet.Joined) (
    cond (bytes_eq w (codes "report")) (Some packet.Report) (
    cond (bytes_eq w (codes "reportok")) (Some packet.ReportOk) (copy_packet_in w)))))))

-- ---- sites and epochs

abbrev pub up_in : List ℕ → Option Record
up_in rest = option_map (λ t. Up t.0 t.1) (words_in any_site_in counted_in rest)

abbrev pub stopped_in : List ℕ → Option Record
stopped_in rest = option_map (λ t. Stopped t.0 t.1) (words_in any_site_in cause_in rest)

abbrev pub leave_in : List ℕ → Option Record
leave_in rest = option_map (λ t. Leave t.0 t.1) (words_in any_site_in epoch_in rest)

abbrev pub join_in : List ℕ → Option Record
join_in rest = option_map (λ t. Join t.0 t.1.0 t.1.1) (words_in any_site_in (words_in epoch_in members_in) rest)

-- a group, and the versions that its members brought
abbrev pub group_with : List ℕ → Option (List ℕ × List ℕ) → Option (ℕ × List Brought)
group_with bytes None = option_map (λ group. (group, [])) (group_in bytes)
group_with bytes (Some p) = option_and_then (λ group. option_map (λ copies. (group, copies)) (copies_in p.1)) (group_in p.0)

abbrev pub start_in : List ℕ → Option Record
start_in rest = option_map (λ t. Start t.0 t.1.0 t.1.1) (words_in epoch_in (λ bytes. group_with bytes (two_words bytes)) rest)

abbrev pub packet_record_in : List ℕ → Option Record
packet_record_in rest = option_map (λ t. Packet t.0 t.1.0 t.1.1.0 t.1.1.1) (words_in counted_in (words_in any_site_in (words_in any_site_in packet_in)) rest)

-- ---- calls

abbrev pub accept_in : List ℕ → Option Record
accept_in rest =
    option_map (λ t. Accept t.0 t.1.0 t.1.1.0 t.1.1.1) (words_in any_site_in (words_with process_in (λ process. words_in call_id_in (call_words_in process))) rest)

abbrev pub look_record_in : List ℕ → Option Record
look_record_in rest =
    option_map (λ t. Look t.0 t.1.0 t.1.1.0 t.1.1.1.0 t.1.1.1.1.0 t.1.1.1.1.1) (words_in epoch_in (words_in call_id_in (words_in request_in (words_in file_in look_in))) rest)

abbrev pub answer_in : List ℕ → Option Record
answer_in rest = option_map (λ t. Answer t.0 t.1.0 t.1.1.0 t.1.1.1) (words_in any_site_in (words_in process_in (words_in call_id_in reply_in)) rest)

-- ---- instances

abbrev pub grant_in : List ℕ → Option Record
grant_in rest =
    option_map (λ t. Grant t.0 t.1.0 t.1.1.0 t.1.1.1.0 t.1.1.1.1.0 t.1.1.1.1.1.0 t.1.1.1.1.1.1.0 t.1.1.1.1.1.1.1)
    (words_in epoch_in (words_in call_id_in (words_in request_in (words_in instance_in (words_in mode_in (words_in file_in (words_in optional_stamp_in any_site_in)))))) rest)

-- a mode and a file, which has no inode exactly where a make is refused
abbrev pub refused_file_in : Mode → List ℕ → Option FileId
refused_file_in mode word = tested (λ file. names_inode mode file.ino) (file_from 0 word)

-- the mode of a refused open, its file, and why it is refused
abbrev pub refused_open_in : List ℕ → Option (Mode × (FileId × Refusal))
refused_open_in bytes = words_with mode_in (λ mode. words_in (refused_file_in mode) refusal_in) bytes

abbrev pub refuse_in : List ℕ → Option Record
refuse_in rest =
    option_map (λ t. Refuse t.0 t.1.0 t.1.1.0 t.1.1.1.0 t.1.1.1.1.0 t.1.1.1.1.1.0 t.1.1.1.1.1.1)
    (words_in epoch_in (words_in call_id_in (words_in request_in (words_in instance_in refused_open_in))) rest)

abbrev pub act_record_in : List ℕ → Option Record
act_record_in rest = option_map (λ t. Act t.0 t.1.0 t.1.1.0 t.1.1.1.0 t.1.1.1.1) (words_in epoch_in (words_in instance_in (words_in counted_in act_in)) rest)

abbrev pub release_in : List ℕ → Option Record
release_in rest = option_map (λ t. Release t.0 t.1.0 t.1.1.0 t.1.1.1) (words_in epoch_in (words_in instance_in (words_in file_in optional_stamp_in)) rest)

-- ---- versions

abbrev pub commit_in : List ℕ → Option Record
commit_in rest =
    option_map (λ t. Commit t.0 t.1.0 t.1.1.0 t.1.1.1.0 t.1.1.1.1) (words_in file_in (words_in any_site_in (words_in stamp_in (words_in stamps_in (data_in file_bytes_max)))) rest)

abbrev pub adopt_in : List ℕ → Option Record
adopt_in rest = option_map (λ t. Adopt t.0 t.1.0 t.1.1) (words_in file_in (words_in any_site_in stamp_in) rest)

-- ---- records

abbrev pub short_record : List ℕ → Option Record
short_record w =
    cond (bytes_eq w (codes "void")) (Some Void) (
    cond (bytes_eq w (codes "budget")) (Some Budget) None)

-- a record that keeps bytes or lists
abbrev pub kept_record : List ℕ → List ℕ → Option Record
kept_record w rest =
    cond (bytes_eq w (codes "start")) (start_in rest) (
    cond (bytes_eq w (codes "call")) (accept_in rest) (
    cond (bytes_eq w (codes "look")) (look_record_in rest) (
    cond (bytes_eq w (codes "refuse")) (refuse_in rest) (
    cond (bytes_eq w (codes "act")) (act_record_in rest) (
    cond (bytes_eq w (codes "commit")) (commit_in rest) (
    cond (bytes_eq w (codes "reply")) (answer_in rest) None))))))

-- the record of this first word, and what follows
abbrev pub long_record : List ℕ → List ℕ → Option Record
long_record w rest =
    cond (bytes_eq w (codes "up")) (up_in rest) (
    cond (bytes_eq w (codes "stopped")) (stopped_in rest) (
    cond (bytes_eq w (codes "leave")) (leave_in rest) (
    cond (bytes_eq w (codes "join")) (join_in rest) (
    cond (bytes_eq w (codes "grant")) (grant_in rest) (
    cond (bytes_eq w (codes "release")) (release_in rest) (
    cond (bytes_eq w (codes "adopt")) (adopt_in rest) (
    cond (bytes_eq w (codes "packet")) (packet_record_in rest) (kept_record w rest))))))))

abbrev pub record_of : List ℕ → Option (List ℕ × List ℕ) → Option Record
record_of bytes None = short_record bytes
record_of bytes (Some p) = long_record p.0 p.1

abbrev pub record_in : List ℕ → Option Record
record_in bytes = record_of bytes (two_words bytes)

-- a line of a trace: the number of a line, and the record
abbrev pub line_in : List ℕ → Option (ℕ × Record)
line_in bytes = words_in counted_in record_in bytes
