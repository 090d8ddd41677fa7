-- The bodies of packets as bytes, by cases on the kind and its fields.
use Rattle.std.specs.Prelude.{ℕ, ◌<◌, ◌^◌, List}
use Rattle.wire_fields.specs.of_locus_ids.Sizes.{page_bytes}
use Rattle.wire_fields.specs.of_locus_ids.declared.ids.FileId.{FileId}
use Rattle.wire_fields.specs.of_locus_ids.declared.ids.Kind.{Kind}
use Rattle.wire_fields.specs.of_locus_ids.declared.ids.Mode.{Mode}
use Rattle.wire_fields.specs.of_locus_ids.declared.ids.Serial.{Serial}
use Rattle.wire_fields.specs.of_locus_ids.declared.ids.Stamp.{Stamp}
use Rattle.wire_fields.specs.of_locus_ids.declared.sites.Sites.{Sites}
use Rattle.wire_fields.specs.of_trace_book.declared.operation.What.{What}
use Rattle.wire_fields.specs.of_trace_book.declared.packet_kind.PacketKind.{PacketKind}
use Rattle.wire_fields.specs.of_trace_book.declared.packet_kind.PacketKind.TheVariants as packet
use Rattle.wire_fields.specs.of_field_codec.Codec.{Codec, u8, u16, u32, u16_in, pair, followed_by, empty}
use Rattle.wire_fields.specs.of_field_codec.Sums.{Kinds, kind, no_kind}
use Rattle.wire_fields.specs.of_field_codec.Lists.{ascending}
use Rattle.wire_fields.specs.of_field_codec.Shapes.{Spelled, by, bytes_of, IsInRange, case_of, counted_bytes}
use Rattle.wire_fields.specs.Parts.{sites, numbers, processes, sizes, epochs, instances, files, files_or_new, any_set, some_set, kinds, stamps, ascending_stamps, vectors}
use Rattle.wire_fields.specs.Memberships.{members}
use Rattle.wire_fields.specs.Operations.{ops, outcomes, whats}
use Rattle.wire_fields.specs.declared.asked.Asked.{Asked}
use Rattle.wire_fields.specs.declared.asked.Asked.TheVariants as asked
use Rattle.wire_fields.specs.declared.asked.Gave.{Gave}
use Rattle.wire_fields.specs.declared.asked.Gave.TheVariants as gave
use Rattle.wire_messages.specs.declared.body.Opening.{Opening}
use Rattle.wire_messages.specs.declared.body.Body.{Body}
use Rattle.wire_messages.specs.declared.body.Body.TheVariants as body
use Rattle.wire_messages.specs.Answers.{is_new, modes, openings, versions, reported_copies, opened_answers, granted_answers, made_answers, close_answers, look_answers}

abbrev pub kind_number : Body → ℕ
kind_number body.Poll = 1
kind_number (body.Promise _) = 2
kind_number (body.Refuse _) = 3
kind_number (body.Install _) = 4
kind_number body.Joined = 5
kind_number (body.Report _ _) = 6
kind_number (body.ReportOk _) = 7
kind_number (body.Open _ _ _ _ _ _) = 8
kind_number (body.OpenSs _ _ _ _ _ _ _ _) = 9
kind_number (body.Opened _ _) = 10
kind_number (body.OpenDone _ _) = 11
kind_number (body.Op _ _ _ _) = 12
kind_number (body.OpDone _ _ _) = 13
kind_number (body.ReadHeld _ _ _ _) = 12
kind_number (body.AsHeld _ _ _) = 13
kind_number (body.Close _) = 14
kind_number (body.Closed _ _) = 15
kind_number (body.ClosedOk _) = 16
kind_number (body.CloseDone _ _) = 17
kind_number (body.Look _ _ _ _ _ _) = 18
kind_number (body.LookSs _ _ _ _ _ _ _ _) = 19
kind_number (body.LookDone _ _ _ _) = 20
kind_number (body.Notify _ _ _ _ _ _ _) = 21
kind_number (body.Pull _ _ _) = 22
kind_number (body.Page _ _ _ _) = 23
kind_number (body.Have _ _) = 24
kind_number (body.Want _ _ _) = 25
kind_number (body.Delta _ _ _) = 26

abbrev pub kind_of : Body → PacketKind
kind_of body.Poll = packet.Poll
kind_of (body.Promise _) = packet.Promise
kind_of (body.Refuse _) = packet.Refuse
kind_of (body.Install _) = packet.Install
kind_of body.Joined = packet.Joined
kind_of (body.Report _ _) = packet.Report
kind_of (body.ReportOk _) = packet.ReportOk
kind_of (body.Open _ _ _ _ _ _) = packet.Open
kind_of (body.OpenSs _ _ _ _ _ _ _ _) = packet.OpenSs
kind_of (body.Opened _ _) = packet.Opened
kind_of (body.OpenDone _ _) = packet.OpenDone
kind_of (body.Op _ _ _ _) = packet.Op
kind_of (body.OpDone _ _ _) = packet.OpDone
kind_of (body.ReadHeld _ _ _ _) = packet.Op
kind_of (body.AsHeld _ _ _) = packet.OpDone
kind_of (body.Close _) = packet.Close
kind_of (body.Closed _ _) = packet.Closed
kind_of (body.ClosedOk _) = packet.ClosedOk
kind_of (body.CloseDone _ _) = packet.CloseDone
kind_of (body.Look _ _ _ _ _ _) = packet.Look
kind_of (body.LookSs _ _ _ _ _ _ _ _) = packet.LookSs
kind_of (body.LookDone _ _ _ _) = packet.LookDone
kind_of (body.Notify _ _ _ _ _ _ _) = packet.Notify
kind_of (body.Pull _ _ _) = packet.Pull
kind_of (body.Page _ _ _ _) = packet.Page
kind_of (body.Have _ _) = packet.Have
kind_of (body.Want _ _ _) = packet.Want
kind_of (body.Delta _ _ _) = packet.Delta

-- the serial, call, process, request, file, and how it is to be opened
abbrev pub opens : Codec (ℕ × (ℕ × (ℕ × (ℕ × (FileId × Opening)))))
opens = pair numbers (pair u32 (pair processes (pair u16 (followed_by files_or_new (λ file. openings (is_new file))))))

-- the instance, file, mode, set, kind, base stamp, base vector and parents
abbrev pub storage_opens : Codec (Serial × ((FileId × Mode) × (Sites × (Kind × (Stamp × (List ℕ × List Stamp))))))
storage_opens = pair instances (pair (followed_by files_or_new (λ file. modes (is_new file))) (pair some_set (pair kinds (pair stamps (pair vectors ascending_stamps)))))

-- the call, process, request, take, file, and what is asked
abbrev pub looks : Codec (ℕ × (ℕ × (ℕ × (ℕ × (FileId × What)))))
looks = pair u32 (pair processes (pair u16 (pair u32 (pair files whats))))

-- the file, kind, set, size, stamp and vector, and the holder
abbrev pub notices : Codec (FileId × (Kind × (Sites × (ℕ × ((Stamp × List ℕ) × ℕ)))))
notices = pair files (pair kinds (pair some_set (pair sizes (pair versions sites))))

-- a page of a version: the file, the stamp and the page's number
abbrev pub pages : Codec (FileId × (Stamp × ℕ))
pages = pair files (pair stamps u8)

-- 1 to 1,024 bytes
abbrev pub carried_bytes : Codec (List ℕ)
carried_bytes = counted_bytes (u16_in 1 page_bytes)

-- what is asked of an instance, and what it gave
abbrev pub op_body : ℕ → ℕ → Asked → Body
op_body serial number (asked.Op op seen) = body.Op serial number op seen
op_body serial number (asked.Held at len) = body.ReadHeld serial number at len

abbrev pub op_done_body : ℕ → ℕ → Gave → Body
op_done_body serial number (gave.Outcome outcome) = body.OpDone serial number outcome
op_done_body serial number (gave.AsHeld len) = body.AsHeld serial number len

-- the file, the wanted stamp and the own one
abbrev pub wants : Codec (FileId × (Stamp × Stamp))
wants = pair files (pair stamps stamps)

-- a count, and so many numbers of pages that ascend
abbrev pub page_numbers : Codec (List ℕ)
page_numbers = ascending (λ page. page) u16 u16

-- what stands in the body of each kind
abbrev pub body_fields : Body → Spelled
body_fields body.Poll = by empty tt
body_fields (body.Promise reach) = by any_set reach
body_fields (body.Refuse promised) = by epochs promised
body_fields (body.Install m) = by members m
body_fields body.Joined = by empty tt
body_fields (body.Report group copies) = by (pair u8 reported_copies) (group, copies)
body_fields (body.ReportOk group) = by u8 group
body_fields (body.Open serial call process request file how) = by opens (serial, (call, (process, (request, (file, how)))))
body_fields (body.OpenSs inst file mode set k base vector parents) = by storage_opens (inst, ((file, mode), (set, (k, (base, (vector, parents))))))
body_fields (body.Opened inst answer) = by (pair instances opened_answers) (inst, answer)
body_fields (body.OpenDone serial answer) = by (pair numbers granted_answers) (serial, answer)
body_fields (body.Op serial number op seen) = by (pair numbers (pair u32 ops)) (serial, (number, asked.Op op seen))
body_fields (body.OpDone serial number outcome) = by (pair numbers (pair u32 outcomes)) (serial, (number, gave.Outcome outcome))
body_fields (body.ReadHeld serial number at len) = by (pair numbers (pair u32 ops)) (serial, (number, asked.Held at len))
body_fields (body.AsHeld serial number len) = by (pair numbers (pair u32 outcomes)) (serial, (number, gave.AsHeld len))
body_fields (body.Close serial) = by numbers serial
body_fields (body.Closed inst version) = by (pair instances made_answers) (inst, version)
body_fields (body.ClosedOk inst) = by instances inst
body_fields (body.CloseDone serial answer) = by (pair numbers close_answers) (serial, answer)
body_fields (body.Look call process request take file what) = by looks (call, (process, (request, (take, (file, what)))))
body_fields (body.LookSs us call process request take file what serve) = by (pair sites (pair looks stamps)) (us, ((call, (process, (request, (take, (file, what))))), serve))
body_fields (body.LookDone call request take answer) = by (pair u32 (pair u16 (pair u32 look_answers))) (call, (request, (take, answer)))
body_fields (body.Notify file k set size stamp vector holder) = by notices (file, (k, (set, (size, ((stamp, vector), holder)))))
body_fields (body.Pull file stamp page) = by pages (file, (stamp, page))
body_fields (body.Page file stamp page bytes) = by (pair pages carried_bytes) ((file, (stamp, page)), bytes)
body_fields (body.Have file stamp) = by (pair files stamps) (file, stamp)
body_fields (body.Want file wanted own) = by wants (file, (wanted, own))
body_fields (body.Delta file wanted pages) = by (pair files (pair stamps page_numbers)) (file, (wanted, pages))

-- the bytes of a body
abbrev pub body_bytes : Body → List ℕ
body_bytes b = bytes_of (body_fields b)

-- each field of the body is one of its grammar
abbrev pub FitsBody : Body → Type 0
FitsBody b = IsInRange (body_fields b)

abbrev pub body_case : {A : Type 0} → (A → Body) → Codec A → Codec Body
body_case to c = case_of body_fields to c

-- the bodies of one kind
abbrev pub poll_bodies : Codec Body
poll_bodies = body_case (λ _. body.Poll) empty

abbrev pub promise_bodies : Codec Body
promise_bodies = body_case body.Promise any_set

abbrev pub refuse_bodies : Codec Body
refuse_bodies = body_case body.Refuse epochs

abbrev pub install_bodies : Codec Body
install_bodies = body_case body.Install members

abbrev pub joined_bodies : Codec Body
joined_bodies = body_case (λ _. body.Joined) empty

abbrev pub report_bodies : Codec Body
report_bodies = body_case (λ p. body.Report p.0 p.1) (pair u8 reported_copies)

abbrev pub report_ok_bodies : Codec Body
report_ok_bodies = body_case body.ReportOk u8

abbrev pub open_bodies : Codec Body
open_bodies = body_case (λ p. body.Open p.0 p.1.0 p.1.1.0 p.1.1.1.0 p.1.1.1.1.0 p.1.1.1.1.1) opens

abbrev pub open_ss_bodies : Codec Body
open_ss_bodies = body_case (λ p. body.OpenSs p.0 p.1.0.0 p.1.0.1 p.1.1.0 p.1.1.1.0 p.1.1.1.1.0 p.1.1.1.1.1.0 p.1.1.1.1.1.1) storage_opens

abbrev pub opened_bodies : Codec Body
opened_bodies = body_case (λ p. body.Opened p.0 p.1) (pair instances opened_answers)

abbrev pub open_done_bodies : Codec Body
open_done_bodies = body_case (λ p. body.OpenDone p.0 p.1) (pair numbers granted_answers)

abbrev pub op_bodies : Codec Body
op_bodies = body_case (λ p. op_body p.0 p.1.0 p.1.1) (pair numbers (pair u32 ops))

abbrev pub op_done_bodies : Codec Body
op_done_bodies = body_case (λ p. op_done_body p.0 p.1.0 p.1.1) (pair numbers (pair u32 outcomes))

abbrev pub close_bodies : Codec Body
close_bodies = body_case body.Close numbers

abbrev pub closed_bodies : Codec Body
closed_bodies = body_case (λ p. body.Closed p.0 p.1) (pair instances made_answers)

abbrev pub closed_ok_bodies : Codec Body
closed_ok_bodies = body_case body.ClosedOk instances

abbrev pub close_done_bodies : Codec Body
close_done_bodies = body_case (λ p. body.CloseDone p.0 p.1) (pair numbers close_answers)

abbrev pub look_bodies : Codec Body
look_bodies = body_case (λ p. body.Look p.0 p.1.0 p.1.1.0 p.1.1.1.0 p.1.1.1.1.0 p.1.1.1.1.1) looks

abbrev pub look_ss_bodies : Codec Body
look_ss_bodies = body_case (λ p. body.LookSs p.0 p.1.0.0 p.1.0.1.0 p.1.0.1.1.0 p.1.0.1.1.1.0 p.1.0.1.1.1.1.0 p.1.0.1.1.1.1.1 p.1.1) (pair sites (pair looks stamps))

abbrev pub look_done_bodies : Codec Body
look_done_bodies = body_case (λ p. body.LookDone p.0 p.1.0 p.1.1.0 p.1.1.1) (pair u32 (pair u16 (pair u32 look_answers)))

abbrev pub notify_bodies : Codec Body
notify_bodies = body_case (λ p. body.Notify p.0 p.1.0 p.1.1.0 p.1.1.1.0 p.1.1.1.1.0.0 p.1.1.1.1.0.1 p.1.1.1.1.1) notices

abbrev pub pull_bodies : Codec Body
pull_bodies = body_case (λ p. body.Pull p.0 p.1.0 p.1.1) pages

abbrev pub page_bodies : Codec Body
page_bodies = body_case (λ p. body.Page p.0.0 p.0.1.0 p.0.1.1 p.1) (pair pages carried_bytes)

abbrev pub have_bodies : Codec Body
have_bodies = body_case (λ p. body.Have p.0 p.1) (pair files stamps)

abbrev pub want_bodies : Codec Body
want_bodies = body_case (λ p. body.Want p.0 p.1.0 p.1.1) wants

abbrev pub delta_bodies : Codec Body
delta_bodies = body_case (λ p. body.Delta p.0 p.1.0 p.1.1) (pair files (pair stamps page_numbers))

-- the kinds by their numbers
unfoldable pub body_kinds : Kinds Body
body_kinds =
    kind 1 poll_bodies (kind 2 promise_bodies (kind 3 refuse_bodies (kind 4 install_bodies (kind 5 joined_bodies (kind 6 report_bodies (kind 7 report_ok_bodies (kind 8 open_bodies
    (kind 9 open_ss_bodies (kind 10 opened_bodies (kind 11 open_done_bodies (kind 12 op_bodies (kind 13 op_done_bodies (kind 14 close_bodies (kind 15 closed_bodies (kind 16 closed_ok_bodies
    (kind 17 close_done_bodies (kind 18 look_bodies (kind 19 look_ss_bodies (kind 20 look_done_bodies (kind 21 notify_bodies (kind 22 pull_bodies (kind 23 page_bodies (kind 24 have_bodies
    (kind 25 want_bodies (kind 26 delta_bodies no_kind)))))))))))))))))))))))))

-- the bodies of the kind with this number
abbrev pub bodies : ℕ → Codec Body
bodies n = body_kinds.body n
