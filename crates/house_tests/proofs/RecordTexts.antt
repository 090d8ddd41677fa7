-- The text of each form of record, as a trace has it. What renders a record is proved to write this text, so that a form which its
-- definitions had wrong would show here.
use Rattle.std.specs.Prelude.{◌≡◌, refl, ℕ, List, [], ◌∷◌, ◌++◌, None, Some, codes}
use Rattle.std.specs.Fmt.{digits}
use Rattle.hex.specs.Hex.{encode_with}
use Rattle.locus_ids.specs.declared.ids.Mode.TheVariants as mode
use Rattle.locus_ids.specs.declared.refusal.Refusal.TheVariants as refusal
use Rattle.trace_book.specs.declared.operation.What.TheVariants as what
use Rattle.trace_book.specs.declared.operation.Served.TheVariants as served
use Rattle.trace_book.specs.declared.packet_kind.PacketKind.TheVariants as packet
use Rattle.trace_book.specs.declared.record.StopCause.TheVariants as cause
use Rattle.trace_book.specs.declared.record.Record.{Record}
use Rattle.trace_book.specs.declared.record.Record.TheVariants.{Up, Stopped, Leave, Join, Start, Look, Grant, Refuse, Commit, Release, Adopt, Packet, Void, Budget}
use Rattle.trace_book.specs.Text.{entry_text}
use Rattle.house_tests.proofs.Shown.{epoch, asked, inst, file, stamp, other, lines}

abbrev sites : List Record
sites =
    Up 1 5 ∷
    Stopped 16 cause.Asked ∷
    Stopped 16 cause.Fuse ∷
    Stopped 16 cause.Fault ∷
    Leave 3 epoch ∷
    Join 2 epoch (record { boot = 0 ∷ 1 ∷ 0 ∷ 0 ∷ 0 ∷ 0 ∷ 0 ∷ 0 ∷ 0 ∷ 0 ∷ 0 ∷ 0 ∷ 0 ∷ 0 ∷ 0 ∷ 20 ∷ [] }) ∷
    Void ∷
    Budget ∷
    []

abbrev text_of_sites : List ℕ
text_of_sites =
    codes "80 up 1 5\n" ++
    codes "80 stopped 16 asked\n" ++
    codes "80 stopped 16 fuse\n" ++
    codes "80 stopped 16 fault\n" ++
    codes "80 leave 3 e3.2.1\n" ++
    codes "80 join 2 e3.2.1 2:1,16:20\n" ++
    codes "80 void\n" ++
    codes "80 budget\n" ++
    []

pub sites_are_printed : lines sites ≡ text_of_sites
unfolding digits encode_with
sites_are_printed = refl

abbrev starts : List Record
starts =
    Start epoch 0 [] ∷
    Start epoch 3 (record { ino = 1; stamp = stamp } ∷ record { ino = 1024; stamp = other } ∷ []) ∷
    []

abbrev text_of_starts : List ℕ
text_of_starts =
    codes "80 start e3.2.1 0\n" ++
    codes "80 start e3.2.1 3 1=16.9 1024=2.4294967295\n" ++
    []

pub starts_are_printed : lines starts ≡ text_of_starts
unfolding digits encode_with
starts_are_printed = refl

abbrev versions : List Record
versions =
    Adopt file 5 stamp ∷
    Commit file 16 stamp [] [] ∷
    Commit file 16 stamp (other ∷ record { site = 3; n = 1 } ∷ []) (0 ∷ 171 ∷ 127 ∷ []) ∷
    Release epoch inst file None ∷
    Release epoch inst file (Some stamp) ∷
    []

abbrev text_of_versions : List ℕ
text_of_versions =
    codes "80 adopt 1.64 5 16.9\n" ++
    codes "80 commit 1.64 16 16.9 - -\n" ++
    codes "80 commit 1.64 16 16.9 2.4294967295,3.1 00ab7f\n" ++
    codes "80 release e3.2.1 i4.7 1.64 -\n" ++
    codes "80 release e3.2.1 i4.7 1.64 16.9\n" ++
    []

pub versions_are_printed : lines versions ≡ text_of_versions
unfolding digits encode_with
versions_are_printed = refl

abbrev looks : List Record
looks =
    Look epoch asked 2 file (what.Name (codes "a@7")) (served.At stamp) ∷
    Look epoch asked 2 file what.List (served.At other) ∷
    Look epoch asked 2 file what.Stat (served.No (refusal.Absent (codes "a@7"))) ∷
    Look epoch asked 2 file (what.Whole stamp) (served.No refusal.NoStorage) ∷
    []

abbrev text_of_looks : List ℕ
text_of_looks =
    codes "80 look e3.2.1 c4.1.12 2 1.64 name a@7 16.9\n" ++
    codes "80 look e3.2.1 c4.1.12 2 1.64 list 2.4294967295\n" ++
    codes "80 look e3.2.1 c4.1.12 2 1.64 stat absent a@7\n" ++
    codes "80 look e3.2.1 c4.1.12 2 1.64 whole nostorage\n" ++
    []

pub looks_are_printed : lines looks ≡ text_of_looks
unfolding digits encode_with
looks_are_printed = refl

abbrev opens : List Record
opens =
    Grant epoch asked 65535 inst mode.Read file (Some stamp) 3 ∷
    Grant epoch asked 65535 inst mode.Write file (Some other) 3 ∷
    Grant epoch asked 65535 inst mode.Resolve file (Some stamp) 3 ∷
    Grant epoch asked 65535 inst mode.Mend file None 3 ∷
    Grant epoch asked 65535 inst mode.Make file None 3 ∷
    Refuse epoch asked 3 inst mode.Make (record { group = 2; ino = 0 }) refusal.NoInode ∷
    []

abbrev text_of_opens : List ℕ
text_of_opens =
    codes "80 grant e3.2.1 c4.1.12 65535 i4.7 r 1.64 16.9 3\n" ++
    codes "80 grant e3.2.1 c4.1.12 65535 i4.7 w 1.64 2.4294967295 3\n" ++
    codes "80 grant e3.2.1 c4.1.12 65535 i4.7 x 1.64 16.9 3\n" ++
    codes "80 grant e3.2.1 c4.1.12 65535 i4.7 m 1.64 - 3\n" ++
    codes "80 grant e3.2.1 c4.1.12 65535 i4.7 n 1.64 - 3\n" ++
    codes "80 refuse e3.2.1 c4.1.12 3 i4.7 n 2.0 noinode\n" ++
    []

pub opens_are_printed : lines opens ≡ text_of_opens
unfolding digits encode_with
opens_are_printed = refl

abbrev packets : List Record
packets =
    Packet 4000000000 16 1 packet.Poll ∷
    Packet 4000000000 16 1 packet.Promise ∷
    Packet 4000000000 16 1 packet.Refuse ∷
    Packet 4000000000 16 1 packet.Install ∷
    Packet 4000000000 16 1 packet.Joined ∷
    Packet 4000000000 16 1 packet.Report ∷
    Packet 4000000000 16 1 packet.ReportOk ∷
    Packet 4000000000 16 1 packet.Open ∷
    Packet 4000000000 16 1 packet.OpenSs ∷
    Packet 4000000000 16 1 packet.Opened ∷
    Packet 4000000000 16 1 packet.OpenDone ∷
    Packet 4000000000 16 1 packet.Op ∷
    Packet 4000000000 16 1 packet.OpDone ∷
    Packet 4000000000 16 1 packet.Close ∷
    Packet 4000000000 16 1 packet.Closed ∷
    Packet 4000000000 16 1 packet.ClosedOk ∷
    Packet 4000000000 16 1 packet.CloseDone ∷
    Packet 4000000000 16 1 packet.Look ∷
    Packet 4000000000 16 1 packet.LookSs ∷
    Packet 4000000000 16 1 packet.LookDone ∷
    Packet 4000000000 16 1 packet.Notify ∷
    Packet 4000000000 16 1 packet.Pull ∷
    Packet 4000000000 16 1 packet.Page ∷
    Packet 4000000000 16 1 packet.Have ∷
    Packet 4000000000 16 1 packet.Want ∷
    Packet 4000000000 16 1 packet.Delta ∷
    []

abbrev text_of_packets : List ℕ
text_of_packets =
    codes "80 packet 4000000000 16 1 poll\n" ++
    codes "80 packet 4000000000 16 1 promise\n" ++
    codes "80 packet 4000000000 16 1 refuse\n" ++
    codes "80 packet 4000000000 16 1 install\n" ++
    codes "80 packet 4000000000 16 1 joined\n" ++
    codes "80 packet 4000000000 16 1 report\n" ++
    codes "80 packet 4000000000 16 1 reportok\n" ++
    codes "80 packet 4000000000 16 1 open\n" ++
    codes "80 packet 4000000000 16 1 openss\n" ++
    codes "80 packet 4000000000 16 1 opened\n" ++
    codes "80 packet 4000000000 16 1 opendone\n" ++
    codes "80 packet 4000000000 16 1 op\n" ++
    codes "80 packet 4000000000 16 1 opdone\n" ++
    codes "80 packet 4000000000 16 1 close\n" ++
    codes "80 packet 4000000000 16 1 closed\n" ++
    codes "80 packet 4000000000 16 1 closedok\n" ++
    codes "80 packet 4000000000 16 1 closedone\n" ++
    codes "80 packet 4000000000 16 1 look\n" ++
    codes "80 packet 4000000000 16 1 lookss\n" ++
    codes "80 packet 4000000000 16 1 lookdone\n" ++
    codes "80 packet 4000000000 16 1 notify\n" ++
    codes "80 packet 4000000000 16 1 pull\n" ++
    codes "80 packet 4000000000 16 1 page\n" ++
    codes "80 packet 4000000000 16 1 have\n" ++
    codes "80 packet 4000000000 16 1 want\n" ++
    codes "80 packet 4000000000 16 1 delta\n" ++
    []

pub packets_are_printed : lines packets ≡ text_of_packets
unfolding digits encode_with
packets_are_printed = refl

pub a_long_line_number_is_printed : entry_text 1000000 Void ≡ codes "1000000 void\n"
unfolding digits encode_with
a_long_line_number_is_printed = refl
