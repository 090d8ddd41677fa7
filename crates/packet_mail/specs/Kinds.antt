-- The kind of each number.
use Rattle.std.specs.Prelude.{ℕ, ◌==◌, cond}
use Rattle.trace_book.specs.declared.packet_kind.PacketKind.{PacketKind}
use Rattle.trace_book.specs.declared.packet_kind.PacketKind.TheVariants as packet

-- the kind of this number; the last one for any other number
abbrev pub kind_numbered : ℕ → PacketKind
kind_numbered n =
    cond (n == 1) packet.Poll (
    cond (n == 2) packet.Promise (
    cond (n == 3) packet.Refuse (
    cond (n == 4) packet.Install (
    cond (n == 5) packet.Joined (
    cond (n == 6) packet.Report (
    cond (n == 7) packet.ReportOk (
    cond (n == 8) packet.Open (
    cond (n == 9) packet.OpenSs (
    cond (n == 10) packet.Opened (
    cond (n == 11) packet.OpenDone (
    cond (n == 12) packet.Op (
    cond (n == 13) packet.OpDone (
    cond (n == 14) packet.Close (
    cond (n == 15) packet.Closed (
    cond (n == 16) packet.ClosedOk (
    cond (n == 17) packet.CloseDone (
    cond (n == 18) packet.Look (
    cond (n == 19) packet.LookSs (
    cond (n == 20) packet.LookDone (
    cond (n == 21) packet.Notify (
    cond (n == 22) packet.Pull (
    cond (n == 23) packet.Page (
    cond (n == 24) packet.Have (
    cond (n == 25) packet.Want packet.Delta))))))))))))))))))))))))
