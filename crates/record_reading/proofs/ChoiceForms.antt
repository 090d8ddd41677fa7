-- The forms of words that are one of a few.
use Rattle.std.proofs.Common.{◌≡◌, ℕ, Bool, true, codes, List, Some, refl}
use Rattle.std.specs.Str.{bytes_eq}
use Rattle.std.proofs.lemmas.Option.{none-some}
use Rattle.locus_ids.specs.declared.ids.Kind.{Kind}
use Rattle.locus_ids.specs.declared.ids.Kind.TheVariants as kind
use Rattle.locus_ids.specs.declared.ids.Mode.{Mode}
use Rattle.locus_ids.specs.declared.ids.Mode.TheVariants as mode
use Rattle.trace_book.specs.Text.{cause_text, kind_text, mode_text, packet_kind_text}
use Rattle.trace_book.specs.declared.packet_kind.PacketKind.{PacketKind}
use Rattle.trace_book.specs.declared.packet_kind.PacketKind.TheVariants as packet
use Rattle.trace_book.specs.declared.record.StopCause.{StopCause}
use Rattle.trace_book.specs.declared.record.StopCause.TheVariants as cause
use Rattle.line_text.proofs.CallForms.{cond_either}
use Rattle.record_words.specs.Fields.{kind_in, mode_in}
use Rattle.record_reading.specs.Records.{cause_in, copy_packet_in, packet_in, service_packet_in}
use Rattle.record_reading.proofs.Bytes.{free}
use Rattle.record_reading.proofs.Cases.{said}
use Rattle.record_reading.proofs.Forms.{Exact, Says, Word}

-- whatever it is
abbrev pub any : {A : Type 0} → A → Bool
any x = true

mode_sound : (w : List ℕ) (y : Mode) → mode_in w ≡ Some y → Says mode_text any w y
mode_sound w y h0 =
    cond_either (bytes_eq w (codes "r")) _ _ _ h0 (λ b e. said mode_text any w (codes "r") mode.Read y b e refl refl) (λ b0 h1.
    cond_either (bytes_eq w (codes "w")) _ _ _ h1 (λ b e. said mode_text any w (codes "w") mode.Write y b e refl refl) (λ b1 h2.
    cond_either (bytes_eq w (codes "x")) _ _ _ h2 (λ b e. said mode_text any w (codes "x") mode.Resolve y b e refl refl) (λ b2 h3.
    cond_either (bytes_eq w (codes "m")) _ _ _ h3 (λ b e. said mode_text any w (codes "m") mode.Mend y b e refl refl) (λ b3 h4.
    cond_either (bytes_eq w (codes "n")) _ _ _ h4 (λ b e. said mode_text any w (codes "n") mode.Make y b e refl refl) (λ b4 h5.
    absurd (none-some y h5))))))

mode_complete : (x : Mode) → any x ≡ true → mode_in (mode_text x) ≡ Some x
mode_complete mode.Read h = refl
mode_complete x h = refl

mode_free : (x : Mode) → any x ≡ true → free 32 (mode_text x) ≡ true
mode_free mode.Read h = refl
mode_free x h = refl

pub mode_word : Word 32 mode_text any mode_in
mode_word = record { form = record { sound = mode_sound; complete = mode_complete }; free = mode_free }

kind_sound : (w : List ℕ) (y : Kind) → kind_in w ≡ Some y → Says kind_text any w y
kind_sound w y h0 =
    cond_either (bytes_eq w (codes "f")) _ _ _ h0 (λ b e. said kind_text any w (codes "f") kind.File y b e refl refl) (λ b0 h1.
    cond_either (bytes_eq w (codes "d")) _ _ _ h1 (λ b e. said kind_text any w (codes "d") kind.Dir y b e refl refl) (λ b1 h2.
    absurd (none-some y h2)))

kind_complete : (x : Kind) → any x ≡ true → kind_in (kind_text x) ≡ Some x
kind_complete kind.File h = refl
kind_complete kind.Dir h = refl

kind_free : (x : Kind) → any x ≡ true → free 32 (kind_text x) ≡ true
kind_free kind.File h = refl
kind_free kind.Dir h = refl

pub kind_word : Word 32 kind_text any kind_in
kind_word = record { form = record { sound = kind_sound; complete = kind_complete }; free = kind_free }

cause_sound : (w : List ℕ) (y : StopCause) → cause_in w ≡ Some y → Says cause_text any w y
cause_sound w y h0 =
    cond_either (bytes_eq w (codes "asked")) _ _ _ h0 (λ b e. said cause_text any w (codes "asked") cause.Asked y b e refl refl) (λ b0 h1.
    cond_either (bytes_eq w (codes "fuse")) _ _ _ h1 (λ b e. said cause_text any w (codes "fuse") cause.Fuse y b e refl refl) (λ b1 h2.
    cond_either (bytes_eq w (codes "fault")) _ _ _ h2 (λ b e. said cause_text any w (codes "fault") cause.Fault y b e refl refl) (λ b2 h3.
    absurd (none-some y h3))))

cause_complete : (x : StopCause) → any x ≡ true → cause_in (cause_text x) ≡ Some x
cause_complete cause.Asked h = refl
cause_complete x h = refl

pub cause_form : Exact cause_text any cause_in
cause_form = record { sound = cause_sound; complete = cause_complete }

service_packet_sound : (w : List ℕ) (y : PacketKind) → service_packet_in w ≡ Some y → Says packet_kind_text any w y
service_packet_sound w y h0 =
    cond_either (bytes_eq w (codes "open")) _ _ _ h0 (λ b e. said packet_kind_text any w (codes "open") packet.Open y b e refl refl) (λ b0 h1.
    cond_either (bytes_eq w (codes "openss")) _ _ _ h1 (λ b e. said packet_kind_text any w (codes "openss") packet.OpenSs y b e refl refl) (λ b1 h2.
    cond_either (bytes_eq w (codes "opened")) _ _ _ h2 (λ b e. said packet_kind_text any w (codes "opened") packet.Opened y b e refl refl) (λ b2 h3.
    cond_either (bytes_eq w (codes "opendone")) _ _ _ h3 (λ b e. said packet_kind_text any w (codes "opendone") packet.OpenDone y b e refl refl) (λ b3 h4.
    cond_either (bytes_eq w (codes "op")) _ _ _ h4 (λ b e. said packet_kind_text any w (codes "op") packet.Op y b e refl refl) (λ b4 h5.
    cond_either (bytes_eq w (codes "opdone")) _ _ _ h5 (λ b e. said packet_kind_text any w (codes "opdone") packet.OpDone y b e refl refl) (λ b5 h6.
    cond_either (bytes_eq w (codes "close")) _ _ _ h6 (λ b e. said packet_kind_text any w (codes "close") packet.Close y b e refl refl) (λ b6 h7.
    cond_either (bytes_eq w (codes "closed")) _ _ _ h7 (λ b e. said packet_kind_text any w (codes "closed") packet.Closed y b e refl refl) (λ b7 h8.
    cond_either (bytes_eq w (codes "closedok")) _ _ _ h8 (λ b e. said packet_kind_text any w (codes "closedok") packet.ClosedOk y b e refl refl) (λ b8 h9.
    cond_either (bytes_eq w (codes "closedone")) _ _ _ h9 (λ b e. said packet_kind_text any w (codes "closedone") packet.CloseDone y b e refl refl) (λ b9 h10.
    absurd (none-some y h10)))))))))))

copy_packet_sound : (w : List ℕ) (y : PacketKind) → copy_packet_in w ≡ Some y → Says packet_kind_text any w y
copy_packet_sound w y h0 =
    cond_either (bytes_eq w (codes "look")) _ _ _ h0 (λ b e. said packet_kind_text any w (codes "look") packet.Look y b e refl refl) (λ b0 h1.
    cond_either (bytes_eq w (codes "lookss")) _ _ _ h1 (λ b e. said packet_kind_text any w (codes "lookss") packet.LookSs y b e refl refl) (λ b1 h2.
    cond_either (bytes_eq w (codes "lookdone")) _ _ _ h2 (λ b e. said packet_kind_text any w (codes "lookdone") packet.LookDone y b e refl refl) (λ b2 h3.
    cond_either (bytes_eq w (codes "notify")) _ _ _ h3 (λ b e. said packet_kind_text any w (codes "notify") packet.Notify y b e refl refl) (λ b3 h4.
    cond_either (bytes_eq w (codes "pull")) _ _ _ h4 (λ b e. said packet_kind_text any w (codes "pull") packet.Pull y b e refl refl) (λ b4 h5.
    cond_either (bytes_eq w (codes "page")) _ _ _ h5 (λ b e. said packet_kind_text any w (codes "page") packet.Page y b e refl refl) (λ b5 h6.
    cond_either (bytes_eq w (codes "have")) _ _ _ h6 (λ b e. said packet_kind_text any w (codes "have") packet.Have y b e refl refl) (λ b6 h7.
    cond_either (bytes_eq w (codes "want")) _ _ _ h7 (λ b e. said packet_kind_text any w (codes "want") packet.Want y b e refl refl) (λ b7 h8.
    cond_either (bytes_eq w (codes "delta")) _ _ _ h8 (λ b e. said packet_kind_text any w (codes "delta") packet.Delta y b e refl refl) (λ b8 h9.
    service_packet_sound w y h9)))))))))

packet_sound : (w : List ℕ) (y : PacketKind) → packet_in w ≡ Some y → Says packet_kind_text any w y
packet_sound w y h0 =
    cond_either (bytes_eq w (codes "poll")) _ _ _ h0 (λ b e. said packet_kind_text any w (codes "poll") packet.Poll y b e refl refl) (λ b0 h1.
    cond_either (bytes_eq w (codes "promise")) _ _ _ h1 (λ b e. said packet_kind_text any w (codes "promise") packet.Promise y b e refl refl) (λ b1 h2.
    cond_either (bytes_eq w (codes "refuse")) _ _ _ h2 (λ b e. said packet_kind_text any w (codes "refuse") packet.Refuse y b e refl refl) (λ b2 h3.
    cond_either (bytes_eq w (codes "install")) _ _ _ h3 (λ b e. said packet_kind_text any w (codes "install") packet.Install y b e refl refl) (λ b3 h4.
    cond_either (bytes_eq w (codes "joined")) _ _ _ h4 (λ b e. said packet_kind_text any w (codes "joined") packet.Joined y b e refl refl) (λ b4 h5.
    cond_either (bytes_eq w (codes "report")) _ _ _ h5 (λ b e. said packet_kind_text any w (codes "report") packet.Report y b e refl refl) (λ b5 h6.
    cond_either (bytes_eq w (codes "reportok")) _ _ _ h6 (λ b e. said packet_kind_text any w (codes "reportok") packet.ReportOk y b e refl refl) (λ b6 h7.
    copy_packet_sound w y h7)))))))

packet_complete : (x : PacketKind) → any x ≡ true → packet_in (packet_kind_text x) ≡ Some x
packet_complete packet.Poll h = refl
packet_complete x h = refl

pub packet_form : Exact packet_kind_text any packet_in
packet_form = record { sound = packet_sound; complete = packet_complete }
