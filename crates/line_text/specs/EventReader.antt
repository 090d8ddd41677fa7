-- The event line that some bytes are, as a function of the bytes. No bytes are two lines, since the first word and the
-- number of words tell the form.
use Rattle.std.specs.Prelude.{ℕ, ◌==◌, not, List, codes, Option, Some, None, cond}
use Rattle.std.specs.Option.{option_and_then, option_map}
use Rattle.std.specs.Str.{bytes_eq}
use Rattle.schedule_lines.specs.declared.line.Leave.{Leave}
use Rattle.schedule_lines.specs.declared.line.Leave.TheVariants as leave
use Rattle.schedule_lines.specs.declared.line.Line.{Line}
use Rattle.schedule_lines.specs.declared.line.Line.TheVariants as line
use Rattle.line_text.specs.CallReader.{call_in}
use Rattle.line_text.specs.Words.{byte_in, number_in, site_in, three_words, two_words}
use Rattle.line_text.specs.declared.event_word.EventWord.{EventWord}
use Rattle.line_text.specs.declared.event_word.EventWord.TheVariants as word

abbrev pub event_word : List ℕ → Option EventWord
event_word w =
    cond (bytes_eq w (codes "call")) (Some word.Call) (
    cond (bytes_eq w (codes "deliver")) (Some word.Deliver) (
    cond (bytes_eq w (codes "lose")) (Some word.Lose) (
    cond (bytes_eq w (codes "tick")) (Some word.Tick) (
    cond (bytes_eq w (codes "down")) (Some word.Down) (
    cond (bytes_eq w (codes "up")) (Some word.Up) (
    cond (bytes_eq w (codes "part")) (Some word.Part) (
    cond (bytes_eq w (codes "merge")) (Some word.Merge) (
    cond (bytes_eq w (codes "giveup")) (Some word.GiveUp) (
    cond (bytes_eq w (codes "stop")) (Some word.Stop) (
    cond (bytes_eq w (codes "fail")) (Some word.Fail) (
    cond (bytes_eq w (codes "boot")) (Some word.Boot) (
    cond (bytes_eq w (codes "settle")) (Some word.Settle) None))))))))))))

abbrev pub packet_in : List ℕ → Option ℕ
packet_in w = number_in 1 1000000 w

-- the number of disk calls that pass
abbrev pub passing_in : List ℕ → Option ℕ
passing_in w = number_in 0 1000000 w

abbrev pub call_line : ℕ → List ℕ → Option Line
call_line n rest =
    option_and_then (λ p. option_and_then (λ site. option_and_then (λ process. option_map (λ call. line.Call site process call) (call_in n p.2)) (number_in 1 8 p.1)) (site_in n p.0)) (three_words rest)

-- two sites that differ
abbrev pub two_sites : ℕ → List ℕ → Option (ℕ × ℕ)
two_sites n rest =
    option_and_then (λ p. option_and_then (λ one. option_and_then (λ other. cond (not (one == other)) (Some (one, other)) None) (site_in n p.1)) (site_in n p.0)) (two_words rest)

abbrev pub leave_in : List ℕ → Option Leave
leave_in w =
    cond (bytes_eq w (codes "old")) (Some leave.Old) (
    cond (bytes_eq w (codes "new")) (Some leave.New) (option_map (λ byte. leave.Byte byte) (byte_in w)))

abbrev pub arm_stop : ℕ → List ℕ → Option Line
arm_stop n rest =
    option_and_then (λ p. option_and_then (λ site. option_and_then (λ calls. option_map (λ leave. line.ArmStop site calls leave) (leave_in p.2)) (passing_in p.1)) (site_in n p.0)) (three_words rest)

abbrev pub stop_with : ℕ → List ℕ → Option (List ℕ × List ℕ) → Option Line
stop_with n rest None = option_map (λ site. line.Stop site) (site_in n rest)
stop_with n rest (Some p) = arm_stop n rest

abbrev pub fail_line : ℕ → List ℕ → Option Line
fail_line n rest = option_and_then (λ p. option_and_then (λ site. option_map (λ calls. line.ArmFail site calls) (passing_in p.1)) (site_in n p.0)) (two_words rest)

-- the line of this first word with these operands, in a cluster of n sites
abbrev pub event_with : ℕ → EventWord → List ℕ → Option Line
event_with n word.Call rest = call_line n rest
event_with n word.Deliver rest = option_map (λ packet. line.Deliver packet) (packet_in rest)
event_with n word.Lose rest = option_map (λ packet. line.Lose packet) (packet_in rest)
event_with n word.Tick rest = option_map (λ site. line.Tick site) (site_in n rest)
event_with n word.Down rest = option_map (λ s. line.Down s.0 s.1) (two_sites n rest)
event_with n word.Up rest = option_map (λ s. line.Up s.0 s.1) (two_sites n rest)
event_with n word.Part rest = option_map (λ site. line.Part site) (site_in n rest)
event_with n word.Merge rest = option_map (λ site. line.Merge site) (site_in n rest)
event_with n word.GiveUp rest = option_map (λ site. line.GiveUp site) (site_in n rest)
event_with n word.Stop rest = stop_with n rest (two_words rest)
event_with n word.Fail rest = fail_line n rest
event_with n word.Boot rest = option_map (λ site. line.Boot site) (site_in n rest)
event_with n word.Settle rest = option_map (λ most. line.Settle most) (number_in 1 1000000 rest)

abbrev pub event_of : ℕ → List ℕ → Option (List ℕ × List ℕ) → Option Line
event_of n bytes None = cond (bytes_eq bytes (codes "pending")) (Some line.Pending) None
event_of n bytes (Some p) = option_and_then (λ w. event_with n w p.1) (event_word p.0)

-- the event line that the bytes are, in a cluster of n sites
abbrev pub event_in : ℕ → List ℕ → Option Line
event_in n bytes = event_of n bytes (two_words bytes)
