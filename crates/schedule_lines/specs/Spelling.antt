-- How each line of a schedule is spelled.
use Rattle.std.specs.Prelude.{ℕ, ◌≡◌, ◌==◌, Bool, true, List, [], ◌∷◌, ◌++◌, codes}
use Rattle.std.specs.List.{join_by}
use Rattle.hex.specs.Hex.{encode_lower}
use Rattle.trace_book.specs.of_locus_ids.Sizes.{sites_max}
use Rattle.trace_book.specs.of_locus_ids.declared.sites.Sites.{Sites}
use Rattle.trace_book.specs.Text.{call_words, gap, number, sites_to}
use Rattle.schedule_lines.specs.declared.header.HeaderLine.{HeaderLine}
use Rattle.schedule_lines.specs.declared.header.HeaderLine.TheVariants as header
use Rattle.schedule_lines.specs.declared.line.Leave.{Leave}
use Rattle.schedule_lines.specs.declared.line.Leave.TheVariants as leave
use Rattle.schedule_lines.specs.declared.line.Line.{Line}
use Rattle.schedule_lines.specs.declared.line.Line.TheVariants as line
use Rattle.schedule_lines.specs.declared.line.ScheduleLine.{ScheduleLine}
use Rattle.schedule_lines.specs.declared.line.ScheduleLine.TheVariants.{Passed, Header, Event}

-- the sites of a set, ascending, with a space between each two
abbrev pub site_words : Sites → List ℕ
site_words sites = join_by number gap (sites_to sites sites_max)

-- a word and one operand
abbrev pub one_operand : List ℕ → List ℕ → List ℕ
one_operand word operand = word ++ gap ++ operand

-- a word and two operands
abbrev pub two_operands : List ℕ → List ℕ → List ℕ → List ℕ
two_operands word a b = word ++ gap ++ a ++ gap ++ b

-- a word and three operands
abbrev pub three_operands : List ℕ → List ℕ → List ℕ → List ℕ → List ℕ
three_operands word a b c = word ++ gap ++ a ++ gap ++ b ++ gap ++ c

abbrev pub header_spelling : HeaderLine → List ℕ
header_spelling (header.Sites count) = one_operand (codes "sites") (number count)
header_spelling (header.Group group sites) = two_operands (codes "group") (number group) (site_words sites)
header_spelling (header.Mount group name) = two_operands (codes "mount") (number group) name

abbrev pub leave_word : Leave → List ℕ
leave_word leave.Old = codes "old"
leave_word leave.New = codes "new"
leave_word (leave.Byte byte) = encode_lower (byte ∷ [])

abbrev pub event_spelling : Line → List ℕ
event_spelling (line.Call site process call) = three_operands (codes "call") (number site) (number process) (call_words call)
event_spelling (line.Deliver packet) = one_operand (codes "deliver") (number packet)
event_spelling (line.Lose packet) = one_operand (codes "lose") (number packet)
event_spelling (line.Tick site) = one_operand (codes "tick") (number site)
event_spelling (line.Down one other) = two_operands (codes "down") (number one) (number other)
event_spelling (line.Up one other) = two_operands (codes "up") (number one) (number other)
event_spelling (line.Part site) = one_operand (codes "part") (number site)
event_spelling (line.Merge site) = one_operand (codes "merge") (number site)
event_spelling (line.GiveUp site) = one_operand (codes "giveup") (number site)
event_spelling (line.Stop site) = one_operand (codes "stop") (number site)
event_spelling (line.ArmStop site calls leave) = three_operands (codes "stop") (number site) (number calls) (leave_word leave)
event_spelling (line.ArmFail site calls) = two_operands (codes "fail") (number site) (number calls)
event_spelling (line.Boot site) = one_operand (codes "boot") (number site)
event_spelling (line.Settle most) = one_operand (codes "settle") (number most)
event_spelling line.Pending = codes "pending"

-- an empty line, or a comment, which begins with #
abbrev pub is_passed : List ℕ → Bool
is_passed [] = true
is_passed (c ∷ cs) = c == 35

-- these bytes are this line
abbrev pub Spells : List ℕ → ScheduleLine → Type 0
Spells bytes Passed = is_passed bytes ≡ true
Spells bytes (Header h) = bytes ≡ header_spelling h
Spells bytes (Event e) = bytes ≡ event_spelling e
