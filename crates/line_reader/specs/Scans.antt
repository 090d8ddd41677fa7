-- What the bytes taken ahead show of the next line.
use Rattle.std.specs.Prelude.{ℕ, ◌≡◌, ◌+◌, ◌<◌, ◌≤◌, List, length, take, false}
use Rattle.line_reader.specs.Reading.{has_feed, IsFirstFeed}
use Rattle.line_reader.specs.declared.reader.Next.{Next}
use Rattle.line_reader.specs.declared.reader.Next.TheVariants.{Line, End, LongLine, TooMany}
use Rattle.line_reader.specs.declared.scan.Scan.{Scan}
use Rattle.line_reader.specs.declared.scan.Scan.TheVariants.{Whole, Long, Open}

-- the line is whole and short enough, or is seen to be too long, or may still grow
abbrev pub IsScan : List ℕ → ℕ → Scan → Type 0
IsScan ahead limit (Whole len) = (len ≤ limit) × IsFirstFeed ahead len
IsScan ahead limit Long = (limit < length ahead) × (has_feed (take (limit + 1) ahead) ≡ false)
IsScan ahead limit Open = (length ahead ≤ limit) × (has_feed ahead ≡ false)

-- the answers where all lines were read that there may be
abbrev pub IsLast : Next → Type 0
IsLast Line = ⊥
IsLast End = Unit {0}
IsLast LongLine = ⊥
IsLast TooMany = Unit {0}
