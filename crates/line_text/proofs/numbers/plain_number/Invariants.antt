use Rattle.std.proofs.Common.{◌≡◌, take, drop}
use Rattle.std.specs.Str.Parse.{AllDigits, digits_value, digits_value_after}
use Rattle.line_text.proofs.numbers.plain_number.Given as goal

abbrev pub invariant-loop-c : goal.invariant-loop-c
invariant-loop-c l = record { all : AllDigits 10 (take l.c-index l.word); value : digits_value_after 10 l.n (drop l.c-index l.word) ≡ digits_value 10 l.word }
