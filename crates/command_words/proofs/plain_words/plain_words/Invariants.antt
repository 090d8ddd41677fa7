use Rattle.std.proofs.Common.{◌≡◌, take}
use Rattle.std.specs.List.{All}
use Rattle.given_words.specs.Plain.{texts}
use Rattle.given_words.specs.Plain.{IsPlain}
use Rattle.command_words.proofs.plain_words.plain_words.Given as goal

abbrev pub invariant-loop-word : goal.invariant-loop-word
invariant-loop-word l = (texts l.plain.items ≡ take l.word-index l.word-items) × All IsPlain (take l.word-index l.word-items)
