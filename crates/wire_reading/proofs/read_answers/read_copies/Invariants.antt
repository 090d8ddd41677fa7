use Rattle.std.proofs.Common.{◌≡◌, ◌-◌, ◌+◌}
use Rattle.field_codec.specs.Lists.{read_times}
use Rattle.field_codec.proofs.Loop.{with_front}
use Rattle.wire_messages.specs.Answers.{copies_from}
use Rattle.wire_reading.proofs.read_answers.read_copies.Given as goal

-- those so far and those still to be read are all
abbrev pub invariant-loop : goal.invariant-loop
invariant-loop l = with_front l.copies (read_times copies_from (λ _ copy. copy.ino + 1) l.least (l.count - l.counter) l.fields) ≡ read_times copies_from (λ _ copy. copy.ino + 1) 1 l.count l.initial.fields
