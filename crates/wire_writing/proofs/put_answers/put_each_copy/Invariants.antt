use Rattle.std.proofs.Common.{◌≡◌, ◌++◌, take}
use Rattle.std.specs.List.{flat_map}
use Rattle.wire_messages.specs.Answers.{copies_from}
use Rattle.wire_writing.proofs.put_answers.put_each_copy.Given as goal

abbrev pub invariant-loop-copy : goal.invariant-loop-copy
invariant-loop-copy l = l.out ≡ l.initial.out ++ flat_map (copies_from 1).spell (take l.copy-index l.copies)
