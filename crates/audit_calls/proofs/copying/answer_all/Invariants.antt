use Rattle.std.proofs.Common.{◌≡◌, ◌++◌, take}
use Rattle.audit_calls.proofs.copying.answer_all.Given as goal

abbrev pub invariant-loop-answer : goal.invariant-loop-answer
invariant-loop-answer l = l.script ≡ record l.fn.script { answers = l.fn.script.answers ++ take l.answer-index l.answers }
