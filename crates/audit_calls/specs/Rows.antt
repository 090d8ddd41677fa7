-- What becomes of a call.
use Rattle.std.specs.Prelude.{ℕ, ◌-◌, true, false, [], ◌∷◌, ◌++◌, take, None, Some}
use Rattle.trace_book.specs.declared.call.Call.{Call}
use Rattle.trace_book.specs.declared.descriptor.Descriptor.{Descriptor}
use Rattle.trace_book.specs.declared.descriptor.Beginning.{Beginning}
use Rattle.call_rules.specs.declared.answer.Answer.{Answer}
use Rattle.promises.specs.Past.{CallSoFar}
use Rattle.audit_calls.specs.declared.row.Accepted.{Accepted}

-- a call as it is accepted
abbrev pub begun : Accepted → Call → Beginning → CallSoFar
begun at words begins = record {
  id = at.id;
  process = at.process;
  words = words;
  epoch = at.epoch;
  begins = begins;
  free = at.free;
  turn = at.turn;
  granted = None;
  answers = [];
  waits = true;
}

-- one request more was answered
abbrev pub with_answer : Answer → CallSoFar → CallSoFar
with_answer a k = record k { answers = k.answers ++ a ∷ [] }

-- the answers before the request of this number
abbrev pub with_earlier : ℕ → CallSoFar → CallSoFar
with_earlier request k = record k { answers = take (request - 1) k.answers }

-- the request of this number was answered, maybe again
abbrev pub with_last_answer : ℕ → Answer → CallSoFar → CallSoFar
with_last_answer request a k = record k { answers = take (request - 1) k.answers ++ a ∷ [] }

-- an open was granted
abbrev pub with_grant : Descriptor → Answer → CallSoFar → CallSoFar
with_grant d a k = record k { granted = Some d; answers = k.answers ++ a ∷ [] }

-- it has its reply, or none will come
abbrev pub replied : CallSoFar → CallSoFar
replied k = record k { waits = false }
