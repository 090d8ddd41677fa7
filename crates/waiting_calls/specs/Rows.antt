-- The key of the first row that passes.
use Rattle.std.specs.Prelude.{ℕ, ◌==◌, ◌&&◌, Bool, true, false, Option, None, Some}
use Rattle.wire_messages.specs.declared.body.LookAnswer.{LookAnswer}
use Rattle.trace_book.specs.declared.operation.What.TheVariants as what
use Rattle.role_steps.specs.Using.{answers_what}
use Rattle.role_steps.specs.declared.users.Asking.{Asking}
use Rattle.role_steps.specs.declared.users.Asking.TheVariants as asking
use Rattle.role_steps.specs.Requests.{waiting_key}
use Rattle.role_steps.specs.declared.users.WaitingCall.{WaitingCall}

abbrev pub key_of : Option WaitingCall → Option ℕ
key_of None = None
key_of (Some w) = Some (waiting_key w)

-- it asks this take of a look, to which this is an answer
abbrev pub asks_look : ℕ → LookAnswer → Asking → Bool
asks_look take a (asking.Look file asked t) = (t == take) && answers_what asked a
asks_look take a _ = false

-- it looks at the whole content of a version
abbrev pub asks_whole : Asking → Bool
asks_whole (asking.Look file (what.Whole stamp) take) = true
asks_whole _ = false
