-- What the reply to a call tells of the file that it has made.
use Rattle.std.specs.Prelude.{ℕ, Bool, true, false, List}
use Rattle.trace_book.specs.declared.reply.Reply.{Reply}
use Rattle.trace_book.specs.declared.reply.Reply.TheVariants as reply
use Rattle.call_rules.specs.Mailing.{tells_name}

-- what the reply tells of a new file: the name of a message, or the number of another file
abbrev pub tells : Bool → List ℕ → ℕ → Reply
tells true name = tells_name name
tells false name = reply.Made
