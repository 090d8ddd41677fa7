use Rattle.std.proofs.Common.{◌≡◌, take}
use Rattle.std.specs.Prelude.{filter}
use Rattle.trace_book.specs.Messages.{is_message}
use Rattle.trace_book.specs.Names.{plain_name}
use Rattle.mailbox_join.proofs.names.messages.Given as goal

abbrev pub invariant-loop-name : goal.invariant-loop-name
invariant-loop-name l = l.made ≡ filter (λ name. is_message (plain_name name)) (take l.name-index l.shown)
