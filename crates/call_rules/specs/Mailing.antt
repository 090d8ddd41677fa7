-- mail and mails. A box is a directory, and a message is a file in it under the name of its call, which no other mail gives.
use Rattle.std.specs.Prelude.{ℕ, List, [], ◌∷◌, None}
use Rattle.trace_book.specs.of_locus_ids.declared.ids.CallId.{CallId}
use Rattle.trace_book.specs.of_locus_ids.declared.ids.Kind.TheVariants.{File}
use Rattle.trace_book.specs.of_locus_ids.declared.config.Mount.{Mount}
use Rattle.trace_book.specs.declared.reply.Reply.{Reply}
use Rattle.trace_book.specs.declared.reply.Reply.TheVariants as reply
use Rattle.trace_book.specs.Names.{components, last_of}
use Rattle.trace_book.specs.Messages.{message_name, messages}
use Rattle.call_rules.specs.declared.answer.Answer.{Answer}
use Rattle.call_rules.specs.declared.want.Want.{Want}
use Rattle.call_rules.specs.Walks.{walked}
use Rattle.call_rules.specs.Making.{opens_dir, probes}
use Rattle.call_rules.specs.Opening.{Shows}

-- a reply to mail tells the message's name, whatever the file's number is
abbrev pub tells_name : List ℕ → ℕ → Reply
tells_name name ino = reply.Names (name ∷ [])

-- mail: the whole path leads to the box, and the message is a new file there that begins with its bytes
abbrev pub mail_wants : List Mount → CallId → List ℕ → List ℕ → List Answer → Want
mail_wants mounts id path bytes answers = walked mounts (components path) answers
    (λ dir kind rest. opens_dir (last_of (components path)) (λ p more. probes p dir.group (message_name id) File None bytes (tells_name (message_name id)) more) dir kind rest)

-- mails shows the names of messages alone: mounts are left out, though an entry of such a name is shown
abbrev pub shown_messages : Shows
shown_messages at names = messages names
