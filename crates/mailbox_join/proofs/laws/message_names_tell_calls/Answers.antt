use Rattle.mailbox_join.proofs.Naming.{named, told, once}
use Rattle.mailbox_join.proofs.laws.message_names_tell_calls.Goals as goal

pub returns-clause-names : goal.returns-clause-names
returns-clause-names c = named

pub returns-clause-messages : goal.returns-clause-messages
returns-clause-messages c = told

pub returns-clause-once : goal.returns-clause-once
returns-clause-once c = once
