-- A call that mails `hi` into the box `/d`, and the answers up to where one is refused.
use Rattle.std.specs.Prelude.{List, [], ◌∷◌, ◌++◌, Some, codes}
use Rattle.locus_ids.specs.declared.ids.Kind.TheVariants.{Dir}
use Rattle.locus_ids.specs.declared.refusal.Refusal.{Refusal}
use Rattle.locus_ids.specs.declared.refusal.Refusal.TheVariants.{NoSpace}
use Rattle.trace_book.specs.declared.call.Call.TheVariants as call
use Rattle.trace_book.specs.declared.operation.Outcome.TheVariants.{Done}
use Rattle.lawful_trace.specs.Samples.{stamp}
use Rattle.call_rules.specs.declared.answer.Answer.{Answer}
use Rattle.call_rules.specs.declared.answer.Answer.TheVariants.{Entered, Opened, Did, Ended, Refused}
use Rattle.call_rules.specs.declared.want.Want.{Want}
use Rattle.call_rules.specs.Samples.{asks, inst}

abbrev pub mails : List Answer → Want
mails answers = asks (call.Mail (codes "/d") (104 ∷ 105 ∷ [])) answers

-- the box is open, and the message's file is made
abbrev pub message_made : List Answer
message_made = Entered 2 Dir ∷ Opened (inst 1) 2 ∷ Did Done ∷ Opened (inst 2) 3 ∷ []

-- its bytes need four pages, and three are free
abbrev pub full_at_write : Refusal
full_at_write = NoSpace 4 3

abbrev pub write_refused : List Answer
write_refused = message_made ++ Refused full_at_write ∷ []

-- the message stands, and there is no page for the box
abbrev pub full_at_insert : Refusal
full_at_insert = NoSpace 1 0

abbrev pub insert_refused : List Answer
insert_refused = message_made ++ Did Done ∷ Ended (Some (stamp 1 1)) ∷ Refused full_at_insert ∷ []
