-- How a call ends: what it opened for itself is closed, in the order in which its script names it.
use Rattle.std.specs.Prelude.{List, [], ◌∷◌}
use Rattle.trace_book.specs.of_locus_ids.declared.ids.Serial.{Serial}
use Rattle.trace_book.specs.of_locus_ids.declared.refusal.Refusal.{Refusal}
use Rattle.trace_book.specs.declared.operation.Op.TheVariants as op
use Rattle.trace_book.specs.declared.reply.Reply.{Reply}
use Rattle.trace_book.specs.declared.reply.Reply.TheVariants as reply
use Rattle.call_rules.specs.declared.answer.Answer.{Answer}
use Rattle.call_rules.specs.declared.answer.Answer.TheVariants.{Did, Ended, Refused}
use Rattle.call_rules.specs.declared.want.Want.{Want}
use Rattle.call_rules.specs.declared.want.Want.TheVariants.{Do, Close, Give, Never}

-- an instance that a call opened for itself, with or without changes that are not committed
pub data Own : Type 0 where
  Unchanged : Serial → Own
  Changed : Serial → Own

-- the instance is closed, and then comes what follows: a refused close ends it too
abbrev pub closes : Serial → (List Answer → Want) → List Answer → Want
closes i next [] = Close i
closes i next (Ended stamp ∷ rest) = next rest
closes i next (Refused why ∷ rest) = next rest
closes i next (_ ∷ rest) = Never

-- its changes are dropped first
abbrev pub aborts : Serial → (List Answer → Want) → List Answer → Want
aborts i next [] = Do i op.Abort
aborts i next (Did o ∷ rest) = next rest
aborts i next (Refused why ∷ rest) = next rest
aborts i next (_ ∷ rest) = Never

-- a call is given its reply when nothing of its own is open
abbrev pub gives : Reply → List Answer → Want
gives r [] = Give r
gives r (a ∷ rest) = Never

-- after a refusal these are closed, their changes dropped, and the refusal is the reply
abbrev pub give_up : List Own → Refusal → List Answer → Want
give_up [] why answers = gives (reply.No why) answers
give_up (Unchanged i ∷ own) why answers = closes i (give_up own why) answers
give_up (Changed i ∷ own) why answers = aborts i (closes i (give_up own why)) answers

-- where nothing was refused these are closed, and the reply is given; the first close that is refused makes it a refusal
abbrev pub close_all : List Serial → Reply → List Answer → Want
close_all [] r answers = gives r answers
close_all (i ∷ is) r [] = Close i
close_all (i ∷ is) r (Ended stamp ∷ rest) = close_all is r rest
close_all (i ∷ is) r (Refused why ∷ rest) = refuse_all is why rest
  where
    refuse_all : List Serial → Refusal → List Answer → Want
    refuse_all [] why answers = gives (reply.No why) answers
    refuse_all (i ∷ is) why answers = closes i (refuse_all is why) answers
close_all (i ∷ is) r (_ ∷ rest) = Never
