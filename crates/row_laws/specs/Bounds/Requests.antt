-- How many requests a call may make: as many as its path has components, and six more; a mail seven more, since it writes what it makes.
use Rattle.std.specs.Prelude.{ℕ, ◌+◌, Bool, true, false, List, [], ◌∷◌, length, None}
use Rattle.locus_ids.specs.declared.ids.Serial.{Serial}
use Rattle.locus_ids.specs.declared.ids.Kind.TheVariants.{Dir}
use Rattle.trace_book.specs.Names.{components}
use Rattle.trace_book.specs.declared.call.Call.{Call}
use Rattle.trace_book.specs.declared.call.Call.TheVariants as call
use Rattle.trace_book.specs.declared.operation.Outcome.TheVariants as outcome
use Rattle.call_rules.specs.declared.answer.Answer.{Answer}
use Rattle.call_rules.specs.declared.answer.Answer.TheVariants.{Entered, Opened, Did, Ended}
use Rattle.call_rules.specs.declared.want.Want.{Want}
use Rattle.call_rules.specs.declared.want.Want.TheVariants.{Give, Never}

-- the components of the path that the call names, as they are written; a call on a descriptor names none
abbrev pub written_components : Call → ℕ
written_components (call.Create path sites) = length (components path)
written_components (call.MakeDir path) = length (components path)
written_components (call.Unlink path) = length (components path)
written_components (call.RemoveDir path) = length (components path)
written_components (call.Rename path name) = length (components path)
written_components (call.List path) = length (components path)
written_components (call.Stat path) = length (components path)
written_components (call.Mail path bytes) = length (components path)
written_components (call.Mails path) = length (components path)
written_components (call.Open path mode) = length (components path)
written_components _ = 0

-- the requests after the walk, at most
abbrev pub most_after_walk : Call → ℕ
most_after_walk (call.Mail path bytes) = 7
most_after_walk _ = 6

-- the greatest number that a request of the call may have
abbrev pub most_requests : Call → ℕ
most_requests words = written_components words + most_after_walk words

-- a mend looks at each kept version, so the words alone don't bound it
abbrev pub is_mend : Call → Bool
is_mend (call.Mend file) = true
is_mend _ = false

-- the call asks something: it neither has its reply, nor were its requests answered so
abbrev pub IsRequest : Want → Type 0
IsRequest (Give r) = ⊥
IsRequest Never = ⊥
IsRequest _ = Unit {0}

-- the directory `/d` is removed, and has an inode of 2: what its requests are answered before the last one, where one instance is
-- that of the root and the other one its own
abbrev pub removing_d : Call
removing_d = call.RemoveDir (47 ∷ 100 ∷ [])

abbrev pub removed_so_far : Serial → Serial → List Answer
removed_so_far root own = Opened root 1 ∷ Did (outcome.Found 2 Dir) ∷ Opened own 2 ∷ Did outcome.Done ∷ Did outcome.Done ∷ Ended None ∷ []

-- a byte is mailed to the box `/d`: what its requests are answered before the last one, where one instance is that of the box and the
-- other one the message's own
abbrev pub mailing_to_d : Call
mailing_to_d = call.Mail (47 ∷ 100 ∷ []) (104 ∷ [])

abbrev pub mailed_so_far : Serial → Serial → List Answer
mailed_so_far box own = Entered 2 Dir ∷ Opened box 2 ∷ Did outcome.Done ∷ Opened own 3 ∷ Did outcome.Done ∷ Ended None ∷ Did outcome.Done ∷ []
