-- mend: open the directory, look at the whole of each kept version, mend, close.
use Rattle.std.specs.Prelude.{List, [], ◌∷◌}
use Rattle.trace_book.specs.of_locus_ids.declared.ids.FileId.{FileId}
use Rattle.trace_book.specs.of_locus_ids.declared.ids.Stamp.{Stamp}
use Rattle.trace_book.specs.of_locus_ids.declared.ids.Serial.{Serial}
use Rattle.trace_book.specs.declared.operation.Op.TheVariants as op
use Rattle.trace_book.specs.declared.operation.What.TheVariants as what
use Rattle.trace_book.specs.declared.reply.Reply.TheVariants as reply
use Rattle.call_rules.specs.declared.answer.Answer.{Answer}
use Rattle.call_rules.specs.declared.answer.Answer.TheVariants.{Merging, Brought, Did, Refused}
use Rattle.call_rules.specs.declared.want.Want.{Want}
use Rattle.call_rules.specs.declared.want.Want.TheVariants.{Look, OpenToMend, Do, Give, Never}
use Rattle.call_rules.specs.Closing.{Unchanged, give_up}
use Rattle.call_rules.specs.Opening.{close_wants}

abbrev pub after_mend : Serial → List Answer → Want
after_mend i [] = Do i op.Mend
after_mend i (Did o ∷ rest) = close_wants i rest
after_mend i (Refused why ∷ rest) = give_up (Unchanged i ∷ []) why rest
after_mend i (_ ∷ rest) = Never

abbrev pub brings : Serial → FileId → List Stamp → List Answer → Want
brings i file [] answers = after_mend i answers
brings i file (stamp ∷ stamps) [] = Look file (what.Whole stamp)
brings i file (stamp ∷ stamps) (Brought ∷ rest) = brings i file stamps rest
brings i file (stamp ∷ stamps) (Refused why ∷ rest) = give_up (Unchanged i ∷ []) why rest
brings i file (stamp ∷ stamps) (_ ∷ rest) = Never

abbrev pub mend_wants : FileId → List Answer → Want
mend_wants file [] = OpenToMend file
mend_wants file (Merging i kept ∷ rest) = brings i file kept rest
mend_wants file (Refused why ∷ []) = Give (reply.No why)
mend_wants file (_ ∷ rest) = Never
