-- Once the close of an instance is refused, the others are closed as after any refusal.
use Rattle.std.proofs.Common.{◌≡◌, List, [], ◌∷◌, map, refl}
use Rattle.locus_ids.specs.declared.ids.Serial.{Serial}
use Rattle.locus_ids.specs.declared.refusal.Refusal.{Refusal}
use Rattle.trace_book.specs.declared.reply.Reply.{Reply}
use Rattle.call_rules.specs.declared.answer.Answer.{Answer}
use Rattle.call_rules.specs.declared.answer.Answer.TheVariants.{Entered, Showed, Described, Brought, Opened, Reading, Merging, Did, Ended, Refused}
use Rattle.call_rules.specs.Closing.{Unchanged, close_all, give_up}

pub refused_close : (i : Serial) (own : List Serial) (r : Reply) (why : Refusal) (rest : List Answer) → close_all (i ∷ own) r (Refused why ∷ rest) ≡ give_up (map Unchanged own) why rest
refused_close i [] r why rest = refl
refused_close i (j ∷ own) r why [] = refl
refused_close i (j ∷ own) r why (Ended stamp ∷ rest) = refused_close i own r why rest
refused_close i (j ∷ own) r why (Refused other ∷ rest) = refused_close i own r why rest
refused_close i (j ∷ own) r why (Entered ino kind ∷ rest) = refl
refused_close i (j ∷ own) r why (Showed names ∷ rest) = refl
refused_close i (j ∷ own) r why (Described kind size stamp ∷ rest) = refl
refused_close i (j ∷ own) r why (Brought ∷ rest) = refl
refused_close i (j ∷ own) r why (Opened inst ino ∷ rest) = refl
refused_close i (j ∷ own) r why (Reading inst version ∷ rest) = refl
refused_close i (j ∷ own) r why (Merging inst kept ∷ rest) = refl
refused_close i (j ∷ own) r why (Did result ∷ rest) = refl
