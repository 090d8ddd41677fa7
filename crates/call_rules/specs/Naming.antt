-- rename: open the directory, rename the entry, close it.
use Rattle.std.specs.Prelude.{ℕ, List, [], ◌∷◌}
use Rattle.trace_book.specs.of_locus_ids.declared.ids.Serial.{Serial}
use Rattle.trace_book.specs.of_locus_ids.declared.config.Mount.{Mount}
use Rattle.trace_book.specs.declared.operation.Op.TheVariants as op
use Rattle.trace_book.specs.declared.reply.Reply.TheVariants as reply
use Rattle.trace_book.specs.Names.{components, last_of}
use Rattle.call_rules.specs.declared.answer.Answer.{Answer}
use Rattle.call_rules.specs.declared.answer.Answer.TheVariants.{Did, Refused}
use Rattle.call_rules.specs.declared.want.Want.{Want}
use Rattle.call_rules.specs.declared.want.Want.TheVariants.{Do, Never}
use Rattle.call_rules.specs.Closing.{Unchanged, give_up, close_all}
use Rattle.call_rules.specs.Making.{changes_dir}

abbrev pub renames : Serial → List ℕ → List ℕ → List Answer → Want
renames p component name [] = Do p (op.Rename component name)
renames p component name (Did o ∷ rest) = close_all (p ∷ []) reply.Done rest
renames p component name (Refused why ∷ rest) = give_up (Unchanged p ∷ []) why rest
renames p component name (_ ∷ rest) = Never

abbrev pub rename_wants : List Mount → List ℕ → List ℕ → List Answer → Want
rename_wants mounts path name answers = changes_dir mounts path (λ group p rest. renames p (last_of (components path)) name rest) answers
