-- unlink and rmdir: open the directory, find the name, open what it means, see that a directory shows no name, remove the
-- entry, close the directory and then the other.
use Rattle.std.specs.Prelude.{ℕ, List, [], ◌∷◌}
use Rattle.trace_book.specs.of_locus_ids.declared.ids.Serial.{Serial}
use Rattle.trace_book.specs.of_locus_ids.declared.ids.Kind.{Kind}
use Rattle.trace_book.specs.of_locus_ids.declared.ids.Kind.TheVariants.{File, Dir}
use Rattle.trace_book.specs.of_locus_ids.declared.config.Mount.{Mount}
use Rattle.trace_book.specs.of_locus_ids.declared.refusal.Refusal.TheVariants.{NotDir, IsDir}
use Rattle.trace_book.specs.declared.call.OpenMode.TheVariants as how
use Rattle.trace_book.specs.declared.operation.Op.TheVariants as op
use Rattle.trace_book.specs.declared.operation.Outcome.TheVariants as outcome
use Rattle.trace_book.specs.declared.reply.Reply.TheVariants as reply
use Rattle.trace_book.specs.Names.{components, last_of, plain_name}
use Rattle.call_rules.specs.declared.answer.Answer.{Answer}
use Rattle.call_rules.specs.declared.answer.Answer.TheVariants.{Opened, Did, Refused}
use Rattle.call_rules.specs.declared.want.Want.{Want}
use Rattle.call_rules.specs.declared.want.Want.TheVariants.{Open, Do, Never}
use Rattle.call_rules.specs.Closing.{Unchanged, give_up, close_all}
use Rattle.call_rules.specs.Making.{changes_dir}

abbrev pub removes : Serial → Serial → List ℕ → ℕ → List Answer → Want
removes p t name ino [] = Do p (op.Remove name ino)
removes p t name ino (Did o ∷ rest) = close_all (p ∷ t ∷ []) reply.Done rest
removes p t name ino (Refused why ∷ rest) = give_up (Unchanged p ∷ Unchanged t ∷ []) why rest
removes p t name ino (_ ∷ rest) = Never

abbrev pub empties : Kind → Serial → Serial → List ℕ → ℕ → List Answer → Want
empties File p t name ino answers = removes p t name ino answers
empties Dir p t name ino [] = Do t op.Empty
empties Dir p t name ino (Did o ∷ rest) = removes p t name ino rest
empties Dir p t name ino (Refused why ∷ rest) = give_up (Unchanged p ∷ Unchanged t ∷ []) why rest
empties Dir p t name ino (_ ∷ rest) = Never

abbrev pub opens_target : Kind → Serial → ℕ → List ℕ → ℕ → List Answer → Want
opens_target kind p group name ino [] = Open (record { group = group; ino = ino }) how.Write
opens_target kind p group name ino (Opened t found ∷ rest) = empties kind p t name ino rest
opens_target kind p group name ino (Refused why ∷ rest) = give_up (Unchanged p ∷ []) why rest
opens_target kind p group name ino (_ ∷ rest) = Never

-- the call takes away a file or a directory, and the entry is of one: a file is unlinked, a directory is removed
abbrev pub by_kind : Kind → Kind → Serial → ℕ → List ℕ → ℕ → List Answer → Want
by_kind File File p group component ino rest = opens_target File p group (plain_name component) ino rest
by_kind Dir Dir p group component ino rest = opens_target Dir p group (plain_name component) ino rest
by_kind File Dir p group component ino rest = give_up (Unchanged p ∷ []) IsDir rest
by_kind Dir File p group component ino rest = give_up (Unchanged p ∷ []) (NotDir component) rest

abbrev pub finds : Kind → Serial → ℕ → List ℕ → List Answer → Want
finds kind p group component [] = Do p (op.Find component)
finds kind p group component (Did (outcome.Found ino found) ∷ rest) = by_kind kind found p group component ino rest
finds kind p group component (Refused why ∷ rest) = give_up (Unchanged p ∷ []) why rest
finds kind p group component (_ ∷ rest) = Never

abbrev pub remove_wants : List Mount → List ℕ → Kind → List Answer → Want
remove_wants mounts path kind answers = changes_dir mounts path (λ group p rest. finds kind p group (last_of (components path)) rest) answers
