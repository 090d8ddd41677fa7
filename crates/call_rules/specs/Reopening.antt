-- A read by a steady descriptor that no instance holds: its file is opened again to read. Where the version granted is the one that the
-- descriptor keeps, that is read; where it is another, the instance is closed, and the refusal names the epoch that held the descriptor last.
use Rattle.std.specs.Prelude.{ℕ, cond, List, [], ◌∷◌}
use Rattle.trace_book.specs.of_locus_ids.declared.ids.EpochId.{EpochId}
use Rattle.trace_book.specs.of_locus_ids.declared.ids.Serial.{Serial}
use Rattle.trace_book.specs.of_locus_ids.declared.refusal.Refusal.TheVariants.{Stale}
use Rattle.commit_graph.specs.Versions.{same_stamp}
use Rattle.trace_book.specs.declared.call.Call.{Call}
use Rattle.trace_book.specs.declared.call.Call.TheVariants as call
use Rattle.trace_book.specs.declared.call.OpenMode.TheVariants as how
use Rattle.trace_book.specs.declared.descriptor.OneVersion.{OneVersion}
use Rattle.trace_book.specs.declared.operation.Op.TheVariants as op
use Rattle.trace_book.specs.declared.reply.Reply.TheVariants as reply
use Rattle.call_rules.specs.declared.answer.Answer.{Answer}
use Rattle.call_rules.specs.declared.answer.Answer.TheVariants.{Reading, Did, Refused}
use Rattle.call_rules.specs.declared.want.Want.{Want}
use Rattle.call_rules.specs.declared.want.Want.TheVariants.{Open, Do, Give, Never}
use Rattle.call_rules.specs.Closing.{Unchanged, give_up}
use Rattle.call_rules.specs.Opening.{reply_to}

-- the kept version is read, and from then on the instance holds the descriptor; where that is refused, it is closed
abbrev pub reads_again : Serial → ℕ → ℕ → List Answer → Want
reads_again i at len [] = Do i (op.Read at len)
reads_again i at len (Did result ∷ []) = Give (reply_to result)
reads_again i at len (Refused why ∷ rest) = give_up (Unchanged i ∷ []) why rest
reads_again i at len (_ ∷ rest) = Never

abbrev pub reopened : OneVersion → EpochId → ℕ → ℕ → Serial → OneVersion → List Answer → Want
reopened kept last at len i granted answers = cond (same_stamp granted.stamp kept.stamp) (reads_again i at len answers) (give_up (Unchanged i ∷ []) (Stale last) answers)

abbrev pub reopens : OneVersion → EpochId → ℕ → ℕ → List Answer → Want
reopens kept last at len [] = Open kept.file how.Read
reopens kept last at len (Reading i granted ∷ rest) = reopened kept last at len i granted rest
reopens kept last at len (Refused why ∷ []) = Give (reply.No why)
reopens kept last at len (_ ∷ rest) = Never

-- no other call opens again
abbrev pub reopen_wants : Call → OneVersion → EpochId → List Answer → Want
reopen_wants (call.Read fd at len) kept last answers = reopens kept last at len answers
reopen_wants _ kept last answers = Never
