-- What the audit of an input answers: yes and the number of its records, or no and the line of the first that isn't consistent.
use Rattle.std.specs.Prelude.{ℕ, ◌≡◌, ◌+◌, Bool, true, false, cond, List, [], ◌∷◌, ◌++◌, codes, length, filter, Option, None, Some}
use Rattle.locus_ids.specs.declared.config.Config.{Config}
use Rattle.trace_book.specs.Text.{gap, number}
use Rattle.audit_input.specs.Input.{IsInput}
use Rattle.audit_input.specs.declared.audit_reader.AuditLine.{AuditLine}
use Rattle.audit_input.specs.declared.audit_reader.AuditLine.TheVariants as line
use Rattle.audit_rules.specs.Consistent.{Audited, Sound, Broken, audited, nothing_audited}
use Rattle.audit_answers.specs.declared.answer.Answer.{Answer}
use Rattle.audit_answers.specs.declared.answer.Answer.TheVariants as answer

abbrev pub is_record : AuditLine → Bool
is_record line.Passed = false
is_record line.Header = false
is_record line.Trace = false
is_record (line.Record n r) = true

-- what is known with one line of the input more
abbrev pub heard : Config → Audited → AuditLine → Audited
heard c known line.Passed = known
heard c known line.Header = known
heard c known line.Trace = known
heard c known (line.Record n r) = audited c known n r

abbrev pub is_broken : Audited → Bool
is_broken (Sound last p) = false
is_broken Broken = true

-- the number of the first line with which what is known is broken, where the first of these lines has this number
abbrev pub first_broken : Config → Audited → ℕ → List AuditLine → Option ℕ
first_broken c known n [] = None
first_broken c known n (l ∷ rest) = cond (is_broken (heard c known l)) (Some n) (first_broken c (heard c known l) (n + 1) rest)

abbrev pub answer_by : ℕ → Option ℕ → Answer
answer_by records None = answer.Yes records
answer_by records (Some n) = answer.No n

-- what these lines of an input are answered in this cluster
abbrev pub answer_to : Config → List AuditLine → Answer
answer_to c lines = answer_by (length (filter is_record lines)) (first_broken c (nothing_audited c) 1 lines)

-- these lines of bytes are an input, which is answered so
pub record IsAnswered (bytes : List (List ℕ)) (a : Answer) : Type 0 where
  pub lines : List AuditLine
  pub input : IsInput bytes lines
  pub is : a ≡ answer_to input.after.header.config lines

-- What is written.

abbrev pub answer_line : List ℕ → ℕ → List ℕ
answer_line word n = word ++ gap ++ number n ++ codes "\n"

abbrev pub answer_text : Answer → List ℕ
answer_text (answer.Yes records) = answer_line (codes "yes") records
answer_text (answer.No n) = answer_line (codes "no") n
