use Rattle.std.proofs.Common.{◌≡◌, ◌≤◌, ◌+◌, ℕ, List, Ok, Err, ap, sym, subst, ◌∙◌, arith, refl, length}
use Rattle.std.proofs.lemmas.Bool.{false≢true}
use Rattle.std.specs.Io.KnownBytes.{IsAtEnd}
use Rattle.line_reader.specs.Reading.{ReadsLine}
use Rattle.line_reader.specs.Readers.{IfTold, Reader, still_read}
use Rattle.audit_run.proofs.Ending.{SoFar, all_end, bad_ends, ends_bad, ends_long, ends_many, few_before, memory_ends, no_fault, rose_since, same_err, so_far_next, so_far_none, unread_ends}
use Rattle.line_reader.proofs.ReadLines.{end_by, since_then}
use Rattle.audit_run.proofs.input.hear_each.Goals as goal

pub loop-hearing-init : goal.loop-hearing-init
loop-hearing-init g c = record {
  limit = ap (λ r. r.limit) c.requires.unread;
  few = omega (arith, ap (λ r. r.number) c.requires.unread);
  source = omega arith;
  at_end = λ e. absurd (false≢true (sym (ap (λ r. r.ended) c.requires.unread) ∙ e));
  so_far =
      let P : Reader → Type 0 = λ r. SoFar c.args.hearing.now r.number (g.S.Source.left c.args.source.now) (still_read r (g.S.Source.left c.args.source.now)) in
      subst P (sym c.requires.unread) (so_far_none _ _ 0 refl c.requires.fresh);
}

-- ---- the end of the input ----

pub overflow_add-number : goal.overflow_add-number
overflow_add-number g c = omega (arith, c.number.ensures, c.in-Ok-false.ensures.few)

pub returns-in-Ok-false-clause-ends : goal.returns-in-Ok-false-clause-ends
returns-in-Ok-false-clause-ends g c =
    let stays = c.in-Ok-false.ensures.stays (ap Ok c.in-Ok-false.field-0-test) in
    all_end _ _ _ _ _ _ _ _ _ c.loop-hearing.invariant.so_far (c.in-Ok-false.ensures.end (ap Ok c.in-Ok-false.field-0-test)) stays.bytes
    (end_by c.next_line.new.reader.ended _ (λ e. since_then (λ s. IsAtEnd (g.S.Source.left s)) c.loop-hearing.reader.ended c.loop-hearing.source c.next_line.new.source c.loop-hearing.invariant.at_end (λ h. (c.in-Ok-false.ensures.asks_no_more h).0) (λ h. c.in-Ok-false.ensures.seen h e)))
    c.answer.ensures.answered c.answer.ensures.short (omega (arith, c.number.ensures, stays.number))

pub returns-in-Ok-false-clause-fault : goal.returns-in-Ok-false-clause-fault
returns-in-Ok-false-clause-fault g c = λ e. absurd (no_fault _ _ _ _ _ _ c.loop-hearing.invariant.so_far c.answer.ensures.short e)

-- ---- a line that could not be read ----

pub returns-in-Err-clause-ends : goal.returns-in-Err-clause-ends
returns-in-Err-clause-ends g c = unread_ends _ _ c.in-Err.fault c.in-Err.ensures.only
    (λ e. ends_long _ _ _ _ _ _ c.loop-hearing.invariant.so_far (c.in-Err.ensures.long (ap Err e)) c.loop-hearing.invariant.limit (c.in-Err.ensures.early (ap Err e)))
    (λ e. ends_many _ _ _ _ _ c.loop-hearing.invariant.so_far (c.in-Err.ensures.many (ap Err e)) (c.in-Err.ensures.full (ap Err e)))

pub returns-in-Err-clause-fault : goal.returns-in-Err-clause-fault
returns-in-Err-clause-fault g c = λ e. rose_since _ _ _ c.loop-hearing.invariant.source (c.in-Err.ensures.fault (ap Err (same_err _ _ e)))

-- ---- a line ----

pub take-requires : goal.take-requires
take-requires g c = record { few = few_before _ _ _ _ _ c.loop-hearing.invariant.so_far (c.in-Ok-true.ensures.counted (ap Ok c.in-Ok-true.field-0-test)) c.in-Ok-true.ensures.few }

pub loop-hearing-smaller : goal.loop-hearing-smaller
loop-hearing-smaller g c =
    let counted : c.next_line.new.reader.number ≡ c.loop-hearing.reader.number + 1 = c.in-Ok-true.ensures.counted (ap Ok c.in-Ok-true.field-0-test) in
    omega (arith, counted, c.in-Ok-true.ensures.few)

pub loop-hearing-preserved : goal.loop-hearing-preserved
loop-hearing-preserved g c =
    let counted : c.next_line.new.reader.number ≡ c.loop-hearing.reader.number + 1 = c.in-Ok-true.ensures.counted (ap Ok c.in-Ok-true.field-0-test) in
    let P : List ℕ → Type 0 = λ p. IfTold c.loop-hearing.reader c.next_line.new.reader (g.S.Source.left c.loop-hearing.source) (g.S.Source.left c.next_line.new.source) (ReadsLine p) in
    let Short : List ℕ → Type 0 = λ p. length p ≤ 4194304 in
    let short : length c.next_line.new.reader.line ≤ 4194304 = omega (arith, c.in-Ok-true.ensures.short (ap Ok c.in-Ok-true.field-0-test), c.loop-hearing.invariant.limit) in
    record {
      limit = c.in-Ok-true.ensures.limit ∙ c.loop-hearing.invariant.limit;
      few = c.in-Ok-true.ensures.few;
      source = omega (arith, c.in-Ok-true.ensures.later);
      at_end = λ e. since_then (λ s. IsAtEnd (g.S.Source.left s)) c.loop-hearing.reader.ended c.loop-hearing.source c.next_line.new.source c.loop-hearing.invariant.at_end (λ h. (c.in-Ok-true.ensures.asks_no_more h).0) (λ h. c.in-Ok-true.ensures.seen h e);
      so_far = so_far_next _ _ _ _ _ _ _ _ c.loop-hearing.invariant.so_far counted c.in-Ok-true.ensures.few
          (subst Short (sym c.bytes.ensures) short)
          (subst P (sym c.bytes.ensures) (c.in-Ok-true.ensures.line (ap Ok c.in-Ok-true.field-0-test)))
          (λ all lines k placed. c.in-Ok.ensures.heard all lines k (c.number-in-loop-hearing.ensures ∙ placed));
    }

-- ---- a line that ends the audit ----

pub returns-in-Err-Bad-clause-ends : goal.returns-in-Err-Bad-clause-ends
returns-in-Err-Bad-clause-ends g c =
    let counted : c.next_line.new.reader.number ≡ c.loop-hearing.reader.number + 1 = c.in-Ok-true.ensures.counted (ap Ok c.in-Ok-true.field-0-test) in
    let P : List ℕ → Type 0 = λ p. IfTold c.loop-hearing.reader c.next_line.new.reader (g.S.Source.left c.loop-hearing.source) (g.S.Source.left c.next_line.new.source) (ReadsLine p) in
    let Short : List ℕ → Type 0 = λ p. length p ≤ 4194304 in
    let short : length c.next_line.new.reader.line ≤ 4194304 = omega (arith, c.in-Ok-true.ensures.short (ap Ok c.in-Ok-true.field-0-test), c.loop-hearing.invariant.limit) in
    bad_ends _ _ _ (ends_bad _ _ _ _ _ _ _ c.loop-hearing.invariant.so_far
    (subst P (sym c.bytes.ensures) (c.in-Ok-true.ensures.line (ap Ok c.in-Ok-true.field-0-test)))
    (λ all lines k. c.take.ensures.bad all lines k (c.in-Err-Bad.is ∙ ap Err c.in-Err-Bad.field-0-is))
    (omega (arith, c.number-in-Err-Bad.ensures, counted)) (omega (arith, c.number-in-Err-Bad.ensures, c.in-Ok-true.ensures.few)) (subst Short (sym c.bytes.ensures) short))

pub returns-in-Err-Bad-clause-fault : goal.returns-in-Err-Bad-clause-fault
returns-in-Err-Bad-clause-fault g c = λ e. absurd (cc)

pub returns-in-Err-NoMemory-clause-ends : goal.returns-in-Err-NoMemory-clause-ends
returns-in-Err-NoMemory-clause-ends g c = memory_ends _ _

pub returns-in-Err-NoMemory-clause-fault : goal.returns-in-Err-NoMemory-clause-fault
returns-in-Err-NoMemory-clause-fault g c = λ e. absurd (cc)
