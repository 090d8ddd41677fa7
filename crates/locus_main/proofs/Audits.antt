-- What the audit of an input promises comes from how it ends.
use Rattle.std.proofs.Common.{◌≡◌, ◌≢◌, ℕ, List, Option, Some, None, Result, Ok, Err, refl, sym, ap, subst, ◌∙◌, ◌⊎◌, inl, inr}
use Rattle.std.specs.Prelude.{IfSome}
use Rattle.std.specs.Io.KnownBytes.{Appends, Keeps, IsAtEnd}
use Rattle.locus_io.specs.Causes.{AppendsFront}
use Rattle.locus_io.specs.declared.traits.WriteFault.{WriteFault}
use Rattle.locus_io.specs.declared.traits.WriteFault.TheVariants as write
use Rattle.line_reader.specs.Reading.{lines_of}
use Rattle.audit_run.specs.of_audit_answers.Answers.{answer_text}
use Rattle.audit_run.specs.of_audit_answers.declared.answer.Answer.{Answer}
use Rattle.audit_run.specs.Ends.{Ends, StopsAtBad}
use Rattle.audit_run.specs.declared.fault.AuditFault.{AuditFault}
use Rattle.audit_run.specs.declared.fault.AuditFault.TheVariants as fault
use Rattle.input_run.specs.declared.status.Status.{Status}
use Rattle.input_run.specs.declared.status.Status.TheVariants as status
use Rattle.input_run.specs.Codes.{status_of}
use Rattle.locus_main.specs.Audits.{AuditPromises, WritesAnswer, WritesFrontOfAnswer, ends_audit, ends_unanswered, status_of_audit}
use Rattle.input_run.specs.Promises.{ComesThrough}
use Rattle.line_reader.proofs.ReadLines.{if_some}
use Rattle.input_run.proofs.Told.{AppendsFront-whole}
use Rattle.input_run.proofs.Turns.{keeps_same}

-- an audit comes to its end, or finds no memory
abbrev Comes : Result Answer AuditFault → Type 0
Comes r = ((a : Answer) × (r ≡ Ok a)) ⊎ (r ≡ Err fault.NoMemory)

no_ok : (a : Answer) (f : AuditFault) → ◌≡◌ {A = Result Answer AuditFault} (Err f) (Ok a) → ⊥
no_ok a f e = cc

-- memory was wanting before anything was written
pub no_memory : (source left t : Option (List ℕ)) → AuditPromises status.NoMemory source left t t
no_memory source left t = record {
  whole = λ e. absurd (cc);
  bad_line = λ line e. absurd (cc);
  long_line = λ e. absurd (cc);
  many_lines = λ e. absurd (cc);
  only = refl;
  silent = λ e. absurd (cc);
  front = inl (keeps_same t);
  complete = λ bytes lines told input within r w. inr refl;
}

-- there is no answer, and nothing is written
pub no_answer : (f : AuditFault) (source left t : Option (List ℕ)) → Ends (Err f) source left → AuditPromises (status_of_audit f) source left t t
no_answer (fault.BadLine n) source left t ends = record {
  whole = λ e. absurd (cc);
  bad_line = λ line e. at line e;
  long_line = λ e. absurd (cc);
  many_lines = λ e. absurd (cc);
  only = refl;
  silent = λ _. keeps_same t;
  front = inl (keeps_same t);
  complete = λ bytes lines told input within r w. absurd (stopped (ends.complete bytes lines told input within (λ e. cc)));
}
  where
    at : (line : ℕ) → status.BadLine n ≡ status.BadLine line → IfSome source (λ bytes. StopsAtBad (lines_of bytes) line)
    at line e = ends.bad_line line (let same : n ≡ line = cc in ap (λ (k : ℕ). Err (fault.BadLine k)) same)

    stopped : Comes (Err (fault.BadLine n)) → ⊥
    stopped (inl h) = no_ok h.0 (fault.BadLine n) h.1
    stopped (inr e) = cc
no_answer fault.LongLine source left t ends = record {
  whole = λ e. absurd (cc);
  bad_line = λ line e. absurd (cc);
  long_line = λ e. ends.long_line refl;
  many_lines = λ e. absurd (cc);
  only = refl;
  silent = λ _. keeps_same t;
  front = inl (keeps_same t);
  complete = λ bytes lines told input within r w. absurd (stopped (ends.complete bytes lines told input within (λ e. cc)));
}
  where
    stopped : Comes (Err fault.LongLine) → ⊥
    stopped (inl h) = no_ok h.0 fault.LongLine h.1
    stopped (inr e) = cc
no_answer fault.ManyLines source left t ends = record {
  whole = λ e. absurd (cc);
  bad_line = λ line e. absurd (cc);
  long_line = λ e. absurd (cc);
  many_lines = λ e. ends.many_lines refl;
  only = refl;
  silent = λ _. keeps_same t;
  front = inl (keeps_same t);
  complete = λ bytes lines told input within r w. absurd (stopped (ends.complete bytes lines told input within (λ e. cc)));
}
  where
    stopped : Comes (Err fault.ManyLines) → ⊥
    stopped (inl h) = no_ok h.0 fault.ManyLines h.1
    stopped (inr e) = cc
no_answer fault.ReadFault source left t ends = record {
  whole = λ e. absurd (cc);
  bad_line = λ line e. absurd (cc);
  long_line = λ e. absurd (cc);
  many_lines = λ e. absurd (cc);
  only = refl;
  silent = λ _. keeps_same t;
  front = inl (keeps_same t);
  complete = λ bytes lines told input within r w. absurd (r refl);
}
no_answer fault.NoMemory source left t ends = no_memory source left t

-- the answer is written
pub all_written : (a : Answer) (source left t u : Option (List ℕ)) → Ends (Ok a) source left → Appends t u (answer_text a) → AuditPromises status.Ok source left t u
all_written a source left t u ends written = record {
  whole = λ e. if_some source _ _ (ends.answered a refl) (λ bytes h. (h.0, record { answer = a; answered = h.1; written = written }));
  bad_line = λ line e. absurd (cc);
  long_line = λ e. absurd (cc);
  many_lines = λ e. absurd (cc);
  only = refl;
  silent = λ e. absurd (cc);
  front = inr (if_some source _ _ (ends.answered a refl) (λ bytes h. record { answer = a; answered = h.1; written = AppendsFront-whole t u (answer_text a) written }));
  complete = λ bytes lines told input within r w. inl refl;
}

-- a front of it
pub front_written : (a : Answer) (f : WriteFault) (source left t u : Option (List ℕ)) → Ends (Ok a) source left → AppendsFront t u (answer_text a) → AuditPromises (status_of f) source left t u
front_written a write.Failed source left t u ends written = record {
  whole = λ e. absurd (cc);
  bad_line = λ line e. absurd (cc);
  long_line = λ e. absurd (cc);
  many_lines = λ e. absurd (cc);
  only = refl;
  silent = λ e. absurd (cc);
  front = inr (if_some source _ _ (ends.answered a refl) (λ bytes h. record { answer = a; answered = h.1; written = written }));
  complete = λ bytes lines told input within r w. absurd (w refl);
}
front_written a write.NoMemory source left t u ends written = record {
  whole = λ e. absurd (cc);
  bad_line = λ line e. absurd (cc);
  long_line = λ e. absurd (cc);
  many_lines = λ e. absurd (cc);
  only = refl;
  silent = λ e. absurd (cc);
  front = inr (if_some source _ _ (ends.answered a refl) (λ bytes h. record { answer = a; answered = h.1; written = written }));
  complete = λ bytes lines told input within r w. inr refl;
}

-- how an audit ends
pub fault_no_words : (f : AuditFault) → status_of_audit f ≡ status.BadWords → ⊥
fault_no_words (fault.BadLine n) e = cc
fault_no_words fault.LongLine e = cc
fault_no_words fault.ManyLines e = cc
fault_no_words fault.ReadFault e = cc
fault_no_words fault.NoMemory e = cc

pub fault_no_ok : (f : AuditFault) → status_of_audit f ≡ status.Ok → ⊥
fault_no_ok (fault.BadLine n) e = cc
fault_no_ok fault.LongLine e = cc
fault_no_ok fault.ManyLines e = cc
fault_no_ok fault.ReadFault e = cc
fault_no_ok fault.NoMemory e = cc

pub fault_no_write : (f : AuditFault) → status_of_audit f ≡ status.WriteFault → ⊥
fault_no_write (fault.BadLine n) e = cc
fault_no_write fault.LongLine e = cc
fault_no_write fault.ManyLines e = cc
fault_no_write fault.ReadFault e = cc
fault_no_write fault.NoMemory e = cc

pub fault_of_read : (f : AuditFault) → status_of_audit f ≡ status.ReadFault → f ≡ fault.ReadFault
fault_of_read (fault.BadLine n) e = absurd (cc)
fault_of_read fault.LongLine e = absurd (cc)
fault_of_read fault.ManyLines e = absurd (cc)
fault_of_read fault.ReadFault e = refl
fault_of_read fault.NoMemory e = absurd (cc)

pub write_no_words : (f : WriteFault) → status_of f ≡ status.BadWords → ⊥
write_no_words write.Failed e = cc
write_no_words write.NoMemory e = cc

pub write_no_ok : (f : WriteFault) → status_of f ≡ status.Ok → ⊥
write_no_ok write.Failed e = cc
write_no_ok write.NoMemory e = cc

pub write_no_read : (f : WriteFault) → status_of f ≡ status.ReadFault → ⊥
write_no_read write.Failed e = cc
write_no_read write.NoMemory e = cc
