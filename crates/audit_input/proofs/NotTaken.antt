-- Where a line is neither passed over, nor `trace`, nor a header line, it is none before the trace.
use Rattle.std.proofs.Common.{◌≡◌, ℕ, false, List, codes, sym, ◌∙◌}
use Rattle.std.proofs.lemmas.Bool.{false≢true}
use Rattle.schedule_lines.specs.Spelling.{is_passed}
use Rattle.audit_input.specs.Input.{Takes, TakesHeader}
use Rattle.audit_input.specs.declared.audit_reader.AuditLine.{AuditLine}
use Rattle.audit_input.specs.declared.audit_reader.AuditLine.TheVariants as line
use Rattle.audit_input.specs.declared.audit_reader.AuditReader.{AuditReader}

pub not_taken : (before : AuditReader) (bytes : List ℕ) → before.traced ≡ false → is_passed bytes ≡ false → (bytes ≡ codes "trace" → ⊥) → ((after : AuditReader) → TakesHeader before bytes after → ⊥) →
    (told : AuditLine) (after : AuditReader) → Takes before bytes told after → ⊥
not_taken before bytes first shown other header line.Passed after takes = false≢true (sym shown ∙ takes.1)
not_taken before bytes first shown other header line.Header after takes = header after takes.1
not_taken before bytes first shown other header line.Trace after takes = other takes.1
not_taken before bytes first shown other header (line.Record n r) after takes = false≢true (sym first ∙ takes.0)
