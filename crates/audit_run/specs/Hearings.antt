-- What is known of the lines of an input so far.
use Rattle.std.specs.Prelude.{ℕ, ◌≡◌, ◌+◌, true, false, cond, List, length, filter, fold, Option, None, Some}
use Rattle.locus_ids.specs.declared.config.Config.{Config}
use Rattle.trace_book.specs.declared.record.Record.{Record}
use Rattle.audit_input.specs.Input.{ReadsAll, Takes, nothing_read}
use Rattle.audit_input.specs.declared.audit_reader.AuditLine.{AuditLine}
use Rattle.audit_input.specs.declared.audit_reader.AuditLine.TheVariants as line
use Rattle.audit_input.specs.declared.audit_reader.AuditReader.{AuditReader}
use Rattle.audit_rules.specs.Consistent.{Audited, audited, nothing_audited}
use Rattle.audit_answers.specs.Answers.{first_broken, heard, is_broken, is_record}
use Rattle.trace_audit.specs.Audits.{Auditing}
use Rattle.audit_run.specs.declared.hearing.Hearing.{Hearing}

-- what all these lines tell
abbrev pub heard_all : Config → List AuditLine → Audited
heard_all c lines = fold (heard c) (nothing_audited c) lines

-- Before the trace the reader is what the lines make, and there is no record. From then on the cluster is the one of the header, what the
-- records tell is known until one isn't consistent, and the first such is.
abbrev pub IsStage : Hearing → AuditReader → List AuditLine → Option Auditing → Type 0
IsStage h reader lines None = (h.input ≡ reader) × (reader.traced ≡ false) × (h.tally.records ≡ 0) × (h.tally.broken ≡ None)
IsStage h reader lines (Some a) =
    (a.config ≡ reader.header.config)
    × (reader.traced ≡ true)
    × (h.tally.broken ≡ None → a.state ≡ heard_all reader.header.config lines)
    × (h.tally.broken ≡ first_broken reader.header.config (nothing_audited reader.header.config) 1 lines)

-- these lines of bytes were heard, as these lines
pub record Hears (all : List (List ℕ)) (lines : List AuditLine) (h : Hearing) : Type 0 where
  pub reader : AuditReader
  pub reads : ReadsAll nothing_read all lines reader
  pub counted : h.tally.records ≡ length (filter is_record lines)
  pub stage : IsStage h reader lines h.audit

-- the bytes are no line that may stand after these
pub record Refuses (all : List (List ℕ)) (lines : List AuditLine) (bytes : List ℕ) : Type 0 where
  pub reader : AuditReader
  pub reads : ReadsAll nothing_read all lines reader
  pub bad : (l : AuditLine) (next : AuditReader) → Takes reader bytes l next → ⊥

-- the line `trace` isn't among these
pub record MissesTrace (all : List (List ℕ)) (lines : List AuditLine) : Type 0 where
  pub reader : AuditReader
  pub reads : ReadsAll nothing_read all lines reader
  pub missing : reader.traced ≡ false

-- the audit of a trace in the cluster of this reader's header, before the first record
abbrev pub audit_of : AuditReader → Auditing
audit_of r = record { config = r.header.config; state = nothing_audited r.header.config }

-- by a line before the trace the reader goes on, and where it is the line `trace`, the audit begins
abbrev pub GoesOn : AuditLine → AuditReader → Hearing → Hearing → Type 0
GoesOn line.Trace next old new = (new.audit ≡ Some (audit_of next)) × (new.tally ≡ old.tally)
GoesOn _ next old new = (new.audit ≡ old.audit) × (new.input ≡ next) × (new.tally ≡ old.tally)

pub record TakesBefore (old : Hearing) (bytes : List ℕ) (new : Hearing) : Type 0 where
  pub told : AuditLine
  pub next : AuditReader
  pub takes : Takes old.input bytes told next
  pub goes_on : GoesOn told next old new

-- the line, where what is known with it is broken
abbrev pub broken_at : ℕ → Audited → Option ℕ
broken_at number known = cond (is_broken known) (Some number) None

-- a record is judged in this audit, unless one before it isn't consistent
abbrev pub JudgesIn : ℕ → ℕ → Record → Auditing → Option ℕ → Hearing → Type 0
JudgesIn number n r a (Some first) new = (new.audit ≡ Some a) × (new.tally.broken ≡ Some first)
JudgesIn number n r a None new = (new.audit ≡ Some (record { config = a.config; state = audited a.config a.state n r })) × (new.tally.broken ≡ broken_at number (audited a.config a.state n r))

pub record Judges (number n : ℕ) (r : Record) (old new : Hearing) : Type 0 where
  pub counted : new.tally.records ≡ old.tally.records + 1
  pub judged : (a : Auditing) → old.audit ≡ Some a → JudgesIn number n r a old.tally.broken new
