-- That the audit answers a trace with yes.
use Rattle.std.specs.Prelude.{◌≤◌, List, length, reverse}
use Rattle.schedule_lines.specs.Schedule.{MayEnd}
use Rattle.schedule_lines.specs.declared.line.ScheduleLine.{ScheduleLine}
use Rattle.tree_model.specs.Folds.{Trace}
use Rattle.audit_answers.specs.Answers.{IsAnswered}
use Rattle.audit_answers.specs.declared.answer.Answer.TheVariants as answer
use Rattle.audit_laws.specs.Inputs.{input_of}

-- The trace of these lines as it is printed, behind their header lines and `trace`, is answered yes, with how many records it has: where a
-- text can number the lines.
abbrev pub IsAuditedWell : List ScheduleLine → Trace → Type 0
IsAuditedWell lines trace =
    MayEnd lines → length lines ≤ 4294967295 → IsAnswered (input_of lines (reverse trace)) (answer.Yes (length (reverse trace)))
