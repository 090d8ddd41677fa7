-- What calm rounds rest on at the synchronization sites stands, and so each calm round answers.
use Rattle.std.proofs.Common.{List}
use Rattle.locus_ids.specs.declared.config.Config.{Config}
use Rattle.schedule_lines.specs.Cluster.{config_of}
use Rattle.schedule_lines.specs.Schedule.{AreInOrder}
use Rattle.schedule_lines.specs.declared.line.ScheduleLine.{ScheduleLine}
use Rattle.the_run.specs.Runs.{run}
use Rattle.lawful_trace.specs.Calm.{CalmRoundsAnswer}
use Rattle.row_laws.specs.Shown.{trace_of}
use Rattle.row_laws.specs.OrderlyRows.Agreeing.{IsWithin}
use Rattle.calm_laws.specs.Rounds.{CalmLeft, CalmRoundsLeaveNobody}
use Rattle.calm_laws.proofs.Answer.{calm_rounds_answer}
use Rattle.calm_laws.proofs.Calm.{calm_round}
use Rattle.calm_laws.proofs.Packed.{all_go}
use Rattle.calm_laws.proofs.CalmAnswerLooksKnown.{looks_known}
use Rattle.calm_laws.proofs.CalmAnswerOpenRequests.{open_request_row}
use Rattle.calm_laws.proofs.CalmAnswerOperationFacts.{operations_lawful}
use Rattle.calm_laws.proofs.CalmAnswerReports.{report_row}

pub calm_left : (c : Config) → CalmLeft c
calm_left c = record { looks = looks_known c; operations = operations_lawful c; report = report_row c (all_go c); open_request = open_request_row c (all_go c) }

pub leave_nobody : (c : Config) → CalmRoundsLeaveNobody c
leave_nobody c = calm_round c (calm_left c)

pub rounds_answer : (lines : List ScheduleLine) → AreInOrder lines → IsWithin lines → CalmRoundsAnswer lines (trace_of (run lines))
rounds_answer lines order within = calm_rounds_answer lines order within (calm_left (config_of lines))
