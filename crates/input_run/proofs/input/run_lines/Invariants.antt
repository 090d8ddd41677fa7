use Rattle.std.proofs.Common.{◌≤◌, ◌-◌, ◌≡◌, true}
use Rattle.std.specs.Io.KnownBytes.{IsAtEnd}
use Rattle.line_reader.specs.Readers.{still_read}
use Rattle.input_run.proofs.Runs.{SoFar}
use Rattle.input_run.proofs.input.run_lines.Given as goal

abbrev pub invariant-loop-runner : goal.invariant-loop-runner
invariant-loop-runner g l = record {
  limit : l.reader.limit ≡ 16384;
  few : l.reader.number ≤ 1000000;
  source : g.S.Source.faults l.fn.source ≤ g.S.Source.faults l.source;
  sink : g.K.Sink.faults l.fn.sink ≤ g.K.Sink.faults l.sink;
  flushed : g.K.Sink.flushed l.sink ≡ g.K.Sink.taken l.sink;
  at_end : l.reader.ended ≡ true → IsAtEnd (g.S.Source.left l.source);
  so_far : SoFar g.R.LineRunner.stands g.R.LineRunner.input l.runner l.reader.number l.reader.ended (g.S.Source.left l.fn.source) (still_read l.reader (g.S.Source.left l.source)) (g.K.Sink.taken l.fn.sink) (g.K.Sink.taken l.sink);
}

abbrev pub decreases-loop-runner : goal.decreases-loop-runner
decreases-loop-runner g l = 1000000 - l.reader.number
