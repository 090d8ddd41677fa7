use Rattle.std.proofs.Common.{◌≤◌, ◌-◌, ◌≡◌, true}
use Rattle.std.specs.Io.KnownBytes.{IsAtEnd}
use Rattle.line_reader.specs.Readers.{still_read}
use Rattle.audit_run.proofs.Ending.{SoFar}
use Rattle.audit_run.proofs.input.hear_each.Given as goal

abbrev pub invariant-loop-hearing : goal.invariant-loop-hearing
invariant-loop-hearing g l = record {
  limit : l.reader.limit ≡ 4194304;
  few : l.reader.number ≤ 1000000;
  source : g.S.Source.faults l.fn.source ≤ g.S.Source.faults l.source;
  at_end : l.reader.ended ≡ true → IsAtEnd (g.S.Source.left l.source);
  so_far : SoFar l.hearing l.reader.number (g.S.Source.left l.fn.source) (still_read l.reader (g.S.Source.left l.source));
}

abbrev pub decreases-loop-hearing : goal.decreases-loop-hearing
decreases-loop-hearing g l = 1000000 - l.reader.number
