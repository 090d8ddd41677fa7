use Rattle.std.proofs.Common.{◌≡◌, ◌≤◌, ◌<◌, ◌+◌, ◌-◌, [], length, take, true, false}
use Rattle.std.specs.Io.KnownBytes.{Keeps}
use Rattle.line_reader.specs.Reading.{has_feed}
use Rattle.line_reader.specs.Readers.{still_read}
use Rattle.line_reader.proofs.reader.LineReader.next.Given as goal

abbrev pub invariant-loop-len : goal.invariant-loop-len
invariant-loop-len g l = record {
  kept : Keeps (still_read l.initial.self (g.S.Source.left l.initial.source)) (still_read l.self (g.S.Source.left l.source));
  ended : l.self.ended ≡ l.initial.self.ended;
  held : l.initial.self.ended ≡ true → l.source ≡ l.initial.source;
  number : l.self.number ≡ l.initial.self.number;
  limit : l.self.limit ≡ l.initial.self.limit;
  line : l.self.line ≡ [];
  few : l.self.number < 1000000;
  seen : l.seen ≤ length l.self.ahead;
  short : l.seen ≤ l.self.limit;
  free : has_feed (take l.seen l.self.ahead) ≡ false;
  asked : has_feed l.initial.self.ahead ≡ true → (l.source ≡ l.initial.source) × (l.self.ahead ≡ l.initial.self.ahead);
  steady : g.S.Source.faults l.source ≡ g.S.Source.faults l.initial.source;
}

abbrev pub decreases-loop-len : goal.decreases-loop-len
decreases-loop-len g l = l.self.limit + 1 - length l.self.ahead
