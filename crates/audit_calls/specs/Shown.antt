-- A row, and the call that it stands for.
use Rattle.promises.specs.Past.{CallSoFar}
use Rattle.audit_calls.specs.declared.row.CallRow.TheInside.{Inside}

abbrev pub shown : Inside → CallSoFar
shown r = record {
  id = r.at.id;
  process = r.at.process;
  words = r.script.words;
  epoch = r.at.epoch;
  begins = r.script.begins;
  free = r.at.free;
  turn = r.at.turn;
  granted = r.granted;
  answers = r.script.answers;
  waits = r.waits;
}
