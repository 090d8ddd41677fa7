-- Of what is told, the records that a trace prints; all else is seen by laws alone.
use Rattle.std.specs.Prelude.{List, [], ◌∷◌}
use Rattle.role_steps.specs.of_wire_messages.of_trace_book.declared.record.Record.{Record}
use Rattle.role_steps.specs.Views.{Told, Shown}

abbrev pub printed : List Told → List Record
printed [] = []
printed (Shown r ∷ xs) = r ∷ printed xs
printed (_ ∷ xs) = printed xs
