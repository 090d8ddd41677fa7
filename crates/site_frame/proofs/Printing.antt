-- What is printed of one list after another.
use Rattle.std.specs.Prelude.{◌≡◌, List, [], ◌∷◌, ◌++◌}
use Rattle.std.proofs.Common.{refl, ap}
use Rattle.role_steps.specs.of_wire_messages.of_trace_book.declared.record.Record.{Record}
use Rattle.role_steps.specs.Views.{Told, Shown, Promises, Takes, LooksAgain, Begins, Shuts, Reserves}
use Rattle.site_frame.specs.Printed.{printed}

pub printed_append : (xs ys : List Told) → printed (xs ++ ys) ≡ printed xs ++ printed ys
printed_append [] ys = refl
printed_append (Shown r ∷ xs) ys = ap (λ (rs : List Record). r ∷ rs) (printed_append xs ys)
printed_append (Promises site id reach ∷ xs) ys = printed_append xs ys
printed_append (Takes site call n m a ∷ xs) ys = printed_append xs ys
printed_append (LooksAgain site call n m ∷ xs) ys = printed_append xs ys
printed_append (Begins site id inst file ∷ xs) ys = printed_append xs ys
printed_append (Shuts site id inst ∷ xs) ys = printed_append xs ys
printed_append (Reserves site id inst file ∷ xs) ys = printed_append xs ys
