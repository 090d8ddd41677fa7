-- The replies of a recorded tree of 1 calls.
use Rattle.std.specs.Prelude.{◌≡◌, refl, ℕ, List, [], ◌∷◌, ◌++◌, codes}
use Rattle.trace_book.specs.declared.call.Call.TheVariants as call
use Rattle.std.specs.Fmt.{digits}
use Rattle.hex.specs.Hex.{encode_with}
use Rattle.the_run.specs.Commands.{Asked, tree_text}

abbrev lines : List Asked
lines =
    record { site = 1; process = 1; words = call.Stat (codes "/") } ∷
    []

abbrev written : List ℕ
written =
    codes "reply 1 1 c1.1.1 ok d 0.1 0 0.0\n" ++
    []

pub runs : tree_text lines ≡ written
unfolding digits encode_with
runs = refl
