-- The replies of a recorded tree of 2 calls.
use Rattle.std.specs.Prelude.{◌≡◌, refl, ℕ, List, [], ◌∷◌, ◌++◌, None, codes}
use Rattle.trace_book.specs.declared.call.Call.TheVariants as call
use Rattle.std.specs.Fmt.{digits}
use Rattle.hex.specs.Hex.{encode_with}
use Rattle.the_run.specs.Commands.{Asked, tree_text}

abbrev lines : List Asked
lines =
    record { site = 1; process = 1; words = call.Create (codes "/a") None } ∷
    record { site = 2; process = 1; words = call.Stat (codes "/a") } ∷
    []

abbrev written : List ℕ
written =
    codes "reply 1 1 c1.1.1 ok 2\n" ++
    codes "reply 2 1 c2.1.1 ok f 0.2 0 1.1\n" ++
    []

pub runs : tree_text lines ≡ written
unfolding digits encode_with
runs = refl
