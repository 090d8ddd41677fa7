-- The counts of the load 0 with 1 events.
use Rattle.std.specs.Prelude.{◌≡◌, refl, ℕ, List, [], ◌∷◌, ◌++◌, codes}
use Rattle.std.specs.Fmt.{digits}
use Rattle.hex.specs.Hex.{encode_with}
use Rattle.the_run.specs.Commands.{Drawn, drawn, load_text}

abbrev lines : List Drawn
lines =
    drawn 1203932051 3113183783 2101201694 ∷
    []

abbrev written : List ℕ
written =
    codes "lines 21\n" ++
    codes "calls 4\n" ++
    codes "replies 4\n" ++
    codes "ok 4\n" ++
    codes "commits 2\n" ++
    codes "adopts 4\n" ++
    codes "joins 6\n" ++
    codes "voids 3\n" ++
    []

pub runs : load_text lines ≡ written
unfolding digits encode_with
runs = refl
