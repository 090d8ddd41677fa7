-- The replies of a recorded tree of 15 calls.
use Rattle.std.specs.Prelude.{◌≡◌, refl, ℕ, List, [], ◌∷◌, ◌++◌, None, codes}
use Rattle.trace_book.specs.declared.call.Call.TheVariants as call
use Rattle.trace_book.specs.declared.call.OpenMode.TheVariants as how
use Rattle.std.specs.Fmt.{digits}
use Rattle.hex.specs.Hex.{encode_with}
use Rattle.the_run.specs.Commands.{Asked, tree_text}

abbrev lines : List Asked
lines =
    record { site = 1; process = 1; words = call.MakeDir (codes "/usr/d") } ∷
    record { site = 2; process = 1; words = call.Create (codes "/usr/d/x") None } ∷
    record { site = 3; process = 1; words = call.Open (codes "/usr/d/x") how.Write } ∷
    record { site = 3; process = 1; words = call.Write 0 0 (104 ∷ 105 ∷ []) } ∷
    record { site = 1; process = 1; words = call.Open (codes "/usr/d/x") how.Read } ∷
    record { site = 3; process = 1; words = call.Close 0 } ∷
    record { site = 1; process = 1; words = call.Open (codes "/usr/d/x") how.Read } ∷
    record { site = 1; process = 1; words = call.Read 0 0 9 } ∷
    record { site = 2; process = 1; words = call.Rename (codes "/usr/d/x") (codes "y") } ∷
    record { site = 1; process = 1; words = call.List (codes "/usr/d") } ∷
    record { site = 1; process = 1; words = call.List (codes "/") } ∷
    record { site = 2; process = 1; words = call.Unlink (codes "/usr/d/y") } ∷
    record { site = 3; process = 8; words = call.List (codes "/usr/d") } ∷
    []

abbrev written : List ℕ
written =
    codes "reply 1 1 c1.1.1 ok 65\n" ++
    codes "reply 2 1 c2.1.1 ok 66\n" ++
    codes "reply 3 1 c3.1.1 ok 0\n" ++
    codes "reply 3 1 c3.1.2 ok\n" ++
    codes "reply 1 1 c1.1.2 busy 3 1\n" ++
    codes "reply 3 1 c3.1.3 ok 3.1\n" ++
    codes "reply 1 1 c1.1.3 ok 0\n" ++
    codes "reply 1 1 c1.1.4 ok 6869\n" ++
    codes "reply 2 1 c2.1.2 ok\n" ++
    codes "reply 1 1 c1.1.5 ok y\n" ++
    codes "reply 1 1 c1.1.6 ok usr\n" ++
    codes "reply 2 1 c2.1.3 busy 1 1\n" ++
    codes "reply 3 8 c3.1.4 ok y\n" ++
    []

pub runs : tree_text lines ≡ written
unfolding digits encode_with
runs = refl
