-- Which words are which command.
use Rattle.std.specs.Prelude.{◌≡◌, ◌<◌, ◌≤◌, ◌^◌, ℕ, List, [], ◌∷◌, codes}
use Rattle.std.specs.Fmt.{decimal}
use Rattle.command_words.specs.declared.command.Command.{Command}
use Rattle.command_words.specs.declared.command.Command.TheVariants.{Run, Tree, Audit, Make}

-- the words are the command
abbrev pub IsCommand : List (List ℕ) → Command → Type 0
IsCommand words Run = words ≡ codes "run" ∷ []
IsCommand words Tree = words ≡ codes "tree" ∷ []
IsCommand words Audit = words ≡ codes "audit" ∷ []
IsCommand words (Make number events) =
    (words ≡ codes "make" ∷ decimal number ∷ decimal events ∷ []) × (number < 2 ^ 64) × (1 ≤ events) × (events ≤ 2000)
