-- The printed trace of what was told: what only the laws see falls away.
use Rattle.std.specs.Prelude.{ℕ, List, [], ◌∷◌}
use Rattle.the_run.specs.of_role_steps.Views.{Told, Shown}
use Rattle.the_run.specs.Worlds.{Line}
use Rattle.lawful_trace.specs.of_tree_model.Folds.{Trace}

-- a printed record comes before the older ones
abbrev pub onto_entries : ℕ → Told → Trace → Trace
onto_entries n (Shown r) older = record { line = n; what = r } ∷ older
onto_entries n _ older = older

-- the printed records of what was told, the latest first
abbrev pub entries : List Line → Trace
entries [] = []
entries (x ∷ older) = onto_entries x.number x.told (entries older)
