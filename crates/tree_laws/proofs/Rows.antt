-- Where each told line comes as it may, each printed record comes as the lawful trace has it.
use Rattle.std.proofs.Common.{ℕ, List, [], ◌∷◌}
use Rattle.locus_ids.specs.declared.config.Config.{Config}
use Rattle.the_run.specs.of_role_steps.Views.{Told, Shown, Promises, Takes, LooksAgain, Begins, Shuts, Reserves}
use Rattle.the_run.specs.Worlds.{Line}
use Rattle.tree_laws.specs.Printed.{onto_entries, entries}
use Rattle.tree_laws.specs.Following.{MayTell, IsFollowed, RowsAreLawful}

row_of : (c : Config) (older : List Line) (n : ℕ) (x : Told) → MayTell c older x → RowsAreLawful c (entries older) → RowsAreLawful c (onto_entries n x (entries older))
row_of c older n (Shown r) may h = (may.row, h)
row_of c older n (Promises s id reach) may h = h
row_of c older n (Takes s d request times a) may h = h
row_of c older n (LooksAgain s d request times) may h = h
row_of c older n (Begins s e i f) may h = h
row_of c older n (Shuts s e i) may h = h
row_of c older n (Reserves s e i f) may h = h

pub followed_rows : (c : Config) (trace : List Line) → IsFollowed c trace → RowsAreLawful c (entries trace)
followed_rows c [] h = tt
followed_rows c (x ∷ older) h = row_of c older x.number x.told h.0 (followed_rows c older h.1)
