-- What the events of a load are drawn from.
use Rattle.std.specs.Prelude.{ℕ, zero, suc, List, [], ◌∷◌}
use Rattle.rand_pcg.specs.Lcg.{Lcg, increment_of, started}
use Rattle.rand_pcg.specs.Pcg.{multiplier_64, pcg32}
use Rattle.the_run.specs.Commands.{Drawn, drawn}
use Rattle.generated_load.specs.declared.draws.Draw.{Draw}

-- the generator before the first draw
abbrev pub seeded : ℕ → Lcg
seeded number = started 64 multiplier_64 number (increment_of 64 54)

-- three words of the generator, and the generator after them
unfoldable pub draw : Lcg → Drawn × Lcg
draw g = (drawn (pcg32 g).0 (pcg32 (pcg32 g).1).0 (pcg32 (pcg32 (pcg32 g).1).1).0, (pcg32 (pcg32 (pcg32 g).1).1).1)

-- so many draws
abbrev pub draws_from : ℕ → Lcg → List Drawn
draws_from zero g = []
draws_from (suc k) g = (draw g).0 ∷ draws_from k (draw g).1

-- the draws of the load of a number
abbrev pub draws_of : ℕ → ℕ → List Drawn
draws_of number events = draws_from events (seeded number)

abbrev pub drawn_of : Draw → Drawn
drawn_of d = record { what = d.what; site = d.site; name = d.name }
