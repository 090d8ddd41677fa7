-- The world in code shows a world of the run.
use Rattle.std.specs.Prelude.{◌≡◌, ℕ, ◌≤◌, List, None, Some, []}
use Rattle.locus_ids.specs.Sizes.{sites_max}
use Rattle.locus_ids.specs.declared.config.Config.{Config}
use Rattle.keyed_tables.specs.Rising.{Rising}
use Rattle.the_run.specs.Worlds.{World, place_at, script_of, armed_site}
use Rattle.site_place.specs.Places.{PlaceState}
use Rattle.the_run.specs.Runs.{entries_of_run}
use Rattle.run_book.specs.declared.writing.Writing.{Writing}
use Rattle.run_book.specs.Writings.{written_of}
use Rattle.run_book.specs.Ledgers.{Keeps}
use Rattle.world.specs.States.{WorldState, state_at, place_of}

-- what was taken before of what the book writes of the records
pub record Taken : Type 0 where
  pub writing : Writing
  pub bytes : List ℕ

abbrev pub nothing_taken : Writing → Taken
nothing_taken writing = record { writing = writing; bytes = [] }

-- the bytes of all that is written of the records
abbrev pub all_taken : Writing → World → Taken
all_taken writing w = record { writing = writing; bytes = written_of writing (entries_of_run w) }

-- the site of this number in this cluster
pub record IsSite (c : Config) (s : ℕ) (p : PlaceState) : Type 0 where
  pub site : p.site ≡ s
  pub config : p.config ≡ c

-- each site stands as in the world, with the script that is armed for it, and the same circuits are cut
pub record ShowsSites (w : World) (x : WorldState) : Type 0 where
  pub places : (s : ℕ) → 1 ≤ s → s ≤ sites_max → place_at w s ≡ place_of (state_at x.places s)
  pub scripts : (s : ℕ) (p : PlaceState) → state_at x.places s ≡ Some p → script_of w s ≡ p.armed
  pub own : (s : ℕ) (p : PlaceState) → state_at x.places s ≡ Some p → IsSite x.config s p
  pub table : Rising armed_site w.armed
  pub circuits : w.circuits ≡ x.circuits

-- The world of the run is shown, where these bytes of what it writes were taken before. Once an event passed a limit, the run has
-- ended with the world before that event: then what is written and counted and the limit alone count, and the sites in code may stand as after it.
pub record Shows (c : Config) (taken : Taken) (w : World) (x : WorldState) : Type 0 where
  pub config : x.config ≡ c
  pub writing : x.book.writing ≡ taken.writing
  pub book : Keeps taken.bytes w x.book
  pub sites : w.over ≡ None → ShowsSites w x

-- whatever world is shown, after the change it is that world with the change
abbrev pub Follows : (Config → World → World) → WorldState → WorldState → Type 0
Follows change old new = (c : Config) (taken : Taken) (w : World) → Shows c taken w old → Shows c taken (change c w) new

-- the same, of a world in which no limit was passed
abbrev pub FollowsWithin : (Config → World → World) → WorldState → WorldState → Type 0
FollowsWithin change old new = (c : Config) (taken : Taken) (w : World) → w.over ≡ None → Shows c taken w old → Shows c taken (change c w) new

-- whatever world is shown, this is its answer to the question, where no limit was passed
abbrev pub Answers : {A : Type 0} → (World → A) → WorldState → A → Type 0
Answers question x answer = (c : Config) (taken : Taken) (w : World) → w.over ≡ None → Shows c taken w x → question w ≡ answer
