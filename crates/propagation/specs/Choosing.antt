-- Which version is adopted: that of the first pull that is ready and fits the site's own copy. Ready ones that don't are dropped on
-- the way.
use Rattle.std.specs.Prelude.{ℕ, ◌≡◌, Bool, cond, List, [], ◌∷◌, slice_get, Option, None, Some}
use Rattle.role_steps.specs.Tables.{without_row}
use Rattle.role_steps.specs.Views.{Frame, SiteView, Outcome, quiet}
use Rattle.role_steps.specs.Storage.{copy_of}
use Rattle.role_steps.specs.Pulling.{pull_key}
use Rattle.role_steps.specs.Adoption.{is_ready, fits_own, adopts_pull}
use Rattle.role_steps.specs.declared.pulls.Pull.{Pull}
use Rattle.keyed_tables.specs.Rising.{Rising}
use Rattle.propagation.specs.declared.adopting.Verdict.{Verdict}
use Rattle.propagation.specs.declared.adopting.Verdict.TheVariants as verdict
use Rattle.propagation.specs.declared.adopting.Look.{Look}

-- what is pulled once the dropped ones are gone, and the pull that is chosen
pub record Choice : Type 0 where
  pub pulls : List Pull
  pub chosen : Option Pull

abbrev pub chooses : (Pull → Bool) → (Pull → Bool) → List Pull → List Pull → Choice
chooses ready above [] pulls = record { pulls = pulls; chosen = None }
chooses ready above (p ∷ ps) pulls =
    cond (ready p)
    (cond (above p) (record { pulls = pulls; chosen = Some p }) (chooses ready above ps (without_row pull_key (pull_key p) pulls)))
    (chooses ready above ps pulls)

abbrev pub without_one : Option Pull → List Pull → List Pull
without_one None pulls = pulls
without_one (Some p) pulls = without_row pull_key (pull_key p) pulls

-- what is pulled once the chosen one is taken too
abbrev pub without_chosen : Choice → List Pull
without_chosen c = without_one c.chosen c.pulls

-- a pull waits, or is dropped, or is chosen
abbrev pub verdict_of : (Pull → Bool) → (Pull → Bool) → Pull → Verdict
verdict_of ready above p = cond (ready p) (cond (above p) verdict.Adopt verdict.Drop) verdict.Wait

-- what a look at the pull at a place tells
pub record LooksAt (ready above : Pull → Bool) (pulls : List Pull) (place : ℕ) (look : Look) : Type 0 where
  pub pull : Pull
  pub stands : slice_get pulls place ≡ Some pull
  pub file : look.file ≡ pull.file
  pub verdict : look.verdict ≡ verdict_of ready above pull
  pub rising : Rising pull_key pulls

abbrev pub adopted_of : Frame → SiteView → Option Pull → Outcome SiteView
adopted_of f v None = quiet v
adopted_of f v (Some p) = adopts_pull f p v

-- the adoption of a site, by the choice among its pulls
abbrev pub adopts_by : Frame → SiteView → Outcome SiteView
adopts_by f v =
    let c : Choice = chooses (is_ready v) (λ p. fits_own p (copy_of v.store p.file)) v.pulls v.pulls in
    adopted_of f (record v { pulls = c.pulls }) c.chosen
