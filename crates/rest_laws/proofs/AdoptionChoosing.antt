-- Which pull is adopted: the first that is ready and above what the site has; those before it that are ready and aren't above are dropped.
use Rattle.std.proofs.Common.{◌≡◌, ℕ, Bool, true, false, List, [], ◌∷◌, refl}
use Rattle.locus_ids.specs.declared.config.Config.{Config}
use Rattle.role_steps.specs.Adoption.{adopts, adopts_first, adopts_pull, is_ready, without_pull, fits_own}
use Rattle.role_steps.specs.Pulling.{pull_key}
use Rattle.role_steps.specs.Storage.{copy_of}
use Rattle.role_steps.specs.Views.{Frame, Outcome, SiteView}
use Rattle.role_steps.specs.declared.pulls.Pull.{Pull}
use Rattle.the_run.specs.Worlds.{Line}
use Rattle.the_run.proofs.InsideSync.{every_without}
use Rattle.tree_laws.specs.Doing.{Fine, IsAdopted, PullsFact, WriteFact}
use Rattle.tree_laws.specs.Stores.{PullFact}
use Rattle.store_laws.specs.OneTree.Places.{InsideFact}
use Rattle.store_laws.specs.OneTree.Rest.{AllRest, Past}
use Rattle.store_laws.specs.OneTree.Roles.{Ready}
use Rattle.rest_laws.proofs.AdoptionAdopting.{adopted_fine}
use Rattle.rest_laws.proofs.AdoptionNoting.{noted_own}
use Rattle.rest_laws.proofs.AdoptionWants.{IsTaken}
use Rattle.store_laws.proofs.OneTree.WantsAdopted.{ascends_left}

-- what is done of a pull that is ready, where it is above what the site has, and where it isn't
abbrev by_above : Frame → Pull → List Pull → SiteView → Bool → Outcome SiteView
by_above f p ps v b = elim b [
  | true ↦ adopts_pull f p v
  | false ↦ adopts_first f ps (without_pull p v)
]

abbrev by_ready : Frame → Pull → List Pull → SiteView → Bool → Outcome SiteView
by_ready f p ps v b = elim b [
  | true ↦ by_above f p ps v (fits_own p (copy_of v.store p.file))
  | false ↦ adopts_first f ps v
]

module _ (c : Config) (n : ℕ) (trace : List Line) (past : Past c trace) (f : Frame) where
  -- where the rest of it comes as it may, the outcome is fine
  abbrev IsFine : SiteView → Outcome SiteView → Type 0
  IsFine v o = AllRest c n trace o.told → Fine SiteView c n trace (IsAdopted f.me) (InsideFact c f) (WriteFact c n trace f.me v.store) o

  dropped : (p : Pull) (v : SiteView) → InsideFact c f trace v → InsideFact c f trace (without_pull p v)
  dropped p v h = record { frame = h.frame; users = h.users; store = h.store; groups = h.groups; tables = h.tables; reports = h.reports; pulls = every_without (PullFact c trace f.epoch f.me) pull_key (pull_key p) v.pulls h.pulls; pulls_ascend = ascends_left (pull_key p) v.pulls h.pulls_ascend }

  first_fine : (ps : List Pull) (v : SiteView) → PullsFact c f trace ps → InsideFact c f trace v → IsFine v (adopts_first f ps v)
  first_fine [] v all h rest = record { told = tt; own = tt; view = h; sent = tt; written = tt }
  first_fine (p ∷ ps) v all h rest = over (first_fine ps (without_pull p v) all.1 (dropped p v h)) (first_fine ps v all.1 h) (is_ready v p) refl rest
    where
      above : IsFine v (adopts_first f ps (without_pull p v)) → (b : Bool) → is_ready v p ≡ true → fits_own p (copy_of v.store p.file) ≡ b → IsFine v (by_above f p ps v b)
      above without true r a q = (let k : IsTaken c trace f v p = record { past = past; inside = h; pull = all.0; ready = r; above = a; rest = q.0 } in adopted_fine c n trace f v p k (λ t m same fact. noted_own c n trace f v p k t same fact))
      above without false r a q = without q

      over : IsFine v (adopts_first f ps (without_pull p v)) → IsFine v (adopts_first f ps v) → (b : Bool) → is_ready v p ≡ b → IsFine v (by_ready f p ps v b)
      over without later true r q = above without (fits_own p (copy_of v.store p.file)) r refl q
      over without later false r q = later q

pub adopts_fine : (c : Config) (n : ℕ) (trace : List Line) (f : Frame) (v : SiteView) → Ready c trace f → InsideFact c f trace v → AllRest c n trace (adopts f v).told → Fine SiteView c n trace (IsAdopted f.me) (InsideFact c f) (WriteFact c n trace f.me v.store) (adopts f v)
adopts_fine c n trace f v ready h rest = first_fine c n trace ready.past f v.pulls v h.pulls h rest
