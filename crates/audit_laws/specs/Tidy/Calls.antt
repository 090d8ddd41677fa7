-- What is true of the accepted calls in the past of consistent records, beside their sites.
use Rattle.std.specs.Prelude.{ℕ, ◌≡◌, ◌≤◌, ◌<◌, ◌==◌, ◌⊎◌, true, List, length, filter}
use Rattle.std.specs.List.{list_any, AllByRecursion}
use Rattle.locus_ids.specs.declared.ids.CallId.{CallId}
use Rattle.promises.specs.Past.{Site, CallSoFar, first_or, no_site}
use Rattle.promises.specs.After.{is_id}
use Rattle.promises.specs.Rows.{waits_at}

abbrev pub site_of : List Site → ℕ → Site
site_of sites number = first_or no_site (λ (s : Site). s.number == number) sites

-- the name was given in an earlier boot of the site, or is of a call that the site has accepted in this one
abbrev pub IsGiven : Site → CallId → Type 0
IsGiven s id = (id.boot < s.boot) ⊎ ((id.boot ≡ s.boot) × (id.n ≤ s.accepted))

pub record CallStands (sites : List Site) (k : CallSoFar) : Type 0 where
  pub there : list_any (λ (s : Site). s.number == k.id.site) sites ≡ true
  pub given : IsGiven (site_of sites k.id.site) k.id
  -- a call that waits is of the present boot of a running site
  pub up : k.waits ≡ true → (site_of sites k.id.site).up ≡ true
  pub present : k.waits ≡ true → k.id.boot ≡ (site_of sites k.id.site).boot

pub record CallsStand (sites : List Site) (calls : List CallSoFar) : Type 0 where
  -- a name is given to one call
  pub once : (id : CallId) → length (filter (is_id id) calls) ≤ 1
  pub each : AllByRecursion (CallStands sites) calls
  -- a process waits for one call; the system, whose number is 0, may for several mends
  pub alone : (site process : ℕ) → (process ≡ 0 → ⊥) → length (filter (waits_at site process) calls) ≤ 1
