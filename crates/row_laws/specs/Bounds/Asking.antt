-- The current request of each waiting call has a number within the bound of its call.
use Rattle.std.specs.Prelude.{ℕ, ◌≡◌, ◌+◌, ◌≤◌, false, length, Some}
use Rattle.role_steps.specs.Own.{Every}
use Rattle.role_steps.specs.Views.{SiteView}
use Rattle.role_steps.specs.declared.users.WaitingCall.{WaitingCall}
use Rattle.the_run.specs.Worlds.{World, Running, place_at}
use Rattle.row_laws.specs.Bounds.Requests.{most_requests, is_mend}

-- the request comes after as many as were answered, and its number is within the bound, where the call isn't a mend
pub record IsBounded (w : WaitingCall) : Type 0 where
  pub numbered : w.request ≡ length w.answers + 1
  pub within : is_mend w.words ≡ false → w.request ≤ most_requests w.words

-- so it is for each waiting call of each running site
abbrev pub RequestsBounded : World → Type 0
RequestsBounded w = (s : ℕ) (v : SiteView) → place_at w s ≡ Some (Running v) → Every IsBounded v.users.waiting
