-- What a round after a block leaves: each site that started has its epoch, and all is quiet.
use Rattle.std.specs.Prelude.{ℕ, ◌≡◌, ◌≢◌, ◌≤◌, true, false, cond, Option, Some, None}
use Rattle.locus_ids.specs.declared.sites.Links.{Links}
use Rattle.locus_ids.specs.Sizes.{sites_max}
use Rattle.role_steps.specs.Views.{SiteView, boot_in}
use Rattle.role_steps.specs.declared.rounds.InEpoch.{InEpoch}
use Rattle.the_run.specs.Worlds.{World, Running, place_at}
use Rattle.row_laws.specs.Orderly.Settling.{is_chosen, asked_boot}

-- the site runs and is in this epoch, or in none
pub record IsIn (w : World) (s : ℕ) (e : Option InEpoch) : Type 0 where
  pub view : SiteView
  pub here : place_at w s ≡ Some (Running view)
  pub epoch : view.epoch ≡ e

-- The chosen set of the site that started, as the first world stood, is in one epoch of that site now, whose members are
-- exactly these with their boots; the other sites that it asked are in none.
pub record Agrees (first now : World) (site : ℕ) (P : Links) : Type 0 where
  pub epoch : InEpoch
  pub own : epoch.id.site ≡ site
  pub exactly : (s : ℕ) → 1 ≤ s → s ≤ sites_max → boot_in epoch.members.boot s ≡ cond (is_chosen first site P s) (asked_boot first site P s) 0
  pub itself : IsIn now site (Some epoch)
  pub members : (s : ℕ) → boot_in P.boot s ≢ 0 → is_chosen first site P s ≡ true → IsIn now s (Some epoch)
  pub others : (s : ℕ) → boot_in P.boot s ≢ 0 → is_chosen first site P s ≡ false → IsIn now s None
