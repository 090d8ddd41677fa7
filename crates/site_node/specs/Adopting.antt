-- The adoption of a site: the choice among its pulls, and what is done with the chosen one.
use Rattle.std.specs.Prelude.{ℕ, ◌≡◌, Bool, cond, [], ◌∷◌, slice_get, Some}
use Rattle.role_steps.specs.Views.{Frame, SiteView, Shown, Outcome, to_sync}
use Rattle.role_steps.specs.Storage.{copy_of, with_version}
use Rattle.role_steps.specs.Pulling.{pull_key, wanted_pages}
use Rattle.role_steps.specs.Adoption.{is_ready, fits_own, content_under, copy_adopted, adopt_record, adopt_write}
use Rattle.role_steps.specs.declared.pulls.Pull.{Pull}
use Rattle.wire_messages.specs.declared.body.Body.TheVariants as body
use Rattle.keyed_tables.specs.Rising.{Rising}
use Rattle.propagation.specs.Choosing.{Choice, chooses}
use Rattle.site_parts.specs.of_site_tables.Tables.{noting_own}
use Rattle.site_node.specs.declared.choosing.Fate.{Fate}
use Rattle.site_node.specs.declared.choosing.Fate.TheVariants as fate
use Rattle.site_node.specs.declared.choosing.PullSeen.{PullSeen}

abbrev pub fits_own_in : SiteView → Pull → Bool
fits_own_in v p = fits_own p (copy_of v.store p.file)

abbrev pub choice_at : SiteView → Choice
choice_at v = chooses (is_ready v) (fits_own_in v) v.pulls v.pulls

abbrev pub fate_of : (Pull → Bool) → (Pull → Bool) → Pull → Fate
fate_of ready fits p = cond (ready p) (cond (fits p) fate.Adopt fate.Drop) fate.Wait

-- what a look at the pull at a place tells
pub record ShowsPull (v : SiteView) (place : ℕ) (seen : PullSeen) : Type 0 where
  pub pull : Pull
  pub stands : slice_get v.pulls place ≡ Some pull
  pub file : seen.file ≡ pull.file
  pub fate : seen.fate ≡ fate_of (is_ready v) (fits_own_in v) pull
  pub rising : Rising pull_key v.pulls

-- a pulled version that was taken out is adopted
abbrev pub adopted_now : Frame → Pull → SiteView → Outcome SiteView
adopted_now f p v = record {
  view = record v { store = with_version (copy_adopted p (content_under v p)) (wanted_pages p) v.store; tables = noting_own f.me p.file p.stamp v.tables };
  sent = to_sync f p.file.group (body.Have p.file p.stamp);
  told = Shown (adopt_record f p) ∷ [];
  written = Some (adopt_write f p (content_under v p));
}
