-- A member's tick leaves a version that is held or pulled whole so: it adopts that one, or another one.
use Rattle.std.proofs.Common.{◌≡◌, ℕ, ◌==◌, ◌⊎◌, Option, Some, None, ◌∙◌, ap}
use Rattle.locus_ids.specs.declared.config.Config.{Config}
use Rattle.role_steps.specs.Adoption.{adopts_first}
use Rattle.role_steps.specs.Epochs.{frame_in}
use Rattle.role_steps.specs.Own.{Every}
use Rattle.role_steps.specs.Views.{Frame, SiteView, Outcome}
use Rattle.role_steps.specs.declared.rounds.InEpoch.{InEpoch}
use Rattle.the_run.specs.Steps.{adopts_of, adopts_in, ends_event}
use Rattle.run_laws.specs.Epochs.Forming.{TableFormless, FormlessSite}
use Rattle.run_laws.proofs.Epochs.Forms.{adopts_of_formless}
use Rattle.calm_laws.proofs.Convergence.Coming.{Ends, ends_keep}
use Rattle.calm_laws.proofs.Convergence.Starting.{HasTicked}

-- the site has tried an adoption, and its calls alone have changed besides
pub record HasTried (f : Frame) (v u : SiteView) : Type 0 where
  pub store : u.store ≡ (adopts_first f v.pulls v).view.store
  pub pulls : u.pulls ≡ (adopts_first f v.pulls v).view.pulls
  pub tables : u.tables ≡ (adopts_first f v.pulls v).view.tables

pub has_tried : (c : Config) (e : InEpoch) (s : ℕ) (v u : SiteView) → Every TableFormless v.tables → v.round ≡ None → v.epoch ≡ Some e → HasTicked c s v u → HasTried (frame_in c s v.boot e) v u
has_tried c e s v u formless none inside h = record {
  store = ap (λ (y : SiteView). y.store) h.left ∙ (ends.store ∙ ap (λ (y : SiteView). y.store) is);
  pulls = ap (λ (y : SiteView). y.pulls) h.left ∙ (ends.pulls ∙ ap (λ (y : SiteView). y.pulls) is);
  tables = ap (λ (y : SiteView). y.tables) h.left ∙ (ends.tables ∙ ap (λ (y : SiteView). y.tables) is);
}
  where
    a : Outcome SiteView
    a = adopts_in c s v

    formed : FormlessSite v a
    formed = adopts_of_formless c s v.epoch v formless

    ends : Ends a.view (ends_event c s h.links a.view).view
    ends = ends_keep c s h.links a.view e (formed.round ∙ none) (formed.epoch ∙ inside)

    is : a.view ≡ (adopts_first (frame_in c s v.boot e) v.pulls v).view
    is = ap (λ (o : Option InEpoch). (adopts_of c s o v).view) inside
