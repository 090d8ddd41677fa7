-- An adoption may be told: the pull is of a version that stands above what the site has, and nobody has its file open here.
use Rattle.std.proofs.Common.{◌≡◌, ℕ, ◌==◌, true, List, ◌∙◌, subst}
use Rattle.role_steps.proofs.of_plain_facts.Numbers.{equal}
use Rattle.role_steps.proofs.of_plain_facts.Tests.{and_first, and_second}
use Rattle.locus_ids.specs.declared.config.Config.{Config}
use Rattle.locus_ids.specs.declared.ids.Stamp.{Stamp}
use Rattle.role_steps.specs.Adoption.{adopt_record, is_ready, fits_own}
use Rattle.role_steps.specs.Pulling.{is_complete}
use Rattle.role_steps.specs.Storage.{copy_of}
use Rattle.role_steps.specs.Views.{Frame, SiteView, Told, Shown}
use Rattle.role_steps.specs.declared.pulls.Pull.{Pull}
use Rattle.the_run.specs.Worlds.{Line}
use Rattle.tree_laws.specs.Following.{MayTell}
use Rattle.tree_laws.specs.Frames.{AllStay}
use Rattle.tree_laws.specs.Instances.{Stands}
use Rattle.tree_laws.specs.Stores.{PullFact}
use Rattle.store_laws.proofs.of_tree_laws.Orders.Standing.{same_file_eq}
use Rattle.store_laws.specs.Rests.{AdoptRests, StoreRests}
use Rattle.store_laws.proofs.Adopting.{may_adopt}
use Rattle.store_laws.specs.OneTree.Places.{InsideFact}
use Rattle.store_laws.specs.OneTree.Rest.{Comes, Past, RestTold, more}
use Rattle.store_laws.proofs.OneTree.Staying.{stays}
use Rattle.store_laws.proofs.OneTree.ToldVectorTelling.{vectors_tell_newer}
use Rattle.rest_laws.proofs.StoreStepResting.{store_rests}
use Rattle.rest_laws.proofs.AdoptionShut.{shut_here}

-- the pull is ready here, and above what the site has
pub record IsTaken (c : Config) (trace : List Line) (f : Frame) (v : SiteView) (p : Pull) : Type 0 where
  pub past : Past c trace
  pub inside : InsideFact c f trace v
  pub pull : PullFact c trace f.epoch f.me p
  pub ready : is_ready v p ≡ true
  pub above : fits_own p (copy_of v.store p.file) ≡ true
  pub rest : RestTold c trace (Shown (adopt_record f p))

abbrev pub tells : Frame → Pull → Told
tells f p = Shown (adopt_record f p)

module _ (c : Config) (n : ℕ) (trace : List Line) (f : Frame) (v : SiteView) (p : Pull) (k : IsTaken c trace f v p) where
  pub stores : StoreRests c trace
  stores = store_rests c trace k.past

  pub complete : is_complete p ≡ true
  complete = and_first (is_complete p) _ k.ready

  pub stands : Stands c trace p.file p.stamp
  stands = subst (λ (y : Stamp). Stands c trace p.file y) k.pull.stamp_is k.pull.is_version.stands

  pub wants : AdoptRests c trace f p
  wants = record {
    below = λ old s b. vectors_tell_newer c trace k.past p.file old p.stamp s stands ∙ b;
    open_on = λ x m stored up. shut_here c trace k.past f v k.inside p k.pull k.ready x m (equal x.grant.ss f.me (and_first (x.grant.ss == f.me) _ stored)) (same_file_eq x.grant.file p.file (and_second (x.grant.ss == f.me) _ stored)) up;
  }

  pub may : MayTell c trace (tells f p)
  may = may_adopt c n trace k.past.rest.packs k.past.followed stores f k.inside.frame v.store k.inside.store p k.pull complete wants k.above

  pub comes : Comes c trace (tells f p)
  comes = record { past = k.past; may = may; rest = k.rest }

  pub stay : AllStay c trace (more n (tells f p) trace) (tells f p)
  stay = (stays c).all n (tells f p) trace comes
