-- An event that finds what it needs is refused for want of memory alone.
use Rattle.std.proofs.Common.{◌≡◌, ◌≢◌, ℕ, List, Option, None, Some, refl, sym, ap, subst}
use Rattle.std.specs.Prelude.{Result, Ok, Err, IfErr, IsErrAnd}
use Rattle.locus_ids.specs.declared.config.Config.{Config}
use Rattle.locus_ids.specs.declared.sites.Links.{Links}
use Rattle.role_steps.specs.Views.{Event}
use Rattle.the_run.specs.Disks.{Armed}
use Rattle.site_packs.specs.Packs.{groups_at, groups_of}
use Rattle.site_node.specs.Fitting.{CanAct}
use Rattle.site_node.specs.Views.{view_of}
use Rattle.site_node.specs.declared.node.SiteNode.{SiteNode}
use Rattle.site_node.specs.of_site_parts.declared.fault.NodeFault.{NodeFault}
use Rattle.site_node.specs.of_site_parts.declared.fault.NodeFault.TheVariants as node
use Rattle.site_place.specs.Fitting.{CanActAt, CanHappenIn, IsOfDisk}
use Rattle.site_place.specs.Places.{PlaceState}
use Rattle.site_place.specs.Views.{place_in}
use Rattle.site_place.specs.declared.fault.PlaceFault.{PlaceFault}
use Rattle.site_place.specs.declared.fault.PlaceFault.TheVariants.{NoMemory}
use Rattle.site_place.proofs.Happening.{state_at}

-- a fault that is given on
pub given_memory : {T : Type 0} (P : Type 0) (r : Result T PlaceFault) → IsErrAnd r (λ f. f ≡ NoMemory) → IfErr r (λ fault. P → fault ≡ NoMemory)
given_memory P (Ok x) h = tt
given_memory P (Err f) h = λ can. h

as_err : {T : Type 0} (f g : NodeFault) → f ≡ g → ◌≡◌ {A = Result T NodeFault} (Err f) (Err g)
as_err {T = T} f g e = subst (λ (h : NodeFault). ◌≡◌ {A = Result T NodeFault} (Err f) (Err h)) e refl

-- a fault of the node, where no number is wanting and nothing is unfit
of_disk : (f : NodeFault) → (f ≡ node.NoNumber → ⊥) → (f ≡ node.Unfit → ⊥) → IsOfDisk f
of_disk node.NoMemory n u = tt
of_disk node.Disk n u = tt
of_disk (node.Cut size) n u = tt
of_disk node.NoNumber n u = absurd (n refl)
of_disk node.Unfit n u = absurd (u refl)

-- what a call of the node promises of its fault
pub fault_of_node : {T : Type 0} (P Q : Type 0) (r : Result T NodeFault) → IfErr r (λ f. f ≡ node.NoNumber → Q) → (P → Q → ⊥) → (r ≡ Err node.Unfit → P → ⊥) → IfErr r (λ f. P → IsOfDisk f)
fault_of_node P Q (Ok x) spent low unfit = tt
fault_of_node {T = T} P Q (Err f) spent low unfit = λ can. of_disk f (λ e. low can (spent e)) (λ e. unfit (as_err {T = T} f node.Unfit e) can)

-- the site in code has the packs that the cluster gives it
pub acts_here : (config : Config) (me : ℕ) (x : Option SiteNode) (n : SiteNode) (image : List ℕ) (armed : Option Armed) (links : Links) (e : Event) (state : PlaceState) → state_at config me (place_in (groups_at config me) x image) armed ≡ state → x ≡ Some n
    → groups_of n.packs ≡ groups_at config me → n.packs.site ≡ me → n.frame.config ≡ config → n.frame.me ≡ me → CanHappenIn links e state → CanActAt n image links e
acts_here config me x n image armed links e state shown is groups home cluster own can =
    subst (λ (c : Config). CanAct c n.frame.me (groups_of n.packs) n.packs.site links (view_of n image) e) (sym cluster)
    (subst (λ (s : ℕ). CanAct config s (groups_of n.packs) n.packs.site links (view_of n image) e) (sym own)
    (subst (λ (gs : List ℕ). CanAct config me gs n.packs.site links (view_of n image) e) (sym groups)
    (subst (λ (h : ℕ). CanAct config me (groups_at config me) h links (view_of n image) e) (sym home) here)))
  where
    here : CanAct config me (groups_at config me) me links (view_of n image) e
    here = subst (λ (k : Option SiteNode). CanHappenIn links e (state_at config me (place_in (groups_at config me) k image) armed)) is (subst (CanHappenIn links e) (sym shown) can)
