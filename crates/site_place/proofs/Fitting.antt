-- An event at a place, from what it is where the place's node is known.
use Rattle.std.proofs.Common.{◌≡◌, ℕ, List, sym, subst}
use Rattle.std.specs.Prelude.{Option, None, Some}
use Rattle.locus_ids.specs.declared.config.Config.{Config}
use Rattle.locus_ids.specs.declared.sites.Links.{Links}
use Rattle.wire_messages.specs.Outboxes.{Outgoing}
use Rattle.role_steps.specs.Views.{Event}
use Rattle.the_run.specs.Disks.{Armed}
use Rattle.the_run.specs.Worlds.{Stopped}
use Rattle.site_disk.specs.Run.{disk_on}
use Rattle.site_node.specs.declared.node.SiteNode.{SiteNode}
use Rattle.site_place.specs.Places.{PlaceState, Happening, Gives, happens_in}
use Rattle.site_place.specs.Views.{place_in}
use Rattle.site_place.proofs.Happening.{state_at, nothing_given, nothing_out}

pub given_at : (event : PlaceState → Happening) (gs : List ℕ) (config : Config) (me : ℕ) (x y : Option SiteNode) (image : List ℕ) (armed : Option Armed) (state later : PlaceState) (out : Outgoing)
    → state_at config me (place_in gs x image) armed ≡ state → x ≡ y → Gives (event (state_at config me (place_in gs y image) armed)) (state_at config me (place_in gs y image) armed) later out
    → Gives (event state) state later out
given_at event gs config me x y image armed state later out shown is gives =
    subst (λ (k : PlaceState). Gives (event k) k later out) shown
    (subst (λ (k : Option SiteNode). Gives (event (state_at config me (place_in gs k image) armed)) (state_at config me (place_in gs k image) armed) later out) (sym is) gives)

-- where the site doesn't run nothing happens
pub event_nothing : (gs : List ℕ) (config : Config) (me : ℕ) (links : Links) (e : Event) (x : Option SiteNode) (image : List ℕ) (armed : Option Armed) (state : PlaceState) (out : Outgoing) → state_at config me (place_in gs x image) armed ≡ state → x ≡ None → out ≡ nothing_out
    → Gives (happens_in links e state) state (state_at config me (place_in gs x image) armed) out
event_nothing gs config me links e x image armed state out shown none empty =
    given_at (happens_in links e) gs config me x None image armed state (state_at config me (place_in gs x image) armed) out shown none
    (subst (λ (k : Option SiteNode). Gives (happens_in links e (state_at config me (Stopped (disk_on gs image)) armed)) (state_at config me (Stopped (disk_on gs image)) armed) (state_at config me (place_in gs k image) armed) out) (sym none)
    (nothing_given config me (Stopped (disk_on gs image)) armed out empty))
