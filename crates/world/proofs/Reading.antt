-- What the code reads of a site before an event.
use Rattle.std.proofs.Common.{◌≡◌, Option, Some, Bool, sym, ap, ◌∙◌}
use Rattle.the_run.specs.Runs.{is_stopped}
use Rattle.site_place.specs.Places.{PlaceState}

-- a site that is read twice is the same
pub stopped_along : (o : Option PlaceState) (p q : PlaceState) (b : Bool) → o ≡ Some p → o ≡ Some q → is_stopped (Some p.place) ≡ b → is_stopped (Some q.place) ≡ b
stopped_along o p q b e f g = let h : Some q ≡ Some p = sym f ∙ e in let i : q ≡ p = cc in ap (λ (z : PlaceState). is_stopped (Some z.place)) i ∙ g
