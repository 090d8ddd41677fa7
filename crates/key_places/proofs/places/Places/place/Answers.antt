use Rattle.std.proofs.Common.{◌≡◌, List, Some, sym, subst}
use Rattle.key_places.specs.declared.recent.Slot.{Slot}
use Rattle.key_places.specs.Places.{place_of}
use Rattle.key_places.specs.Recent.{AreRecent}
use Rattle.key_places.proofs.Rows.{place_within}
use Rattle.key_places.proofs.places.Places.place.Goals as goal

found : (c : goal.In-Some) → place_of c.args.key.now c.args.self.now ≡ Some c.in-Some.place
found c =
    c.in-Some.ensures c.args.self.now
    (subst (λ (slots : List Slot). AreRecent slots c.args.self.now) (sym c.as_slice.ensures.value) (subst (AreRecent c.self.inside.recent.items) c.self.view_is c.self.invariant))

pub returns-in-Some-clause-place : goal.returns-in-Some-clause-place
returns-in-Some-clause-place c = sym (found c)

pub returns-in-Some-clause-within : goal.returns-in-Some-clause-within
returns-in-Some-clause-within c = place_within c.args.key.now c.args.self.now c.in-Some.place (found c)
