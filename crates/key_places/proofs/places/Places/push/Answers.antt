use Rattle.std.proofs.Common.{List, sym, subst}
use Rattle.key_places.specs.declared.key.Key.{Key}
use Rattle.key_places.specs.Recent.{AreRecent}
use Rattle.key_places.proofs.places.Places.push.Goals as goal

pub invariant_of-self : goal.invariant_of-self
invariant_of-self c = subst (λ (keys : List Key). AreRecent c.self.inside.recent.items keys) (sym c.in_err-push.ensures.err) c.self.invariant

pub invariant_of-self-2 : goal.invariant_of-self-2
invariant_of-self-2 c =
    subst (λ (keys : List Key). AreRecent c.remember.new.slots.items keys) (sym c.in_ok-push.ensures.ok)
    (c.remember.ensures c.self.inside.all c.self.invariant c.len-place.ensures)
