use Rattle.std.proofs.Common.{◌-◌, set, ap, refl, arith}
use Rattle.site_place.specs.Places.{PlaceState, armed_by}
use Rattle.world.specs.States.{WorldState, state_of}
use Rattle.world.proofs.Tables.{state_read}
use Rattle.world.proofs.LineLaws.{arm_follows, arm_absent}
use Rattle.world.proofs.world.World.arm.Goals as goal

pub returns-then-at-len : goal.returns-then-at-len
returns-then-at-len c =
    let y : WorldState = record { config = c.args.self.now.config; places = set c.args.self.now.places.items (c.from-at.result - 1) c.arm.new.self; circuits = c.args.self.now.cuts; book = c.args.self.now.book } in
    λ config taken w o sh. arm_follows (armed_by c.args.script) c.args.script.site (c.from-at.result - 1) (state_of c.args.self.now) y refl (omega arith) refl refl refl c.index_mut.result.now (omega arith) (state_read c.args.self.now.places.items c.args.script.site (c.from-at.result - 1) c.index_mut.result.now (omega arith) (omega arith) c.index_mut.ensures.value) (ap (λ (q : PlaceState). set c.args.self.now.places.items (c.from-at.result - 1) q) c.arm.ensures) config taken w sh

pub returns-else-at-len : goal.returns-else-at-len
returns-else-at-len c = λ config taken w o sh. arm_absent (armed_by c.args.script) c.args.script.site (c.from-at.result - 1) (state_of c.args.self.now) _ refl (omega arith) refl refl refl (omega arith) refl config taken w sh
