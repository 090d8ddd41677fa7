use Rattle.std.proofs.Common.{refl}
use Rattle.world.specs.States.{state_of}
use Rattle.world.proofs.Letters.{lose_yes, lose_no}
use Rattle.world.proofs.world.World.lose.Goals as goal

pub returns-then-may_be_lost : goal.returns-then-may_be_lost
returns-then-may_be_lost c = lose_yes c.args.line c.args.number (state_of c.args.self.now) _ c.may_be_lost.result c.may_be_lost.ensures.value c.if-may_be_lost.true refl refl refl c.in_ok-lose.ensures

pub returns : goal.returns
returns c = lose_no c.args.line c.args.number (state_of c.args.self.now) _ c.may_be_lost.result c.may_be_lost.ensures.value c.if-may_be_lost.false c.in_ok-void.ensures
