use Rattle.std.proofs.Common.{sym, subst, arith}
use Rattle.world.specs.Reached.{AreOf}
use Rattle.world.proofs.Tables.{boots_end}
use Rattle.world.proofs.open.tell_again.Goals as goal

pub tables_of-requires : goal.tables_of-requires
tables_of-requires c = subst (λ b. AreOf c.min.result b) (sym c.boots_of.ensures) (boots_end c.args.places.now c.min.result (omega (arith, c.min.ensures)))
