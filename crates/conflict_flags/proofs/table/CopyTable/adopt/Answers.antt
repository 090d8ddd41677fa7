use Rattle.std.proofs.Common.{rules, ◌<◌, length, arith, ap}
use Rattle.conflict_flags.specs.Table.{Table}
use Rattle.conflict_flags.proofs.Places.{does_take}
use Rattle.conflict_flags.proofs.table.CopyTable.adopt.Goals as goal

pub returns-then-wanted-clause-does : goal.returns-then-wanted-clause-does
returns-then-wanted-clause-does c =
    let within : c.place_of.result < length c.self.inside.copies = omega arith in
    does_take c.args.self.now c.args.site c.args.from c.place_of.result c.get.result c.in-Some.copy c.self.inside.history c.self.inside.copies c.is_wanted-wanted.result
    c.place_of.ensures.value c.get.ensures.value
    (ap (λ (w : Table). w.history) c.self.view_is) (ap (λ (w : Table). w.copies) c.self.view_is)
    (search rules) (search rules) within
