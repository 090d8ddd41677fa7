use Rattle.std.proofs.Common.{arith, ap, ◌∙◌, ◌<◌, ◌-◌, length}
use Rattle.conflict_flags.specs.Table.{Table, copy_at}
use Rattle.conflict_flags.proofs.Places.{get_or-copy_at}
use Rattle.conflict_flags.proofs.table.CopyTable.copy_of.Goals as goal

pub returns : goal.returns
returns c =
    let within : c.place_of.result < length c.self.inside.copies = omega arith in
    get_or-copy_at c.self.inside.copies c.place_of.result c.index-self-place_of.result within
    ∙ (ap (copy_at c.self.inside.copies) c.place_of.ensures.value ∙ ap (λ (w : Table). copy_at w.copies (c.args.site - 1)) c.self.view_is)
