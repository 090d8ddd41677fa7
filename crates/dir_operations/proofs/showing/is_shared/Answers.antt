use Rattle.std.proofs.Common.{◌∙◌, sym}
use Rattle.dir_format.specs.Lookups.{has_name}
use Rattle.dir_format.proofs.Filtering.{several, one_from}
use Rattle.dir_operations.proofs.showing.is_shared.Goals as goal

pub returns-then-one : goal.returns-then-one
returns-then-one c =
    several (has_name c.args.name.now) c.args.entries.now c.loop-entry.entry-index c.entry-item.result c.loop-entry-test.true
    (one_from c.loop-entry.one _ c.loop-entry.invariant.one c.if-one.true) c.entry-item.is (sym c.has_name.ensures ∙ c.if-has_name.true)
