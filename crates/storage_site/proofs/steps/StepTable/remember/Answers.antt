use Rattle.std.proofs.Common.{◌∙◌}
use Rattle.storage_site.proofs.Remembering.{remembered}
use Rattle.storage_site.proofs.steps.StepTable.remember.Goals as goal

pub returns : goal.returns
returns c =
    remembered c.args.file c.args.step c.args.self.now c.self.inside.rows c.put.new.self c.put_first.new.steps.items c.take-steps.result.items c.take-steps.ensures.rising (c.self.view_is ∙ c.take-steps.ensures.left) c.take-steps.ensures.taken
    c.in_ok-put_first.ensures c.in_ok-put.ensures.ok
