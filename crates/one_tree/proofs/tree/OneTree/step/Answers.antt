use Rattle.std.proofs.Common.{◌∙◌, List, ap, sym}
use Rattle.locus_ids.specs.declared.ids.Brought.{Brought}
use Rattle.trace_book.specs.declared.record.Record.TheVariants as Record
use Rattle.one_tree.specs.Following.{applied, tree_after}
use Rattle.one_tree.proofs.tree.OneTree.step.Goals as goal

pub returns-in-Start-clause-applied : goal.returns-in-Start-clause-applied
returns-in-Start-clause-applied c =
    c.start.ensures.applied c.args.h.now
    ∙ ap (λ (copies : List Brought). applied c.args.h.now c.args.self.now (Record.Start c.in-Start.epoch c.in-Start.group copies)) c.as_slice.ensures
    ∙ ap (applied c.args.h.now c.args.self.now) (sym c.in-Start.is)

pub returns-in-Start-clause-next : goal.returns-in-Start-clause-next
returns-in-Start-clause-next c =
    c.start.ensures.next c.args.h.now
    ∙ ap (λ (copies : List Brought). tree_after c.args.h.now c.args.self.now (Record.Start c.in-Start.epoch c.in-Start.group copies)) c.as_slice.ensures
    ∙ ap (tree_after c.args.h.now c.args.self.now) (sym c.in-Start.is)
