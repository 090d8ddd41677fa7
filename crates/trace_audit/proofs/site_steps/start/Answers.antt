-- A start that may come next is told.
use Rattle.std.proofs.Common.{◌≡◌, true, List, refl, sym, ap, ◌∙◌}
use Rattle.locus_ids.specs.declared.ids.Brought.{Brought}
use Rattle.trace_book.specs.declared.record.Record.TheVariants as rec
use Rattle.promises.specs.Past.{epoch_at}
use Rattle.promises.specs.Rows.{may_start}
use Rattle.trace_audit.proofs.TreeSteps.{may_so}
use Rattle.trace_audit.proofs.site_steps.start.Goals as goal

pub returns : goal.returns
returns c = (let given : true ≡ may_start c.args.config.now (epoch_at c.args.told.now c.args.epoch) c.args.group c.args.copies.now = sym c.if-not-branch.false ∙ (c.in_ok-may_start.ensures ∙ ap (λ (brought : List Brought). may_start c.args.config.now (epoch_at c.args.told.now c.args.epoch) c.args.group brought) c.as_slice.ensures) in
    may_so _ _ _ (rec.Start c.args.epoch c.args.group c.args.copies.now) refl given (c.in_ok-started.ensures c.args.config.now c.args.copies.now))
