use Rattle.std.proofs.Common.{◌∙◌, ◌&&◌, ◌==◌, sym, ap, refl}
use Rattle.std.specs.Prelude.{nat_lt}
use Rattle.std.specs.List.{list_any}
use Rattle.row_lists.proofs.Reversed.{reverse_any}
use Rattle.tree_model.specs.Epochs.{is_in}
use Rattle.promises.specs.Past.{CallSoFar}
use Rattle.audit_calls.specs.Waiting.{is_below, waits_below}
use Rattle.audit_calls.proofs.Waits.{waits_any}
use Rattle.audit_calls.proofs.calls.Calls.waits_below.Goals as goal

pub returns : goal.returns
returns c =
    c.any_below.ensures
    ∙ (ap (list_any (is_below c.args.site c.args.process c.args.epoch)) (c.as_slice.ensures.value ∙ c.self.invariant.waiting_are)
    ∙ (sym (waits_any (λ (k : CallSoFar). (k.id.site == c.args.site) && (nat_lt k.process c.args.process && is_in k.epoch c.args.epoch)) (is_below c.args.site c.args.process c.args.epoch) (λ m k. refl) 0 c.self.inside.rows.items)
    ∙ (sym (reverse_any (waits_below c.args.site c.args.process c.args.epoch) c.self.inside.rows.items) ∙ ap (list_any (waits_below c.args.site c.args.process c.args.epoch)) c.self.view_is)))
