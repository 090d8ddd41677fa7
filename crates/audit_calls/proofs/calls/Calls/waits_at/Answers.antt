use Rattle.std.proofs.Common.{◌∙◌, ◌&&◌, ◌==◌, sym, ap, refl}
use Rattle.std.specs.List.{list_any}
use Rattle.row_lists.proofs.Reversed.{reverse_any}
use Rattle.promises.specs.Past.{CallSoFar}
use Rattle.promises.specs.Rows.{waits_at}
use Rattle.audit_calls.specs.Waiting.{is_of}
use Rattle.audit_calls.proofs.Waits.{waits_any}
use Rattle.audit_calls.proofs.calls.Calls.waits_at.Goals as goal

pub returns : goal.returns
returns c =
    c.any_of.ensures
    ∙ (ap (list_any (is_of c.args.site c.args.process)) (c.as_slice.ensures.value ∙ c.self.invariant.waiting_are)
    ∙ (sym (waits_any (λ (k : CallSoFar). (k.id.site == c.args.site) && (k.process == c.args.process)) (is_of c.args.site c.args.process) (λ m k. refl) 0 c.self.inside.rows.items)
    ∙ (sym (reverse_any (waits_at c.args.site c.args.process) c.self.inside.rows.items) ∙ ap (list_any (waits_at c.args.site c.args.process)) c.self.view_is)))
