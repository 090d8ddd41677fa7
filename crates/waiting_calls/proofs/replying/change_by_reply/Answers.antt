use Rattle.std.proofs.Common.{Option, refl, ap, ◌∙◌}
use Rattle.trace_book.specs.declared.descriptor.OneVersion.{OneVersion}
use Rattle.role_steps.specs.Using.{opened_row}
use Rattle.waiting_calls.specs.Called.{called}
use Rattle.waiting_calls.proofs.DescriptorRows.{on_ok, put_row}
use Rattle.waiting_calls.proofs.replying.change_by_reply.Goals as goal

pub returns-in-Opened : goal.returns-in-Opened
returns-in-Opened c = λ a u. rw c.in-Opened.is
    (on_ok c.put.result
    (λ e. put_row (record u { descriptors = c.args.descriptors.now; hopeless = c.args.hopeless.now }) _ _ _ _ refl (c.opened_row.ensures a ∙ ap (λ (kept : Option OneVersion). opened_row c.args.frame.now (called c.args.caller.now a) c.in-Opened.fd kept) c.kept_version-kept.ensures) e)
    c.put.ensures.ok)

pub returns-in-Data : goal.returns-in-Data
returns-in-Data c = λ a u. rw c.in-Data.is (c.hold_again.ensures a (record u { hopeless = c.args.hopeless.now }))
