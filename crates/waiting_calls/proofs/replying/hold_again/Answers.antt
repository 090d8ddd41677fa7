use Rattle.std.proofs.Common.{refl, sym, ◌∙◌}
use Rattle.waiting_calls.specs.Called.{called}
use Rattle.waiting_calls.proofs.DescriptorRows.{held_so, on_ok, put_row}
use Rattle.waiting_calls.proofs.replying.hold_again.Goals as goal

pub returns-in-Read : goal.returns-in-Read
returns-in-Read c = λ a u. on_ok c.put.result
    (λ e. put_row (record u { descriptors = c.args.descriptors.now }) _ _ _ _ refl (c.opened_row-row.ensures a) e
    ∙ held_so c.args.frame.now (called c.args.caller.now a) _ _ c.in-Reopens.version c.in-Reopens.last c.in-Read.fd c.in-Read.at c.in-Read.len (record u { descriptors = c.args.descriptors.now }) (sym c.begins.ensures ∙ c.in-Reopens.is) (sym c.words.ensures ∙ c.in-Read.is))
    c.put.ensures.ok
