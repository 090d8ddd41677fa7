use Rattle.audit_calls.proofs.Settled.{index_empty, index_push}
use Rattle.audit_calls.proofs.settling.push_to.Goals as goal

pub returns-in-Ok-clause-index : goal.returns-in-Ok-clause-index
returns-in-Ok-clause-index c = λ h w. index_push c.args.rows.now.items c.push_all.new.rows.items c.args.ids.now c.push_all.new.ids c.args.uses.now c.push_all.new.uses c.args.waiting.now.items c.push_all.new.waiting.items c.args.row h w c.in-Ok.ensures.rows c.in-Ok.ensures.ids c.in-Ok.ensures.uses c.in-Ok.ensures.waiting

pub returns-in-Err-clause-index : goal.returns-in-Err-clause-index
returns-in-Err-clause-index c = λ h w. index_empty _ _ _ _ c.forget_all.ensures.rows c.forget_all.ensures.ids c.forget_all.ensures.uses c.forget_all.ensures.waiting
