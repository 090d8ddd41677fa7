use Rattle.std.proofs.Common.{sym, ap}
use Rattle.role_steps.specs.declared.users.WaitingCall.{WaitingCall}
use Rattle.waiting_calls.specs.Called.{called}
use Rattle.using_site.proofs.Again.{row_was, stands}
use Rattle.using_site.proofs.Awaited.{again_gives}
use Rattle.waiting_calls.proofs.DescriptorRows.{on_ok}
use Rattle.using_site.proofs.users.UsingSite.look_again.Goals as goal

pub returns-in_ok-send_request-in-Look : goal.returns-in_ok-send_request-in-Look
returns-in_ok-send_request-in-Look c = λ w r h.
    let e = row_was c.args.self.now _ c.args.key w (called c.waiting.inside.caller c.waiting.inside.asking) c.in-Some.waiting c.self.view_is c.waiting.view_is c.in-Some.ensures.removed h in
    on_ok c.put.result (λ a. again_gives c.args.frame.now c.args.self.now _ c.remove.new.self _ c.args.key w (called c.waiting.inside.caller c.waiting.inside.asking) c.waiting.inside.asking c.in-Look.file c.in-Look.what c.in-Look.take _ r h c.self.view_is c.in-Some.ensures.left e (sym (ap (λ (y : WaitingCall). y.asking) e)) c.in-Look.is c.in-Some-checked_add.ensures.1 a c.in_ok-send_request-in-Look.ensures.packets c.in_ok-send_request-in-Look.ensures.records) c.put.ensures.ok

pub returns-in_default-asking : goal.returns-in_default-asking
returns-in_default-asking c = λ w r h.
    let e = row_was c.args.self.now _ c.args.key w (called c.waiting.inside.caller c.waiting.inside.asking) c.in-Some.waiting c.self.view_is c.waiting.view_is c.in-Some.ensures.removed h in
    on_ok c.put-in_default-asking.result (λ a. stands c.args.frame.now c.args.self.now _ c.remove.new.self _ c.args.key w (called c.waiting.inside.caller c.waiting.inside.asking) c.waiting.inside.asking r h c.self.view_is c.in-Some.ensures.left e (sym (ap (λ (y : WaitingCall). y.asking) e)) a c.in_default-asking.not-Look) c.put-in_default-asking.ensures.ok
