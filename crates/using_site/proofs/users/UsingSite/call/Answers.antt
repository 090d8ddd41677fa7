use Rattle.std.proofs.Common.{◌≡◌, ◌+◌, ◌∙◌, ap, refl}
use Rattle.role_steps.specs.Using.{with_copied}
use Rattle.role_steps.specs.Requests.{descriptors_of}
use Rattle.role_steps.specs.declared.users.Asking.TheVariants as asking
use Rattle.waiting_calls.specs.Called.{called}
use Rattle.using_site.proofs.Calling.{accept_as, accepted_as, begins_as, called_by, counted, frees_as}
use Rattle.using_site.proofs.users.UsingSite.call.Goals as goal

pub returns : goal.returns
returns c =
    let n : c.in-Some.call ≡ c.args.self.now.calls + 1 = counted _ c.args.self.now c.in-Some.call c.self.view_is c.in-Some.ensures.1 in
    let begun = begins_as _ c.args.frame.now c.in-Some.call (c.args.self.now.calls + 1) c.own_call-name.result (descriptors_of c.args.self.now c.args.process) c.args.now c.args.words c.beginning-begins.result c.beginning-begins.ensures c.frame.view_is c.own_call-name.ensures n in
    called_by c.begin.result c.args.frame.now c.args.now c.args.process c.args.words c.args.self.now _ (with_copied c.in_ok-copied.copied (called c.in_ok-caller.caller (asking.Close 0 0))) _ _ _ _ _ (c.begin.ensures (asking.Close 0 0))
    (accepted_as c.args.process c.in-Some.call (c.args.self.now.calls + 1) c.args.words c.beginning-begins.result _ c.in_ok-copied.copied c.args.self.now c.args.self.now _ (ap (with_copied c.in_ok-copied.copied) c.in_ok-caller.ensures) c.in_ok-copied.ensures.bytes n begun refl)
    (c.free.ensures ∙ frees_as c.args.process c.args.words c.beginning-begins.result _ _ c.args.self.now c.args.self.now c.in-Some.call (c.self-2.view_is ∙ c.in_ok-copied.ensures.view) refl n begun)
    c.in_ok-note.ensures.ok
    (accept_as _ c.args.frame.now c.get.result c.args.process c.in-Some.call (c.args.self.now.calls + 1) c.own_call-name.result c.in_ok-copy.field-0 c.args.words c.frame.view_is c.get.ensures.value c.own_call-name.ensures c.in_ok-copy.ensures n)
