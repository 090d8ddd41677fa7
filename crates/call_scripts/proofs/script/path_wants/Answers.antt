use Rattle.std.proofs.Common.{◌≡◌, ℕ, List, IfOk, sym, ap, subst, ◌∙◌}
use Rattle.trace_book.specs.Messages.{message_name}
use Rattle.trace_book.specs.Names.{components}
use Rattle.trace_book.specs.declared.call.Call.{Call}
use Rattle.call_rules.specs.declared.want.Want.{Want}
use Rattle.call_rules.specs.Scripts.{path_wants}
use Rattle.call_scripts.specs.Reaches.{mails_to}
use Rattle.call_scripts.specs.Scripted.{path_of}
use Rattle.call_scripts.proofs.script.path_wants.Goals as goal

pub returns-in-Mail : goal.returns-in-Mail
returns-in-Mail c =
    let named : c.args.walk.names.now ≡ components c.in-Mail.path = c.requires ∙ ap (λ (w : Call). components (path_of w)) c.in-Mail.is in
    subst (λ (z : Want). IfOk c.mails.result (λ w. w ≡ z))
    (ap (λ (names : List (List ℕ)). mails_to c.args.walk.mounts.now names (message_name c.args.walk.call) c.as_slice-in-Mail.result.now c.args.answers.now) named
    ∙ (ap (λ (bytes : List ℕ). mails_to c.args.walk.mounts.now (components c.in-Mail.path) (message_name c.args.walk.call) bytes c.args.answers.now) c.as_slice-in-Mail.ensures
    ∙ sym (ap (λ (w : Call). path_wants c.args.walk.mounts.now c.args.walk.free c.args.walk.call w c.args.answers.now) c.in-Mail.is)))
    c.mails.ensures
