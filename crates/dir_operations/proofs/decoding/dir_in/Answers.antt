use Rattle.std.proofs.Common.{sym, ◌∙◌}
use Rattle.dir_format.proofs.ContentOf.{content_is, no_content}
use Rattle.dir_operations.proofs.decoding.dir_in.Goals as goal

pub returns-in-Ok : goal.returns-in-Ok
returns-in-Ok c = sym (content_is c.args.bytes.now c.in-Ok.d c.in-Ok.ensures.found)

pub returns-in-Err-At : goal.returns-in-Err-At
returns-in-Err-At c =
    let fault = rw c.in-Err-At.field-0-is at c.in-Err-At.ensures.exact in
    c.new.ensures ∙ sym (no_content c.args.bytes.now fault.0 fault.1)
