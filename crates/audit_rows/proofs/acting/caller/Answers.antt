use Rattle.std.proofs.Common.{Some, ap, ◌∙◌}
use Rattle.std.specs.List.{find}
use Rattle.std.specs.Option.{option_map}
use Rattle.promises.specs.Past.{CallSoFar, acts}
use Rattle.audit_rows.proofs.acting.caller.Goals as goal

pub returns-in-Some : goal.returns-in-Some
returns-in-Some c =
    ap Some c.id.ensures
    ∙ ap (option_map (λ (k : CallSoFar). k.id)) (c.in-Some.ensures ∙ ap (find (acts c.args.at.epoch c.args.at.instance.now c.args.at.n)) c.calls.ensures)

pub returns-in-None : goal.returns-in-None
returns-in-None c =
    ap (option_map (λ (k : CallSoFar). k.id)) (c.in-None.ensures ∙ ap (find (acts c.args.at.epoch c.args.at.instance.now c.args.at.n)) c.calls.ensures)
