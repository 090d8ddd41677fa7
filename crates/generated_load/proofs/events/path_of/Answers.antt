use Rattle.std.proofs.Common.{◌∙◌, ◌++◌, ◌+◌, ◌<◌, [], ◌∷◌, ap, codes, sym, arith}
use Rattle.std.proofs.lemmas.Fmt.{decimal_digit}
use Rattle.generated_load.proofs.events.path_of.Goals as goal

pub returns : goal.returns
returns c =
    let low : c.args.name < 10 = omega arith in
    c.in_ok-push.ensures.ok
    ∙ (ap (λ path. path ++ (48 + c.args.name) ∷ []) c.in_ok-path.ensures ∙ ap (λ digits. codes "/f" ++ digits) (sym (decimal_digit c.args.name low)))
