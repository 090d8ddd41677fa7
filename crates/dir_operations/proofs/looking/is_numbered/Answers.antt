use Rattle.std.proofs.Common.{◌≡◌, ◌++◌, ◌∷◌, ◌∙◌, ap}
use Rattle.std.specs.Fmt.{decimal}
use Rattle.dir_operations.proofs.Numbered.{not_front, after_front, marked, unmarked}
use Rattle.dir_operations.proofs.looking.is_numbered.Goals as goal

pub returns-in_default : goal.returns-in_default
returns-in_default c = not_front c.args.name.now c.args.component.now (decimal c.args.ino) c.in_default.ensures.cases

pub returns-then-mark-eq64 : goal.returns-then-mark-eq64
returns-then-mark-eq64 c =
    let parts : c.args.component.now ≡ c.args.name.now ++ c.in-Some-split_first.mark.now ∷ c.in-Some-split_first.digits.now =
    after_front c.args.name.now c.args.component.now c.in-Some.rest.now c.in-Some.ensures.cases.0 c.in-Some.ensures.cases.1 ∙ ap (λ r. c.args.name.now ++ r) c.in-Some-split_first.ensures.cases.0 in
    c.is_decimal.ensures ∙ marked c.args.name.now c.args.component.now c.in-Some-split_first.digits.now (decimal c.args.ino) c.in-Some-split_first.mark.now parts c.if-mark-eq64.true

pub returns-else-mark-eq64 : goal.returns-else-mark-eq64
returns-else-mark-eq64 c =
    let parts : c.args.component.now ≡ c.args.name.now ++ c.in-Some-split_first.mark.now ∷ c.in-Some-split_first.digits.now =
    after_front c.args.name.now c.args.component.now c.in-Some.rest.now c.in-Some.ensures.cases.0 c.in-Some.ensures.cases.1 ∙ ap (λ r. c.args.name.now ++ r) c.in-Some-split_first.ensures.cases.0 in
    unmarked c.args.name.now c.args.component.now c.in-Some-split_first.digits.now (decimal c.args.ino) c.in-Some-split_first.mark.now parts c.if-mark-eq64.false
