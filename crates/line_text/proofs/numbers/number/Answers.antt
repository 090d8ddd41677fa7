use Rattle.std.proofs.Common.{◌<◌, ◌^◌, sym, ap, ◌∙◌, arith}
use Rattle.line_text.specs.Words.{number_in}
use Rattle.line_text.proofs.NumberTexts.{is_between_from, number_below, number_complete}
use Rattle.line_text.proofs.numbers.number.Goals as goal

pub returns-then-n-low : goal.returns-then-n-low
returns-then-n-low c =
    let small : c.in_ok-n.n < 2 ^ 32 = omega (arith, c.in_ok-n.ensures.found.1) in
    sym (number_below c.args.low c.args.most c.args.word.now c.in_ok-n.n small c.in_ok-n.ensures.found.0 c.if-n-low.true)

pub returns-else-n-low : goal.returns-else-n-low
returns-else-n-low c =
    let small : c.in_ok-n.n < 2 ^ 32 = omega (arith, c.in_ok-n.ensures.found.1) in
    let fits = is_between_from c.args.low c.args.most c.in_ok-n.n c.if-n-low.false c.in_ok-n.ensures.found.1 in
    sym (ap (number_in c.args.low c.args.most) c.in_ok-n.ensures.found.0 ∙ number_complete c.args.low c.args.most c.in_ok-n.n small fits)
