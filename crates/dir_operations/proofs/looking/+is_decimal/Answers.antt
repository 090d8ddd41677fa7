use Rattle.std.proofs.Common.{◌∙◌, rules}
use Rattle.dir_operations.proofs.Digits.{no_digits, other_last, one_digit, more_digits}
use Rattle.dir_operations.proofs.looking.+is_decimal.Goals as goal

pub returns-in_default : goal.returns-in_default
returns-in_default n c = no_digits c.args.number c.args.digits.now c.ranges.number.fits c.in_default.ensures.cases

pub returns-then-last-number : goal.returns-then-last-number
returns-then-last-number n c = other_last c.args.number c.args.digits.now c.in-Some.front.now c.in-Some.last.now c.ranges.number.fits c.in-Some.ensures.cases.0 (search rules)

pub returns-then-number-lt10 : goal.returns-then-number-lt10
returns-then-number-lt10 n c =
    c.is_empty.ensures ∙ one_digit c.args.number c.args.digits.now c.in-Some.front.now c.in-Some.last.now (search rules) c.in-Some.ensures.cases.0 (search rules)

pub returns-else-number-lt10 : goal.returns-else-number-lt10
returns-else-number-lt10 n c =
    c.is_decimal.ensures ∙ more_digits c.args.number c.args.digits.now c.in-Some.front.now c.in-Some.last.now (search rules) c.ranges.number.fits c.in-Some.ensures.cases.0 (search rules)
