use Rattle.std.proofs.Common.{◌≡◌, ◌+◌, ◌-◌, ◌*◌, get_or, refl, sym, ◌∙◌}
use Rattle.wire_parts.proofs.Digits.{too_great, digit_at}
use Rattle.wire_parts.proofs.components.is_small_number.Goals as goal

pub returns-then-number : goal.returns-then-number
returns-then-number c =
    let d = get_or c.args.digits.now c.loop-i.i 0 in
    sym (c.loop-i.invariant.same ∙ too_great c.args.digits.now c.loop-i.i (c.loop-i.i + 1) c.loop-i.number d (digit_at c.args.digits.now c.loop-i.i c.loop-i-test.true)
    (10 * c.loop-i.number + (d - 48)) refl (sym c.is_digit.ensures ∙ c.if-not-is_digit.false) c.if-number.true)
