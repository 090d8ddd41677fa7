use Rattle.std.proofs.Common.{◌+◌, ◌∙◌, ap, sym, arith}
use Rattle.audit_versions.specs.Keeping.{has_number}
use Rattle.audit_copies.proofs.Tops.{any_copy, numbers_on, without}
use Rattle.audit_copies.proofs.site_ends.are_numbered.Goals as goal

pub returns-then-not-has_number : goal.returns-then-not-has_number
returns-then-not-has_number c =
    sym (without c.args.rows.now c.loop-at.at c.loop-at-test.true (ap has_number (sym (c.stamp_at.ensures any_copy)) ∙ sym c.if-not-has_number.ensures)) ∙ c.loop-at.invariant

pub loop-at-preserved : goal.loop-at-preserved
loop-at-preserved c =
    numbers_on c.args.rows.now c.loop-at.at c.last_of_site-at.result (c.last_of_site-at.result + 1) c.stamp_at.result
    c.loop-at.invariant (c.last_of_site-at.ensures.numbers any_copy) (c.stamp_at.ensures any_copy) (sym c.if-not-has_number.ensures) (omega arith)
