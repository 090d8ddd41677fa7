use Rattle.std.proofs.Common.{◌≡◌, ◌+◌, ◌≤◌, ℕ, List, length, ◌∙◌, sym, subst}
use Rattle.operation_effects.proofs.Judged.{few_written, fits_so}
use Rattle.operation_effects.proofs.settling.write.Goals as goal

pub judged-gave-requires : goal.judged-gave-requires
judged-gave-requires c =
    subst (λ (pages : List ℕ). length pages ≤ 65535) (sym (c.as_slice-3.ensures ∙ c.in_ok-pages.ensures))
    (few_written c.as_slice.result.now c.args.at c.args.bytes.now (fits_so c.fits.result (c.args.at + length c.args.bytes.now) c.fits.ensures c.if-not-fits.false))
