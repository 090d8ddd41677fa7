use Rattle.std.proofs.Common.{◌≡◌, ℕ, List, refl, subst, ◌∙◌, IfOk}
use Rattle.dir_format.specs.Grammar.{dir_bytes}
use Rattle.dir_reconcile.specs.Rescues.{rescued}
use Rattle.audit_acts.proofs.Rescuing.{mended_so}
use Rattle.audit_acts.proofs.mending.mended.Goals as goal

pub returns : goal.returns
returns c =
    subst (λ (v : List ℕ). IfOk c.rescued_bytes.result (λ (bytes : List ℕ). bytes ≡ v))
    (mended_so c.args.h.now c.args.known.now c.args.file c.as_slice.result.now c.in_ok-joined.joined c.as_slice-2.result.now c.in_ok-vectors.vectors (dir_bytes (rescued c.in_ok-joined.joined c.in_ok-vectors.vectors))
    (c.as_slice.ensures ∙ c.in_ok-kept.ensures) c.in_ok-joined.ensures c.as_slice-2.ensures c.in_ok-vectors.ensures refl)
    c.rescued_bytes.ensures
