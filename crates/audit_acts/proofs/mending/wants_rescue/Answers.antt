use Rattle.std.proofs.Common.{◌≡◌, Bool, refl, subst, ◌∙◌, IfOk}
use Rattle.dir_reconcile.specs.Rescues.{rescue_wanted}
use Rattle.audit_acts.proofs.Rescuing.{wanted_so}
use Rattle.audit_acts.proofs.mending.wants_rescue.Goals as goal

pub returns : goal.returns
returns c =
    subst (λ (v : Bool). IfOk c.wants_rescue.result (λ (wants : Bool). wants ≡ v))
    (wanted_so c.args.h.now c.args.known.now c.args.file c.as_slice.result.now c.in_ok-joined.joined c.as_slice-2.result.now c.in_ok-vectors.vectors (rescue_wanted c.in_ok-joined.joined c.in_ok-vectors.vectors)
    (c.as_slice.ensures ∙ c.in_ok-kept.ensures) c.in_ok-joined.ensures c.as_slice-2.ensures c.in_ok-vectors.ensures refl)
    c.wants_rescue.ensures
