-- Why an open is refused as unfit.
use Rattle.std.proofs.Common.{◌≡◌, ℕ, ◌≤◌, Option, None, Some, sym, subst}
use Rattle.std.specs.Prelude.{◌↔◌, IsSome}
use Rattle.std.proofs.lemmas.Bool.{false≢true}
use Rattle.locus_ids.specs.Sizes.{sites_max}
use Rattle.role_steps.specs.Storage.{StoreRequest}
use Rattle.role_steps.specs.Views.{Frame}
use Rattle.storage_site.specs.Fitting.{CanOpen}

-- a using site that is no site
pub no_site : (f : Frame) (home : ℕ) (r : StoreRequest) (o : Option ℕ) (us : ℕ) → (IsSome o ↔ ((1 ≤ us) × (us ≤ sites_max))) → o ≡ None → us ≡ r.inst.us → CanOpen f home r → ⊥
no_site f home r o us some none is can =
    let low : 1 ≤ us = subst (λ (n : ℕ). 1 ≤ n) (sym is) can.low in
    let high : us ≤ sites_max = subst (λ (n : ℕ). n ≤ sites_max) (sym is) can.high in
    false≢true (subst (λ (m : Option ℕ). IsSome m) none (some.1 (low, high)))
