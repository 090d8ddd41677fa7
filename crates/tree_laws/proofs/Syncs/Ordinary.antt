-- Ordinary opens want one kept version, resolutions several.
use Rattle.std.proofs.Common.{◌≡◌, List, [], ◌∷◌, length, Option, Some, None, refl, arith}
use Rattle.locus_ids.specs.declared.ids.Mode.TheVariants as mode
use Rattle.locus_ids.specs.declared.ids.Stamp.{Stamp}
use Rattle.locus_ids.specs.declared.refusal.Refusal.{Refusal}
use Rattle.locus_ids.specs.declared.refusal.Refusal.TheVariants as refusal
use Rattle.commit_graph.specs.Grants.{by_kept, kept_refusal}
use Rattle.wire_messages.specs.declared.body.Opening.{Opening}
use Rattle.wire_messages.specs.declared.body.Opening.TheVariants as how
use Rattle.role_steps.specs.Opens.{mode_of}
use Rattle.tree_laws.specs.Syncs.Opening.{IsOrdinary, IsPlainOpening}

none_now : ◌≡◌ {A = Option Refusal} (Some refusal.NoStorage) None → ⊥
none_now k = cc

pub plain_of : (q : Opening) → IsOrdinary q → IsPlainOpening q
plain_of how.Read k = tt
plain_of how.Write k = tt
plain_of (how.Resolve site) k = absurd k
plain_of how.Mend k = absurd k
plain_of (how.Make set kind) k = absurd k

only_one : (ks : List Stamp) → by_kept (Some refusal.NoStorage) (λ s. None) (λ a b. Some (refusal.Conflict a b)) ks ≡ None → (v : Stamp) × (ks ≡ v ∷ [])
only_one [] e = absurd (none e)
  where
    none : ◌≡◌ {A = Option Refusal} (Some refusal.NoStorage) None → ⊥
    none k = cc
only_one (v ∷ []) e = (v, refl)
only_one (v ∷ w ∷ others) e = absurd (none e)
  where
    none : ◌≡◌ {A = Option Refusal} (Some (refusal.Conflict v w)) None → ⊥
    none k = cc

pub ordinary_one : (q : Opening) → IsOrdinary q → (ks : List Stamp) → kept_refusal (mode_of q) ks ≡ None → (v : Stamp) × (ks ≡ v ∷ [])
ordinary_one how.Read k ks e = only_one ks e
ordinary_one how.Write k ks e = only_one ks e
ordinary_one (how.Resolve site) k ks e = absurd k
ordinary_one how.Mend k ks e = absurd k
ordinary_one (how.Make set kind) k ks e = absurd k

-- where any opening isn't refused, some version is kept
pub some_kept : (q : Opening) → IsPlainOpening q → kept_refusal (mode_of q) [] ≡ None → ⊥
some_kept how.Read k e = none_now e
some_kept how.Write k e = none_now e
some_kept (how.Resolve site) k e = none_now e
some_kept how.Mend k e = none_now e
some_kept (how.Make set kind) k e = k

pub several_kept : (ks : List Stamp) → kept_refusal mode.Resolve ks ≡ None → length ks ≡ 1 → ⊥
several_kept [] e one = none_now e
several_kept (a ∷ []) e one = absurd (none e)
  where
    none : ◌≡◌ {A = Option Refusal} (Some refusal.NoConflict) None → ⊥
    none k = cc
several_kept (a ∷ b ∷ others) e one = absurd (omega arith)
