-- Whether an open is granted, by the instances that are open and the versions that are kept.
use Rattle.std.specs.Prelude.{ℕ, Bool, true, false, not, ◌&&◌, cond, List, [], ◌∷◌, Option, None, Some}
use Rattle.locus_ids.specs.declared.ids.Mode.{Mode}
use Rattle.locus_ids.specs.declared.ids.Mode.TheVariants.{Read, Write, Resolve, Mend, Make}
use Rattle.locus_ids.specs.declared.ids.Stamp.{Stamp}
use Rattle.locus_ids.specs.declared.refusal.Refusal.{Refusal}
use Rattle.locus_ids.specs.declared.refusal.Refusal.TheVariants.{Busy, Conflict, NoStorage, NoConflict}

-- an open instance, as it excludes others
pub record Opener : Type 0 where
  pub site : ℕ
  pub process : ℕ
  pub mode : Mode

abbrev pub is_read : Mode → Bool
is_read Read = true
is_read Write = false
is_read Resolve = false
is_read Mend = false
is_read Make = false

-- two instances of one file exclude each other unless both only read
abbrev pub excludes : Mode → Opener → Bool
excludes mode open_one = not (is_read mode && is_read open_one.mode)

-- the earliest granted instance that excludes this mode; the earliest comes first
abbrev pub excluder : Mode → List Opener → Option Opener
excluder mode [] = None
excluder mode (o ∷ os) = cond (excludes mode o) (Some o) (excluder mode os)

-- no version is kept, one is, or the two least of several
abbrev pub by_kept : {A : Type 0} → A → (Stamp → A) → (Stamp → Stamp → A) → List Stamp → A
by_kept none one several [] = none
by_kept none one several (a ∷ []) = one a
by_kept none one several (a ∷ b ∷ others) = several a b

-- what the kept versions refuse: ordinary access wants one, a resolution several
abbrev pub kept_refusal : Mode → List Stamp → Option Refusal
kept_refusal Read kept = by_kept (Some NoStorage) (λ s. None) (λ a b. Some (Conflict a b)) kept
kept_refusal Write kept = by_kept (Some NoStorage) (λ s. None) (λ a b. Some (Conflict a b)) kept
kept_refusal Resolve kept = by_kept (Some NoStorage) (λ s. Some NoConflict) (λ a b. None) kept
kept_refusal Mend kept = by_kept (Some NoStorage) (λ s. None) (λ a b. None) kept
kept_refusal Make kept = None

-- the refusal of an open, or none: first the instance that excludes it, then what the kept versions refuse
abbrev pub grant_refusal : Mode → List Opener → List Stamp → Option Refusal
grant_refusal mode openers kept = by_excluder (excluder mode openers)
  where
    by_excluder : Option Opener → Option Refusal
    by_excluder (Some o) = Some (Busy o.site o.process)
    by_excluder None = kept_refusal mode kept
