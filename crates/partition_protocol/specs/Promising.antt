-- The promises of a round as a list of sixteen places, and the same as rows.
use Rattle.std.specs.Prelude.{ℕ, ◌≡◌, ◌⊎◌, ◌+◌, ◌==◌, Bool, ◌&&◌, not, cond, List, [], ◌∷◌, Option, None, Some}
use Rattle.std.specs.List.{list_any}
use Rattle.locus_ids.specs.Sites.{has}
use Rattle.locus_ids.specs.declared.sites.Links.{Links}
use Rattle.locus_ids.specs.declared.sites.Sites.{Sites}
use Rattle.epoch_rules.specs.of_role_steps.Views.{boot_in}
use Rattle.epoch_rules.specs.of_role_steps.declared.rounds.Promise.{Promise}

-- what stands at the places of the sites from this number on, as rows
abbrev pub promises_from : ℕ → List (Option Sites) → List Promise
promises_from n [] = []
promises_from n (None ∷ xs) = promises_from (n + 1) xs
promises_from n (Some reach ∷ xs) = record { site = n; reach = reach } ∷ promises_from (n + 1) xs

-- the site is polled and its promise hasn't come
abbrev pub is_missing : Links → List (Option Sites) → ℕ → Bool
is_missing polled promises s = not (boot_in polled.boot s == 0) && not (list_any (λ (p : Promise). p.site == s) (promises_from 1 promises))

-- the boot number of a chosen site
abbrev pub member_boot_of : Links → ℕ → ℕ → Sites → ℕ → ℕ
member_boot_of polled me boot set s = cond (has set s) (cond (s == me) boot (boot_in polled.boot s)) 0

-- the promise is one of these
abbrev pub Among : Promise → List Promise → Type 0
Among p [] = ⊥
Among p (q ∷ ps) = (p ≡ q) ⊎ Among p ps
