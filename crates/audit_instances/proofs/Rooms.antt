-- Pages taken from a number of free ones, one instance after the other.
use Rattle.std.proofs.Common.{◌≡◌, ℕ, ◌+◌, ◌-◌, Bool, true, false, cond, List, ◌∷◌, length, refl, ap, ◌∙◌, arith}
use Rattle.std.specs.Prelude.{filter, sum_by}
use Rattle.std.proofs.lemmas.List.Sums.{sum_by-cons}
use Rattle.past_laws.specs.of_promises.Past.{Instance}
use Rattle.audit_instances.specs.Rows.{is_stored_at, pages_changed}

less_sum : (left a b : ℕ) → left - (a + b) ≡ (left - a) - b
less_sum left a b = omega arith

pub less_changed_one : (group site left : ℕ) (x : Instance) (xs : List Instance)
    → left - pages_changed (x ∷ xs) group site ≡ cond (is_stored_at group site x) (left - length x.work.changed) left - pages_changed xs group site
less_changed_one group site left x xs = by_test (is_stored_at group site x)
  where
    by_test : (b : Bool) → left - sum_by (λ (x : Instance). length x.work.changed) (cond b (x ∷ filter (is_stored_at group site) xs) (filter (is_stored_at group site) xs)) ≡ cond b (left - length x.work.changed) left - pages_changed xs group site
    by_test true = ap (λ n. left - n) (sum_by-cons (λ (x : Instance). length x.work.changed) x (filter (is_stored_at group site) xs)) ∙ less_sum left (length x.work.changed) (pages_changed xs group site)
    by_test false = refl
