-- Pages taken from a number of free ones, one list entry after the other.
use Rattle.std.proofs.Common.{◌≡◌, ◌==◌, ℕ, ◌+◌, ◌-◌, Bool, true, false, cond, List, ◌∷◌, length, refl, ap, ◌∙◌, arith}
use Rattle.std.specs.Prelude.{filter, sum_by}
use Rattle.std.proofs.lemmas.List.Sums.{sum_by-cons}
use Rattle.commit_graph.specs.declared.history.Version.{Version}
use Rattle.tree_model.specs.declared.instance.Instance.{Instance}
use Rattle.tree_model.specs.declared.copy.HeldCopy.{HeldCopy}
use Rattle.tree_model.specs.Working.{pages_of_copy}

abbrev pub changed_there : ℕ → List Instance → ℕ
changed_there site xs = sum_by (λ (x : Instance). length x.work.changed) (filter (λ (x : Instance). x.grant.ss == site) xs)

abbrev pub held_there : List Version → ℕ → ℕ → List HeldCopy → ℕ
held_there h group site cs = sum_by (pages_of_copy h group) (filter (λ (c : HeldCopy). c.site == site) cs)

less_sum : (left a b : ℕ) → left - (a + b) ≡ (left - a) - b
less_sum left a b = omega arith

pub less_both : (left a b : ℕ) → left - a - b ≡ left - (a + b)
less_both left a b = omega arith

pub less_changed_one : (site left : ℕ) (x : Instance) (xs : List Instance)
    → left - changed_there site (x ∷ xs) ≡ cond (x.grant.ss == site) (left - length x.work.changed) left - changed_there site xs
less_changed_one site left x xs = by_test (x.grant.ss == site)
  where
    by_test : (b : Bool) → left - sum_by (λ (x : Instance). length x.work.changed) (cond b (x ∷ filter (λ (x : Instance). x.grant.ss == site) xs) (filter (λ (x : Instance). x.grant.ss == site) xs)) ≡ cond b (left - length x.work.changed) left - changed_there site xs
    by_test true = ap (λ n. left - n) (sum_by-cons (λ (x : Instance). length x.work.changed) x (filter (λ (x : Instance). x.grant.ss == site) xs)) ∙ less_sum left (length x.work.changed) (changed_there site xs)
    by_test false = refl

pub less_held_one : (h : List Version) (group site left : ℕ) (c : HeldCopy) (cs : List HeldCopy)
    → left - held_there h group site (c ∷ cs) ≡ cond (c.site == site) (left - pages_of_copy h group c) left - held_there h group site cs
less_held_one h group site left c cs = by_test (c.site == site)
  where
    by_test : (b : Bool) → left - sum_by (pages_of_copy h group) (cond b (c ∷ filter (λ (c : HeldCopy). c.site == site) cs) (filter (λ (c : HeldCopy). c.site == site) cs)) ≡ cond b (left - pages_of_copy h group c) left - held_there h group site cs
    by_test true = ap (λ n. left - n) (sum_by-cons (pages_of_copy h group) c (filter (λ (c : HeldCopy). c.site == site) cs)) ∙ less_sum left (pages_of_copy h group c) (held_there h group site cs)
    by_test false = refl
